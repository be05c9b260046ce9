-- Before each turn what is left of the codes decides as all of them do.
use Rattle.eventset.specs.Sets.{bits_of}
use Rattle.shortfall.proofs.Turns.{Passed}
use Rattle.shortfall.proofs.leads_round.Given as goal

abbrev pub invariant-loop-c : goal.invariant-loop-c
invariant-loop-c l = Passed l.plan l.chain l.from l.at (bits_of l.seen) l.c-index
