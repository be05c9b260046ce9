-- The list has two bounds for each event before e but 0.
use Rattle.bounds.proofs.Lists.{HorizonSoFar}
use Rattle.bounds.proofs.Bounds.push_horizon.Given as goal

abbrev pub invariant-loop-e : goal.invariant-loop-e
invariant-loop-e l = HorizonSoFar l.self l.h l.e
