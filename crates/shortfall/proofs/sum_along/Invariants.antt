-- The sum is that along the codes passed.
use mathlib.Core.Path.{◌≡◌}
use Rattle.shortfall.proofs.Near.{along}
use Rattle.shortfall.proofs.sum_along.Given as goal

abbrev pub invariant-loop-c : goal.invariant-loop-c
invariant-loop-c l = l.sum ≡ along l.plan l.chain l.c-index
