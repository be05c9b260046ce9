-- `shortfall::sum_along` meets its contract: the sum is that along the codes passed, and it fits.
use mathlib.Core.Path.{◌≡◌, ap, ◌∙◌}
use Prim.Native.Nat.{◌+◌}
use borrow.Author.Rules.{rules}
use lib.IntN.{◌+ℤ◌}
use mir.Syntax.{w64}
use mir.Val.{to_z, of_z, SFits}
use mir.Facts.{to_z-of_z}
use Rattle.meaning.specs.Bounds.{Bound}
use Rattle.shortfall.proofs.Near.{along, along_fits, along_more}
use Rattle.shortfall.proofs.sum_along.Goals as goal
use Rattle.shortfall.proofs.sum_along.Goals.{After-step_of-sum}

-- the sum with the turn's weight is that along one code more
more : (c : After-step_of-sum) →
    to_z w64 c.loop-c.sum-bits +ℤ to_z w64 (of_z w64 c.step_of-sum.result.weight) ≡ along c.args.plan.now c.args.chain.now (c.loop-c.c-index + 1)
more c =
    let range : SFits w64 c.step_of-sum.result.weight = search rules in
    let weight = to_z-of_z range ∙ ap (λ (b : Bound). b.weight) c.step_of-sum.ensures in
    rw (c.loop-c.invariant, weight, along_more c.args.plan.now c.args.chain.now c.loop-c.c-index c.loop-c-test.true)

fits : (c : After-step_of-sum) → SFits w64 (along c.args.plan.now c.args.chain.now (c.loop-c.c-index + 1))
fits c = along_fits c.requires.faultless c.args.chain.now c.requires.few (c.loop-c.c-index + 1)

pub overflow_add-sum : goal.overflow_add-sum
overflow_add-sum c = let turn = (goal.at.overflow_add-sum c).After-step_of-sum in rw (more turn) (fits turn)

pub loop-c-preserved : goal.loop-c-preserved
loop-c-preserved c = let turn = (goal.at.loop-c-preserved c).After-step_of-sum in rw (more turn) (to_z-of_z (fits turn))
