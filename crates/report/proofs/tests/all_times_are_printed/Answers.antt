-- The test may call: the plan that was read is whole in memory and is solved, so the levels that are lent are those of its wishes.
use mathlib.Core.Path.{◌≡◌, refl}
use native.Mathlib.Nat.{le_refl}
use native.Mathlib.Omega.{arith}
use lib.ListN.{length, take}
use Rattle.meaning.specs.Plan.{most_levels_together, wishes}
use Rattle.plan.specs.Held.{recalled}
use Rattle.solver.proofs.Heard.{read_into, read_loaded}
use Rattle.report.proofs.Outcomes.{left_solved}
use Rattle.report.proofs.tests.all_times_are_printed.Goals as goal
use Rattle.report.proofs.tests.all_times_are_printed.Goals.{In-Solved}
use Rattle.report.proofs.tests.all_times_are_printed.Given.{Over}

lent : (g : Over) (c : In-Solved g) → length (take c.in-Solved.w c.settle.new.areas.levels.now) ≡ wishes (recalled c.in-Ok.plan c.read.new.levels)
lent g c =
    let held = read_loaded (read_into c.in-Ok.ensures (le_refl most_levels_together)) in
    (left_solved held.faultless refl c.in-Solved.ensures.outcome).counted

pub invariant_of-loaded : goal.invariant_of-loaded
invariant_of-loaded g c = read_loaded (read_into c.in-Ok.ensures (le_refl most_levels_together))

pub assert_form-requires : goal.assert_form-requires
assert_form-requires g c = (omega arith, lent g (goal.at.assert_form-requires g c).In-Solved)

pub assert_form-requires-2 : goal.assert_form-requires-2
assert_form-requires-2 g c = (omega arith, lent g (goal.at.assert_form-requires-2 g c).In-Solved)
