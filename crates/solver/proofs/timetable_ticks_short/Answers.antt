-- `solver::timetable_ticks_short` meets its contract: of a plan that was read what it falls short by, of a text that is refused 0.
use native.Mathlib.Nat.{le_refl}
use Rattle.meaning.specs.Plan.{most_levels_together}
use Rattle.solver.proofs.Heard.{read_into, read_loaded, read_recalled, plan_short}
use Rattle.solver.proofs.timetable_ticks_short.Goals as goal

pub invariant_of-loaded : goal.invariant_of-loaded
invariant_of-loaded c = read_loaded (read_into c.in-Ok.ensures (le_refl most_levels_together))

pub returns : goal.returns
returns c = plan_short c.args.text.now (read_recalled (read_into c.in-Ok.ensures (le_refl most_levels_together))) c.ticks_short.ensures
