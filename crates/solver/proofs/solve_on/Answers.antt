-- `solver::solve_on` meets its contract: an area too short is refused before the text is read; else the text has its first fault, or its plan is settled.
use mathlib.Core.Path.{sym, ◌∙◌}
use native.Mathlib.Nat.{le_refl}
use Rattle.meaning.specs.Plan.{most_levels_together}
use Rattle.settle.specs.Lent.{lent}
use Rattle.solver.proofs.Heard.{short_solves, read_into}
use Rattle.solver.proofs.solve_on.Goals as goal

pub returns-then-not-long_enough-clause-solves : goal.returns-then-not-long_enough-clause-solves
returns-then-not-long_enough-clause-solves c =
    short_solves c.args.text.now (lent c.args.areas.now) (sym c.long_enough.ensures ∙ c.if-not-long_enough.true)

pub outcome_of-requires-clause-read : goal.outcome_of-requires-clause-read
outcome_of-requires-clause-read c = (c.args.text.now, read_into c.read-said.ensures (le_refl most_levels_together))

pub outcome_of-requires-clause-room : goal.outcome_of-requires-clause-room
outcome_of-requires-clause-room c = sym c.long_enough.ensures ∙ c.if-not-long_enough.false

pub returns-clause-solves : goal.returns-clause-solves
returns-clause-solves c = c.outcome_of.ensures.solves c.args.text.now (read_into c.read-said.ensures (le_refl most_levels_together))
