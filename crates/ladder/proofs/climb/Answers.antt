-- `ladder::climb` meets its contract: the grades below y are done.
use native.Mathlib.Omega.{arith}
use Rattle.ladder.proofs.Grades.{grades_ask, grades_next, grades_all}
use Rattle.ladder.proofs.climb.Goals as goal

pub climb_grade-requires : goal.climb_grade-requires
climb_grade-requires c =
    let b = c.begin_grades-count in
    grades_ask c.loop-y.invariant c.requires b.ensures b.auto.levels (omega arith)

pub loop-y-preserved : goal.loop-y-preserved
loop-y-preserved c =
    let g = c.climb_grade in
    grades_next c.loop-y.invariant (omega arith) g.ensures.graded g.ensures.same_events g.auto.levels

pub returns-clause-climbed : goal.returns-clause-climbed
returns-clause-climbed c = grades_all c.loop-y.invariant c.requires.ready (omega arith) c.begin_grades-count.ensures
