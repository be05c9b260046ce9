-- The grades below y are done.
use Rattle.ladder.proofs.Grades.{GradesTo}
use Rattle.ladder.proofs.climb.Given as goal

abbrev pub invariant-loop-y : goal.invariant-loop-y
invariant-loop-y l = GradesTo l.plan l.y l.fn.d l.d l.initial.levels l.levels
