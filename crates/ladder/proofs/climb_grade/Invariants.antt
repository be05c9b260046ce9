-- The wishes so far are asked at the grade, in their order.
use lib.ListN.{length}
use Rattle.ladder.proofs.Stages.{Upto}
use Rattle.ladder.proofs.climb_grade.Given as goal

abbrev pub invariant-loop-w : goal.invariant-loop-w
invariant-loop-w l = Upto l.plan l.y (length l.yielded) l.fn.d l.d l.fn.levels l.levels
