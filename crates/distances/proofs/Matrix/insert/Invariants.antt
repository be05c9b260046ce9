-- The rows so far hold the sums over a and b, and via is row b as it was.
use mathlib.Core.Path.{◌≡◌}
use Rattle.distances.proofs.Rows.{So-far}
use Rattle.distances.proofs.Matrix.insert.Given as goal

abbrev pub invariant-loop-i : goal.invariant-loop-i
invariant-loop-i l = (l.self.events ≡ l.fn.self.events) × So-far l.fn.self.entries l.self.entries l.via l.n l.a l.b l.i l.w
