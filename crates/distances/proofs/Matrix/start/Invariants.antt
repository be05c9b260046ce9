-- The rows so far hold the start values.
use mathlib.Core.Path.{◌≡◌}
use Rattle.meaning.specs.Distances.{horizon_only}
use Rattle.distances.specs.Matrix.{Changed}
use Rattle.distances.proofs.Matrix.start.Given as goal

abbrev pub invariant-loop-i : goal.invariant-loop-i
invariant-loop-i l = (l.self.events ≡ l.n) × Changed l.i l.n l.fn.self.entries l.self.entries (horizon_only l.h)
