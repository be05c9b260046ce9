-- The columns so far hold the start values of their places.
use Prim.Native.Nat.{◌*◌}
use mathlib.Core.Path.{◌≡◌}
use lib.IntN.{pos}
use Rattle.meaning.specs.Distances.{horizon_only}
use Rattle.distances.specs.Matrix.{stride}
use Rattle.distances.specs.Sweep.{Swept}
use Rattle.distances.proofs.Matrix.start_row.Given as goal

abbrev pub invariant-loop-j : goal.invariant-loop-j
invariant-loop-j l =
    (l.self.events ≡ l.fn.self.events) × Swept (pos 0) l.fn.self.entries l.self.entries (l.i * stride) l.j (horizon_only l.h l.i)
