-- The columns so far are lowered.
use Prim.Native.Nat.{◌*◌}
use mathlib.Core.Path.{◌≡◌}
use lib.IntN.{pos}
use Rattle.distances.specs.Matrix.{stride}
use Rattle.distances.specs.Sweep.{Swept}
use Rattle.distances.specs.Rows.{lowered}
use Rattle.distances.proofs.Matrix.lower_row.Given as goal

abbrev pub invariant-loop-j : goal.invariant-loop-j
invariant-loop-j l =
    (l.self.events ≡ l.fn.self.events) × Swept (pos 0) l.fn.self.entries l.self.entries (l.i * stride) l.j (lowered l.fn.self.entries l.i l.via l.base)
