-- `Matrix::start` meets its contract: no row is written yet.
use mathlib.Core.Path.{refl}
use Rattle.distances.proofs.Rows.{rows_none}
use Rattle.distances.proofs.Matrix.start.Goals as goal

pub loop-i-init : goal.loop-i-init
loop-i-init c = (refl, rows_none)
