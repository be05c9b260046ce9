-- `Matrix::tighten` meets its contract: a bound that the matrix keeps already is passed over.
use mir.Facts.{to_z-of_z}
use mir.Syntax.{w32}
use Rattle.ticks.proofs.Ticks.{back}
use Rattle.distances.proofs.Rows.{kept_already}
use Rattle.distances.proofs.Matrix.tighten.Goals as goal

pub returns-else-w-distance-clause-changed : goal.returns-else-w-distance-clause-changed
returns-else-w-distance-clause-changed c =
    let e = c.distance in
    let s = c.requires in
    kept_already c.args.a c.args.b c.args.w s.net.closed s.from s.to
    (rw (to_z-of_z c.ranges.w, back w32 e.result e.type_inv, e.ensures) at c.if-w-distance.false)
