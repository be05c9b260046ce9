-- `Matrix::insert_row` meets its contract: a row that is passed over holds the minima already, by the triangle over b.
use native.Mathlib.Omega.{arith}
use lib.IntN.{pos, ◌+ℤ◌}
use lib.ListN.{get_or}
use mir.Syntax.{w32}
use Rattle.distances.specs.Matrix.{at}
use Rattle.ticks.proofs.Ticks.{back}
use Rattle.distances.proofs.Range.{nearby, summed}
use Rattle.distances.proofs.Sweep.{swept_same}
use Rattle.distances.proofs.Rows.{row_kept}
use Rattle.distances.proofs.Matrix.insert_row.Goals as goal

pub lower_row-requires : goal.lower_row-requires
lower_row-requires c =
    let s = c.requires in
    let e = c.distance in
    let near = nearby _ _ (s.range _ s.from) s.weight in
    record {
      row = omega (arith, s.row, s.events);
      events = s.events;
      long = s.long;
      base_range = rw (summed e.result _ c.args.w e.type_inv e.ensures c.ranges.w near) near;
      range = s.via_range;
    }

pub returns-then-s-distance-clause-written : goal.returns-then-s-distance-clause-written
returns-then-s-distance-clause-written c =
    let s = c.requires in
    let e = c.distance in
    rw (summed e.result _ c.args.w e.type_inv e.ensures c.ranges.w (nearby _ _ (s.range _ s.from) s.weight)) at c.lower_row.ensures.written

pub returns-else-s-distance-clause-written : goal.returns-else-s-distance-clause-written
returns-else-s-distance-clause-written c =
    let s = c.requires in
    let e = c.distance in
    let d = c.args.self.now.entries in
    let i = c.args.i in
    let b = c.args.b in
    let sum = summed e.result _ c.args.w e.type_inv e.ensures c.ranges.w (nearby _ _ (s.range _ s.from) s.weight) in
    let other = c.distance-2 in
    let no = rw (sum, back w32 other.result other.type_inv, other.ensures) at c.if-s-distance.false in
    swept_same (λ j l. row_kept (at d i j) (at d i b) (get_or c.args.via.now j (pos 0)) (at d i c.args.a +ℤ c.args.w) (s.triangle j l) no)
