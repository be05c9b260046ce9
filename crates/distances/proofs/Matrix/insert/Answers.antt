-- `Matrix::insert` meets its contract: the rows so far hold the sums over a and b, the next one is still as it was, and via is row b as it was.
use native.Mathlib.Omega.{arith}
use mir.Facts.{to_z-of_z}
use Rattle.distances.proofs.Range.{net_near}
use Rattle.distances.proofs.Rows.{rows_next}
use Rattle.distances.proofs.Matrix.insert.Goals as goal

pub insert_row-requires : goal.insert_row-requires
insert_row-requires c =
    let inv = c.loop-i.invariant.1 in
    let t = c.loop-i-test.true in
    let asked = c.requires in
    let net = asked.net in
    let same = c.loop-i.invariant.0 in
    rw same
    record {
      events = net.events;
      row = t;
      from = asked.from;
      to = asked.to;
      long = omega (arith, inv.long, net.events);
      weight = rw (to_z-of_z c.ranges.w) asked.weight;
      range = λ j l. rw (rows_next inv.rows j) (net_near net _ j t l);
      via_range = λ j l. rw (inv.via_is j l) (net_near net _ j asked.to l);
      triangle = λ j l. rw (rows_next inv.rows j, rows_next inv.rows c.args.b, inv.via_is j l) (net.closed.tri t asked.to l);
    }
