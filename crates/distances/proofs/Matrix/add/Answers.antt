-- `Matrix::add` meets its contract: the test asks whether the sum around is not negative, as `changed_net` wants it.
use mathlib.Core.Path.{sym}
use mathlib.Core.Bool.{true≢false}
use mir.Facts.{to_z-of_z}
use mir.Syntax.{w32}
use Rattle.ticks.proofs.Ticks.{back}
use Rattle.distances.proofs.Range.{nearby, nearby_fits, net_near, summed}
use Rattle.distances.proofs.Net.{changed_net}
use Rattle.distances.proofs.Matrix.add.Goals as goal

pub overflow_add-left : goal.overflow_add-left
overflow_add-left c =
    let e = c.distance in
    let p = c.requires in
    rw (back w32 e.result e.type_inv, to_z-of_z c.ranges.w, e.ensures) (nearby_fits _ (nearby _ _ (net_near p.net _ _ p.to p.from) p.weight))

pub returns-then-left-clause-answered : goal.returns-then-left-clause-answered
returns-then-left-clause-answered c =
    let e = c.distance in
    let p = c.requires in
    let near = nearby _ _ (net_near p.net _ _ p.to p.from) p.weight in
    let changed = rw (to_z-of_z c.ranges.w) at c.tighten.ensures.changed in
    let ok = sym (rw (summed e.result _ c.args.w e.type_inv e.ensures c.ranges.w near) at c.if-left.true) in
    rw c.if-left.true
    (record {
      answer = ok;
      taken = λ _. changed;
      refused = λ e. absurd (true≢false e);
      net = λ {H} net. changed_net c.args.a c.args.b c.args.w net p.from p.to (record { le = rw (← ok) tt }) changed;
    })
