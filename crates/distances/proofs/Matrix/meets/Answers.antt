-- `Matrix::meets` meets its contract: an entry's negative fits, and where both tests held the third is what is left of the conjunction.
use mathlib.Core.Path.{sym, ◌∙◌}
use mathlib.Core.Bool.{true≢false}
use mir.Facts.{to_z-of_z}
use mir.Syntax.{w32}
use Rattle.ticks.proofs.Ticks.{back, from_zero}
use Rattle.distances.proofs.Range.{net_near, minus_fits, negated}
use Rattle.distances.proofs.Matrix.meets.Goals as goal
use Rattle.distances.proofs.Matrix.meets.Goals.{then-lo-hi, else-lo-hi}

pub overflow_sub-result : goal.overflow_sub-result
overflow_sub-result c =
    let e = c.distance-then-lo-distance in
    let p = c.requires in
    rw (back w32 e.result e.type_inv, e.ensures, from_zero) (minus_fits _ (net_near p.net _ _ p.to p.from))

pub returns-then-lo-distance : goal.returns-then-lo-distance
returns-then-lo-distance c =
    let e = c.distance-then-lo-distance in
    let p = c.requires in
    let lo = to_z-of_z c.ranges.lo in
    let hi = to_z-of_z c.ranges.hi in
    let down = negated _ _ (back w32 e.result e.type_inv ∙ e.ensures) (minus_fits _ (net_near p.net _ _ p.to p.from)) in
    rw (down, hi)
    (elim c.if-lo-hi.branch [
      | then-lo-hi w ↦
          let d = w.distance in
          let first = rw (lo, hi) at w.if-lo-hi.true in
          let second = rw (lo, back w32 d.result d.type_inv, d.ensures) at (sym w.value-is ∙ c.if-lo-distance.true) in
          simp (first, second)
      | else-lo-hi w ↦ absurd (true≢false (sym c.if-lo-distance.true ∙ w.value-is ∙ w.if-lo-hi.false))
    ])
