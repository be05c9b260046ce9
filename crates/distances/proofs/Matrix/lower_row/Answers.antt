-- `Matrix::lower_row` meets its contract: the columns so far are lowered, and the next one is still as it was.
use Prim.Native.Nat.{◌+◌, ◌*◌}
use mathlib.Core.Path.{◌≡◌, ap₂, ◌∙◌}
use lib.IntN.{ℤ}
use native.Mathlib.Omega.{arith}
use mir.Facts.{to_z-of_z}
use mir.Syntax.{w32}
use mir.Val.{to_z, of_z}
use Rattle.std.specs.Int.{int_min}
use Rattle.std.proofs.lemmas.Int.{ints, clamps}
use Rattle.ticks.specs.Min.{min_z}
use Rattle.ticks.proofs.Ticks.{back}
use Rattle.distances.specs.Matrix.{stride}
use Rattle.distances.proofs.Range.{lesser, summed_on}
use Rattle.distances.proofs.Sweep.{swept_more, swept_next}
use Rattle.distances.proofs.Matrix.lower_row.Goals as goal

least : {v x y a b : ℤ} → x ≡ a → y ≡ b → v ≡ int_min x y → v ≡ min_z a b
least {x = x} {y} e f h = h ∙ lesser x y ∙ ap₂ min_z e f

pub loop-j-preserved : goal.loop-j-preserved
loop-j-preserved c =
    let e = c.distance in
    let so_far = c.loop-j.invariant in
    let entry = back w32 e.result e.type_inv ∙ e.ensures ∙ swept_next so_far.1 in
    let near = c.requires.range c.loop-j.j c.loop-j-test.true in
    let sum = summed_on (to_z w32 (of_z w32 c.args.base)) _ (rw (to_z-of_z c.ranges.base) c.requires.base_range) near in (
      so_far.0,
      swept_more (c.args.i * stride + c.loop-j.j) _ so_far.1 (omega arith) (omega arith)
          (least entry sum (omega (arith, ints, clamps))),
    )
