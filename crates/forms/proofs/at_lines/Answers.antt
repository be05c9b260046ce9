-- `forms::at_lines` meets its contract: the lines of the times passed are written, and those of the others are left.
use mathlib.Core.Path.{refl}
use Prim.Native.Nat.{◌+◌, ◌*◌}
use native.Mathlib.Omega.{arith}
use borrow.Author.Rules.{rules}
use lib.IntN.{pos}
use lib.ListN.{get_or}
use mir.Syntax.{w64}
use mir.Val.{SFits}
use Rattle.forms.specs.Put.{line_room}
use Rattle.ticks.proofs.Shown.{none, shown}
use Rattle.forms.proofs.Puts.{line_fits, line_adds, printing_then}
use Rattle.forms.proofs.Rests.{times_more}
use Rattle.forms.proofs.at_lines.Goals as goal

pub line-requires : goal.line-requires
line-requires c =
    let e = c.loop-e.e in
    let t = get_or c.args.times.now e (pos 0) in
    let fits : SFits w64 t = search rules in
    let row = shown _ c.of.type_inv c.of.ensures (shown t fits.sfits refl none) in
    line_fits _ row line_room (omega arith) _ _ (omega (arith, c.loop-e.invariant.few, c.loop-e.invariant.going.long))

pub loop-e-preserved : goal.loop-e-preserved
loop-e-preserved c =
    let e = c.loop-e.e in
    let t = get_or c.args.times.now e (pos 0) in
    let fits : SFits w64 t = search rules in
    let row = shown _ c.of.type_inv c.of.ensures (shown t fits.sfits refl none) in
    let put = line_adds _ row line_room (omega arith) c.line.ensures in
    printing_then c.loop-e.invariant (line_room * (e + 1)) (omega arith) (times_more c.args.times.now e c.loop-e-test.true) put
