-- `forms::put_refused` meets its contract: one line.
use mathlib.Core.Path.{ap, ◌∙◌}
use native.Mathlib.Omega.{arith}
use lib.IntN.{pos}
use borrow.Author.Rules.{rules}
use Rattle.forms.specs.Put.{line_room, area_room}
use Rattle.ticks.proofs.Shown.{none, shown}
use Rattle.forms.proofs.Puts.{adds_as, adds_most, line_fits, line_adds}
use Rattle.forms.proofs.Whole.{refused_form}
use Rattle.forms.proofs.put_refused.Goals as goal

pub line-requires : goal.line-requires
line-requires g c =
    let row = shown _ c.from.type_inv c.from.ensures (shown _ c.of.type_inv c.of.ensures none) in
    line_fits _ row area_room (omega arith) _ _ c.requires.0

pub returns : goal.returns
returns g c p =
    let number = c.from.ensures ∙ ap pos c.number-number.ensures in
    let place = c.of.ensures ∙ ap pos c.line-line.ensures in
    let row = shown _ c.from.type_inv number (shown _ c.of.type_inv place none) in
    let all = adds_most (adds_as (line_adds _ row line_room (omega arith) c.line.ensures) (refused_form p _ _)) area_room (omega arith) in
    search (rules, all)
