-- `forms::put_timed` meets its contract: the line of the counts, the lines of the times and those of the levels.
use mathlib.Core.Path.{◌∙◌}
use native.Mathlib.Omega.{arith}
use lib.Seq.{length-take-le}
use Rattle.std.proofs.lemmas.List.{length-take}
use borrow.Author.Rules.{rules}
use Rattle.meaning.proofs.Wishes.{wishes_few}
use Rattle.forms.specs.Put.{line_room, area_room}
use Rattle.ticks.proofs.Shown.{none, shown}
use Rattle.forms.proofs.Puts.{line_fits, line_adds}
use Rattle.forms.proofs.Whole.{times_room, levels_room, timed_adds}
use Rattle.forms.proofs.put_timed.Goals as goal

pub of-requires : goal.of-requires
of-requires c = let t = c.requires.1.1 in omega (arith, t.holds.events, t.faultless.most)

pub of-requires-2 : goal.of-requires-2
of-requires-2 c = let t = c.requires.1.1 in omega (arith, t.count, wishes_few c.requires.1.0.records, t.faultless.few)

pub line-requires : goal.line-requires
line-requires c =
    let row = shown _ c.of.type_inv c.of.ensures (shown _ c.of-2.type_inv c.of-2.ensures none) in
    line_fits _ row area_room (omega arith) _ _ c.requires.0

pub at_lines-requires : goal.at_lines-requires
at_lines-requires c =
    let t = c.requires.1.1 in
    let row = shown _ c.of.type_inv c.of.ensures (shown _ c.of-2.type_inv c.of-2.ensures none) in
    let head = line_adds _ row line_room (omega arith) c.line.ensures in
    times_room _ c.requires.0 head (grind (arith, length-take, t.holds.events, t.faultless.most))

pub level_lines-requires : goal.level_lines-requires
level_lines-requires c =
    let t = c.requires.1.1 in
    let row = shown _ c.of.type_inv c.of.ensures (shown _ c.of-2.type_inv c.of-2.ensures none) in
    let head = line_adds _ row line_room (omega arith) c.line.ensures in
    let count = length-take-le c.args.w c.args.levels.now (omega (arith, t.count, t.room)) in (
      levels_room _ c.requires.0 head (grind (arith, length-take, t.holds.events, t.faultless.most)) c.at_lines.ensures,
      (c.requires.1.0, record { holds = t.holds; faultless = t.faultless; count = count ∙ t.count }),
    )

pub returns : goal.returns
returns c p t =
    let row = shown _ c.of.type_inv c.of.ensures (shown _ c.of-2.type_inv c.of-2.ensures none) in
    let head = line_adds _ row line_room (omega arith) c.line.ensures in
    let count = length-take-le c.args.w c.args.levels.now (omega (arith, t.count, t.room)) in
    let levels = c.level_lines.ensures p (record { holds = t.holds; faultless = t.faultless; count = count ∙ t.count }) in
    let all = timed_adds t head c.at_lines.ensures levels in
    search (rules, all)
