-- `forms::put_none` meets its contract: the line of the count, and the lines of the steps.
use native.Mathlib.Omega.{arith}
use borrow.Author.Rules.{rules}
use Rattle.forms.specs.Put.{line_room, area_room}
use Rattle.ticks.proofs.Shown.{none, shown}
use Rattle.forms.proofs.Puts.{line_fits, line_adds, adds_long}
use Rattle.forms.proofs.Whole.{none_adds}
use Rattle.forms.proofs.put_none.Goals as goal

pub line-requires : goal.line-requires
line-requires c = line_fits _ (shown _ c.of.type_inv c.of.ensures none) area_room (omega arith) _ _ c.requires.0

pub step_lines-requires : goal.step_lines-requires
step_lines-requires c =
    let head = line_adds _ (shown _ c.of.type_inv c.of.ensures none) line_room (omega arith) c.line.ensures in
    omega (arith, head.few, adds_long head)

pub returns : goal.returns
returns c =
    let head = line_adds _ (shown _ c.of.type_inv c.of.ensures none) line_room (omega arith) c.line.ensures in
    let all = none_adds c.args.plan.now c.args.chain.now c.requires.1 head c.step_lines.ensures in
    search (rules, all)
