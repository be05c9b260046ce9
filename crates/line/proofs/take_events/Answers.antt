-- `line::take_events` meets its contract: each test that fails is the first fault.
use mathlib.Core.Path.{sym, ◌∙◌}
use borrow.Author.Rules.{rules}
use mir.Facts.{to_z-of_z}
use mir.Syntax.{w32}
use mir.Val.{SFits}
use Rattle.std.proofs.lemmas.Result.{err_from_is_err_and}
use Rattle.meaning.specs.Reading.{item}
use Rattle.faults.proofs.Firsts.{only}
use Rattle.line.specs.Effects.{EventsEffect}
use Rattle.line.proofs.take_events.Goals as goal

pub returns-then-not-is_head : goal.returns-then-not-is_head
unfolding EventsEffect
returns-then-not-is_head c = rw (sym c.is_head.ensures ∙ c.if-not-is_head.true)

pub returns-in_err-head_fault : goal.returns-in_err-head_fault
unfolding EventsEffect
returns-in_err-head_fault c =
    let vs = c.args.line.fields in
    let n : SFits w32 (item vs 0) = search rules in
    let h : SFits w32 (item vs 1) = search rules in
    let gave = err_from_is_err_and c.from_residual.result c.from_residual.ensures.1 in
    let tested = sym (rw (to_z-of_z n, to_z-of_z h) at c.in_err-head_fault.ensures) in
    rw (gave.1, gave.2, sym c.is_head.ensures ∙ c.if-not-is_head.false) (only _ ∙ tested)

pub head_of-requires : goal.head_of-requires
head_of-requires c = sym c.in_ok-head_fault.ensures

pub returns : goal.returns
unfolding EventsEffect
returns c =
    let vs = c.args.line.fields in
    let n : SFits w32 (item vs 0) = search rules in
    let h : SFits w32 (item vs 1) = search rules in
    let tested = sym (rw (to_z-of_z n, to_z-of_z h) at c.in_ok-head_fault.ensures) in
    let told = rw (to_z-of_z n, to_z-of_z h) at c.head_of.ensures in
    rw (sym c.is_head.ensures ∙ c.if-not-is_head.false) (only _ ∙ tested, told)
