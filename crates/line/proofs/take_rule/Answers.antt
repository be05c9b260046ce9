-- `line::take_rule` meets its contract: each test that fails is the first fault.
use mathlib.Core.Path.{refl, sym, ◌∙◌}
use mathlib.Core.List.{[]}
use native.Mathlib.Omega.{arith}
use Rattle.std.proofs.lemmas.Result.{err_from_is_err_and}
use Rattle.faults.proofs.Firsts.{only, fitting}
use Rattle.line.specs.Effects.{RuleEffect}
use Rattle.line.proofs.Judges.{found_in}
use Rattle.line.proofs.take_rule.Goals as goal

pub returns-then-not-is_rule : goal.returns-then-not-is_rule
unfolding RuleEffect
returns-then-not-is_rule c = rw (sym c.is_rule.ensures ∙ c.if-not-is_rule.true)

pub returns-then-not-has_room : goal.returns-then-not-has_room
unfolding RuleEffect
returns-then-not-has_room c = rw (sym c.is_rule.ensures ∙ c.if-not-is_rule.false, sym c.has_room.ensures ∙ c.if-not-has_room.true)

pub returns-in_err-rule_fault : goal.returns-in_err-rule_fault
unfolding RuleEffect
returns-in_err-rule_fault c =
    let gave = err_from_is_err_and c.from_residual.result c.from_residual.ensures.1 in
    let tested = found_in _ _ c.span_of-span.ensures c.in_err-rule_fault.ensures in
    rw (gave.1, gave.2, sym c.is_rule.ensures ∙ c.if-not-is_rule.false, sym c.has_room.ensures ∙ c.if-not-has_room.false) (only _ ∙ only _ ∙ tested)

pub row_of-requires : goal.row_of-requires
row_of-requires c =
    let room = c.requires in
    (fitting c.args.plan.events c.span_of-span.result [] room.events (sym c.in_ok-rule_fault.ensures), room.levels, omega arith)

pub returns : goal.returns
unfolding RuleEffect
returns c =
    let none = found_in _ _ c.span_of-span.ensures c.in_ok-rule_fault.ensures in
    rw (sym c.is_rule.ensures ∙ c.if-not-is_rule.false, sym c.has_room.ensures ∙ c.if-not-has_room.false, c.row_of.ensures, c.span_of-span.ensures)
    (only _ ∙ only _ ∙ none, refl)
