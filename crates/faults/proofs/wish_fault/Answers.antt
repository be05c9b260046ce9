-- `faults::wish_fault` meets its contract: the tests of a rule, those of the levels around them.
use mathlib.Core.Path.{sym, ◌∙◌}
use Rattle.std.proofs.lemmas.Result.{err_from_is_err_and}
use Rattle.faults.proofs.Firsts.{by_levels, stops_fault, only}
use Rattle.faults.proofs.wish_fault.Goals as goal

pub returns-then-not-are_levels : goal.returns-then-not-are_levels
returns-then-not-are_levels c =
    let s = c.args in
    sym (by_levels s.n s.span s.levels.now ∙ rw (sym c.are_levels.ensures ∙ c.if-not-are_levels.true))

pub returns-in_err-rule_fault : goal.returns-in_err-rule_fault
returns-in_err-rule_fault c =
    let s = c.args in
    let fault = c.in_err-rule_fault.field-0.0 in
    let gave = err_from_is_err_and c.from_residual.result c.from_residual.ensures.1 in
    let levelled = sym c.are_levels.ensures ∙ c.if-not-are_levels.false in
    rw (gave.1, gave.2) (sym (by_levels s.n s.span s.levels.now ∙ rw (levelled, sym c.in_err-rule_fault.ensures) (stops_fault fault _)))

pub returns : goal.returns
returns c =
    let s = c.args in
    let levelled = sym c.are_levels.ensures ∙ c.if-not-are_levels.false in
    sym (by_levels s.n s.span s.levels.now ∙ rw (levelled, sym c.in_ok-rule_fault.ensures) (only _ ∙ sym c.shape_fault.ensures))
