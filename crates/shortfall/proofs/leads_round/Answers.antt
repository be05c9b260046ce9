-- `shortfall::leads_round` meets its contract: before each turn what is left of the codes decides as all of them do.
use mathlib.Core.Path.{◌≡◌, sym, ap, ◌∙◌}
use Prim.Native.Nat.{◌<◌}
use native.Mathlib.Omega.{arith}
use lib.ListN.{get_or}
use Rattle.eventset.specs.Sets.{set_width}
use Rattle.meaning.specs.Bounds.{Bound}
use Rattle.plan.specs.Held.{InMemory}
use Rattle.codes.specs.Codes.{has_code}
use Rattle.shortfall.proofs.Turns.{code_inside, pass_end, pass_unknown, pass_barred, pass_next}
use Rattle.shortfall.proofs.leads_round.Goals as goal
use Rattle.shortfall.proofs.leads_round.Goals.{After-is_code, After-step_of-s}

held : (c : After-is_code) → InMemory c.args.plan.now c.plan.inside.plan.now c.plan.inside.levels.now
held c = rw (← c.plan.view_is) c.plan.invariant

-- whether the code is one of the plan is what `is_code` says
code_is : (c : After-is_code) → has_code c.args.plan.now (get_or c.args.chain.now c.loop-c.c-index 0) ≡ c.is_code.result
code_is c = let o = (held c).holds in rw (← o.events, ← o.count) (sym c.is_code.ensures)

-- a code of the plan ends at an event
inside : (c : After-step_of-s) → c.step_of-s.result.to < set_width
inside c =
    let i = (goal.at.After-step_of-s c).After-is_code in
    let ends = ap (λ (b : Bound). b.end) c.step_of-s.ensures in
    omega (arith, ends, code_inside (held i).faultless _ (code_is i ∙ c.if-not-is_code.false))

pub returns-then-not-is_code : goal.returns-then-not-is_code
returns-then-not-is_code c =
    let none = code_is (goal.at.returns-then-not-is_code c).After-is_code ∙ c.if-not-is_code.true in
    pass_unknown c.loop-c.invariant c.loop-c-test.true none

pub may_step-requires : goal.may_step-requires
may_step-requires c = inside (goal.at.may_step-requires c).After-step_of-s

pub returns-then-not-may_step : goal.returns-then-not-may_step
returns-then-not-may_step c =
    let one = code_is (goal.at.returns-then-not-may_step c).After-is_code ∙ c.if-not-is_code.false in
    pass_barred c.loop-c.invariant c.loop-c-test.true one c.step_of-s.ensures (sym c.may_step.ensures ∙ c.if-not-may_step.true)

pub put-seen-requires : goal.put-seen-requires
put-seen-requires c = omega (arith, c.from.ensures, inside (goal.at.put-seen-requires c).After-step_of-s)

-- the step is taken
pub loop-c-preserved : goal.loop-c-preserved
loop-c-preserved c =
    let one = code_is (goal.at.loop-c-preserved c).After-is_code ∙ c.if-not-is_code.false in
    rw (c.put-seen.ensures, c.from.ensures)
    (pass_next c.loop-c.invariant c.loop-c-test.true one c.step_of-s.ensures (sym c.may_step.ensures ∙ c.if-not-may_step.false))

pub returns : goal.returns
returns c = pass_end c.loop-c.invariant c.loop-c-test.false
