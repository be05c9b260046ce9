-- `shortfall::ticks_short` meets its contract: what is returned for a sum below zero is what it lacks, and the codes lead round; every other return
-- is for codes that are no chain of the plan.
use mathlib.Core.Path.{sym, ap, ◌∙◌}
use lib.IntN.{pos, nat_abs}
use lib.Signed.{◌<ℤ◌}
use mir.Syntax.{w64}
use Rattle.meaning.specs.Faultless.{WithoutFault}
use Rattle.ticks.proofs.Ticks.{ticks, lt_z_true, lt_z_false, back}
use Rattle.shortfall.proofs.Near.{lack_is}
use Rattle.shortfall.proofs.Rounds.{short_chain, short_none, none_long, none_apart, none_heavy}
use Rattle.shortfall.proofs.ticks_short.Goals as goal
use Rattle.shortfall.proofs.ticks_short.Goals.{
  then-plan-chain-via-then-plan-chain,
  then-plan-chain-via-else-plan-chain+then-not-leads_round,
}

pub returns-then-plan-chain : goal.returns-then-plan-chain
returns-then-plan-chain c =
    elim c.then-plan-chain.branch [
      | then-plan-chain-via-then-plan-chain w ↦ rw (← c.plan.view_is) (short_none (none_long w.if-plan-chain.true))
      | then-plan-chain-via-else-plan-chain+then-not-leads_round w ↦
          let faultless : WithoutFault c.args.plan.now = rw (← c.plan.view_is) c.plan.invariant.faultless in
          short_none (none_apart faultless (sym w.leads_round.ensures ∙ w.if-not-leads_round.true))
    ]

pub returns-then-sum-lt0 : goal.returns-then-sum-lt0
returns-then-sum-lt0 c =
    let faultless : WithoutFault c.args.plan.now = rw (← c.plan.view_is) c.plan.invariant.faultless in
    let s = c.sum_along-sum in
    -- the sum is the number that was returned
    let kept = back w64 s.result s.type_inv in
    let below : s.result <ℤ pos 0 = omega (ticks, lt_z_true s.result (pos 0) (rw kept at c.if-sum-lt0.true)) in
    let lack = lack_is s.result below c.unsigned_abs.result (c.unsigned_abs.ensures.value ∙ ap nat_abs kept) in
    short_chain faultless (sym c.leads_round.ensures ∙ c.if-not-leads_round.false) (sym s.ensures ∙ lack.0, lack.1)

pub returns-else-sum-lt0 : goal.returns-else-sum-lt0
returns-else-sum-lt0 c =
    let faultless : WithoutFault c.args.plan.now = rw (← c.plan.view_is) c.plan.invariant.faultless in
    let s = c.sum_along-sum in
    let kept = back w64 s.result s.type_inv in
    short_none (none_heavy faultless (omega (ticks, lt_z_false s.result (pos 0) (rw kept at c.if-sum-lt0.false), s.ensures)))
