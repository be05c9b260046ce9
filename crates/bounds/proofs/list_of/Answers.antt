-- `bounds::list_of` meets its contract: the records' bounds stand behind the horizon's.
use mathlib.Core.Path.{ap, ◌∙◌}
use Prim.Native.Nat.{◌-◌}
use native.Mathlib.Omega.{arith}
use lib.ListN.{length}
use Rattle.meaning.specs.Plan as M
use Rattle.plan.specs.Held.{recalled}
use Rattle.bounds.proofs.Lists.{length_horizon, both_listed}
use Rattle.bounds.proofs.list_of.Goals as goal

pub push_horizon-requires : goal.push_horizon-requires
push_horizon-requires c =
    let o = c.plan.invariant in (
      c.clear.ensures,
      omega (arith, o.faultless.some),
      omega (arith, o.faultless.most),
      omega (arith, o.faultless.near),
    )

pub push_records-requires : goal.push_records-requires
push_records-requires c =
    let o = c.plan.invariant in
    let h = c.plan.inside.plan.now in
    let listed = c.push_horizon.ensures.listed in
    let count = o.holds.count ∙ ap (λ (p : M.Plan). length p.records) c.plan.view_is in
    omega (arith, listed.count, length_horizon h.horizon 1 (h.events - 1), count, o.holds.count, o.faultless.few, o.faultless.most)

pub returns : goal.returns
returns c =
    let p = recalled c.plan.inside.plan.now c.plan.inside.levels.now in
    let first = c.push_horizon.ensures in
    let rest = c.push_records.ensures in
    let front = rw (← c.plan.view_is) at (rest.listed _ first.listed) in
    rw (← c.plan.view_is) (both_listed p first.counted first.listed rest.same_horizon front)
