-- `bounds::Bounds::push_records` meets its contract: before record k the list has two bounds more for each record before it.
use mathlib.Core.Path.{ap, subst, ◌∙◌}
use Prim.Native.Nat.{◌+◌, ◌≤◌}
use native.Mathlib.Omega.{arith}
use borrow.Author.Rules.{rules}
use mir.Facts.{to_z-of_z}
use mir.Syntax.{w32}
use mir.Val.{SFits}
use Rattle.meaning.specs.Plan as M
use Rattle.plan.specs.Held.{InMemory}
use Rattle.cut.proofs.Cuts.{cutting}
use Rattle.chain.specs.Clash.{bound_of}
use Rattle.bounds.specs.Entries.{most_bounds}
use Rattle.bounds.proofs.Lists.{records_next, record_used, row_used, entry_upper, entry_lower, low_fits}
use Rattle.bounds.proofs.Bounds.push_records.Goals as goal
use Rattle.bounds.proofs.Bounds.push_records.Goals.{In-loop-k}

-- the plan stands in memory
memory : (c : In-loop-k) → InMemory c.args.plan.now c.plan.inside.plan.now c.plan.inside.levels.now
memory c = subst (λ (p : M.Plan). InMemory p c.plan.inside.plan.now c.plan.inside.levels.now) c.plan.view_is c.plan.invariant

room : (c : In-loop-k) → c.loop-k.self.count + 2 ≤ most_bounds
room c = omega (arith, record_used (memory c) c.loop-k.k c.loop-k-test.true, c.requires, c.loop-k.invariant.count)

pub ends_of-ends-requires : goal.ends_of-ends-requires
ends_of-ends-requires c =
    let o = memory (goal.at.ends_of-ends-requires c).In-loop-k in
    rw (row_used o c.loop-k.k c.loop-k-test.true) (cutting o c.loop-k.k)

pub record_lower-requires : goal.record_lower-requires
record_lower-requires c =
    let o = memory (goal.at.record_lower-requires c).In-loop-k in
    let e = c.ends_of-ends in
    let low : SFits w32 e.result.lo = search rules in
    let used = record_used o c.loop-k.k c.loop-k-test.true in
    (omega (arith, o.faultless.few, used), rw (to_z-of_z low, e.ensures, row_used o c.loop-k.k c.loop-k-test.true) (low_fits o c.loop-k.k used))

-- the two entries are the bounds of the record at the loop's place
pub loop-k-preserved : goal.loop-k-preserved
loop-k-preserved c =
    let i = (goal.at.loop-k-preserved c).In-loop-k in
    let o = memory i in
    let k = c.loop-k.k in
    let h = c.loop-k.invariant in
    let row = row_used o k c.loop-k-test.true in
    let e = c.ends_of-ends in
    let low : SFits w32 e.result.lo = search rules in
    let high : SFits w32 e.result.hi = search rules in
    let upper = rw (to_z-of_z high, e.ensures, row) at c.record_upper.ensures in
    let lower = rw (to_z-of_z low, e.ensures, row) at c.record_lower.ensures in
    let one = c.push.ensures in
    let two = c.push-in-loop-k.ensures in
    record {
      horizon = two.horizon ∙ one.horizon ∙ h.horizon;
      count = omega (arith, one.count, two.count, h.count);
      listed = λ bs f.
          records_next bs _ _ _ (h.listed bs f) one two (record_used o k c.loop-k-test.true) (room i)
          (ap bound_of upper ∙ entry_upper o k) (ap bound_of lower ∙ entry_lower o k);
    }
