-- `bounds::Bounds::push_horizon` meets its contract: before event e the list has two bounds for each lesser event but 0.
use Prim.Native.Nat.{◌+◌, ◌-◌, ◌≤◌}
use native.Mathlib.Omega.{arith}
use Rattle.bounds.specs.Entries.{most_bounds}
use Rattle.bounds.proofs.Lists.{length_horizon, horizon_next}
use Rattle.bounds.proofs.Bounds.push_horizon.Goals as goal
use Rattle.bounds.proofs.Bounds.push_horizon.Goals.{In-loop-e}

room : (c : In-loop-e) → c.loop-e.self.count + 2 ≤ most_bounds
room c = omega (arith, length_horizon c.args.h 1 (c.loop-e.e - 1), c.loop-e.invariant.count)

pub push-requires : goal.push-requires
push-requires c = let r = room (goal.at.push-requires c).In-loop-e in omega arith

pub push-requires-in-loop-e : goal.push-requires-in-loop-e
push-requires-in-loop-e c = let r = room (goal.at.push-requires-in-loop-e c).In-loop-e in omega (arith, c.push.ensures.count)

pub loop-e-preserved : goal.loop-e-preserved
loop-e-preserved c =
    let r = room (goal.at.loop-e-preserved c).In-loop-e in
    horizon_next _ _ c.loop-e.invariant c.push.ensures c.push-in-loop-e.ensures (omega arith) r c.horizon_upper.ensures c.horizon_lower.ensures
