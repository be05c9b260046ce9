-- How many events: each event of a table is one of most_events, each of these fits into a set, and bounds of the list that enter no event
-- twice are at most as many as the events.
use mathlib.Core.List.{List, Memᴰ}
use Prim.Native.Nat.{ℕ, ◌≤◌, ◌<◌}
use native.Mathlib.Omega.{arith}
use lib.Dec.{T}
use lib.ListN.{length}
use lib.IntN.{ℤ}
use Rattle.eventset.specs.Sets.{set_width}
use Rattle.meaning.specs.Plan.{most_events}
use Rattle.meaning.specs.Bounds.{Bound, distinct, ends}
use Rattle.meaning.proofs.Pigeons.{steps_most}
use Rattle.chain.specs.Clash.{Table, Given}

-- an event of a table is below the limit
pub low : {d : List ℤ} {n e : ℕ} → Table d n → e < n → e < most_events
low t h = omega (arith, t.events)

-- and fits into a set. This is all that is used of the two numbers: that the limit is at most the width
pub fits : {e : ℕ} → e < most_events → e < set_width
fits h = omega arith

pub few : {bounds : List Bound} {n : ℕ} → Given bounds n → (bs : List Bound) → ((x : Bound) → Memᴰ x bs → Memᴰ x bounds)
    → T (distinct (ends bs)) → length bs ≤ n
few {n = n} given bs known once = steps_most n bs (λ x i. (given.fit x (known x i)).end) once
