-- The sum of weights along a chain, once over the number of steps: each weight lies within most_end of zero, so that n of them together lie within
-- n times most_end, and what lies there fits every width that most_events times most_end fits.
use mathlib.Core.Path.{refl}
use mathlib.Core.List.{List, [], ◌∷◌, Memᴰ}
use Prim.Native.Nat.{ℕ, zero, suc, ◌*◌, ◌^◌, ◌≤◌, ◌<◌}
use native.Mathlib.Nat.{le_of_suc-le-suc, not-suc-le-zero, suc-mul}
use lib.ListN.{length}
use lib.IntN.{ℤ, pos, neg_ℤ}
use mir.Syntax.{Width}
use mir.Val.{SFits, hbits}
use Rattle.ticks.proofs.Ticks.{ticks, sum, neg}
use Rattle.meaning.specs.Plan.{Plan, Within, record_at, most_events, most_end}
use Rattle.meaning.specs.Bounds.{Bound, shortest, total, Chain}
use Rattle.meaning.specs.Faultless.{WithoutFault}
use Rattle.meaning.proofs.Bounds.{Given, each_bound, good_ends}

-- n weights within m of zero
pub sums_within : (m n : ℕ) (bs : List Bound) → length bs ≤ n → ((b : Bound) → Memᴰ b bs → Within (neg_ℤ (pos m)) b.weight (pos m)) →
    Within (neg_ℤ (pos (n * m))) (total bs) (pos (n * m))
sums_within m n [] h f = record { above = omega ticks; below = omega ticks }
sums_within m zero (b ∷ bs) h f = absurd (not-suc-le-zero h)
sums_within m (suc n) (b ∷ bs) h f =
    let w = f b (Memᴰ.head refl) in
    let r = sums_within m n bs (le_of_suc-le-suc h) (λ c q. f c (Memᴰ.tail q)) in
    record {
      above = omega (ticks, w.above, r.above, sum b.weight (total bs), suc-mul n m);
      below = omega (ticks, w.below, r.below, sum b.weight (total bs), suc-mul n m);
    }

-- the weight of a bound of the plan
pub bound_near : (p : Plan) → WithoutFault p → (b : Bound) → Given p b → Within (neg_ℤ (pos most_end)) b.weight (pos most_end)
bound_near p w = each_bound p (λ b. Within (neg_ℤ (pos most_end)) b.weight (pos most_end))
    (λ k h. let g = good_ends (record_at p k) (w.each k h) in (
      record { above = omega (ticks, g.lowest, g.ordered); below = g.highest },
      record { above = omega (ticks, neg (shortest (record_at p k)), g.ordered, g.highest); below = omega (ticks, g.lowest) },
    ))
    (λ e h l. (record { above = omega ticks; below = omega (ticks, w.near) }, record { above = omega ticks; below = omega ticks }))

-- the weights of a chain: it has at most as many steps as there are events
pub chain_sum : {p : Plan} {codes : List ℕ} → WithoutFault p → (c : Chain p codes) →
    Within (neg_ℤ (pos (p.events * most_end))) (total c.steps) (pos (p.events * most_end))
chain_sum {p} w c = sums_within most_end p.events c.steps c.most (λ b m. bound_near p w b (c.given b m))

-- what lies there fits
pub sum_fits : (w : Width) → most_events * most_end < 2 ^ hbits w → (n : ℕ) → n ≤ most_events → (z : ℤ) →
    Within (neg_ℤ (pos (n * most_end))) z (pos (n * most_end)) → SFits w z
sum_fits w l n h z r = omega (ticks, l, r.above, r.below)
