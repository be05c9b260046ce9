-- The entries of a closed matrix are near, so that no sum of three of them leaves 32 bits, and what is computed of them is what it says.
use Prim.Native.Nat.{ℕ, ◌<◌, ◌^◌}
use mathlib.Core.Path.{◌≡◌, refl}
use mathlib.Core.Bool.{Bool, true, false, cond}
use mathlib.Core.List.{List}
use lib.IntN.{ℤ, pos, neg_ℤ, ◌+ℤ◌, ◌-ℤ◌}
use lib.Signed.{le_z, lt_z, mag}
use mir.Facts.{to_z-of_z}
use mir.Syntax.{w32}
use mir.Val.{SFits, hbits, to_z, of_z}
use Rattle.std.specs.Int.{int_min}
use Rattle.ticks.specs.Min.{min_z}
use Rattle.ticks.proofs.Ticks.{ticks, sum, back, from_zero}
use Rattle.meaning.specs.Plan.{Within, most_end}
use Rattle.meaning.proofs.Distances.{above}
use Rattle.distances.specs.Matrix.{at, Net}
use Rattle.distances.specs.Rows.{Near, Nearby}

pub nearby : (x w : ℤ) → Near x → Within (neg_ℤ (pos most_end)) w (pos most_end) → Nearby (x +ℤ w)
nearby x w h k = record { above = omega (ticks, sum x w); below = omega ticks }

pub nearby_fits : (x : ℤ) → Nearby x → SFits w32 x
nearby_fits x h = omega ticks

pub sum_fits : (x y : ℤ) → Nearby x → Near y → SFits w32 (x +ℤ y)
sum_fits x y h k = omega ticks

near_fits : (x : ℤ) → Near x → SFits w32 x
near_fits x h = omega ticks

pub weight_fits : (w : ℤ) → Within (neg_ℤ (pos most_end)) w (pos most_end) → SFits w32 w
weight_fits w h = omega ticks

pub minus_fits : (x : ℤ) → Near x → SFits w32 (neg_ℤ x)
minus_fits x h = omega ticks

pub net_near : {n H : ℕ} {d : List ℤ} → Net n H d → (i j : ℕ) → i < n → j < n → Near (at d i j)
net_near {n} {H} {d} net i j p q =
    record { above = omega (ticks, above net.closed net.below p q, net.near); below = omega (ticks, net.below.hi p q, net.near) }

-- ---- what was computed: a sum, a negative, the lesser of two

-- an entry that was read, with a weight added
pub summed : (x a w : ℤ) → mag x < 2 ^ hbits w32 → x ≡ a → SFits w32 w → Nearby (a +ℤ w) →
    to_z w32 (of_z w32 (to_z w32 (of_z w32 x) +ℤ to_z w32 (of_z w32 w))) ≡ a +ℤ w
summed x a w i e f n = rw (back w32 x i, to_z-of_z f, e) (to_z-of_z (nearby_fits (a +ℤ w) n))

-- an entry added to such a sum
pub summed_on : (x y : ℤ) → Nearby x → Near y → to_z w32 (of_z w32 (x +ℤ to_z w32 (of_z w32 y))) ≡ x +ℤ y
summed_on x y h k = rw (to_z-of_z (near_fits y k)) (to_z-of_z (sum_fits x y h k))

pub negated : (x z : ℤ) → z ≡ x → SFits w32 (neg_ℤ x) → to_z w32 (of_z w32 (pos 0 -ℤ z)) ≡ neg_ℤ x
negated x z e f = rw (e, from_zero) (to_z-of_z f)

pub lesser : (x y : ℤ) → int_min x y ≡ min_z x y
unfolding min_z
lesser x y = go (lt_z y x) (le_z x y) refl refl
  where
    go : (s t : Bool) → lt_z y x ≡ s → le_z x y ≡ t → cond s y x ≡ cond t x y
    go true true e f = absurd (omega ticks)
    go true false e f = refl
    go false true e f = refl
    go false false e f = absurd (omega ticks)
