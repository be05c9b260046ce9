-- What the tests of a line say of its numbers: an event is below the number of events, a count or a level is at most its bound, the ends are in range.
use mathlib.Core.Path.{◌≡◌, ap}
use mathlib.Core.List.{List, [], ◌∷◌, map}
use mathlib.Core.Bool.{Bool, true, not, ◌&&◌, and-eq-true_iff}
use Prim.Native.Nat.{ℕ, zero, suc, ◌≤◌, ◌<◌, zero-le}
use native.Mathlib.Omega.{arith}
use borrow.Author.Tests.{ltb-true, leb-true, le-leb}
use lib.Dec.{leb}
use lib.ListN.{get_or}
use lib.IntN.{ℤ, pos, negsuc, nat_abs, neg_ℤ}
use lib.Signed.{le_z, lt_z, ◌≤ℤ◌}
use Rattle.ticks.proofs.Ticks.{ticks}
use Rattle.meaning.specs.Plan.{most_end, top_level}
use Rattle.meaning.specs.Reading.{between, is_event, is_end, is_level, all_levels, in_range, same_event}

pub both : (a b : Bool) → (a && b) ≡ true → (a ≡ true) × (b ≡ true)
both a b e = (and-eq-true_iff a b).0 e

pub event_below : (n : ℕ) (v : ℤ) → is_event n v ≡ true → nat_abs v < n
event_below n (pos u) e = ltb-true u n (both (le_z (pos 0) (pos u)) (lt_z (pos u) (pos n)) e).1
event_below n (negsuc u) e = let z : ◌≡◌ {A = ℕ} 0 1 = cc in absurd (omega arith)

-- numbers that are not below zero, as counts
pub count_from : (m : ℕ) (v : ℤ) → le_z (pos m) v ≡ true → m ≤ nat_abs v
count_from m (pos u) e = leb-true m u e
count_from m (negsuc u) e = let z : ◌≡◌ {A = ℕ} 0 1 = cc in absurd (omega arith)

pub count_to : (m l : ℕ) (v : ℤ) → between (pos l) (pos m) v ≡ true → nat_abs v ≤ m
count_to m l (pos u) e = leb-true u m (both (le_z (pos l) (pos u)) (le_z (pos u) (pos m)) e).1
count_to m l (negsuc u) e = let z : ◌≡◌ {A = ℕ} 0 1 = cc in absurd (omega arith)

pub levels_mild : (ls : List ℤ) → all_levels ls ≡ true → (i : ℕ) → get_or (map nat_abs ls) i 0 ≤ top_level
levels_mild [] e i = zero-le
levels_mild (l ∷ ls) e zero = count_to top_level 0 l (both (is_level l) (all_levels ls) e).0
levels_mild (l ∷ ls) e (suc i) = levels_mild ls (both (is_level l) (all_levels ls) e).1 i

pub apart : (n : ℕ) (a b : ℤ) → is_event n a ≡ true → is_event n b ≡ true → not (same_event a b) ≡ true → nat_abs a ≡ nat_abs b → ⊥
apart n (negsuc a) b ea eb d e = let z : ◌≡◌ {A = ℕ} 0 1 = cc in omega arith
apart n (pos a) (negsuc b) ea eb d e = let z : ◌≡◌ {A = ℕ} 0 1 = cc in omega arith
apart n (pos a) (pos b) ea eb d e =
    let t : leb a b ≡ true = le-leb a b (omega arith) in
    let u : leb b a ≡ true = le-leb b a (omega arith) in
    let s : same_event (pos a) (pos b) ≡ true = (and-eq-true_iff (leb a b) (leb b a)).1 (t, u) in
    let z : ◌≡◌ {A = ℕ} 0 1 = cc (ap not s) in omega arith

-- the two events and the two ends
pub record Ranged (n : ℕ) (a b lo hi : ℤ) : Type 0 where
  pub first : is_event n a ≡ true
  pub second : is_event n b ≡ true
  pub lowest : neg_ℤ (pos most_end) ≤ℤ lo
  pub highest : hi ≤ℤ pos most_end

pub in_range_lem : (n : ℕ) (a b lo hi : ℤ) → in_range n a b lo hi ≡ true → Ranged n a b lo hi
in_range_lem n a b lo hi e =
    let e1 = both (is_event n a) (is_event n b && (is_end lo && is_end hi)) e in
    let e2 = both (is_event n b) (is_end lo && is_end hi) e1.1 in
    let e3 = both (is_end lo) (is_end hi) e2.1 in
    let l = (both (le_z (neg_ℤ (pos most_end)) lo) (le_z lo (pos most_end)) e3.0).0 in
    let h = (both (le_z (neg_ℤ (pos most_end)) hi) (le_z hi (pos most_end)) e3.1).1 in
    record { first = e1.0; second = e2.0; lowest = omega ticks; highest = omega ticks }
