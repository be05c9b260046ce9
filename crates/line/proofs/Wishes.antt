-- A wish in memory: its levels stand where they were stored, its tests are those of its numbers, and its row has the distance of its last level.
use mathlib.Core.Path.{◌≡◌, refl, ap, ◌∙◌}
use mathlib.Core.Bool.{Bool, true, false}
use mathlib.Core.List.{List, [], ◌∷◌, map, ◌++◌}
use Prim.Native.Nat.{ℕ, ◌+◌, ◌-◌, ◌≤◌}
use native.Mathlib.Omega.{arith}
use borrow.Author.Tests.{le-leb}
use lib.Dec.{leb}
use lib.ListN.{length, take, drop, length-append, length-map}
use lib.Seq.{slice, sets, sets-eq, take_at, drop_at, length-take-le}
use lib.IntN.{ℤ, pos, neg_ℤ, nat_abs, ◌+ℤ◌, ◌-ℤ◌}
use lib.Signed.{le_z}
use Rattle.ticks.proofs.Ticks.{ticks, sum, ≡←}
use Rattle.meaning.specs.Plan as M
use Rattle.meaning.specs.Plan.{top_level}
use Rattle.meaning.specs.Reading.{item, is_end, is_level, all_levels, in_range}
use Rattle.meaning.proofs.Tests.{both, count_to}
use Rattle.plan.specs.Held.{row_of}
use Rattle.faults.specs.Faults.{are_levels}
use Rattle.line.specs.Effects.{level_of, last_from, wish_span, row_from}

-- what was stored from place i on
pub sets_slice : (l vs : List ℕ) (i : ℕ) → i + length vs ≤ length l → slice i (i + length vs) (sets l i vs) ≡ vs
sets_slice l vs i h =
    let front : length (take i l ++ vs) ≡ i + length vs = length-append (take i l) vs ∙ ap (λ (k : ℕ). k + length vs) (length-take-le i l (omega arith)) in
    ap (λ (x : List ℕ). drop i (take (i + length vs) x)) (sets-eq vs l i h)
    ∙ ap (drop i) (take_at (take i l ++ vs) (drop (i + length vs) l) (i + length vs) front)
    ∙ drop_at (take i l) vs i (length-take-le i l (omega arith))

pub stored_slice : (l vs after : List ℕ) (i m : ℕ) → after ≡ sets l i vs → length vs ≡ m → i + m ≤ length l → slice i (i + m) after ≡ vs
stored_slice l vs after i m e n h = rw (e, ← n) (sets_slice l vs i (omega arith))

-- ---- the numbers of a wish as they are tested

-- where lo is out of range, so is the span, whatever its end
pub range_last : (n : ℕ) (a b lo : ℤ) (m : ℕ) → in_range n a b lo (last_from lo m) ≡ in_range n a b lo (lo +ℤ pos (m - 1))
range_last n a b lo m = go (is_end lo) refl
  where
    go : (t : Bool) → is_end lo ≡ t → in_range n a b lo (last_from lo m) ≡ in_range n a b lo (lo +ℤ pos (m - 1))
    go true q = rw q
    go false q = rw q

-- a wish ends where it begins or later
pub order_last : (lo : ℤ) (m : ℕ) → le_z lo (last_from lo m) ≡ true
order_last lo m = go (is_end lo) refl
  where
    go : (t : Bool) → is_end lo ≡ t → le_z lo (last_from lo m) ≡ true
    go true q = rw q (up (le_z lo (lo +ℤ pos (m - 1))) refl)
      where
        up : (t : Bool) → le_z lo (lo +ℤ pos (m - 1)) ≡ t → le_z lo (lo +ℤ pos (m - 1)) ≡ true
        up true e = e
        up false e = absurd (omega (ticks, sum lo (pos (m - 1))))
    go false q = rw q (same (le_z lo lo) refl)
      where
        same : (t : Bool) → le_z lo lo ≡ t → le_z lo lo ≡ true
        same true e = e
        same false e = absurd (omega ticks)

levels_one : (v : ℤ) → leb (level_of v) top_level ≡ is_level v
levels_one v = go (is_level v) refl
  where
    go : (t : Bool) → is_level v ≡ t → leb (level_of v) top_level ≡ is_level v
    go true q = rw q (le-leb (nat_abs v) top_level (count_to top_level 0 v q))
    go false q = rw q

-- numbers are levels where what is stored of them is
pub levels_as : (vs : List ℤ) → are_levels (map level_of vs) ≡ all_levels vs
levels_as [] = refl
levels_as (v ∷ vs) = rw (levels_one v, levels_as vs)

pub levels_same : (vs : List ℤ) → all_levels vs ≡ true → map level_of vs ≡ map nat_abs vs
levels_same [] e = refl
levels_same (v ∷ vs) e =
    let t = both (is_level v) (all_levels vs) e in
    rw (t.0, levels_same vs t.1)

-- ---- the row of a wish

-- lo + (m − 1) = lo + m − 1
last_is : (lo : ℤ) (m : ℕ) → 1 ≤ m → lo +ℤ pos (m - 1) ≡ lo +ℤ pos m -ℤ pos 1
last_is lo m h = ≡← (lo +ℤ pos (m - 1)) (lo +ℤ pos m -ℤ pos 1) (omega (arith, sum lo (pos (m - 1)), sum lo (pos m), sum (lo +ℤ pos m) (neg_ℤ (pos 1))))

pub wish_row : (vs ls : List ℤ) (used m : ℕ) → is_end (item vs 2) ≡ true → length ls ≡ m → 1 ≤ m
    → row_from (wish_span vs m) used m ≡ row_of used (M.wish (nat_abs (item vs 0)) (nat_abs (item vs 1)) (item vs 2) (map nat_abs ls))
wish_row vs ls used m r e h = rw (r, last_is (item vs 2) m h, length-map ls nat_abs, e)
