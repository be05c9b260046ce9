-- Single-peaked levels: the test decides them, and `level y or more` is `distance within the run`.
-- A list passes the test exactly where no level is lower than one before it and one after it.
use mathlib.Core.Path.{◌≡◌, refl, sym}
use mathlib.Core.Logic.{◌↔◌}
use mathlib.Core.List.{List, [], ◌∷◌}
use mathlib.Core.Bool.{Bool, true, false, true≢false, cond}
use Prim.Native.Nat.{ℕ, zero, suc, ◌-◌, ◌≤◌, ◌<◌, min, zero-le}
use native.Mathlib.Decide.{dec_lt}
use native.Mathlib.Nat.{le_of_suc-le-suc, not-suc-le-zero}
use native.Mathlib.Omega.{arith}
use lib.Dec.{leb, ltb}
use lib.ListN.{length, get_or-eq_default}
use lib.IntN.{ℤ, pos, negsuc, ◌-ℤ◌}
use borrow.Author.Tests.{leb-true, ltb-true, ltb-false, le-leb}
use Rattle.ticks.proofs.Ticks.{ticks}
use Rattle.meaning.specs.Plan.{level_at, Within, top_level}
use Rattle.meaning.specs.Ladder.{lv}
use Rattle.meaning.specs.Peak.{SinglePeaked, peaked_from, peaked}
use Rattle.meaning.proofs.Runs.{Run, InRun, shifted, level_within}

-- ---- the run of a grade is where a wish has that grade

module _ {y : ℕ} {ls : List ℕ} {first past : ℕ} (r : Run y ls first past) (s : SinglePeaked ls) (lo : 1 ≤ y) (hi : y ≤ top_level) where
  at_grade : (i : ℕ) → first ≤ i → i < past → y ≤ lv ls i
  at_grade i a b =
      let starts = r.starts (omega (arith, r.within)) in
      s.unbroken y lo hi first i (past - 1) a (omega arith) (omega (arith, r.within)) starts (r.ends (omega arith))

  -- `level y or more` is two bounds on the distance, whether or not it is in the list
  pub level_bounds : (d low : ℤ) → (y ≤ level_at ls (d -ℤ low)) ↔ InRun low first past d
  level_bounds d low = (level_within r lo d low, λ w. go (d -ℤ low) ((shifted d low (pos first) (pos past) (pos 1)).1 w))
    where
      go : (z : ℤ) → Within (pos first) z (pos past -ℤ pos 1) → y ≤ level_at ls z
      go (pos i) w = at_grade i (omega (ticks, w.above)) (omega (ticks, w.below))
      go (negsuc i) w = absurd w.above.le

-- ---- the test decides single-peaked levels

-- no level is lower than one before it and one after it
abbrev Valleyless : List ℕ → Type 0
Valleyless l = (i j k : ℕ) → i ≤ j → j ≤ k → min (lv l i) (lv l k) ≤ lv l j

abbrev Falling : List ℕ → Type 0
Falling l = (j k : ℕ) → j ≤ k → lv l k ≤ lv l j

both : (a b : Bool) → cond a b false ≡ true → (a ≡ true) × (b ≡ true)
both true b e = (refl, e)
both false b e = absurd (true≢false (sym e))

-- one level more in front: no lower than the next, or no higher
lower_next : (x : ℕ) (zs : List ℕ) → lv zs 0 ≤ x → Falling zs → Falling (x ∷ zs)
lower_next x zs h f zero zero a = omega arith
lower_next x zs h f zero (suc k) a = omega (arith, f 0 k zero-le)
lower_next x zs h f (suc j) zero a = absurd (not-suc-le-zero a)
lower_next x zs h f (suc j) (suc k) a = f j k (le_of_suc-le-suc a)

higher_next : (x : ℕ) (zs : List ℕ) → x ≤ lv zs 0 → Valleyless zs → Valleyless (x ∷ zs)
higher_next x zs h v zero zero k a b = omega arith
higher_next x zs h v (suc i) zero k a b = absurd (not-suc-le-zero a)
higher_next x zs h v i (suc j) zero a b = absurd (not-suc-le-zero b)
higher_next x zs h v zero (suc j) (suc k) a b = omega (arith, v 0 j k zero-le (le_of_suc-le-suc b))
higher_next x zs h v (suc i) (suc j) (suc k) a b = v i j k (le_of_suc-le-suc a) (le_of_suc-le-suc b)

falling_valleyless : (l : List ℕ) → Falling l → Valleyless l
falling_valleyless l f i j k a b = omega (arith, f j k b)

falls : (x : ℕ) (zs : List ℕ) → peaked_from true x zs ≡ true → Falling (x ∷ zs)
falls x [] e = lower_next x [] zero-le (λ j k h. zero-le)
falls x (z ∷ zs) e = let p = both (leb z x) (peaked_from true z zs) e in lower_next x (z ∷ zs) (leb-true z x p.0) (falls z zs p.1)

rises : (x : ℕ) (zs : List ℕ) → peaked_from false x zs ≡ true → Valleyless (x ∷ zs)
rises x [] e = falling_valleyless (x ∷ []) (falls x [] refl)
rises x (z ∷ zs) e = go (ltb z x) refl e (rises z zs)
  where
    go : (b : Bool) → ltb z x ≡ b → peaked_from b z zs ≡ true → (peaked_from false z zs ≡ true → Valleyless (z ∷ zs)) → Valleyless (x ∷ z ∷ zs)
    go true d e r = falling_valleyless (x ∷ z ∷ zs) (lower_next x (z ∷ zs) (omega (arith, ltb-true z x d)) (falls z zs e))
    go false d e r = higher_next x (z ∷ zs) (ltb-false z x d) (r e)

falls_back : (x : ℕ) (zs : List ℕ) → Falling (x ∷ zs) → peaked_from true x zs ≡ true
falls_back x [] f = refl
falls_back x (z ∷ zs) f = rw (le-leb z x (f 0 1 zero-le)) (falls_back z zs (λ j k h. f (suc j) (suc k) (omega arith)))

rises_back : (x : ℕ) (zs : List ℕ) → Valleyless (x ∷ zs) → peaked_from false x zs ≡ true
rises_back x [] v = refl
rises_back x (z ∷ zs) v = go (ltb z x) refl (rises_back z zs (λ i j k a b. v (suc i) (suc j) (suc k) (omega arith) (omega arith)))
  where
    go : (b : Bool) → ltb z x ≡ b → peaked_from false z zs ≡ true → peaked_from b z zs ≡ true
    go true d r = falls_back z zs (λ j k h. omega (arith, ltb-true z x d, v 0 (suc j) (suc k) zero-le (omega arith), v 0 1 (suc k) zero-le (omega arith)))
    go false d r = r

-- a list that passes the test is single-peaked
pub peaked_sound : (ls : List ℕ) → peaked ls ≡ true → SinglePeaked ls
unfolding peaked
peaked_sound ls e = record { unbroken = λ y lo hi i j k a b c p q. omega (arith, rises 0 ls e (suc i) (suc j) (suc k) (omega arith) (omega arith)) }

-- and a single-peaked one passes
pub peaked_complete : (ls : List ℕ) → ((i : ℕ) → lv ls i ≤ top_level) → SinglePeaked ls → peaked ls ≡ true
unfolding peaked
peaked_complete ls mild s =
    rises_back 0 ls (higher_next 0 ls zero-le (λ i j k a b. inner i j k a b (dec_lt k (length ls)) (dec_lt (min (lv ls i) (lv ls k)) 1)))
  where
    inner : (i j k : ℕ) → i ≤ j → j ≤ k → Dec (k < length ls) → Dec (min (lv ls i) (lv ls k) < 1) → min (lv ls i) (lv ls k) ≤ lv ls j
    inner i j k a b (no n) d = omega (arith, get_or-eq_default ls 0 {n = k} (omega arith))
    inner i j k a b (yes h) (yes p) = omega arith
    inner i j k a b (yes h) (no p) = s.unbroken (min (lv ls i) (lv ls k)) (omega arith) (omega (arith, mild i)) i j k a b h (omega arith) (omega arith)

-- the test decides
pub peaked_decides : (ls : List ℕ) → ((i : ℕ) → lv ls i ≤ top_level) → (peaked ls ≡ true) ↔ SinglePeaked ls
peaked_decides ls mild = (peaked_sound ls, peaked_complete ls mild)
