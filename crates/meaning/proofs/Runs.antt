-- The run of a grade in a list of levels: what stands before it and after it is below the grade, so that each level of the grade lies in it. By the list.
use mathlib.Core.Path.{◌≡◌, refl, subst}
use mathlib.Core.Logic.{◌↔◌}
use mathlib.Core.List.{List, [], ◌∷◌, ◌++◌}
use mathlib.Core.Bool.{Bool, true, false, cond}
use Prim.Native.Nat.{ℕ, zero, suc, ◌-◌, ◌≤◌, ◌<◌, zero-le, suc-le-suc}
use native.Mathlib.Decide.{dec_lt, dec_le}
use native.Mathlib.Nat.{le_of_suc-le-suc, not-suc-le-zero}
use native.Mathlib.Omega.{arith}
use lib.Dec.{leb}
use lib.ListN.{length}
use lib.IntN.{ℤ, pos, negsuc, ◌+ℤ◌, ◌-ℤ◌, neg_ℤ}
use borrow.Author.Tests.{leb-true, leb-false, le-leb, lt-leb}
use Rattle.ticks.proofs.Ticks.{ticks, sum, neg}
use Rattle.meaning.specs.Plan.{level_at, Within}
use Rattle.meaning.specs.Ladder.{lv}
use Rattle.meaning.specs.Run.{run_first, past_of, run_past}

-- ---- both ends are within the list

pub first_most : (y : ℕ) (ls : List ℕ) → run_first y ls ≤ length ls
first_most y [] = zero-le
first_most y (x ∷ xs) = go (leb y x) (run_first y xs) (first_most y xs)
  where
    go : (b : Bool) (f : ℕ) → f ≤ length xs → cond b 0 (suc f) ≤ suc (length xs)
    go true f h = zero-le
    go false f h = suc-le-suc h

pub past_most : (y : ℕ) (ls : List ℕ) → run_past y ls ≤ length ls
past_most y [] = zero-le
past_most y (x ∷ xs) = go (leb y x) (run_past y xs) (past_most y xs)
  where
    go : (b : Bool) (e : ℕ) → e ≤ length xs → past_of b e ≤ suc (length xs)
    go true zero h = suc-le-suc zero-le
    go false zero h = zero-le
    go b (suc e) h = suc-le-suc h

-- ---- every grade has a run in every list

-- the first place at level y or more, and one past the last (where there is none: the length, and 0)
pub record Run (y : ℕ) (ls : List ℕ) (first past : ℕ) : Type 0 where
  pub within : past ≤ length ls
  pub before : (j : ℕ) → j < first → lv ls j < y
  pub starts : first < length ls → y ≤ lv ls first
  pub after : (j : ℕ) → past ≤ j → lv ls j < y
  pub ends : 0 < past → y ≤ lv ls (past - 1)

record First (y : ℕ) (ls : List ℕ) (first : ℕ) : Type 0 where
  before : (j : ℕ) → j < first → lv ls j < y
  starts : first < length ls → y ≤ lv ls first

record Past (y : ℕ) (ls : List ℕ) (past : ℕ) : Type 0 where
  after : (j : ℕ) → past ≤ j → lv ls j < y
  ends : 0 < past → y ≤ lv ls (past - 1)

first_is : (y : ℕ) (ls : List ℕ) → First y ls (run_first y ls)
first_is y [] = record { before = λ j h. absurd (not-suc-le-zero h); starts = λ h. absurd (not-suc-le-zero h) }
first_is y (x ∷ xs) = go (leb y x) refl (run_first y xs) (first_is y xs)
  where
    sooner : {f : ℕ} → x < y → First y xs f → (j : ℕ) → j < suc f → lv (x ∷ xs) j < y
    sooner low r zero h = low
    sooner low r (suc j) h = r.before j (le_of_suc-le-suc h)

    go : (b : Bool) → leb y x ≡ b → (f : ℕ) → First y xs f → First y (x ∷ xs) (cond b 0 (suc f))
    go true d f r = record { before = λ j h. absurd (not-suc-le-zero h); starts = λ h. leb-true y x d }
    go false d f r = record { before = sooner (leb-false y x d) r; starts = λ h. r.starts (le_of_suc-le-suc h) }

past_is : (y : ℕ) → 1 ≤ y → (ls : List ℕ) → Past y ls (run_past y ls)
past_is y lo [] = record { after = λ j h. lo; ends = λ h. absurd (not-suc-le-zero h) }
past_is y lo (x ∷ xs) = go (leb y x) refl (run_past y xs) (past_is y lo xs)
  where
    later : {e : ℕ} → Past y xs e → (j : ℕ) → suc e ≤ j → lv (x ∷ xs) j < y
    later r zero h = absurd (not-suc-le-zero h)
    later r (suc j) h = r.after j (le_of_suc-le-suc h)

    never : x < y → Past y xs 0 → (j : ℕ) → lv (x ∷ xs) j < y
    never low r zero = low
    never low r (suc j) = r.after j zero-le

    last : (e : ℕ) → y ≤ lv xs (suc e - 1) → y ≤ lv (x ∷ xs) (suc (suc e) - 1)
    last e h = subst (λ (n : ℕ). y ≤ lv (x ∷ xs) n) {x = suc (suc e - 1)} {y = suc (suc e) - 1} (omega arith) h

    go : (b : Bool) → leb y x ≡ b → (e : ℕ) → Past y xs e → Past y (x ∷ xs) (past_of b e)
    go true d zero r = record { after = later r; ends = λ h. leb-true y x d }
    go false d zero r = record { after = λ j h. never (leb-false y x d) r j; ends = λ h. absurd (not-suc-le-zero h) }
    go b d (suc e) r = record { after = later r; ends = λ h. last e (r.ends (suc-le-suc zero-le)) }

pub run_is : (y : ℕ) → 1 ≤ y → (ls : List ℕ) → Run y ls (run_first y ls) (run_past y ls)
run_is y lo ls =
    let f = first_is y ls in
    let e = past_is y lo ls in
    record { within = past_most y ls; before = f.before; starts = f.starts; after = e.after; ends = e.ends }

-- ---- what has the grade lies in the run

-- the distance d of a wish that begins at low is within the run
abbrev pub InRun : ℤ → ℕ → ℕ → ℤ → Type 0
InRun low first past d = Within (low +ℤ pos first) d (low +ℤ pos past -ℤ pos 1)

pub shifted : (d low f z one : ℤ) → Within f (d -ℤ low) (z -ℤ one) ↔ Within (low +ℤ f) d (low +ℤ z -ℤ one)
shifted d low f z one = (
  λ w. record { above = omega (ticks, w.above); below = omega (ticks, w.below, sum d (neg_ℤ low), neg low, sum low z) },
  λ w. record { above = omega (ticks, w.above); below = omega (ticks, w.below, sum d (neg_ℤ low), neg low, sum low z) },
)

module _ {y : ℕ} {ls : List ℕ} {first past : ℕ} (r : Run y ls first past) where
  pub in_run : (i : ℕ) → y ≤ lv ls i → (first ≤ i) × (i < past)
  in_run i h = (left (dec_le first i), right (dec_lt i past))
    where
      left : Dec (first ≤ i) → first ≤ i
      left (yes p) = p
      left (no n) = omega (arith, r.before i (omega arith))

      right : Dec (i < past) → i < past
      right (yes p) = p
      right (no n) = omega (arith, r.after i (omega arith))

  -- a distance with level y or more is within the run, single-peaked or not
  pub level_within : 1 ≤ y → (d low : ℤ) → y ≤ level_at ls (d -ℤ low) → InRun low first past d
  level_within lo d low h = (shifted d low (pos first) (pos past) (pos 1)).0 (go (d -ℤ low) h)
    where
      go : (z : ℤ) → y ≤ level_at ls z → Within (pos first) z (pos past -ℤ pos 1)
      go (pos i) h = let p = in_run i h in record { above = omega ticks; below = omega ticks }
      go (negsuc i) h = absurd (omega arith)

-- ---- looked for from both ends

-- a first level of at least y begins the run, and a lower one is passed over
pub first_found : (y x : ℕ) (xs : List ℕ) → y ≤ x → run_first y (x ∷ xs) ≡ 0
first_found y x xs h = rw (le-leb y x h)

pub first_passed : (y x : ℕ) (xs : List ℕ) → x < y → run_first y (x ∷ xs) ≡ suc (run_first y xs)
first_passed y x xs h = rw (lt-leb y x h)

-- so does a last one end it
pub past_found : (y x : ℕ) (xs : List ℕ) → y ≤ x → run_past y (xs ++ (x ∷ [])) ≡ suc (length xs)
past_found y x [] h = rw (le-leb y x h)
past_found y x (z ∷ xs) h = rw (past_found y x xs h)

pub past_passed : (y x : ℕ) (xs : List ℕ) → x < y → run_past y (xs ++ (x ∷ [])) ≡ run_past y xs
past_passed y x [] h = rw (lt-leb y x h)
past_passed y x (z ∷ xs) h = rw (past_passed y x xs h)
