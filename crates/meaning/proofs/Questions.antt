-- The row of questions: one more wish, one more grade, and what stands before one question. By the count of wishes and of grades.
use mathlib.Core.Path.{◌≡◌, ap, sym, subst, ◌∙◌}
use mathlib.Core.List.{List, [], ◌∷◌, ◌++◌, append-nil, append_assoc}
use Prim.Native.Nat.{ℕ, zero, suc, ◌+◌, ◌≤◌, ◌<◌}
use native.Mathlib.Nat.{add-zero, zero-add, add-suc, suc-add}
use native.Mathlib.Decide.{ℕ_discrete}
use native.Mathlib.Omega.{arith}
use Rattle.meaning.specs.Plan.{top_level}
use Rattle.meaning.specs.Ladder.{Question, row, rows, questions}
use Rattle.meaning.specs.Climb.{asked}
use Rattle.meaning.proofs.Replies.{All, all_append}

abbrev pub ask : ℕ → ℕ → Question
ask y k = record { grade = y; wish = k }

row_snoc' : (y k m : ℕ) → row y k (suc m) ≡ row y k m ++ ask y (k + m) ∷ []
row_snoc' y k zero = rw add-zero
row_snoc' y k (suc m) =
    ap {B = List Question} (λ l. ask y k ∷ l) (row_snoc' y (suc k) m ∙ ap (λ n. row y (suc k) m ++ ask y n ∷ []) (suc-add k m ∙ sym (add-suc k m)))

-- one more wish
pub row_snoc : (y m : ℕ) → row y 0 (suc m) ≡ row y 0 m ++ ask y m ∷ []
row_snoc y m = row_snoc' y 0 m ∙ ap (λ n. row y 0 m ++ ask y n ∷ []) (zero-add m)

rows_snoc' : (w y m : ℕ) → rows w y (suc m) ≡ rows w y m ++ row (y + m) 0 w
rows_snoc' w y zero = append-nil (row y 0 w) ∙ ap (λ n. row n 0 w) (sym (add-zero y))
rows_snoc' w y (suc m) =
    ap (λ l. row y 0 w ++ l) (rows_snoc' w (suc y) m ∙ ap (λ n. rows w (suc y) m ++ row n 0 w) (suc-add y m ∙ sym (add-suc y m)))
    ∙ sym (append_assoc (row y 0 w) (rows w (suc y) m) (row (y + suc m) 0 w))

-- one more grade
pub rows_snoc : (w m : ℕ) → rows w 1 (suc m) ≡ rows w 1 m ++ row (suc m) 0 w
rows_snoc w m = rows_snoc' w 1 m ∙ ap (λ n. rows w 1 m ++ row n 0 w) (omega arith)

-- ---- what has been asked when y grades are done, and k wishes of the next

pub asked_more : (w y k : ℕ) → asked w y (suc k) ≡ asked w y k ++ ask (suc y) k ∷ []
asked_more w y k = ap (λ l. rows w 1 y ++ l) (row_snoc (suc y) k) ∙ sym (append_assoc (rows w 1 y) (row (suc y) 0 k) (ask (suc y) k ∷ []))

pub asked_next : (w y : ℕ) → asked w (suc y) 0 ≡ asked w y w
asked_next w y = append-nil (rows w 1 (suc y)) ∙ rows_snoc w y

pub asked_all : (w : ℕ) → asked w top_level 0 ≡ questions w
asked_all w = append-nil (questions w)

-- ---- the questions before one

-- the grade is at most y, and the wish is one of w
pub record Low (w y : ℕ) (q : Question) : Type 0 where
  pub grade : q.grade ≤ y
  pub wish : q.wish < w

-- question q in a row, and only questions of grades up to y before it
pub record Place (w y : ℕ) (q : Question) (qs : List Question) : Type 0 where
  pub front : List Question
  pub back : List Question
  pub whole : qs ≡ front ++ q ∷ back
  pub low : All (Low w y) front

row_low : (w y z k m : ℕ) → z ≤ y → k + m ≤ w → All (Low w y) (row z k m)
row_low w y z k zero h g = tt
row_low w y z k (suc m) h g = (record { grade = h; wish = omega arith }, row_low w y z (suc k) m h (omega arith))

rows_low : (w y s m : ℕ) → s + m ≤ suc y → All (Low w y) (rows w s m)
rows_low w y s zero h = tt
rows_low w y s (suc m) h =
    all_append (Low w y) (row s 0 w) (rows w (suc s) m) (row_low w y s 0 w (omega arith) (omega arith)) (rows_low w y (suc s) m (omega arith))

-- when y grades are done, grades up to y have been asked
pub asked_low : (w y : ℕ) → All (Low w y) (asked w y 0)
asked_low w y = all_append (Low w y) (rows w 1 y) [] (rows_low w y 1 y (omega arith)) tt

row_place : (w y k m j : ℕ) → k ≤ j → j < k + m → k + m ≤ w → Place w y (ask y j) (row y k m)
row_place w y k zero j a b c = let z : ⊥ = omega arith in absurd z
row_place w y k (suc m) j a b c = go (λ x z. row_place w y (suc k) m j x z (omega arith)) (ℕ_discrete k j)
  where
    later : Place w y (ask y j) (row y (suc k) m) → Place w y (ask y j) (row y k (suc m))
    later p = record {
      front = ask y k ∷ p.front;
      back = p.back;
      whole = ap {B = List Question} (λ l. ask y k ∷ l) p.whole;
      low = (record { grade = omega arith; wish = omega arith }, p.low);
    }

    go : (k < j → j < suc k + m → Place w y (ask y j) (row y (suc k) m)) → Dec (k ≡ j) → Place w y (ask y j) (row y k (suc m))
    go f (yes e) = record { front = []; back = row y (suc k) m; whole = ap (λ n. ask y n ∷ row y (suc k) m) e; low = tt }
    go f (no n) = later (f (omega arith) (omega arith))

rows_place : (w s m y j : ℕ) → s ≤ y → y < s + m → j < w → Place w y (ask y j) (rows w s m)
rows_place w s zero y j a b c = let z : ⊥ = omega arith in absurd z
rows_place w s (suc m) y j a b c = go (λ x z. rows_place w (suc s) m y j x z c) (ℕ_discrete s y)
  where
    inside : Place w y (ask y j) (row y 0 w) → Place w y (ask y j) (row y 0 w ++ rows w (suc s) m)
    inside p = record {
      front = p.front;
      back = p.back ++ rows w (suc s) m;
      whole = ap (λ l. l ++ rows w (suc s) m) p.whole ∙ append_assoc p.front (ask y j ∷ p.back) (rows w (suc s) m);
      low = p.low;
    }

    later : Place w y (ask y j) (rows w (suc s) m) → Place w y (ask y j) (row s 0 w ++ rows w (suc s) m)
    later p = record {
      front = row s 0 w ++ p.front;
      back = p.back;
      whole = ap (λ l. row s 0 w ++ l) p.whole ∙ sym (append_assoc (row s 0 w) p.front (ask y j ∷ p.back));
      low = all_append (Low w y) (row s 0 w) p.front (row_low w y s 0 w a (omega arith)) p.low;
    }

    go : (s < y → y < suc s + m → Place w y (ask y j) (rows w (suc s) m)) → Dec (s ≡ y) → Place w y (ask y j) (row s 0 w ++ rows w (suc s) m)
    go f (yes e) =
        subst (λ (z : ℕ). Place w y (ask y j) (row z 0 w ++ rows w (suc s) m)) (sym e)
        (inside (row_place w y 0 w j (omega arith) (omega arith) (omega arith)))
    go f (no n) = later (f (omega arith) (omega arith))

-- each question has its place on the ladder
pub place : (w y j : ℕ) → 1 ≤ y → y ≤ top_level → j < w → Place w y (ask y j) (questions w)
place w y j a b c = rows_place w 1 top_level y j a (omega arith) c
