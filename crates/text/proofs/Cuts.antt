-- A search in a list, and the pieces by the place that it gives.
use Prim.Native.Nat.{ℕ, ◌+◌, ◌≤◌, ◌<◌}
use mathlib.Core.Path.{◌≡◌, refl}
use mathlib.Core.Bool.{Bool, true, false, cond}
use mathlib.Core.List.{List, [], ◌∷◌}
use native.Mathlib.Numerals.{add-one}
use native.Mathlib.Omega.{arith}
use borrow.Author.Tests.{ltb-true, ltb-false}
use lib.Dec.{eqb, ltb}
use lib.ListN.{length, take, drop}
use lib.Seq.{drop-cons}
use Rattle.std.specs.Prelude.{Some, None, position, ◌==◌}
use Rattle.std.specs.Option.{unwrap_or}
use Rattle.std.specs.List.{position_or_len}
use Rattle.std.proofs.lemmas.List.{drop_all}
use Rattle.meaning.specs.Reading.{split}
use Rattle.text.specs.Bytes.{until, after}

-- ---- a search

pub until_le : (b : ℕ) (xs : List ℕ) → until b xs ≤ length xs
until_le b [] = omega arith
until_le b (x ∷ xs) = go (until_le b xs) (eqb x b) refl
  where
    go : until b xs ≤ length xs → (t : Bool) → eqb x b ≡ t → until b (x ∷ xs) ≤ length (x ∷ xs)
    go ih true e = rw e (omega arith)
    go ih false e = rw e (omega arith)

-- the library's word for a search in a list, and ours
pub index_is : (b : ℕ) (xs : List ℕ) → position_or_len (λ x. eqb x b) xs ≡ until b xs
index_is b [] = refl
index_is b (x ∷ xs) = go (index_is b xs) (eqb x b) refl
  where
    go : position_or_len (λ x. eqb x b) xs ≡ until b xs → (t : Bool) → eqb x b ≡ t → position_or_len (λ x. eqb x b) (x ∷ xs) ≡ until b (x ∷ xs)
    go ih true e = rw e
    go ih false e = rw e (omega (arith, ih))

-- what `find` gives: the place, none where it is the end
find_is : (b : ℕ) (xs : List ℕ) → position (λ x. x == b) xs ≡ cond (ltb (until b xs) (length xs)) (Some (until b xs)) None
find_is b xs = rw (index_is b xs)

-- where the end serves for none
pub found_or_end : (b : ℕ) (xs : List ℕ) → unwrap_or (position (λ x. x == b) xs) (length xs) ≡ until b xs
found_or_end b xs = go (ltb (until b xs) (length xs)) refl
  where
    go : (t : Bool) → ltb (until b xs) (length xs) ≡ t → unwrap_or (position (λ x. x == b) xs) (length xs) ≡ until b xs
    go true e = rw (find_is b xs, e)
    go false e = rw (find_is b xs, e) (omega (arith, until_le b xs, ltb-false (until b xs) (length xs) e))

pub found : (b k : ℕ) (xs : List ℕ) → Some k ≡ position (λ x. x == b) xs → (k ≡ until b xs) × (k < length xs)
found b k xs p = go (ltb (until b xs) (length xs)) refl
  where
    go : (t : Bool) → ltb (until b xs) (length xs) ≡ t → (k ≡ until b xs) × (k < length xs)
    go true e =
        let q = rw (find_is b xs, e) at p in
        let same : k ≡ until b xs = cc in
        (same, omega (arith, ltb-true (until b xs) (length xs) e))
    go false e = let q = rw (find_is b xs, e) at p in let z : ◌≡◌ {A = ℕ} 0 1 = cc in absurd (omega arith)

pub found_none : (b : ℕ) (xs : List ℕ) → None ≡ position (λ x. x == b) xs → until b xs ≡ length xs
found_none b xs p = go (ltb (until b xs) (length xs)) refl
  where
    go : (t : Bool) → ltb (until b xs) (length xs) ≡ t → until b xs ≡ length xs
    go true e = let q = rw (find_is b xs, e) at p in let z : ◌≡◌ {A = ℕ} 0 1 = cc in absurd (omega arith)
    go false e = omega (arith, until_le b xs, ltb-false (until b xs) (length xs) e)

-- ---- pieces

pub split_until : (b : ℕ) (xs : List ℕ) → split b xs ≡ take (until b xs) xs ∷ after b (drop (until b xs) xs)
unfolding split
split_until b [] = refl
split_until b (x ∷ xs) = go (split_until b xs) (eqb x b) refl
  where
    go : split b xs ≡ take (until b xs) xs ∷ after b (drop (until b xs) xs) → (t : Bool) → eqb x b ≡ t
        → split b (x ∷ xs) ≡ take (until b (x ∷ xs)) (x ∷ xs) ∷ after b (drop (until b (x ∷ xs)) (x ∷ xs))
    go ih true e = rw e
    go ih false e = rw (e, ih)

-- at a place inside, and at the end
pub after_step_lem : (b : ℕ) (xs : List ℕ) (p : ℕ) → p < length xs → after b (drop p xs) ≡ split b (drop (p + 1) xs)
after_step_lem b xs p h = rw (drop-cons xs p 0, add-one)

pub after_end : (b : ℕ) (xs : List ℕ) (p : ℕ) → length xs ≤ p → after b (drop p xs) ≡ []
after_end b xs p h = rw drop_all
