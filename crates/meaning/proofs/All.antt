-- Tests that compute: two lists compared; and over the two sides, the members of a list and the lists of few members, what passes one, passes for each.
use mathlib.Core.Path.{◌≡◌, sym, subst, refl}
use mathlib.Core.List.Memᴰ
use mathlib.Core.List.{List, [], ◌∷◌, Memᴰ}
use mathlib.Core.Bool.{Bool, true, false, ◌&&◌}
use Prim.Native.Nat.{ℕ, zero, suc, ◌≤◌}
use native.Mathlib.Nat.{le_of_suc-le-suc, not-suc-le-zero}
use lib.Dec.{T, eqb, eqb→eq}
use lib.ListN.{length}
use mir.Facts.{and_yes, yes_and}
use Rattle.meaning.specs.Reading.{same}
use Rattle.scope.specs.declared.Side.{Side}
use Rattle.scope.specs.declared.Side.TheVariants.{Latest, Earliest}

-- the second is computed only where the first passes
abbrev pub implies : Bool → Bool → Bool
implies true b = b
implies false b = true

pub implied : (a b : Bool) → T (implies a b) → T a → T b
implied true b t s = t
implied false b t s = absurd s

-- lists that compare as the same are the same
pub is_same : (x y : List ℕ) → T (same x y) → x ≡ y
is_same [] [] h = refl
is_same [] (y ∷ ys) h = absurd h
is_same (x ∷ xs) [] h = absurd h
is_same (x ∷ xs) (y ∷ ys) h = let b = and_yes (eqb x y) (same xs ys) h in λ i. eqb→eq x y b.0 i ∷ is_same xs ys b.1 i

-- either side passes
abbrev pub both_sides : (Side → Bool) → Bool
both_sides f = f Latest && f Earliest

pub each_side : (f : Side → Bool) → T (both_sides f) → (s : Side) → T (f s)
each_side f t Latest = (and_yes (f Latest) (f Earliest) t).0
each_side f t Earliest = (and_yes (f Latest) (f Earliest) t).1

module _ {A : Type 0} where
  -- each member passes
  abbrev pub all : (A → Bool) → List A → Bool
  all f [] = true
  all f (x ∷ xs) = let r = all f xs in f x && r

  pub all_each : (f : A → Bool) (xs : List A) → T (all f xs) → (x : A) → Memᴰ x xs → T (f x)
  all_each f [] t x m = absurd (Memᴰ.not-nil m)
  all_each f (y ∷ ys) t x (Memᴰ.head e) = subst (λ (z : A). T (f z)) (sym e) (and_yes (f y) (all f ys) t).0
  all_each f (y ∷ ys) t x (Memᴰ.tail m) = all_each f ys (and_yes (f y) (all f ys) t).1 x m

  pub each_all : (f : A → Bool) (xs : List A) → ((x : A) → Memᴰ x xs → T (f x)) → T (all f xs)
  each_all f [] h = tt
  each_all f (x ∷ xs) h = yes_and (f x) (all f xs) (h x (Memᴰ.head refl)) (each_all f xs (λ y m. h y (Memᴰ.tail m)))

  -- each list of at most n of these passes
  abbrev pub lists : ℕ → List A → (List A → Bool) → Bool
  lists zero ys f = f []
  lists (suc n) ys f = let r = all (λ y. lists n ys (λ xs. f (y ∷ xs))) ys in f [] && r

  pub lists_each : (n : ℕ) (ys : List A) (f : List A → Bool) → T (lists n ys f) →
      (xs : List A) → length xs ≤ n → ((x : A) → Memᴰ x xs → Memᴰ x ys) → T (f xs)
  lists_each zero ys f t [] l h = t
  lists_each zero ys f t (x ∷ xs) l h = absurd (not-suc-le-zero l)
  lists_each (suc n) ys f t [] l h = (and_yes (f []) _ t).0
  lists_each (suc n) ys f t (x ∷ xs) l h =
      let t1 = all_each (λ y. lists n ys (λ xs. f (y ∷ xs))) ys (and_yes (f []) _ t).1 x (h x (Memᴰ.head refl)) in
      lists_each n ys (λ xs. f (x ∷ xs)) t1 xs (le_of_suc-le-suc l) (λ y m. h y (Memᴰ.tail m))
