-- Lists without repetition, part by part: `distinct` of a list in front of another, and of the two turned.
-- What is absent is a member nowhere, so that each law is one on membership.
use mathlib.Core.Path.{refl, sym, subst}
use mathlib.Core.Logic.{⊎_elim}
use mathlib.Core.List.Memᴰ
use mathlib.Core.List.{List, [], ◌∷◌, ◌++◌, Memᴰ}
use mathlib.Core.Bool.{not}
use Prim.Native.Nat.{ℕ}
use lib.Dec.{T, eqb, eqb→eq, eqb_refl, T_not, not_T}
use mir.Facts.{and_yes, yes_and}
use Rattle.meaning.specs.Bounds.{absent, distinct}

pub absent_not : (x : ℕ) (ys : List ℕ) → T (absent x ys) → Memᴰ x ys → ⊥
absent_not x [] t x3 = elim x3 [ ]
absent_not x (y ∷ ys) t (Memᴰ.head e) = T_not (eqb x y) (and_yes (not (eqb x y)) (absent x ys) t).0 (subst (λ (z : ℕ). T (eqb x z)) e (eqb_refl x))
absent_not x (y ∷ ys) t (Memᴰ.tail m) = absent_not x ys (and_yes (not (eqb x y)) (absent x ys) t).1 m

pub not_absent : (x : ℕ) (ys : List ℕ) → (Memᴰ x ys → ⊥) → T (absent x ys)
not_absent x [] n = tt
not_absent x (y ∷ ys) n =
    yes_and (not (eqb x y)) (absent x ys) (not_T (eqb x y) (λ t. n (Memᴰ.head (eqb→eq x y t)))) (not_absent x ys (λ m. n (Memᴰ.tail m)))

-- ---- one in front of others
module _ (x : ℕ) (xs : List ℕ) where
  pub distinct_head : T (distinct (x ∷ xs)) → Memᴰ x xs → ⊥
  distinct_head d = absent_not x xs (and_yes (absent x xs) (distinct xs) d).0

  pub distinct_tail : T (distinct (x ∷ xs)) → T (distinct xs)
  distinct_tail d = (and_yes (absent x xs) (distinct xs) d).1

  pub distinct_cons : (Memᴰ x xs → ⊥) → T (distinct xs) → T (distinct (x ∷ xs))
  distinct_cons n d = yes_and (absent x xs) (distinct xs) (not_absent x xs n) d

-- ---- a list in front of another

abbrev pub Disjoint : List ℕ → List ℕ → Type 0
Disjoint xs ys = (v : ℕ) → Memᴰ v xs → Memᴰ v ys → ⊥

pub distinct_join : (xs ys : List ℕ) → T (distinct xs) → T (distinct ys) → Disjoint xs ys → T (distinct (xs ++ ys))
distinct_join [] ys p q d = q
distinct_join (x ∷ xs) ys p q d =
    distinct_cons x (xs ++ ys) (λ m. ⊎_elim (λ k. distinct_head x xs p k) (λ k. d x (Memᴰ.head refl) k) (Memᴰ.append_cases xs m))
    (distinct_join xs ys (distinct_tail x xs p) q (λ v m. d v (Memᴰ.tail m)))

pub distinct_left : (xs ys : List ℕ) → T (distinct (xs ++ ys)) → T (distinct xs)
distinct_left [] ys p = tt
distinct_left (x ∷ xs) ys p =
    distinct_cons x xs (λ m. distinct_head x (xs ++ ys) p (Memᴰ.append_left ys m)) (distinct_left xs ys (distinct_tail x (xs ++ ys) p))

pub distinct_right : (xs ys : List ℕ) → T (distinct (xs ++ ys)) → T (distinct ys)
distinct_right [] ys p = p
distinct_right (x ∷ xs) ys p = distinct_right xs ys (distinct_tail x (xs ++ ys) p)

pub distinct_apart : (xs ys : List ℕ) → T (distinct (xs ++ ys)) → Disjoint xs ys
distinct_apart [] ys p v x3 n = elim x3 [ ]
distinct_apart (x ∷ xs) ys p v (Memᴰ.head e) n = distinct_head x (xs ++ ys) p (Memᴰ.append_right xs (Memᴰ.cast (sym e) n))
distinct_apart (x ∷ xs) ys p v (Memᴰ.tail m) n = distinct_apart xs ys (distinct_tail x (xs ++ ys) p) v m n

pub distinct_turn : (xs ys : List ℕ) → T (distinct (xs ++ ys)) → T (distinct (ys ++ xs))
distinct_turn xs ys p = distinct_join ys xs (distinct_right xs ys p) (distinct_left xs ys p) (λ v m n. distinct_apart xs ys p v n m)
