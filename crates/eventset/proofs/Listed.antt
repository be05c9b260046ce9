-- The set of the events in a list. The order of two does not count, so a walk from the front may put in one after the other.
use mathlib.Core.Path.{◌≡◌, refl, sym, ap, ◌∙◌}
use mathlib.Core.Bool.{Bool, true, false}
use mathlib.Core.List.{List, [], ◌∷◌, ◌++◌}
use Prim.Native.Nat.{ℕ, ◌+◌, ◌^◌}
use native.Mathlib.Omega.{arith}
use lib.Dec.{eqb}
use borrow.Author.Tests.{eqb-true, eqb-false}
use Rattle.eventset.specs.Sets.{member, put_in}
use Rattle.eventset.proofs.Digits.{or_fresh}
use Rattle.eventset.proofs.Laws.{lacks_digit, put_present, put_other, put_keeps}

abbrev pub set_of : List ℕ → ℕ
set_of [] = 0
set_of (x ∷ xs) = put_in (set_of xs) x

-- ---- the order does not count

add_swap : (s a b : ℕ) → s + a + b ≡ s + b + a
add_swap s a b = omega arith

both_fresh : (s x y : ℕ) → (y ≡ x → ⊥) → member s x ≡ false → member s y ≡ false → put_in (put_in s x) y ≡ s + 2 ^ x + 2 ^ y
both_fresh s x y n p q =
    or_fresh (put_in s x) y (lacks_digit (put_in s x) y (put_other s x y n ∙ q)) ∙ ap (λ (z : ℕ). z + 2 ^ y) (or_fresh s x (lacks_digit s x p))

-- where one is in, putting it in again changes nothing
in_already : (s x y : ℕ) → member s x ≡ true → put_in (put_in s x) y ≡ put_in (put_in s y) x
in_already s x y p = ap (λ (z : ℕ). put_in z y) (put_present s x p) ∙ sym (put_present (put_in s y) x (put_keeps s y x p))

pub put_swap : (s x y : ℕ) → put_in (put_in s x) y ≡ put_in (put_in s y) x
put_swap s x y = at (eqb y x) (member s x) (member s y) refl refl refl
  where
    at : (e p q : Bool) → eqb y x ≡ e → member s x ≡ p → member s y ≡ q → put_in (put_in s x) y ≡ put_in (put_in s y) x
    at true p q i j k = let h = eqb-true y x i in cc
    at false true q i j k = in_already s x y j
    at false false true i j k = sym (in_already s y x k)
    at false false false i j k =
        let n = eqb-false y x i in
        both_fresh s x y n j k ∙ add_swap s (2 ^ x) (2 ^ y) ∙ sym (both_fresh s y x (λ e. n (sym e)) k j)

-- one more at the end
pub set_snoc : (xs : List ℕ) (x : ℕ) → set_of (xs ++ (x ∷ [])) ≡ put_in (set_of xs) x
set_snoc [] x = refl
set_snoc (y ∷ ys) x = ap (λ (s : ℕ). put_in s y) (set_snoc ys x) ∙ put_swap (set_of ys) x y
