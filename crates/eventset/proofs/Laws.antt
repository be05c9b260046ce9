-- Sets of events, over numbers and any width: who is a member, how many there are, and the least, after `put_in`.
use mathlib.Core.Path.{◌≡◌, refl, sym, ap, ◌∙◌, subst}
use mathlib.Core.Bool.{Bool, true, false, ◌||◌, or-true}
use Prim.Native.Nat.{ℕ, ◌+◌, ◌^◌, ◌≤◌, ◌<◌}
use native.Mathlib.Omega.{arith}
use lib.Dec.{eqb}
use lib.Count.{ones, count_trailing_zeros}
use borrow.Author.Tests.{eqb-true, eqb-false, eq-eqb, ne_eqb}
use Rattle.eventset.specs.Sets.{digit, member, put_in}
use Rattle.eventset.proofs.Digits.{digit_lt, digit_zero, add_same, add_other, add_ones, or_fresh, or_present, least}

-- ---- a member has the digit 1, another the digit 0

pub member_digit : (s e : ℕ) → member s e ≡ true → digit s e ≡ 1
member_digit s e h = eqb-true (digit s e) 1 h

pub lacks_digit : (s e : ℕ) → member s e ≡ false → digit s e ≡ 0
lacks_digit s e h = omega (arith, digit_lt s e, eqb-false (digit s e) 1 h)

pub digit_member : (s e : ℕ) → digit s e ≡ 1 → member s e ≡ true
digit_member s e h = eq-eqb (digit s e) 1 h

pub digit_lacks : (s e : ℕ) → digit s e ≡ 0 → member s e ≡ false
digit_lacks s e h = ne_eqb (digit s e) 1 (λ p. omega arith)

-- ---- one more

pub put_present : (s e : ℕ) → member s e ≡ true → put_in s e ≡ s
put_present s e h = or_present s e (member_digit s e h)

-- by the two cases, whether e was in s
put_cases : (s e : ℕ) (P : ℕ → Type 0) → (member s e ≡ false → P (s + 2 ^ e)) → (member s e ≡ true → P s) → P (put_in s e)
put_cases s e P fresh present = at (member s e) refl
  where
    at : (t : Bool) → member s e ≡ t → P (put_in s e)
    at true p = subst P (sym (put_present s e p)) (present p)
    at false p = subst P (sym (or_fresh s e (lacks_digit s e p))) (fresh p)

pub put_same : (s e : ℕ) → member (put_in s e) e ≡ true
put_same s e =
    put_cases s e (λ (x : ℕ). member x e ≡ true) (λ p. digit_member (s + 2 ^ e) e (add_same s e (lacks_digit s e p))) (λ p. p)

pub put_other : (s e f : ℕ) → (f ≡ e → ⊥) → member (put_in s e) f ≡ member s f
put_other s e f n =
    put_cases s e (λ (x : ℕ). member x f ≡ member s f)
    (λ p. ap (λ (d : ℕ). eqb d 1) (add_other s e f (lacks_digit s e p) n)) (λ p. refl)

-- both in one
pub put_member : (s e f : ℕ) → member (put_in s e) f ≡ (eqb f e || member s f)
put_member s e f = at (eqb f e) refl
  where
    at : (t : Bool) → eqb f e ≡ t → member (put_in s e) f ≡ (t || member s f)
    at true p = ap (member (put_in s e)) (eqb-true f e p) ∙ put_same s e
    at false p = put_other s e f (eqb-false f e p)

-- what was in stays in
pub put_keeps : (s e f : ℕ) → member s f ≡ true → member (put_in s e) f ≡ true
put_keeps s e f h = put_member s e f ∙ ap (λ (t : Bool). eqb f e || t) h ∙ or-true (eqb f e)

-- ---- how many

pub count_fresh : (s e : ℕ) → member s e ≡ false → ones (put_in s e) ≡ ones s + 1
count_fresh s e h = ap ones (or_fresh s e (lacks_digit s e h)) ∙ add_ones s e (lacks_digit s e h)

-- ---- the empty set, and a set of one

pub none_member : (e : ℕ) → member 0 e ≡ false
none_member e = digit_lacks 0 e (digit_zero e)

pub none_count : ones 0 ≡ 0
unfolding ones
none_count = refl

pub one_member : (e : ℕ) → member (put_in 0 e) e ≡ true
one_member e = put_same 0 e

pub one_other : (e f : ℕ) → (f ≡ e → ⊥) → member (put_in 0 e) f ≡ false
one_other e f n = put_other 0 e f n ∙ none_member f

-- ---- the least

pub lowest_member : (n s e : ℕ) → member s e ≡ true → e < n → member s (count_trailing_zeros n s) ≡ true
lowest_member n s e h l = digit_member s (count_trailing_zeros n s) (least n s e (member_digit s e h) l).0

pub lowest_least : (n s e : ℕ) → member s e ≡ true → e < n → count_trailing_zeros n s ≤ e
lowest_least n s e h l = (least n s e (member_digit s e h) l).1
