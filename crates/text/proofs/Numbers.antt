-- A number: what its first byte says of the value and of the place where reading stops, and how large they are.
use Prim.Native.Nat.{ℕ, suc, ◌+◌, ◌-◌, ◌*◌, ◌^◌, ◌≤◌, ◌<◌}
use mathlib.Core.Path.{◌≡◌, refl}
use mathlib.Core.Bool.{Bool, true, false, cond, ◌&&◌, not}
use mathlib.Core.Option.{none, some}
use mathlib.Core.List.{List, [], ◌∷◌}
use native.Mathlib.Nat.{pow-le-pow_right, add-zero, zero-add}
use native.Mathlib.Omega.{arith}
use borrow.Author.Tests.{leb-true, ltb-false}
use lib.Dec.{leb, ltb, eqb}
use lib.ListN.{length, get_or, drop}
use Rattle.std.proofs.lemmas.Bool.Decides.{nat_tests}
use Rattle.meaning.specs.Reading.{is_digit, run_from, digits_of, leading_zero, number_of, minus, plus}
use Rattle.text.specs.Number.{number_stop, digits_stop, run_stop, says_zero}

-- ---- by the first byte

pub number_is : (f : List ℕ) → number_of f ≡ cond (eqb (get_or f 0 0) 45) (minus (digits_of (drop 1 f))) (plus (digits_of f))
unfolding number_of digits_of
number_is [] = refl
number_is (x ∷ xs) = refl

pub number_stop_is : (f : List ℕ) → number_stop f
    ≡ cond (eqb (get_or f 0 0) 45) (suc (cond (says_zero (digits_of (drop 1 f))) 0 (digits_stop (drop 1 f)))) (digits_stop f)
unfolding number_stop digits_stop
number_stop_is [] = refl
number_stop_is (x ∷ xs) = refl

-- ---- how large

is_digit_le : (x : ℕ) → is_digit x ≡ true → x - 48 ≤ 9
is_digit_le x q = go (leb 48 x) refl (leb x 57) refl q
  where
    go : (a : Bool) → leb 48 x ≡ a → (b : Bool) → leb x 57 ≡ b → a && b ≡ true → x - 48 ≤ 9
    go true p true r t = omega (arith, leb-true x 57 r)
    go true p false r t = let z : ◌≡◌ {A = ℕ} 0 1 = cc in omega arith
    go false p b r t = let z : ◌≡◌ {A = ℕ} 0 1 = cc in omega arith

pub run_small : (f : List ℕ) (v n w : ℕ) → v < 10 ^ n → run_from v f ≡ some w → w < 10 ^ (n + length f)
run_small [] v n w h q = let e : v ≡ w = cc in rw (add-zero) (omega arith)
run_small (x ∷ xs) v n w h q = go (λ (a b : ℕ). run_small xs a b w) (is_digit x) refl q
  where
    go : ((a b : ℕ) → a < 10 ^ b → run_from a xs ≡ some w → w < 10 ^ (b + length xs)) → (b : Bool) → is_digit x ≡ b
        → cond b (run_from (v * 10 + (x - 48)) xs) none ≡ some w → w < 10 ^ (n + suc (length xs))
    go ih false p t = let z : ◌≡◌ {A = ℕ} 0 1 = cc in omega arith
    go ih true p t =
        let g : v * 10 + (x - 48) < 10 ^ suc n = omega (arith, is_digit_le x p) in
        let e : n + suc (length xs) ≡ suc n + length xs = omega arith in
        rw e (ih (v * 10 + (x - 48)) (suc n) g t)

pub digits_small : (f : List ℕ) (w : ℕ) → digits_of f ≡ some w → w < 10000000
unfolding digits_of
digits_small f w q = go (leb 1 (length f)) (leb (length f) 7) refl (not (leading_zero f)) q
  where
    go : (a b : Bool) → leb (length f) 7 ≡ b → (d : Bool) → cond (a && b && d) (run_from 0 f) none ≡ some w → w < 10000000
    go true true p true t =
        omega (arith, pow-le-pow_right {n = 10} (omega arith) (leb-true (length f) 7 p), rw zero-add at (run_small f 0 0 w (omega arith) t))
    go true true p false t = let z : ◌≡◌ {A = ℕ} 0 1 = cc in omega arith
    go true false p d t = let z : ◌≡◌ {A = ℕ} 0 1 = cc in omega arith
    go false b p d t = let z : ◌≡◌ {A = ℕ} 0 1 = cc in omega arith

-- a run stops inside it
run_stop_le : (f : List ℕ) → run_stop f ≤ length f
run_stop_le [] = omega arith
run_stop_le (x ∷ xs) = go (run_stop_le xs) (is_digit x)
  where
    go : run_stop xs ≤ length xs → (b : Bool) → cond b (suc (run_stop xs)) 0 ≤ suc (length xs)
    go ih true = omega arith
    go ih false = omega arith

pub stop_small : (f : List ℕ) → digits_stop f ≤ 7
unfolding digits_stop
stop_small f = go (ltb 7 (length f)) refl (leading_zero f)
  where
    go : (a : Bool) → ltb 7 (length f) ≡ a → (b : Bool) → cond a 7 (cond b 1 (run_stop f)) ≤ 7
    go true p b = omega arith
    go false p true = omega arith
    go false p false = omega (arith, run_stop_le f, ltb-false 7 (length f) p)

pub ruleset number_rules = (nat_tests, number_is, number_stop_is, digits_small, stop_small)
