-- The decimal digits of a number: one digit, one digit more, and how many there can be.
use mathlib.Core.Path.{◌≡◌, refl, sym, ap, ap₂, ◌∙◌}
use mathlib.Core.Bool.{Bool, true, false, cond}
use mathlib.Core.List.{List, [], ◌∷◌, ◌++◌}
use Prim.Native.Nat.{ℕ, zero, suc, ◌+◌, ◌^◌, ◌/◌, ◌%◌, ◌≤◌, ◌<◌}
use native.Mathlib.Numerals.{unary_clauses}
use native.Mathlib.Omega.{arith}
use lib.Dec.{ltb}
use lib.ListN.{length, length-append}
use native.Mathlib.Decide.{dec_lt}
use borrow.Author.Tests.{ltb-false, lt-ltb, le-ltb}
use Rattle.io.specs.Digits.{hex_digit_ascii, last_digits, IsDigitCount}
use Rattle.print.specs.Written.{digits_within, decimal}

-- room that is not used does not matter
enough : (f g n : ℕ) → n < f → n < g → digits_within f n ≡ digits_within g n
unfolding digits_within
enough zero g n p q = absurd (omega arith)
enough (suc f) zero n p q = absurd (omega arith)
enough (suc f) (suc g) n p q = go (ltb n 10) refl (λ l. enough f g (n / 10) (omega arith) (omega arith))
  where
    go : (b : Bool) → ltb n 10 ≡ b → (10 ≤ n → digits_within f (n / 10) ≡ digits_within g (n / 10)) →
        cond b ((48 + n) ∷ []) (digits_within f (n / 10) ++ ((48 + n % 10) ∷ [])) ≡ cond b ((48 + n) ∷ []) (digits_within g (n / 10) ++ ((48 + n % 10) ∷ []))
    go true e r = refl
    go false e r = ap (λ (x : List ℕ). x ++ ((48 + n % 10) ∷ [])) (r (omega (arith, ltb-false)))

pub decimal_one : (n : ℕ) → n < 10 → decimal n ≡ (48 + n) ∷ []
unfolding decimal digits_within
decimal_one n h = rw (lt-ltb n 10 h)

pub decimal_more : (n : ℕ) → 10 ≤ n → decimal n ≡ decimal (n / 10) ++ ((48 + n % 10) ∷ [])
unfolding decimal digits_within
decimal_more n h =
    rw (le-ltb n 10 h) (ap (λ (x : List ℕ). x ++ ((48 + n % 10) ∷ [])) (enough n (suc (n / 10)) (n / 10) (omega arith) (omega arith)))

-- the fewest digits that hold a number are its decimal digits
digit_glyph : (d : ℕ) → d < 10 → hex_digit_ascii d ≡ 48 + d
digit_glyph d h = rw (lt-ltb d 10 h)

one_power : (k : ℕ) → 1 ≤ 10 ^ k
one_power zero = omega arith
one_power (suc k) = omega (arith, one_power k)

pub fewest_decimal : (n k : ℕ) → IsDigitCount 10 1 n k → last_digits 10 k n ≡ decimal n
fewest_decimal n zero f = absurd (omega (arith, f.0))
fewest_decimal n (suc zero) f =
    let l : n < 10 = omega (arith, f.1) in
    let e : n % 10 ≡ n = omega arith in
    ap (λ (d : ℕ). hex_digit_ascii d ∷ []) e ∙ ap (λ (d : ℕ). d ∷ []) (digit_glyph n l) ∙ sym (decimal_one n l)
fewest_decimal n (suc (suc k)) f =
    let high = simp unary_clauses at (f.2 (omega arith)) in
    let some = one_power k in
    let tenth = fewest_decimal (n / 10) (suc k) (omega arith, omega (arith, f.1), λ l. simp unary_clauses (omega (arith, high))) in
    ap₂ (λ (x : List ℕ) (d : ℕ). x ++ (d ∷ [])) tenth (digit_glyph (n % 10) (omega arith)) ∙ sym (decimal_more n (omega (arith, high, some)))

-- a number below ten to the k has at most k digits
pub decimal_most : (k n : ℕ) → n < 10 ^ suc k → length (decimal n) ≤ suc k
decimal_most zero n h = rw (decimal_one n (omega arith)) (omega arith)
decimal_most (suc k) n h = go (dec_lt n 10) (decimal_most k (n / 10) (omega arith))
  where
    go : Dec (n < 10) → length (decimal (n / 10)) ≤ suc k → length (decimal n) ≤ suc (suc k)
    go (yes l) r = rw (decimal_one n l) (omega arith)
    go (no l) r = rw (decimal_more n (omega arith)) (omega (arith, length-append (decimal (n / 10)) ((48 + n % 10) ∷ [])))
