-- The binary digits of a number, at any width: what the code's shift and `|` do to them, by induction on the place.
use mathlib.Core.Path.{◌≡◌, refl, sym, ap, ◌∙◌}
use Prim.Native.Nat.{ℕ, zero, suc, ◌+◌, ◌*◌, ◌/◌, ◌%◌, ◌^◌, ◌≤◌, ◌<◌}
use native.Mathlib.Omega.{arith}
use native.Mathlib.Nat.{mod-eq_of_lt, one-mul}
use native.Mathlib.Numerals.{one-add}
use lib.Pow.{shr-shr, pow-lt}
use lib.Bits.{bit_or, or_step, or_zero_r}
use lib.Count.{ones, ones_step, count_trailing_zeros, under}
use Rattle.eventset.specs.Sets.{digit}

-- as the code reads it
pub digit_shr : (s e : ℕ) → s / 2 ^ e % 2 ≡ digit s e
unfolding digit
digit_shr s zero = omega arith
digit_shr s (suc e) =
    ap (λ (x : ℕ). s / 2 ^ x % 2) (sym (one-add e)) ∙ ap (λ (x : ℕ). x % 2) (sym (shr-shr s 1 e)) ∙ digit_shr (s / 2) e

-- `1 << e` at a width of n digits is the power
pub shl_one : (n e : ℕ) → e < n → (1 * 2 ^ e) % 2 ^ n ≡ 2 ^ e
shl_one n e h = rw one-mul (mod-eq_of_lt (pow-lt h))

pub digit_lt : (s e : ℕ) → digit s e < 2
unfolding digit
digit_lt s zero = omega arith
digit_lt s (suc e) = digit_lt (s / 2) e

pub digit_zero : (e : ℕ) → digit 0 e ≡ 0
unfolding digit
digit_zero zero = refl
digit_zero (suc e) = digit_zero e

-- ---- adding the power at a place whose digit is 0

put_half : (s e : ℕ) → (s + 2 ^ suc e) / 2 ≡ s / 2 + 2 ^ e
put_half s e = omega arith

pub add_same : (s e : ℕ) → digit s e ≡ 0 → digit (s + 2 ^ e) e ≡ 1
unfolding digit
add_same s zero h = omega arith
add_same s (suc e) h = rw put_half (add_same (s / 2) e h)

pub add_other : (s e f : ℕ) → digit s e ≡ 0 → (f ≡ e → ⊥) → digit (s + 2 ^ e) f ≡ digit s f
unfolding digit
add_other s zero zero h n = absurd (n refl)
add_other s zero (suc f) h n = ap (λ (x : ℕ). digit x f) (omega arith)
add_other s (suc e) zero h n = omega arith
add_other s (suc e) (suc f) h n = rw put_half (add_other (s / 2) e f h (λ p. n (ap suc p)))

pub add_ones : (s e : ℕ) → digit s e ≡ 0 → ones (s + 2 ^ e) ≡ ones s + 1
unfolding digit
add_ones s zero h =
    let q : (s + 1) / 2 ≡ s / 2 = omega arith in
    omega (arith, ones_step (s + 1), ones_step s, ap ones q)
add_ones s (suc e) h =
    omega (arith, ones_step (s + 2 ^ suc e), ones_step s, ap ones (put_half s e), add_ones (s / 2) e h)

-- ---- `|` with the power: it adds where the digit is 0, else it changes nothing

power_half : (e : ℕ) → 2 ^ suc e / 2 ≡ 2 ^ e
power_half e = omega arith

power_even : (e : ℕ) → 2 ^ suc e % 2 ≡ 0
power_even e = omega arith

pub or_fresh : (s e : ℕ) → digit s e ≡ 0 → bit_or s (2 ^ e) ≡ s + 2 ^ e
unfolding digit
or_fresh s zero h =
    let q : bit_or (s / 2) (1 / 2) ≡ s / 2 = or_zero_r (s / 2) in
    omega (arith, or_step s 1, q)
or_fresh s (suc e) h =
    let w : bit_or (s / 2) (2 ^ suc e / 2) ≡ s / 2 + 2 ^ e = ap (bit_or (s / 2)) (power_half e) ∙ or_fresh (s / 2) e h in
    omega (arith, or_step s (2 ^ suc e), w, power_even e)

pub or_present : (s e : ℕ) → digit s e ≡ 1 → bit_or s (2 ^ e) ≡ s
unfolding digit
or_present s zero h =
    let q : bit_or (s / 2) (1 / 2) ≡ s / 2 = or_zero_r (s / 2) in
    omega (arith, or_step s 1, q)
or_present s (suc e) h =
    let w : bit_or (s / 2) (2 ^ suc e / 2) ≡ s / 2 = ap (bit_or (s / 2)) (power_half e) ∙ or_present (s / 2) e h in
    omega (arith, or_step s (2 ^ suc e), w, power_even e)

-- ---- the number of zeros below the lowest 1 is the least place of a 1

low_digit : (s k e : ℕ) (d : ℕ) → s % 2 ≡ d → digit s e ≡ 1 → e < suc k
    → ((f : ℕ) → digit (s / 2) f ≡ 1 → f < k → (digit (s / 2) (count_trailing_zeros k (s / 2)) ≡ 1) × (count_trailing_zeros k (s / 2) ≤ f))
    → (digit s (under d (count_trailing_zeros k (s / 2))) ≡ 1) × (under d (count_trailing_zeros k (s / 2)) ≤ e)
unfolding digit
low_digit s k zero zero p h l rest = absurd (omega arith)
low_digit s k (suc e) zero p h l rest = let r = rest e h (omega arith) in (r.0, omega arith)
low_digit s k e (suc d) p h l rest = (omega arith, omega arith)

pub least : (k s e : ℕ) → digit s e ≡ 1 → e < k → (digit s (count_trailing_zeros k s) ≡ 1) × (count_trailing_zeros k s ≤ e)
unfolding count_trailing_zeros
least zero s e h l = absurd (omega arith)
least (suc k) s e h l = low_digit s k e (s % 2) refl h l (λ f. least k (s / 2) f)
