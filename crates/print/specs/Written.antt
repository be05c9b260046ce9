-- Bytes that are written: a number's decimal digits, and what a lent area holds after bytes were put into it.
use Rattle.std.specs.Prelude.{◌≡◌, cond, List, [], ◌∷◌, ◌++◌, ℕ, zero, suc, ◌+◌, ◌/◌, ◌%◌, ◌≤◌, ltb, length, ℤ, pos, negsuc}
use Rattle.std.proofs.lemmas.List.Edits.{sets}

-- the digits of n, the most significant first; a number of at most `room` digits is whole
unfoldable pub digits_within : ℕ → ℕ → List ℕ
digits_within zero n = []
digits_within (suc room) n = let r = digits_within room (n / 10) ++ ((48 + n % 10) ∷ []) in cond (ltb n 10) ((48 + n) ∷ []) r

-- a number n has at most n + 1 digits
unfoldable pub decimal : ℕ → List ℕ
decimal n = digits_within (suc n) n

-- a whole number as section 2 writes it
abbrev pub decimal_z : ℤ → List ℕ
decimal_z (pos n) = decimal n
decimal_z (negsuc n) = 45 ∷ decimal (suc n)

-- the bytes stand from place at up to next, and all else is as it was
pub record Wrote (before after : List ℕ) (at next : ℕ) (bytes : List ℕ) : Type 0 where
  pub ends : next ≡ at + length bytes
  pub room : at + length bytes ≤ length before
  pub holds : after ≡ sets before at bytes
