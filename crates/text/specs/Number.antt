-- Where a reader of a number stops; it is the end where the bytes are a number.
use Rattle.std.specs.Prelude.{ℕ, suc, Bool, false, cond, List, [], ◌∷◌, eqb, ltb, length}
use Rattle.std.proofs.Math.Option.{Option, none, some}
use Rattle.meaning.specs.Reading.{is_digit, leading_zero, digits_of}

-- at the first byte that is no digit
abbrev pub run_stop : List ℕ → ℕ
run_stop [] = 0
run_stop (x ∷ xs) = let r = suc (run_stop xs) in cond (is_digit x) r 0

-- after 7 digits, after a leading zero, or at the first byte that is no digit
unfoldable pub digits_stop : List ℕ → ℕ
digits_stop f = cond (ltb 7 (length f)) 7 (cond (leading_zero f) 1 (run_stop f))

-- digits that say 0
abbrev pub says_zero : Option ℕ → Bool
says_zero none = false
says_zero (some v) = eqb v 0

-- the same after a minus (byte 45), and at the 0 of −0
unfoldable pub number_stop : List ℕ → ℕ
number_stop [] = 0
number_stop (x ∷ xs) = cond (eqb x 45) (suc (cond (says_zero (digits_of xs)) 0 (digits_stop xs))) (digits_stop (x ∷ xs))
