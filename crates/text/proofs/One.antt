-- Any two results that satisfy a promise of this crate are equal. A promise `r ≡ …` says so itself; here is the one of another form: the number that
-- was read or the place where reading stopped.
use mathlib.Core.Path.{◌≡◌, sym, ap, ◌∙◌}
use mathlib.Core.List.{List}
use Prim.Native.Nat.{ℕ}
use native.Mathlib.Omega.{arith}
use lib.IntN.{ℤ}
use Rattle.std.specs.Prelude.{Result, Ok, Err}
use Rattle.text.specs.Answers.{read_as, stopped_at, NumberRead}

-- the number, or none, and the place are all that an answer says
same_number : (end : ℕ) (q r : Result ℤ ℕ) → read_as q ≡ read_as r → stopped_at end q ≡ stopped_at end r → q ≡ r
same_number end (Ok v) (Ok w) n p = cc
same_number end (Ok v) (Err j) n p = let z : ◌≡◌ {A = ℕ} 0 1 = cc in absurd (omega arith)
same_number end (Err i) (Ok w) n p = let z : ◌≡◌ {A = ℕ} 0 1 = cc in absurd (omega arith)
same_number end (Err i) (Err j) n p = ap Err p

-- any two answers of `read_number` to the same bytes are equal
pub one_number : (field : List ℕ) (q r : Result ℤ ℕ) → NumberRead field q → NumberRead field r → q ≡ r
one_number field q r a b = same_number _ q r (a.0 ∙ sym b.0) (a.1 ∙ sym b.1)
