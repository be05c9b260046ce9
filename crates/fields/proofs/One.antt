-- Any two results that satisfy a promise of this crate are equal. The promises `r ≡ …` of `begin` and `with_number` say so themselves; here is that of
-- `field_after`.
use mathlib.Core.Path.{◌≡◌, refl}
use mathlib.Core.List.{List}
use Prim.Native.Nat.{ℕ}
use native.Mathlib.Omega.{arith}
use lib.IntN.{ℤ}
use Rattle.std.specs.Prelude.{Option, Some, None}
use Rattle.fields.specs.Fields.{FieldRead}

-- any two fields behind the same tab are equal
pub one_field : (line : List ℕ) (p : ℕ) (q r : Option (ℤ × ℕ)) → FieldRead line p q → FieldRead line p r → q ≡ r
one_field line p (Some (v, i)) (Some (w, j)) a b = cc
one_field line p (Some (v, i)) None a b = let z : ◌≡◌ {A = ℕ} 0 1 = cc in absurd (omega arith)
one_field line p None (Some (w, j)) a b = let z : ◌≡◌ {A = ℕ} 0 1 = cc in absurd (omega arith)
one_field line p None None a b = refl
