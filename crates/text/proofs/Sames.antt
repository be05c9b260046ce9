-- Two lists of bytes compared.
use Prim.Native.Nat.{ℕ}
use mathlib.Core.Path.{◌≡◌, refl, ap}
use mathlib.Core.Bool.{◌&&◌}
use mathlib.Core.List.{List, [], ◌∷◌}
use lib.Dec.{eqb}
use lib.Pointwise.{pointwise}
use Rattle.meaning.specs.Reading.{same}

-- the library's word for it, and ours
pub same_is : (x y : List ℕ) → pointwise eqb x y ≡ same x y
same_is [] [] = refl
same_is [] (b ∷ y) = refl
same_is (a ∷ x) [] = refl
same_is (a ∷ x) (b ∷ y) = ap (λ t. eqb a b && t) (same_is x y)
