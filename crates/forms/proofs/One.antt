-- Any two results that satisfy a promise of this crate are equal: the form says which place comes after it, and what the area holds.
use mathlib.Core.Path.{◌≡◌}
use mathlib.Core.List.{List}
use Prim.Native.Nat.{ℕ}
use Rattle.print.proofs.One.{one_wrote}
use Rattle.forms.specs.Put.{Put}

pub one_put : {before x y : List ℕ} {at m n most : ℕ} {bytes : List ℕ} → Put before x at m most bytes → Put before y at n most bytes → (m ≡ n) × (x ≡ y)
one_put a b = one_wrote a.wrote b.wrote
