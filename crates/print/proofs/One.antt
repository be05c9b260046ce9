-- Any two results that satisfy a promise of this crate are equal: the bytes put say which place comes after them, and what the area holds.
use mathlib.Core.Path.{◌≡◌, sym, ◌∙◌}
use mathlib.Core.List.{List}
use Prim.Native.Nat.{ℕ}
use Rattle.print.specs.Written.{Wrote}

-- the same bytes written at the same place end at the same place and leave the same area
pub one_wrote : {before x y : List ℕ} {at m n : ℕ} {bytes : List ℕ} → Wrote before x at m bytes → Wrote before y at n bytes → (m ≡ n) × (x ≡ y)
one_wrote a b = (a.ends ∙ sym b.ends, a.holds ∙ sym b.holds)
