-- Numbers that a struct or a local array holds, read back from their bits: they are the numbers that were stored, and each fits.
use mathlib.Core.Path.{◌≡◌, refl, ap₂, ◌∙◌}
use mathlib.Core.List.{List, [], ◌∷◌}
use Prim.Native.Nat.{◌^◌, ◌<◌}
use native.Mathlib.Omega.{arith}
use lib.IntN.{ℤ, pos}
use lib.Signed.{mag}
use mir.Syntax.{w64}
use mir.Val.{SFits, hbits, to_z, of_z}
use Rattle.ticks.proofs.Ticks.{back}

-- the numbers read back are these, and each fits
pub data Shows : List ℤ → List ℤ → Type 0 where
  none : Shows [] []
  more : {x z : ℤ} {xs zs : List ℤ} → x ≡ z → SFits w64 z → Shows xs zs → Shows (x ∷ xs) (z ∷ zs)

-- a number read back from its bits
abbrev pub bits : List ℤ → List ℤ
bits [] = []
bits (z ∷ zs) = to_z w64 (of_z w64 z) ∷ bits zs

pub shown : {y : ℤ} {xs zs : List ℤ} (z : ℤ) → mag z < 2 ^ hbits w64 → z ≡ y → Shows xs zs → Shows (to_z w64 (of_z w64 z) ∷ xs) (y ∷ zs)
shown z h e s = more (back w64 z h ∙ e) (record { sfits = rw e at h }) s

pub shown_zero : {xs zs : List ℤ} → Shows xs zs → Shows (pos 0 ∷ xs) (pos 0 ∷ zs)
shown_zero s = more {x = pos 0} {z = pos 0} refl (record { sfits = omega arith }) s

pub shows_same : {xs zs : List ℤ} → Shows xs zs → xs ≡ zs
shows_same none = refl
shows_same (more e f s) = ap₂ (λ (z : ℤ) (zs : List ℤ). z ∷ zs) e (shows_same s)
