-- What the tests of a number say: a number within two ends that are not below zero has no sign, and three tests in one are three.
use mathlib.Core.Path.{◌≡◌}
use mathlib.Core.Bool.{Bool, true, ◌&&◌}
use Prim.Native.Nat.{ℕ}
use native.Mathlib.Omega.{arith}
use lib.Dec.{T}
use lib.IntN.{ℤ, pos, negsuc}
use lib.Signed.{non_neg}
use Rattle.meaning.specs.Reading.{between, is_event}
use Rattle.meaning.proofs.Tests.{both}

pub all_three : (x y z : Bool) → x && y && z ≡ true → (x ≡ true) × (y ≡ true) × (z ≡ true)
all_three x y z e =
    let xy = both (x && y) z e in
    let two = both x y xy.0 in
    (two.0, two.1, xy.1)

pub sign : (l m : ℕ) (v : ℤ) → between (pos l) (pos m) v ≡ true → T (non_neg v)
sign l m (pos n) e = tt
sign l m (negsuc n) e = let z : ◌≡◌ {A = ℕ} 0 1 = cc in absurd (omega arith)

pub event_sign : (n : ℕ) (v : ℤ) → is_event n v ≡ true → T (non_neg v)
event_sign n (pos k) e = tt
event_sign n (negsuc k) e = let z : ◌≡◌ {A = ℕ} 0 1 = cc in absurd (omega arith)
