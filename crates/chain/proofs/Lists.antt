-- The bounds of a list: each place holds one of them, and the first bounds with the next are one more.
use mathlib.Core.Path.{◌≡◌, refl}
use mathlib.Core.List.{List, [], ◌∷◌, ◌++◌, map-append, Memᴰ}
use Prim.Native.Nat.{ℕ, zero, suc, ◌<◌}
use native.Mathlib.Omega.{arith}
use lib.ListN.{length, get_or, take}
use lib.Seq.{take-suc}
use Rattle.chain.specs.declared.Bound.{Bound as Entry}
use Rattle.chain.specs.Clash.{bound_of, bounds_of, listed}

pub bounds_at : (list : List Entry) (k : ℕ) (z : Entry) → k < length list → Memᴰ (bound_of (get_or list k z)) (bounds_of list)
bounds_at [] k z h = absurd (omega arith)
bounds_at (b ∷ bs) zero z h = Memᴰ.head refl
bounds_at (b ∷ bs) (suc k) z h = Memᴰ.tail (bounds_at bs k z (omega arith))

pub listed_next : (list : List Entry) (m : ℕ) (z : Entry) → m < length list → listed list (suc m) ≡ listed list m ++ (bound_of (get_or list m z) ∷ [])
listed_next list m z h = rw (take-suc list m z h) (map-append bound_of (take m list) (get_or list m z ∷ []))
