-- The first, the last and any entry of a part of a list.
use Prim.Native.Nat.{ℕ, suc, ◌+◌, ◌-◌, ◌≤◌, ◌<◌}
use mathlib.Core.Path.{◌≡◌, ap, ◌∙◌}
use mathlib.Core.List.{List, [], ◌∷◌, ◌++◌}
use native.Mathlib.Numerals.{add-one}
use native.Mathlib.Omega.{arith}
use lib.ListN.{length, get_or, drop, take}
use lib.Seq.{slice, slice-cons, get_or-drop, get_or-take, take-suc, drop-append-le, length-take-le}

pub slice_step : (s : List ℕ) (i e : ℕ) → i < e → e ≤ length s → slice i e s ≡ get_or s i 0 ∷ slice (i + 1) e s
slice_step s i e h k = rw add-one (slice-cons i e s 0 h k)

pub slice_last : (s : List ℕ) (i e : ℕ) → i < e → e ≤ length s → slice i e s ≡ slice i (e - 1) s ++ (get_or s (e - 1) 0 ∷ [])
slice_last s i e h k =
    let z : e ≡ suc (e - 1) = omega arith in
    ap (λ (n : ℕ). slice i n s) z ∙ ap (drop i) (take-suc s (e - 1) 0 (omega arith))
    ∙ drop-append-le i (take (e - 1) s) _ (omega (arith, length-take-le (e - 1) s (omega arith)))

pub slice_at : (s : List ℕ) (i e j : ℕ) → i + j < e → get_or (slice i e s) j 0 ≡ get_or s (i + j) 0
slice_at s i e j h = get_or-drop i _ j 0 ∙ get_or-take e s (i + j) 0 h
