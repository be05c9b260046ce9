-- The one pass that decides whether levels are single-peaked, a step at a time.
use mathlib.Core.Path.{◌≡◌, refl, sym, ◌∙◌}
use mathlib.Core.Bool.{Bool, true, false, ◌&&◌, ◌||◌}
use mathlib.Core.List.{List, ◌∷◌}
use Prim.Native.Nat.{ℕ, ◌+◌, ◌≤◌, ◌<◌}
use native.Mathlib.Omega.{arith}
use borrow.Author.Tests.{ltb-true, ltb-false, le-leb, lt-leb}
use lib.Dec.{ltb}
use lib.ListN.{length, get_or, drop, drop_of_length-le}
use lib.Seq.{drop-cons}
use Rattle.std.proofs.Common.{add-one}
use Rattle.meaning.specs.Peak.{peaked, peaked_from}

up : (f : Bool) (x z : ℕ) (zs : List ℕ) → f && ltb x z ≡ true → peaked_from f x (z ∷ zs) ≡ false
up true x z zs e = rw (lt-leb z x (ltb-true x z e))
up false x z zs e = let n : ◌≡◌ {A = ℕ} 0 1 = cc in absurd (omega arith)

on : (f : Bool) (x z : ℕ) (zs : List ℕ) → f && ltb x z ≡ false → peaked_from f x (z ∷ zs) ≡ peaked_from (f || ltb z x) z zs
on true x z zs e = rw (le-leb z x (ltb-false x z e))
on false x z zs e = refl

pub peak_start : (ls : List ℕ) → peaked_from false 0 ls ≡ peaked ls
unfolding peaked
peak_start ls = refl

-- from the i-th level on, the pass gives what the whole gives
module _ (f : Bool) (x : ℕ) (ls : List ℕ) (i : ℕ) (e : peaked_from f x (drop i ls) ≡ peaked ls) where
  step : i < length ls → drop i ls ≡ get_or ls i 0 ∷ drop (i + 1) ls
  step h = rw add-one (drop-cons ls i 0 h)

  pub peak_up : i < length ls → f && ltb x (get_or ls i 0) ≡ true → false ≡ peaked ls
  peak_up h u = sym (up f x (get_or ls i 0) (drop (i + 1) ls) u) ∙ (rw (step h) at e)

  pub peak_on : i < length ls → f && ltb x (get_or ls i 0) ≡ false → peaked_from (f || ltb (get_or ls i 0) x) (get_or ls i 0) (drop (i + 1) ls) ≡ peaked ls
  peak_on h u = sym (on f x (get_or ls i 0) (drop (i + 1) ls) u) ∙ (rw (step h) at e)

  pub peak_end : length ls ≤ i → true ≡ peaked ls
  peak_end h = rw (drop_of_length-le ls {i = i} h) at e
