-- A run of digits while it is read, and digits by their number and the first of them.
use Prim.Native.Nat.{ℕ, ◌+◌, ◌-◌, ◌*◌, ◌^◌, ◌≤◌, ◌<◌}
use mathlib.Core.Path.{◌≡◌, refl}
use mathlib.Core.Bool.{◌&&◌}
use mathlib.Core.List.{List, [], ◌∷◌}
use native.Mathlib.Omega.{arith}
use native.Mathlib.Numerals.{add-one}
use borrow.Author.Tests.{le-leb}
use lib.Dec.{eqb, ltb}
use lib.ListN.{length, get_or, drop}
use lib.Seq.{drop-cons}
use Rattle.std.proofs.lemmas.Bool.Decides.{nat_tests}
use Rattle.meaning.specs.Reading.{run_from, leading_zero}
use Rattle.text.specs.Number.{run_stop}

-- before place i stand digits of the value v; the bytes from i on say what the whole run says, and stop where it stops
pub record Swept (s : List ℕ) (v i : ℕ) : Type 0 where
  pub size : v < 10 ^ i
  pub same_value : run_from v (drop i s) ≡ run_from 0 s
  pub same_stop : i + run_stop (drop i s) ≡ run_stop s

-- the byte at i is a digit
pub swept_more : {s : List ℕ} {v i : ℕ} → Swept s v i → i < length s → 48 ≤ get_or s i 0 → get_or s i 0 ≤ 57
    → Swept s (v * 10 + (get_or s i 0 - 48)) (i + 1)
swept_more {s} {v} {i} w h p q =
    let value = rw (drop-cons s i 0, le-leb 48 (get_or s i 0) p, le-leb (get_or s i 0) 57 q) at w.same_value in
    let stop = rw (drop-cons s i 0, le-leb 48 (get_or s i 0) p, le-leb (get_or s i 0) 57 q) at w.same_stop in
    record { size = rw add-one (omega (arith, w.size)); same_value = rw add-one value; same_stop = rw add-one (omega (arith, stop)) }

-- a leading zero, by the first byte and the length
pub leading_zero_is : (f : List ℕ) → leading_zero f ≡ (eqb (get_or f 0 0) 48 && ltb 1 (length f))
leading_zero_is [] = refl
leading_zero_is (x ∷ xs) = grind (arith, nat_tests)

pub ruleset digit_rules = (nat_tests, leading_zero_is)
