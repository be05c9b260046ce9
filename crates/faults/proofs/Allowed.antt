-- A wish allows some distance exactly where the first level of at least the least one is found before the end.
use mathlib.Core.Path.{◌≡◌, refl}
use mathlib.Core.Bool.{Bool, true, false, not}
use mathlib.Core.List.{List, [], ◌∷◌}
use Prim.Native.Nat.{ℕ, ◌≤◌, ◌<◌}
use native.Mathlib.Omega.{arith}
use borrow.Author.Tests.{lt-ltb, le-ltb}
use lib.Dec.{ltb}
use lib.ListN.{length}
use Rattle.meaning.specs.Plan.{least_level}
use Rattle.meaning.specs.Run.{run_first}
use Rattle.meaning.specs.Reading.{all_zero}
use Rattle.meaning.proofs.Zeros.{zeros_first, other_first}
use Rattle.faults.specs.Faults.{allows_any}

pub allows_wish : (ls : List ℕ) → 1 ≤ length ls → allows_any ls ≡ not (all_zero ls)
allows_wish [] h = absurd (omega arith)
allows_wish (l ∷ ls) h = refl

pub found_allows : (ls : List ℕ) → 0 < length ls → ltb (run_first least_level ls) (length ls) ≡ allows_any ls
found_allows ls h = rw (allows_wish ls (omega arith)) (go (all_zero ls) refl)
  where
    go : (b : Bool) → all_zero ls ≡ b → ltb (run_first least_level ls) (length ls) ≡ not b
    go true z = le-ltb (run_first least_level ls) (length ls) (omega (arith, zeros_first ls z))
    go false z = lt-ltb (run_first least_level ls) (length ls) (other_first ls z)
