-- Levels that are all 0: they have no run at the least level, and they are single-peaked. By the list.
use mathlib.Core.Path.{◌≡◌, refl}
use mathlib.Core.Bool.{true, false, not}
use mathlib.Core.List.{List, [], ◌∷◌}
use Prim.Native.Nat.{ℕ, zero, suc, ◌≤◌, ◌<◌}
use native.Mathlib.Omega.{arith}
use borrow.Author.Tests.{eqb-true, not-true}
use lib.Dec.{eqb}
use lib.ListN.{length, get_or}
use Rattle.meaning.specs.Plan.{least_level}
use Rattle.meaning.specs.Peak.{peaked}
use Rattle.meaning.specs.Run.{run_first}
use Rattle.meaning.specs.Reading.{all_zero}
use Rattle.meaning.proofs.Tests.{both}
use Rattle.meaning.proofs.Runs.{run_is, first_found}

first_zero : (l : ℕ) (ls : List ℕ) → all_zero (l ∷ ls) ≡ true → (l ≡ 0) × (all_zero ls ≡ true)
first_zero l ls e =
    let t = both (eqb l 0) (all_zero ls) e in
    (eqb-true l 0 t.0, t.1)

-- the run is looked for up to the end exactly where all are 0
pub zeros_first : (ls : List ℕ) → all_zero ls ≡ true → run_first least_level ls ≡ length ls
zeros_first [] e = refl
zeros_first (l ∷ ls) e = let t = first_zero l ls e in rw (t.0, zeros_first ls t.1)

pub other_first : (ls : List ℕ) → all_zero ls ≡ false → run_first least_level ls < length ls
other_first [] e = let z : ◌≡◌ {A = ℕ} 0 1 = cc in absurd (omega arith)
other_first (zero ∷ ls) e = omega (arith, other_first ls e)
other_first (suc l ∷ ls) e = omega (arith, first_found least_level (suc l) ls (omega arith))

-- so that some level is allowed where not all are 0: the first one found
pub some_allowed : (ls : List ℕ) → not (all_zero ls) ≡ true → (i : ℕ) × (least_level ≤ get_or ls i 0)
some_allowed ls e = (run_first least_level ls, (run_is least_level (omega arith) ls).starts (other_first ls (not-true _ e)))

-- hence 6 and 8 are never the fault of one wish
pub zeros_peaked : (ls : List ℕ) → all_zero ls ≡ true → peaked ls ≡ true
unfolding peaked
zeros_peaked [] e = refl
zeros_peaked (l ∷ ls) e = let t = first_zero l ls e in rw t.0 (zeros_peaked ls t.1)
