-- Single-peaked levels: document 01, section 4.
use Rattle.std.specs.Prelude.{ℕ, ◌≤◌, ◌<◌, List, [], ◌∷◌, Bool, true, false, cond, leb, ltb, length, get_or}
use Rattle.meaning.specs.Plan.{top_level}

-- for each grade y from 1 to 15 the distances at level y or more are one unbroken run, or none
pub record SinglePeaked (ls : List ℕ) : Type 0 where
  pub unbroken : (y : ℕ) → 1 ≤ y → y ≤ top_level → (i j k : ℕ) → i ≤ j → j ≤ k → k < length ls → y ≤ get_or ls i 0 → y ≤ get_or ls k 0 → y ≤ get_or ls j 0

-- the test that decides it: never up again after it went down (its first argument says that it did, x was the last level)
abbrev pub peaked_from : Bool → ℕ → List ℕ → Bool
peaked_from _ x [] = true
peaked_from true x (z ∷ zs) = let r = peaked_from true z zs in cond (leb z x) r false
peaked_from false x (z ∷ zs) = peaked_from (ltb z x) z zs

unfoldable pub peaked : List ℕ → Bool
peaked ls = peaked_from false 0 ls
