-- The run of a grade in a wish's levels: document 01, section 4, and the ends of a wish's bounds (T-04).
use Rattle.std.specs.Prelude.{ℕ, zero, suc, List, [], ◌∷◌, Bool, cond, leb}

-- the place of the first level of at least y; the length where there is none
abbrev pub run_first : ℕ → List ℕ → ℕ
run_first y [] = 0
run_first y (x ∷ xs) = let r = suc (run_first y xs) in cond (leb y x) 0 r

-- one past that place in a list, by whether its head is such a level and by the same of the others
abbrev pub past_of : Bool → ℕ → ℕ
past_of b zero = cond b 1 0
past_of b (suc n) = suc (suc n)

-- one past the place of the last level of at least y; 0 where there is none
abbrev pub run_past : ℕ → List ℕ → ℕ
run_past y [] = 0
run_past y (x ∷ xs) = past_of (leb y x) (run_past y xs)
