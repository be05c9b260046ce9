-- Bounds that are added one after the other, up to the first that leaves no timetable.
use Rattle.std.specs.Prelude.{Bool, List, ℕ, zero, suc, ◌+◌, ◌-◌, ◌≤◌, ◌<◌, ℤ, length, ⊤, Result, MatchResult}
use Rattle.meaning.specs.Bounds.{Bound}
use Rattle.meaning.specs.Distances.{Distances, added_bound, Meets, Clashes}
use Rattle.distances.specs.Matrix.{at, Net, Changed, Adding, Added}
use Rattle.chain.specs.declared.Bound.{Bound as Entry}
use Rattle.chain.specs.Clash.{bounds_of, Given}
use Rattle.bounds.specs.Entries.{bound_at}

-- what `Matrix::add` asks and promises, of a bound
abbrev pub AddingOf : ℕ → Bound → List ℤ → Type 0
AddingOf n β d = Adding n β.start β.end β.weight d

abbrev pub AddedOf : ℕ → Bound → List ℤ → List ℤ → Bool → Type 0
AddedOf n β d d' r = Added n β.start β.end β.weight d d' r

-- a closed matrix of n events, and a list of bounds between two of them
pub record Trying (list : List Entry) (from n : ℕ) (d : List ℤ) : Type 0 where
  pub horizon : ℕ
  pub net : Net n horizon d
  pub given : Given (bounds_of list) n
  pub ordered : from ≤ length list

-- D with the m bounds from place `from` on added, one after the other
abbrev pub tightened : List Entry → Distances → ℕ → ℕ → Distances
tightened list D from zero = D
tightened list D from (suc m) = added_bound (bound_at list (from + m)) (tightened list D from m)

-- the bounds from place `from` up to r were added; beside the n × n entries in use nothing changed
pub record Entered (list : List Entry) (from n : ℕ) (d d' : List ℤ) (r : ℕ) : Type 0 where
  pub low : from ≤ r
  pub high : r ≤ length list
  pub met : (k : ℕ) → from ≤ k → k < r → Meets (bound_at list k) (tightened list (at d) from (k - from))
  pub changed : Changed n n d d' (tightened list (at d) from (r - from))

-- and bound r could not be
pub record Stopped (list : List Entry) (from n : ℕ) (d d' : List ℤ) (r : ℕ) : Type 0 where
  pub inside : r < length list
  pub entered : Entered list from n d d' r
  pub clash : Clashes (bound_at list r) (tightened list (at d) from (r - from))

-- all were added, or those before the first that could not be
abbrev pub Tried : List Entry → ℕ → ℕ → List ℤ → List ℤ → Result ⊤ ℕ → Type 0
Tried list from n d d' r = MatchResult r (λ _. Entered list from n d d' (length list)) (λ k. Stopped list from n d d' k)
