-- Closed distances: how the solver holds a set of timetables. D i j bounds t(j) − t(i) from above.
use Rattle.std.specs.Prelude.{◌≡◌, cond, ℕ, ◌<◌, eqb, ℤ, pos, neg_ℤ, ◌+ℤ◌, ◌≤ℤ◌, ◌<ℤ◌}
use Rattle.ticks.specs.Min.{min_z}
use Rattle.meaning.specs.Plan.{Times}
use Rattle.meaning.specs.Bounds.{Bound}
use Rattle.scope.specs.declared.Side.{Side}
use Rattle.scope.specs.declared.Side.TheVariants.{Latest, Earliest}

abbrev pub Distances : Type 0
Distances = ℕ → ℕ → ℤ

pub record Closed (n : ℕ) (D : Distances) : Type 0 where
  pub diag : {i : ℕ} → i < n → D i i ≡ pos 0
  pub tri : {i j k : ℕ} → i < n → j < n → k < n → D i k ≤ℤ (D i j +ℤ D j k)

-- t is one of the timetables that D stands for
pub record Keeps (n : ℕ) (D : Distances) (t : Times) : Type 0 where
  pub origin : t 0 ≡ pos 0
  pub kept : {i j : ℕ} → i < n → j < n → t j ≤ℤ (t i +ℤ D i j)

-- the rows of times that D stands for are those of X
pub record Stands (n : ℕ) (D : Distances) (X : Times → Type 0) : Type 0 where
  pub closed : Closed n D
  pub into : {t : Times} → X t → Keeps n D t
  pub from : {t : Times} → Keeps n D t → X t

-- ---- one more bound

-- D with the bound t(b) − t(a) ≤ w
abbrev pub added : Distances → ℕ → ℕ → ℤ → Distances
added D a b w i j = min_z (D i j) ((D i a +ℤ w) +ℤ D b j)

-- D' is that, among n events
pub record Adds (n a b : ℕ) (w : ℤ) (D D' : Distances) : Type 0 where
  pub at : {i j : ℕ} → i < n → j < n → D' i j ≡ added D a b w i j

-- the same of a bound of document 01
abbrev pub added_bound : Bound → Distances → Distances
added_bound β D = added D β.start β.end β.weight

-- it can be added: some timetable is left
abbrev pub Meets : Bound → Distances → Type 0
Meets β D = pos 0 ≤ℤ (D β.end β.start +ℤ β.weight)

-- it cannot
abbrev pub Clashes : Bound → Distances → Type 0
Clashes β D = (D β.end β.start +ℤ β.weight) <ℤ pos 0

-- ---- the horizon, and the two ends

-- no entry is above H
pub record Below (n H : ℕ) (D : Distances) : Type 0 where
  pub hi : {i j : ℕ} → i < n → j < n → D i j ≤ℤ pos H

-- only the horizon is known
unfoldable pub horizon_only : ℕ → Distances
horizon_only H i j = cond (eqb j 0) (pos 0) (cond (eqb i j) (pos 0) (pos H))

-- the greatest times of the timetables that D stands for, or the least
abbrev pub outermost : Side → Distances → Times
outermost Latest D e = D 0 e
outermost Earliest D e = neg_ℤ (D e 0)
