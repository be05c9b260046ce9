-- A row of times as a list: the times of the events from one on.
use mathlib.Core.Path.{◌≡◌, refl, ap, ◌∙◌}
use mathlib.Core.List.{List, [], ◌∷◌}
use Prim.Native.Nat.{ℕ, zero, suc, ◌+◌, ◌<◌}
use native.Mathlib.Nat.{le_of_suc-le-suc, not-suc-le-zero}
use native.Mathlib.Omega.{arith}
use lib.ListN.{length}
use lib.IntN.{ℤ}
use Rattle.meaning.specs.Plan.{Times}
use Rattle.meaning.specs.Outcome.{at}

-- the times of the events from e on, m of them
abbrev pub times_from : Times → ℕ → ℕ → List ℤ
times_from t e zero = []
times_from t e (suc m) = t e ∷ times_from t (suc e) m

pub times_count : (t : Times) (e m : ℕ) → length (times_from t e m) ≡ m
times_count t e zero = refl
times_count t e (suc m) = ap suc (times_count t (suc e) m)

pub times_at : (t : Times) (e m i : ℕ) → i < m → at (times_from t e m) i ≡ t (e + i)
times_at t e zero i h = absurd (not-suc-le-zero h)
times_at t e (suc m) zero h = ap t (omega arith)
times_at t e (suc m) (suc i) h = times_at t (suc e) m i (le_of_suc-le-suc h) ∙ ap t (omega arith)
