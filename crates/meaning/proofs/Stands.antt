-- A closed matrix stands for a set of rows of times. One bound more is one `Adds` more, and a plan's timetables come about from the
-- horizon by two bounds for each record; where a bound cannot be added, no row of times is left.
use mathlib.Core.Path.{refl}
use mathlib.Core.Logic.{◌↔◌}
use Prim.Native.Nat.{ℕ, suc, ◌<◌}
use native.Mathlib.Omega.{arith}
use lib.ListN.{length}
use Rattle.ticks.proofs.Ticks.{ticks}
use Rattle.meaning.specs.Plan.{Plan, record_at, Times, Timetable}
use Rattle.meaning.specs.Bounds.{Bound, upper, lower, Holds}
use Rattle.meaning.specs.Faultless.{WithoutFault}
use Rattle.meaning.specs.Distances.{Distances, Stands, Adds, added_bound, Meets, Clashes, horizon_only, outermost}
use Rattle.meaning.proofs.Distances.{adds_closed, adds_keeps, adds_old, adds_new, start_closed, start_means, means_start, outermost_holds}
use Rattle.scope.specs.declared.Side.{Side}
use Rattle.meaning.proofs.Bounds.{Placed, UpTo, up_to_none, up_to_next, up_to_less, up_to_upper, up_to_lower, up_to_all, timetable_up_to}

pub stands_same : {n : ℕ} {D : Distances} {X Y : Times → Type 0} → Stands n D X → ((t : Times) → X t ↔ Y t) → Stands n D Y
stands_same s f = record { closed = s.closed; into = λ {t} y. s.into ((f t).1 y); from = λ {t} k. (f t).0 (s.from k) }

-- X with the bound β
abbrev pub With : Bound → (Times → Type 0) → Times → Type 0
With β X t = X t × Holds t β

-- β added to D gives D'
abbrev pub AddsBound : ℕ → Bound → Distances → Distances → Type 0
AddsBound n β D D' = Adds n β.start β.end β.weight D D'

pub added_adds : (n : ℕ) (β : Bound) (D : Distances) → AddsBound n β D (added_bound β D)
added_adds n β D = record { at = λ p q. refl }

module _ {n : ℕ} {β : Bound} {D : Distances} {X : Times → Type 0} (s : Stands n D X) (l : Placed n β) where
  pub stands_adds : {D' : Distances} → AddsBound n β D D' → Meets β D → Stands n D' (With β X)
  stands_adds a m = record {
    closed = adds_closed s.closed l.starts l.ends a m;
    into = λ y. adds_keeps s.closed l.starts l.ends a (s.into y.0) y.1;
    from = λ k. (s.from (adds_old s.closed l.starts l.ends a k), adds_new s.closed l.starts l.ends a k);
  }

  pub stands_none : Clashes β D → (t : Times) → With β X t → ⊥
  stands_none m t x = omega (ticks, (s.into x.0).kept l.ends l.starts, x.1)

-- the greatest times of X are times of X, and so are the least
pub stands_outermost : (s : Side) {n : ℕ} {D : Distances} {X : Times → Type 0} → 0 < n → Stands n D X → X (outermost s D)
stands_outermost s z x = x.from (outermost_holds s x.closed z)

-- ---- a plan's timetables, record by record: horizon, then the upper and the lower bound of record k

module _ (p : Plan) where
  pub stands_horizon : 0 < p.events → Stands p.events (horizon_only p.horizon) (UpTo p 0)
  stands_horizon z = record { closed = start_closed p.events p.horizon; into = λ u. means_start u.inside; from = λ k. up_to_none (start_means z k) }

  pub stands_next : {k : ℕ} {D : Distances} → Stands p.events D (With (lower k (record_at p k)) (With (upper k (record_at p k)) (UpTo p k))) →
      Stands p.events D (UpTo p (suc k))
  stands_next s = stands_same s (λ t. (λ y. up_to_next y.0.0 y.0.1 y.1, λ u. ((up_to_less u, up_to_upper u), up_to_lower u)))

  pub stands_all : WithoutFault p → {D : Distances} → Stands p.events D (UpTo p (length p.records)) → Stands p.events D (Timetable p)
  stands_all w s = stands_same s (λ t. (up_to_all w, λ h. timetable_up_to h (length p.records) (omega arith)))
