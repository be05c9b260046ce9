-- A plan without fault has a timetable or a chain, never both: bound by bound the matrix is kept together with its walks, and the first
-- bound that cannot be added closes a chain.
use mathlib.Core.Logic.{◌⊎◌, inl, inr, ⊎_map}
use mathlib.Core.List.{List}
use Prim.Native.Nat.{ℕ, zero, suc, ◌≤◌}
use native.Mathlib.Omega.{arith}
use lib.ListN.{length}
use lib.IntN.{pos, ◌+ℤ◌}
use Rattle.ticks.proofs.Ticks as K
use Rattle.meaning.specs.Plan.{Plan, record_at, Times, Timetable}
use Rattle.meaning.specs.Bounds.{Bound, upper, lower, Chain}
use Rattle.meaning.specs.Distances.{horizon_only, outermost, Distances, Stands, added_bound, Meets, Clashes}
use Rattle.meaning.specs.Faultless.{WithoutFault}
use Rattle.meaning.proofs.Bounds.{Given, bound_placed, given_upper, given_lower, given_horizon_upper, given_horizon_lower, UpTo}
use Rattle.scope.specs.declared.Side.TheVariants.{Latest}
use Rattle.meaning.proofs.Stands.{With, AddsBound, added_adds, stands_adds, stands_outermost, stands_horizon, stands_next, stands_all}
use Rattle.meaning.proofs.Walks.{Walks, walks_add, walks_horizon}
use Rattle.meaning.proofs.Chains.{some_chain, clash_loop}

-- D stands for the rows of times in X, and each entry is the weight of a walk along bounds of the plan
pub record Held (p : Plan) (D : Distances) (X : Times → Type 0) : Type 0 where
  pub stands : Stands p.events D X
  pub walks : Walks p.events (Given p) D

abbrev pub SomeChain : Plan → Type 0
SomeChain p = (codes : List ℕ) × Chain p codes

module _ {p : Plan} (w : WithoutFault p) where
  pub held_horizon : Held p (horizon_only p.horizon) (UpTo p 0)
  held_horizon = record {
    stands = stands_horizon p w.some;
    walks = walks_horizon p.events p.horizon (Given p) (given_horizon_upper p) (given_horizon_lower p);
  }

  module _ {D : Distances} {X : Times → Type 0} {β : Bound} (h : Held p D X) (g : Given p β) where
    pub held_adds : {D' : Distances} → AddsBound p.events β D D' → Meets β D → Held p D' (With β X)
    held_adds a m =
        let l = bound_placed p w β g in
        record { stands = stands_adds h.stands l a m; walks = walks_add h.stands.closed h.walks l.starts l.ends g a m }

    pub held_clash : Clashes β D → SomeChain p
    held_clash m = let l = bound_placed p w β g in some_chain w (clash_loop h.walks l.starts l.ends g m).1

  pub held_next : {k : ℕ} {D : Distances} → Held p D (With (lower k (record_at p k)) (With (upper k (record_at p k)) (UpTo p k))) → Held p D (UpTo p (suc k))
  held_next h = record { stands = stands_next p h.stands; walks = h.walks }

  pub held_all : {D : Distances} → Held p D (UpTo p (length p.records)) → Held p D (Timetable p)
  held_all h = record { stands = stands_all p w h.stands; walks = h.walks }

  -- ---- all of them

  abbrev Or : (Times → Type 0) → Type 0
  Or X = ((D : Distances) × Held p D X) ⊎ SomeChain p

  one_bound : {X : Times → Type 0} {β : Bound} → Given p β → Or X → Or (With β X)
  one_bound g (inr c) = inr c
  one_bound {X} {β} g (inl (D, h)) = go (K.total (pos 0) (D β.end β.start +ℤ β.weight))
    where
      go : Meets β D ⊎ Clashes β D → Or (With β X)
      go (inl m) = inl (added_bound β D, held_adds h g (added_adds p.events β D) m)
      go (inr m) = inr (held_clash h g m)

  records_held : (k : ℕ) → k ≤ length p.records → Or (UpTo p k)
  records_held zero l = inl (horizon_only p.horizon, held_horizon)
  records_held (suc k) l =
      ⊎_map (λ x. (x.0, held_next x.1)) (λ c. c)
      (one_bound (given_lower p k l) (one_bound (given_upper p k l) (records_held k (omega arith))))

  -- a matrix for the timetables, or a chain
  pub plan_held : ((D : Distances) × Held p D (Timetable p)) ⊎ SomeChain p
  plan_held = ⊎_map (λ x. (x.0, held_all x.1)) (λ c. c) (records_held (length p.records) (omega arith))

  -- never both: see `chain_excludes`
  pub timetable_or_chain : ((t : Times) × Timetable p t) ⊎ SomeChain p
  timetable_or_chain = ⊎_map (λ x. (outermost Latest x.0, stands_outermost Latest w.some x.1.stands)) (λ c. c) plan_held
