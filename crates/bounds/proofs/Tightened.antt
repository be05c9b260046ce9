-- Distances with bounds added one after the other, each where some timetable is left: they stay closed and within the horizon, they stand for
-- the rows of times that hold those bounds too, and each entry stays the weight of a walk. By induction over the number of bounds that were added.
use mathlib.Core.Path.{◌≡◌, refl, sym, subst}
use mathlib.Core.Logic.{◌↔◌}
use mathlib.Core.List.Memᴰ
use mathlib.Core.List.{List, [], ◌∷◌, ◌++◌, Memᴰ}
use Prim.Native.Nat.{ℕ, zero, suc, ◌+◌, ◌-◌, ◌≤◌, ◌<◌}
use native.Mathlib.Nat.{not-suc-le-zero, add-suc}
use native.Mathlib.Omega.{arith}
use borrow.Author.Count.{below_more}
use lib.ListN.{length}
use Rattle.meaning.specs.Plan.{Times}
use Rattle.meaning.specs.Distances.{Distances, Closed, Keeps, Below, added_bound, Meets}
use Rattle.meaning.specs.Bounds.{Holds}
use Rattle.meaning.proofs.Distances.{adds_closed, adds_below, adds_keeps, adds_old, adds_new}
use Rattle.meaning.proofs.Stands.{AddsBound, added_adds}
use Rattle.meaning.proofs.Walks.{Walks, walks_wider, walks_add}
use Rattle.chain.specs.declared.Bound.{Bound as Entry}
use Rattle.chain.specs.Clash.{listed, Fit}
use Rattle.chain.proofs.Lists.{listed_next}
use Rattle.bounds.specs.Entries.{none, bound_at}
use Rattle.bounds.specs.Tried.{tightened}

-- ---- one after the other

-- the bound at place k is added last
pub tightened_next : (list : List Entry) (D : Distances) {from k : ℕ} → from ≤ k →
    tightened list D from ((k + 1) - from) ≡ added_bound (bound_at list k) (tightened list D from (k - from))
tightened_next list D {from} {k} h =
    let e : (k + 1) - from ≡ suc (k - from) = omega arith in
    let f : from + (k - from) ≡ k = omega arith in
    rw (e, f)

-- the m bounds from place `from` on stand in the list, each between two of n events, and can be added to the closed distances D
pub record Addable (list : List Entry) (n : ℕ) (D : Distances) (from m : ℕ) : Type 0 where
  pub closed : Closed n D
  pub inside : from + m ≤ length list
  pub fit : (j : ℕ) → j < m → Fit n (bound_at list (from + j))
  pub met : (j : ℕ) → j < m → Meets (bound_at list (from + j)) (tightened list D from j)

module _ (list : List Entry) (n : ℕ) (D : Distances) (from : ℕ) where
  -- with m of them added
  abbrev after : ℕ → Distances
  after m = tightened list D from m

  -- the last of them left out
  fewer : {m : ℕ} → Addable list n D from (suc m) → Addable list n D from m
  fewer s = record { closed = s.closed; inside = omega (arith, s.inside); fit = λ j l. s.fit j (omega arith); met = λ j l. s.met j (omega arith) }

  -- the last of them
  added_last : (m : ℕ) → AddsBound n (bound_at list (from + m)) (after m) (after (suc m))
  added_last m = added_adds n (bound_at list (from + m)) (after m)

  last_fit : {m : ℕ} → Addable list n D from (suc m) → Fit n (bound_at list (from + m))
  last_fit {m} s = s.fit m (omega arith)

  -- closed, since each of them leaves a timetable
  pub tightened_closed : (m : ℕ) → Addable list n D from m → Closed n (after m)
  tightened_closed zero s = s.closed
  tightened_closed (suc m) s = adds_closed (tightened_closed m (fewer s)) (last_fit s).start (last_fit s).end (added_last m) (s.met m (omega arith))

  -- no entry is above H, if none was
  pub tightened_below : {H : ℕ} (m : ℕ) → Addable list n D from m → Below n H D → Below n H (after m)
  tightened_below zero s b = b
  tightened_below (suc m) s b = adds_below (tightened_closed m (fewer s)) (last_fit s).start (last_fit s).end (added_last m) (tightened_below m (fewer s) b)

  -- it stands for the rows of times of D that hold these bounds
  pub tightened_keeps : (m : ℕ) → Addable list n D from m → (t : Times) →
      Keeps n (after m) t ↔ (Keeps n D t × ((j : ℕ) → j < m → Holds t (bound_at list (from + j))))
  tightened_keeps zero s t = (λ k. (k, λ j l. absurd (not-suc-le-zero l)), λ k. k.0)
  tightened_keeps (suc m) s t =
      let before = tightened_keeps m (fewer s) t in
      let c = tightened_closed m (fewer s) in
      let f = last_fit s in
      let e = added_last m in (
        λ k. let b = before.0 (adds_old c f.start f.end e k) in
            (b.0, λ j l. below_more (λ j. Holds t (bound_at list (from + j))) m b.1 (adds_new c f.start f.end e k) j (omega arith)),
        λ k. adds_keeps c f.start f.end e (before.1 (k.0, λ j l. k.1 j (omega arith))) (k.1 m (omega arith)),
      )

  -- its entries are weights of walks along the bounds up to the last that was added
  pub tightened_walks : (m : ℕ) → Addable list n D from m →
      Walks n (λ b. Memᴰ b (listed list from)) D → Walks n (λ b. Memᴰ b (listed list (from + m))) (after m)
  tightened_walks zero s W = let e : from + 0 ≡ from = omega arith in rw e W
  tightened_walks (suc m) s W =
      let β = bound_at list (from + m) in
      let next : listed list (from + suc m) ≡ listed list (from + m) ++ (β ∷ []) = rw add-suc (listed_next list (from + m) none (omega (arith, s.inside))) in
      subst (λ bs. Walks n (λ b. Memᴰ b bs) (after (suc m))) (sym next)
      (walks_add (tightened_closed m (fewer s)) (walks_wider (λ b i. Memᴰ.append_left (β ∷ []) i) (tightened_walks m (fewer s) W))
      (last_fit s).start (last_fit s).end (Memᴰ.append_right (listed list (from + m)) (Memᴰ.head refl)) (added_last m) (s.met m (omega arith)))
