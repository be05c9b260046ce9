-- What `Entered` says of the matrix: it is closed, it stands for the rows of times that hold the bounds that were added too, and its entries are
-- weights of walks along the bounds before the one that could not be. Then the steps of the loop: one bound more that can be added, one that
-- cannot. What holds so far is `Entered` up to the place that comes next.
use mathlib.Core.Path.{◌≡◌, refl, sym, ◌∙◌}
use mathlib.Core.Logic.{◌↔◌}
use mathlib.Core.Bool.{Bool, true, false}
use mathlib.Core.List.{List, Memᴰ}
use Prim.Native.Nat.{ℕ, ◌+◌, ◌-◌, ◌≤◌, ◌<◌}
use lib.ListN.{length}
use native.Mathlib.Nat.{le_refl}
use native.Mathlib.Omega.{arith}
use borrow.Author.Count.{below_more}
use lib.IntN.{ℤ, pos, ◌+ℤ◌}
use lib.Signed.{le_z, ◌≤ℤ◌, ◌<ℤ◌}
use Rattle.ticks.proofs.Ticks.{ticks, sum, le_z_false}
use Rattle.meaning.specs.Plan.{Times}
use Rattle.meaning.specs.Bounds.{Holds}
use Rattle.meaning.specs.Distances.{Keeps, Meets, Clashes}
use Rattle.meaning.proofs.Distances.{same_set}
use Rattle.meaning.proofs.Walks.{Walks, walks_same}
use Rattle.distances.specs.Matrix.{at, Net}
use Rattle.distances.proofs.Net.{written_net}
use Rattle.distances.proofs.Rows.{changed_more}
use Rattle.chain.specs.declared.Bound.{Bound as Entry}
use Rattle.chain.specs.Clash.{listed, Fit}
use Rattle.chain.proofs.Lists.{bounds_at}
use Rattle.bounds.specs.Entries.{none, bound_at}
use Rattle.bounds.specs.Tried.{AddingOf, AddedOf, Trying, tightened, Entered, Stopped}
use Rattle.bounds.proofs.Tightened.{Addable, tightened_next, tightened_closed, tightened_below, tightened_keeps, tightened_walks}

-- ---- the matrix

-- a listed bound is between two of n events
trying_fit : {list : List Entry} {from n : ℕ} {d : List ℤ} → Trying list from n d → (k : ℕ) → k < length list → Fit n (bound_at list k)
trying_fit {list} asked k h = asked.given.fit (bound_at list k) (bounds_at list k none h)

module _ {list : List Entry} {from n r : ℕ} {d d' : List ℤ} (asked : Trying list from n d) (s : Entered list from n d d' r) where
  -- the bounds that were added could be
  addable : Addable list n (at d) from (r - from)
  addable = record {
    closed = asked.net.closed;
    inside = omega (arith, s.low, s.high);
    fit = λ j l. trying_fit asked (from + j) (omega (arith, s.high));
    met = λ j l. let e : (from + j) - from ≡ j = omega arith in rw e at (s.met (from + j) (omega arith) (omega (arith, s.low)));
  }

  -- it is closed, and no entry is above H if none was
  pub tried_net : {H : ℕ} → Net n H d → Net n H d'
  tried_net net =
      let m = r - from in
      written_net net s.changed (tightened_closed list n (at d) from m addable) (tightened_below list n (at d) from m addable net.below)

  -- it stands for the rows of times that hold the bounds from `from` up to r too
  pub tried_keeps : (t : Times) → Keeps n (at d') t ↔ (Keeps n (at d) t × ((k : ℕ) → from ≤ k → k < r → Holds t (bound_at list k)))
  tried_keeps t =
      let all = tightened_keeps list n (at d) from (r - from) addable t in (
        λ k. let b = all.0 (same_set s.changed.done k) in
            (b.0, λ i l h. let e : from + (i - from) ≡ i = omega arith in rw e at (b.1 (i - from) (omega arith))),
        λ k. same_set (λ i j p q. sym (s.changed.done i j p q)) (all.1 (k.0, λ j l. k.1 (from + j) (omega arith) (omega arith))),
      )

  -- its entries are weights of walks along the first r bounds
  pub tried_walks : Walks n (λ b. Memᴰ b (listed list from)) (at d) → Walks n (λ b. Memᴰ b (listed list r)) (at d')
  tried_walks W =
      let e : from + (r - from) ≡ r = omega (arith, s.low) in
      walks_same s.changed.done (rw e at (tightened_walks list n (at d) from (r - from) addable W))

-- bound r cannot be added to it
pub stopped_clashes : {list : List Entry} {from n r : ℕ} {d d' : List ℤ} → Trying list from n d → Stopped list from n d d' r → Clashes (bound_at list r) (at d')
stopped_clashes {list} {r = r} asked s =
    let f = trying_fit asked r s.inside in
    rw (s.entered.changed.done (bound_at list r).end (bound_at list r).start f.end f.start) s.clash

-- ---- one bound after the other

-- the answer of `add`
yes_meets : (x w : ℤ) → le_z (pos 0) (x +ℤ w) ≡ true → pos 0 ≤ℤ (x +ℤ w)
yes_meets x w e = record { le = rw e tt }

no_clashes : (x w : ℤ) → le_z (pos 0) (x +ℤ w) ≡ false → (x +ℤ w) <ℤ pos 0
no_clashes x w e = omega (ticks, le_z_false (pos 0) (x +ℤ w) e, sum x w)

-- before the first
pub entered_none : {list : List Entry} {from n : ℕ} {d : List ℤ} → from ≤ length list → Entered list from n d d from
entered_none {from = from} l =
    let e : from - from ≡ 0 = omega arith in
    record {
      low = le_refl from;
      high = l;
      met = λ k l h. absurd (omega arith);
      changed = rw e (record { long = refl; done = λ i j p q. refl; beside = λ i j p q l. refl; rest = λ k l. refl });
    }

module _ {list : List Entry} {from n k : ℕ} {d₀ d : List ℤ} (asked : Trying list from n d₀) (s : Entered list from n d₀ d k) (next : k < length list) where
  -- `add` may be asked for the next
  pub adding_next : AddingOf n (bound_at list k) d
  adding_next =
      let f = trying_fit asked k next in
      record { horizon = asked.horizon; net = tried_net asked s asked.net; from = f.start; to = f.end; weight = f.weight }

  -- the entry that decides whether it can be added
  decides : at d (bound_at list k).end (bound_at list k).start ≡ tightened list (at d₀) from (k - from) (bound_at list k).end (bound_at list k).start
  decides = let f = trying_fit asked k next in s.changed.done (bound_at list k).end (bound_at list k).start f.end f.start

  -- it can: one more is added
  pub entered_more : {d' : List ℤ} {r : Bool} → AddedOf n (bound_at list k) d d' r → r ≡ true → Entered list from n d₀ d' (k + 1)
  entered_more a e = record {
    low = omega (arith, s.low);
    high = omega arith;
    met = λ i l h. below_more (λ i. from ≤ i → Meets (bound_at list i) (tightened list (at d₀) from (i - from))) k (λ i h l. s.met i l h) (λ l. meets) i h l;
    changed =
        let f = trying_fit asked k next in
        rw (tightened_next list (at d₀) s.low)
        (changed_more (bound_at list k).start (bound_at list k).end (bound_at list k).weight s.changed f.start f.end (a.taken e));
  }
    where
      meets : Meets (bound_at list k) (tightened list (at d₀) from (k - from))
      meets = rw decides at (yes_meets (at d (bound_at list k).end (bound_at list k).start) (bound_at list k).weight (sym a.answer ∙ e))

  -- it cannot: nothing changes
  pub stopped_here : {d' : List ℤ} {r : Bool} → AddedOf n (bound_at list k) d d' r → r ≡ false → Stopped list from n d₀ d' k
  stopped_here a e =
      rw (a.refused e) (record {
        inside = next;
        entered = s;
        clash = rw decides at (no_clashes (at d (bound_at list k).end (bound_at list k).start) (bound_at list k).weight (sym a.answer ∙ e));
      })

-- at the end
pub entered_all : {list : List Entry} {from n k : ℕ} {d d' : List ℤ} → Entered list from n d d' k → length list ≤ k → Entered list from n d d' (length list)
entered_all {list} {k = k} s l =
    let e : k ≡ length list = omega (arith, s.high) in
    rw e at s
