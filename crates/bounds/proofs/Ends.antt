-- How adding the plan's bounds ends: from the horizon alone, all of them give the matrix of the timetables, and the first that cannot be
-- added is broken, so that a chain is found.
use mathlib.Core.Path.{◌≡◌, sym, subst, ◌∙◌}
use mathlib.Core.Logic.{◌↔◌}
use mathlib.Core.List.{List, [], ◌∷◌, ◌++◌, map, Memᴰ}
use Prim.Native.Nat.{ℕ, ◌<◌}
use native.Mathlib.Nat.{not-suc-le-zero}
use native.Mathlib.Decide.{dec_lt}
use native.Mathlib.Omega.{arith}
use lib.ListN.{length, length-map}
use lib.IntN.{ℤ}
use Rattle.meaning.specs.Plan as M
use Rattle.meaning.specs.Plan.{Times, Timetable}
use Rattle.meaning.specs.Bounds.{Holds, Chain}
use Rattle.meaning.specs.Distances.{Keeps, Stands}
use Rattle.meaning.specs.Outcome.{over}
use Rattle.meaning.proofs.Bounds as B
use Rattle.meaning.proofs.Bounds.{given_horizon_upper, given_horizon_lower, timetable_holds, holds_timetable}
use Rattle.meaning.proofs.Distances.{Horizon}
use Rattle.meaning.specs.Faultless.{WithoutFault}
use Rattle.meaning.proofs.Walks.{Walks, walks_same, walks_horizon}
use Rattle.distances.specs.Matrix.{at, Net, Started}
use Rattle.distances.proofs.Net.{started_net, started_means}
use Rattle.chain.specs.declared.Bound.{Bound as Entry}
use Rattle.chain.specs.Clash.{listed, Broken, Found}
use Rattle.chain.proofs.Lists.{bounds_at}
use Rattle.chain.proofs.Lead.{broken, found_chain}
use Rattle.bounds.specs.declared.Bounds.{Bounds}
use Rattle.bounds.specs.Entries.{none, bound_at, held}
use Rattle.bounds.specs.Listed.{Listed, horizon_count}
use Rattle.bounds.specs.Tried.{Trying, Entered, Stopped}
use Rattle.bounds.proofs.Tries.{tried_net, tried_keeps, tried_walks, stopped_clashes}
use Rattle.bounds.proofs.Places.{place_of, upto_all, given_upto, listed_at, length_held, listed_horizon, held_given, given_held, held_fit}

-- ---- the plan without its records

abbrev bare : M.Plan → M.Plan
bare p = record { events = p.events; horizon = p.horizon; records = [] }

bare_timetable : (p : M.Plan) {t : Times} → Horizon p.events p.horizon t → Timetable (bare p) t
bare_timetable p h = record { origin = h.origin; within = λ e l. record { above = h.low l; below = h.high l }; keeps = λ k l. absurd (not-suc-le-zero l) }

timetable_horizon : {p : M.Plan} {t : Times} → Timetable p t → Horizon p.events p.horizon t
timetable_horizon h = record { origin = h.origin; low = λ {e} l. (h.within e l).above; high = λ {e} l. (h.within e l).below }

-- k codes of a chain of the plan are written
pub record Chained (p : M.Plan) (before : List ℕ) (k : ℕ) (after : List ℕ) : Type 0 where
  pub codes : List ℕ
  pub chain : Chain p codes
  pub counted : k ≡ length codes
  pub written : after ≡ over codes before

module _ {p : M.Plan} {b : Bounds} (w : WithoutFault p) (s : Listed p b) where
  -- the bounds, and the horizon's of them
  abbrev all : List Entry
  all = held b

  abbrev first : ℕ
  first = horizon_count p

  -- ---- the start
  module _ {d : List ℤ} (o : Started p.events p.horizon d) where
    pub start_net : Net p.events p.horizon d
    start_net = started_net o w.some w.most w.near

    pub start_keeps : {t : Times} → Keeps p.events (at d) t ↔ Horizon p.events p.horizon t
    start_keeps = started_means o w.some

    pub start_walks : Walks p.events (λ x. Memᴰ x (listed all first)) (at d)
    start_walks = walks_same o.start
        (rw (listed_horizon s) (walks_horizon p.events p.horizon (B.Given (bare p)) (given_horizon_upper (bare p)) (given_horizon_lower (bare p))))

    pub start_trying : Trying all first p.events d
    start_trying = record { horizon = p.horizon; net = start_net; given = held_fit s w; ordered = omega (arith, length_held s) }

    -- ---- all were added
    module _ {d' : List ℤ} (a : Entered all first p.events d d' (length all)) where
      pub all_net : Net p.events p.horizon d'
      all_net = tried_net start_trying a start_net

      all_into : {t : Times} → Timetable p t → Keeps p.events (at d') t
      all_into {t} h =
          let horizon = start_keeps.1 (timetable_horizon h) in
          (tried_keeps start_trying a t).1 (horizon, λ k l m. timetable_holds h (bound_at all k) (held_given s (bound_at all k) (bounds_at all k none m)))

      -- a bound stands before the records' or among them
      kept : {t : Times} → Keeps p.events (at d') t → (k : ℕ) → k < length all → Dec (k < first) → Holds t (bound_at all k)
      kept {t} h k m (yes l) = timetable_holds (bare_timetable p (start_keeps.0 ((tried_keeps start_trying a t).0 h).0)) (bound_at all k)
          (rw (listed_horizon s) at (listed_at all first k l m))
      kept {t} h k m (no l) = ((tried_keeps start_trying a t).0 h).1 k (omega arith) m

      all_from : {t : Times} → Keeps p.events (at d') t → Timetable p t
      all_from {t} h = holds_timetable w h.origin
          (λ x g. let q = place_of all x (given_held s x g) in subst (λ y. Holds t y) q.2 (kept h q.0 q.1 (dec_lt q.0 first)))

      pub all_stands : Stands p.events (at d') (Timetable p)
      all_stands = record { closed = all_net.closed; into = all_into; from = all_from }

    -- ---- one could not be
    pub clash_broken : {d' : List ℤ} {r : ℕ} → Stopped all first p.events d d' r → Broken (listed all r) (bound_at all r) d' p.events
    clash_broken {r = r} a =
        let asked = start_trying in
        let before = a.entered in
        broken (tried_net asked before start_net) (given_upto all (held_fit s w) a.inside) (tried_walks asked before start_walks) (stopped_clashes asked a)

  -- ---- the chain that is found
  pub found_chained : {before after : List ℕ} {r k : ℕ} → r < length all → Found (listed all r ++ (bound_at all r ∷ [])) before k after →
      Chained p before k after
  found_chained {r = r} h f =
      record {
        codes = map (λ x. x.code) f.steps;
        chain = found_chain w (λ x i. held_given s x (upto_all all r h x i)) f;
        counted = f.counted ∙ sym (length-map f.steps (λ x. x.code));
        written = f.written;
      }
