-- From what the parts of `settle` promise one another to the outcome of a plan.
use mathlib.Core.Path.{◌≡◌, refl, sym, ap, ◌∙◌}
use mathlib.Core.List.{List, [], ◌∷◌, ◌++◌}
use Prim.Native.Nat.{ℕ, ◌≤◌}
use native.Mathlib.Omega.{arith}
use lib.ListN.{length}
use lib.IntN.{ℤ, pos}
use Rattle.meaning.specs.Plan as M
use Rattle.meaning.specs.Plan.{most_events}
use Rattle.meaning.specs.Distances.{outermost}
use Rattle.meaning.specs.Outcome as O
use Rattle.meaning.specs.Outcome.{areas}
use Rattle.meaning.specs.Faultless.{WithoutFault}
use Rattle.meaning.proofs.Levels.{levels_count}
use Rattle.meaning.proofs.Solve.{outermost_solved}
use Rattle.scope.specs.declared.Side.{Side}
use Rattle.plan.specs.declared.Plan.{Plan}
use Rattle.plan.specs.Held.{recalled, InMemory}
use Rattle.distances.specs.declared.Matrix.{Matrix}
use Rattle.distances.specs.Matrix.{at, Started}
use Rattle.distances.specs.Sweep.{Swept}
use Rattle.distances.proofs.Sweep.{swept_written}
use Rattle.chain.specs.declared.Bound.{Bound as Entry}
use Rattle.chain.specs.Clash.{listed, Broken, Found}
use Rattle.bounds.specs.declared.Bounds.{Bounds}
use Rattle.bounds.specs.Entries as B
use Rattle.bounds.specs.Entries.{bound_at}
use Rattle.bounds.specs.Listed.{Listed, horizon_count}
use Rattle.bounds.specs.Tried.{Trying, Entered, Stopped}
use Rattle.ladder.specs.Climbed.{Ready, Climbed}
use Rattle.settle.specs.Settled.{Settled}
use Rattle.settle.specs.declared.Outcome.TheVariants as Out
use Rattle.bounds.proofs.Ends.{Chained, start_trying, all_net, all_stands, clash_broken, found_chained}

-- what stands before any bound of a record is added: the list of the bounds, and the matrix of the horizon alone
pub record Begun (p : M.Plan) (b : Bounds) (list : List Entry) (d : Matrix) : Type 0 where
  pub faultless : WithoutFault p
  pub bounds : Listed p b
  pub list_is : list ≡ B.held b
  pub events : d.events ≡ p.events
  pub started : Started p.events p.horizon d.entries

pub begun : {p : M.Plan} {h : Plan} {held : List ℕ} {b : Bounds} {list : List Entry} {d : Matrix} →
    recalled h held ≡ p → InMemory (recalled h held) h held →
    Listed p b → list ≡ B.held b → d.events ≡ h.events → Started h.events h.horizon d.entries → Begun p b list d
begun e m s l n o = record {
  faultless = rw e at m.faultless;
  bounds = s;
  list_is = l;
  events = n ∙ ap (λ (p : M.Plan). p.events) e;
  started = rw (ap (λ (p : M.Plan). p.events) e, ap (λ (p : M.Plan). p.horizon) e) at o;
}

module _ {p : M.Plan} {b : Bounds} {list : List Entry} {d : Matrix} (o : Begun p b list d) where
  pub settle_trying : Trying list b.horizon d.events d.entries
  settle_trying = rw (o.list_is, o.bounds.horizon, o.events) (start_trying o.faultless o.bounds o.started)

  -- a bound could not be added, and so a chain is found
  module _ {last : List ℤ} {m : ℕ} (a : Stopped list b.horizon d.events d.entries last m) where
    stopped : Stopped (B.held b) (horizon_count p) p.events d.entries last m
    stopped = rw (o.list_is, o.bounds.horizon, o.events) at a

    pub settle_broken : Broken (listed list m) (bound_at list m) last p.events
    settle_broken = rw o.list_is (clash_broken o.faultless o.bounds o.started stopped)

    pub settle_chained : {k : ℕ} {before after : List ℕ} → Found (listed list m ++ (bound_at list m ∷ [])) before k after → Chained p before k after
    settle_chained f = found_chained o.faultless o.bounds stopped.inside (rw o.list_is at f)

  -- all bounds were added
  pub settle_ready : {d' : Matrix} → d'.events ≡ d.events → Entered list b.horizon d.events d.entries d'.entries (length list) → Ready p d'
  settle_ready {d'} e a =
      let all : Entered (B.held b) (horizon_count p) p.events d.entries d'.entries (length (B.held b)) = rw (o.list_is, o.bounds.horizon, o.events) at a in
      record { events = e ∙ o.events; net = all_net o.faultless o.bounds o.started all; stands = all_stands o.faultless o.bounds o.started all }

pub chained_settled : {s : Side} {p : M.Plan} {before after : List ℕ} {k : ℕ} (ts : List ℤ) (ls : List ℕ) → Chained p before k after →
    Settled s p (areas ts ls before) (areas ts ls after) (Out.NoTimetable k)
chained_settled ts ls c = record {
  outcome = O.none c.codes;
  right = c.chain;
  numbered = refl;
  placed = c.counted;
  variant = refl;
  writes = ap (λ l. areas ts ls l) c.written;
}

-- ---- the times and the levels

module _ {p : M.Plan} {d d' : List ℤ} {before after : List ℕ} {r : ℕ} (w : WithoutFault p) (c : Climbed p d d' before after r) where
  pub climbed_settled : (s : Side) {n : ℕ} {ts ts' : List ℤ} (chain : List ℕ) → n ≡ p.events → most_events ≤ length ts →
      Swept (pos 0) ts ts' 0 n (outermost s (at d')) → Settled s p (areas ts before chain) (areas ts' after chain) (Out.Solved r)
  climbed_settled s chain e l f =
      let k = swept_written f (omega (arith, w.most)) in
      let o = outermost_solved s w.some c.stands c.levelled k.front (k.count ∙ e) (λ i q. k.entries i (omega arith)) in
      record {
        outcome = O.solved k.front c.grades;
        right = o;
        numbered = refl;
        placed = c.count ∙ sym (levels_count p (O.at k.front)) ∙ sym (ap length o.levelled);
        variant = refl;
        writes = λ i. areas (k.over_old i) (c.written i) chain;
      }
