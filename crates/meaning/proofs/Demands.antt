-- Every call that keeps the promise meets the three demands: by what the promise says of a text that is a plan, and of one that is not.
use mathlib.Core.Path.{◌≡◌, refl, sym, ap, subst, ◌∙◌}
use mathlib.Core.Logic.{◌↔◌}
use mathlib.Core.Bool.{Bool, true, false, cond, ◌&&◌}
use mathlib.Core.List.{List}
use Prim.Native.Nat.{ℕ, ◌≤◌}
use native.Mathlib.Omega.{arith}
use mir.Facts.{and_yes}
use lib.Dec.{T, leb, leb→le}
use lib.ListN.{length, take, drop, length-map}
use lib.IntN.{ℤ}
use Rattle.meaning.specs.Plan.{Plan, Times, Timetable, most_events, most_records}
use Rattle.meaning.specs.Reading.{Reading, plan, refused, read}
use Rattle.meaning.specs.Bounds.{Chain}
use Rattle.meaning.specs.Outcome.{Outcome, solved, none, refusal, number, place, at, Solved, Right, Areas, long_enough, heard, over, written}
use Rattle.meaning.specs.Faultless.{WithoutFault}
use Rattle.meaning.specs.Demands.{Call, Kept, OnPlan, times, grades, codes, FrontOnly, Demand1, EveryText, Demand2, Demand3, Optimal, AnyTwoAgree}
use Rattle.meaning.proofs.Over.{over_long, over_front, over_behind}
use Rattle.meaning.proofs.Levels.{levels_count}
use Rattle.meaning.proofs.Bounds.{timetable_holds}
use Rattle.meaning.proofs.Wishes.{wishes_few}
use Rattle.meaning.proofs.ReadGood.{read_faultless}
use Rattle.meaning.proofs.Refusals.{refused_number}
use Rattle.meaning.proofs.Fair.{best_fair, best_pareto, best_highest}
use Rattle.meaning.proofs.Chains.{chain_excludes}
use Rattle.meaning.proofs.Promises.{some_outcome, one_promise}
use Rattle.meaning.specs.Numbers.{area_too_short_number, nothing_allowed_number}

-- ---- written over the front of an area

module _ {A : Type 0} (new old : List A) {after : List A} (k : ℕ) (e : after ≡ over new old) (l : k ≡ length new) where
  pub front : take k after ≡ new
  front = ap (λ x. take k x) e ∙ over_front new old k l

  front_only : length new ≤ length old → FrontOnly k old after
  front_only few = record { long = ap length e ∙ over_long new old few; rest = ap (λ x. drop k x) e ∙ over_behind new old k l }

-- ---- areas that are long enough

pub record LongEnough (a : Areas) : Type 0 where
  pub for_times : most_events ≤ length a.times
  pub for_levels : most_records ≤ length a.levels
  pub for_chain : most_events ≤ length a.chain

pub long_areas : (a : Areas) → long_enough a ≡ true → LongEnough a
long_areas a e =
    let x = and_yes (leb most_events (length a.times) && leb most_records (length a.levels)) (leb most_events (length a.chain)) (subst T (sym e) tt) in
    let y = and_yes (leb most_events (length a.times)) (leb most_records (length a.levels)) x.0 in
    record {
      for_times = leb→le most_events (length a.times) y.0;
      for_levels = leb→le most_records (length a.levels) y.1;
      for_chain = leb→le most_events (length a.chain) x.1;
    }

-- ---- a call is on a plan, or its text or an area is refused

data Came (c : Call) : Type 0 where
  on_plan : (p : Plan) → OnPlan c p → Came c
  turned_down : 2 ≤ c.number → c.number ≤ nothing_allowed_number → heard c.before c.text ≡ refused c.number c.place → c.after ≡ c.before → Came c

came : (c : Call) → Kept c → Came c
came c k = go (long_enough c.before) refl (read c.text) refl k.outcome k.right k.numbered k.placed k.writes
  where
    go : (b : Bool) → long_enough c.before ≡ b → (r : Reading) → read c.text ≡ r → (o : Outcome) →
        Right c.side (cond b r (refused area_too_short_number 0)) o → c.number ≡ number o → c.place ≡ place o → c.after ≡ written o c.before → Came c
    go true l (plan p) e o x n q w = on_plan p (record { reads = e; long = l })
    go true l (refused m i) e (solved ts ls) x n q w = absurd x
    go true l (refused m i) e (none cs) x n q w = absurd x
    go true l (refused m i) e (refusal h j) x n q w =
        let f = refused_number c.text e in
        turned_down (omega (arith, f.low, x.0)) (omega (arith, f.high, x.0)) (rw (l, e, n ∙ x.0, q ∙ x.1)) w
    go false l r e (solved ts ls) x n q w = absurd x
    go false l r e (none cs) x n q w = absurd x
    go false l r e (refusal h j) x n q w = turned_down (omega (arith, x.0)) (omega (arith, x.0)) (rw (l, n ∙ x.0, q ∙ x.1)) w

-- ---- a call on a plan: solved, or no timetable

pub data Result (c : Call) (p : Plan) : Type 0 where
  with_times : (ts : List ℤ) (ls : List ℕ) → Solved c.side p ts ls → c.number ≡ 0 → c.place ≡ length ls → c.after ≡ written (solved ts ls) c.before →
      Result c p
  with_chain : (cs : List ℕ) → Chain p cs → c.number ≡ 1 → c.place ≡ length cs → c.after ≡ written (none cs) c.before → Result c p

module _ (c : Call) (p : Plan) (h : OnPlan c p) where
  good : WithoutFault p
  good = read_faultless c.text h.reads

  long : LongEnough c.before
  long = long_areas c.before h.long

  pub result : Kept c → Result c p
  result k =
      let e : heard c.before c.text ≡ plan p = ap (λ b. cond b (read c.text) (refused area_too_short_number 0)) h.long ∙ h.reads in
      go k.outcome (subst (λ r. Right c.side r k.outcome) e k.right) k.numbered k.placed k.writes
    where
      go : (o : Outcome) → Right c.side (plan p) o → c.number ≡ number o → c.place ≡ place o → c.after ≡ written o c.before → Result c p
      go (solved ts ls) x n l w = with_times ts ls x n l w
      go (none cs) x n l w = with_chain cs x n l w
      go (refusal i j) x n l w = absurd x

  -- the times and levels that are written are those of a solved plan
  pub solved_call : Kept c → c.number ≡ 0 → Solved c.side p (times c p) (grades c)
  solved_call k z = go (result k)
    where
      go : Result c p → Solved c.side p (times c p) (grades c)
      go (with_times ts ls x n l w) =
          let e : times c p ≡ ts = front ts c.before.times p.events (ap (λ a. a.times) w) (sym x.count) in
          let f : grades c ≡ ls = front ls c.before.levels c.place (ap (λ a. a.levels) w) l in
          rw (e, f) x
      go (with_chain cs x n l w) = absurd (omega arith)

  -- the codes that are written are those of a chain
  pub none_call : Kept c → c.number ≡ 1 → Chain p (codes c)
  none_call k z = go (result k)
    where
      go : Result c p → Chain p (codes c)
      go (with_times ts ls x n l w) = absurd (omega arith)
      go (with_chain cs x n l w) = rw (front cs c.before.chain c.place (ap (λ a. a.chain) w) l) x

  -- what is written has room
  times_room : {ts : List ℤ} {ls : List ℕ} → Solved c.side p ts ls → length ts ≤ length c.before.times
  times_room x = omega (arith, x.count, good.most, long.for_times)

  levels_room : {ts : List ℤ} {ls : List ℕ} → Solved c.side p ts ls → length ls ≤ length c.before.levels
  levels_room {ts} x = omega (arith, ap length x.levelled, levels_count p (at ts), wishes_few p.records, good.few, long.for_levels)

  chain_room : {cs : List ℕ} → Chain p cs → length cs ≤ length c.before.chain
  chain_room x = omega (arith, ap length x.coded, length-map x.steps (λ b. b.code), x.most, good.most, long.for_chain)

-- ---- demand 1

pub demand_1 : (c : Call) → Kept c → Demand1 c
demand_1 c k = by (came c k)
  where
    one_plan : {p q : Plan} → OnPlan c p → OnPlan c q → p ≡ q
    one_plan h g = let e = h.reads in let f = g.reads in cc

    go : (p : Plan) → OnPlan c p → Result c p → Demand1 c
    go p h (with_times ts ls x n l w) = record {
      numbered = omega arith;
      reason = λ r. absurd (omega arith);
      untouched = λ r. absurd (omega arith);
      planned = λ r. (p, h);
      solved = λ z q g. (
        front_only ts c.before.times q.events (ap (λ a. a.times) w) (ap (λ r. r.events) (one_plan g h) ∙ sym x.count) (times_room c p h x),
        front_only ls c.before.levels c.place (ap (λ a. a.levels) w) l (levels_room c p h x),
        ap (λ a. a.chain) w,
      );
      none = λ o. absurd (omega arith);
    }
    go p h (with_chain cs x n l w) = record {
      numbered = omega arith;
      reason = λ r. absurd (omega arith);
      untouched = λ r. absurd (omega arith);
      planned = λ r. (p, h);
      solved = λ z q g. absurd (omega arith);
      none = λ o. (ap (λ a. a.times) w, ap (λ a. a.levels) w, front_only cs c.before.chain c.place (ap (λ a. a.chain) w) l (chain_room c p h x));
    }

    by : Came c → Demand1 c
    by (on_plan p h) = go p h (result c p h k)
    by (turned_down l h r e) = record {
      numbered = h;
      reason = λ _. r;
      untouched = λ _. e;
      planned = λ r. absurd (omega arith);
      solved = λ z. absurd (omega arith);
      none = λ o. absurd (omega arith);
    }

pub every_text : EveryText
every_text s text before =
    let x = some_outcome s before text in
    (written x.0 before, number x.0, place x.0, record { outcome = x.0; right = x.1; numbered = refl; placed = refl; writes = refl })

-- ---- demands 2 and 3

module _ (c : Call) (p : Plan) (h : OnPlan c p) (k : Kept c) where
  exactly : Result c p → (c.number ≡ 1) ↔ ((t : Times) → Timetable p t → ⊥)
  exactly (with_times ts ls x n l w) = (λ o. absurd (omega arith), λ f. absurd (f (at ts) x.best.member))
  exactly (with_chain cs x n l w) = (λ o t. chain_excludes x, λ f. n)

  pub demand_2 : Demand2 c p
  demand_2 = record {
    keeps = λ z. timetable_holds (solved_call c p h k z).best.member;
    exactly = exactly (result c p h k);
    clash = none_call c p h k;
    best = λ z. (solved_call c p h k z).best;
    levelled = λ z. (solved_call c p h k z).levelled;
    furthest = λ z. (solved_call c p h k z).furthest;
  }

  pub demand_3 : Demand3 c p
  demand_3 z t m j l up =
      let s = solved_call c p h k z in
      rw s.levelled ((best_fair (good c p h) s.best).fair t m j l (rw s.levelled at up))

  pub optimal : Optimal c p
  optimal = record {
    pareto = λ z. best_pareto (good c p h) (solved_call c p h k z).best;
    highest = λ z. best_highest (good c p h) (solved_call c p h k z).best;
  }

-- ---- any two agree

pub any_two_agree : AnyTwoAgree
any_two_agree s text before x y n m a b p q = one_promise p q
