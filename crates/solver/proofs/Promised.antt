-- What follows for every caller from the promise of `solve` and `solve_on`: one answer only, what the two sides have in common, the three demands, the
-- known plans, and that idle versions are excluded (document 01, section 9). What is shown of every call that keeps the promise stands in `meaning`.
use mathlib.Core.Path.{◌≡◌, sym, ap₂, ◌∙◌}
use mathlib.Core.Logic.{◌⊎◌, inl, inr}
use mathlib.Core.Bool.{true}
use mathlib.Core.List.{List, Memᴰ}
use Prim.Native.Nat.{ℕ, ◌≤◌, ◌<◌}
use lib.Signed.{◌≤ℤ◌}
use Rattle.std.specs.Prelude.{Result}
use Rattle.meaning.specs.Plan.{Plan, Times, Timetable}
use Rattle.meaning.specs.Bounds.{Chain}
use Rattle.meaning.specs.Outcome.{number, place, at, Areas, long_enough}
use Rattle.meaning.specs.Numbers.{solved_number, no_timetable_number, wrong_form_number}
use Rattle.meaning.specs.Reading.{read}
use Rattle.meaning.specs.Short.{ShortIn}
use Rattle.meaning.specs.Known.{Known, bytes, table}
use Rattle.meaning.specs.Demands.{Call, OnPlan, codes, Demand1, Demand2, Demand3, Optimal, ButTimes, Agree, Ended}
use Rattle.meaning.proofs.Promises.{one_promise, sides_agree}
use Rattle.meaning.proofs.Demands.{demand_1, demand_2, demand_3, optimal}
use Rattle.meaning.proofs.Idle.{known_plans, refuses_no_plan, counts_steps}
use Rattle.meaning.proofs.Short.{none_short}
use Rattle.scope.specs.declared.Side.{Side}
use Rattle.scope.specs.declared.Side.TheVariants.{Latest, Earliest}
use Rattle.scope.specs.declared.Refusal.{Refusal}
use Rattle.plan.specs.declared.Plan.{Plan as Memory}
use Rattle.settle.specs.Settled.{Answer as Found, number_of, place_of, named}
use Rattle.solver.specs.Solves.{ReadInto, Solves}

-- ---- one answer only

-- two answers to one text and side and the same areas: equal but for the chain and its number of steps
pub record OneAnswer (x y : Areas) (q r : Found) : Type 0 where
  pub times : x.times ≡ y.times
  pub levels : x.levels ≡ y.levels
  pub rest : ((number_of q ≡ no_timetable_number) × (number_of r ≡ no_timetable_number)) ⊎ ((q ≡ r) × (x.chain ≡ y.chain))

pub one_answer : {s : Side} {text : List ℕ} {before x y : Areas} {q r : Found} → Solves s text before x q → Solves s text before y r → OneAnswer x y q r
one_answer {x = x} {y} {q} {r} a b = go (one_promise a.promise b.promise)
  where
    go : Agree x y (number_of q) (number_of r) (place_of q) (place_of r) → OneAnswer x y q r
    go g = record { times = g.times; levels = g.others.levels; rest = by g.others.rest }
      where
        by : (number_of q ≡ no_timetable_number) ⊎ ((place_of q ≡ place_of r) × (x.chain ≡ y.chain)) →
            ((number_of q ≡ no_timetable_number) × (number_of r ≡ no_timetable_number)) ⊎ ((q ≡ r) × (x.chain ≡ y.chain))
        by (inl e) = inl (e, sym g.others.numbers ∙ e)
        by (inr e) = inr (a.variant ∙ ap₂ named g.others.numbers e.0 ∙ sym b.variant, e.1)

-- the same for what the reader said of a text
pub one_outcome_of : {s : Side} {text held : List ℕ} {said : Result Memory Refusal} {before x y : Areas} {q r : Found} → ReadInto text held said →
    ((t : List ℕ) → ReadInto t held said → Solves s t before x q) → ((t : List ℕ) → ReadInto t held said → Solves s t before y r) → OneAnswer x y q r
one_outcome_of {text} h a b = one_answer (a text h) (b text h)

-- ---- asking for the earliest changes nothing but the times, and no time becomes greater

pub solve_sides : {text : List ℕ} {before x y : Areas} {q r : Found} → Solves Latest text before x q → Solves Earliest text before y r →
    ButTimes x y (number_of q) (number_of r) (place_of q) (place_of r) × ((e : ℕ) → at y.times e ≤ℤ at x.times e)
solve_sides {text} {before} {x} {y} {q} {r} a b =
    sides_agree text before x y (number_of q) (number_of r) (place_of q) (place_of r) a.promise b.promise

-- ---- the demands, for what `solve` and `solve_on` return

module _ (side : Side) (text : List ℕ) (before after : Areas) (r : Found) (s : Solves side text before after r) where
  -- what was given, and what came of it
  abbrev call : Call
  call = record { side = side; text = text; before = before; after = after; number = number_of r; place = place_of r }

  pub solve_demand_1 : Demand1 call
  solve_demand_1 = demand_1 call s.promise

  -- a text that is a plan, in areas that are long enough
  module _ (p : Plan) (h : OnPlan call p) where
    pub solve_demand_2 : Demand2 call p
    solve_demand_2 = demand_2 call p h s.promise

    pub solve_demand_3 : Demand3 call p
    solve_demand_3 = demand_3 call p h s.promise

    pub solve_optimal : Optimal call p
    solve_optimal = optimal call p h s.promise

    -- never refused; solved where there is a timetable
    pub solve_refuses_none : (number_of r < wrong_form_number) × ((t : Times) → Timetable p t → number_of r ≡ solved_number)
    solve_refuses_none = refuses_no_plan call p h s.promise

    -- the steps are those of a chain, 2 to n
    pub solve_counts_steps : number_of r ≡ no_timetable_number → (2 ≤ place_of r) × (place_of r ≤ p.events) × Chain p (codes call)
    solve_counts_steps = counts_steps call p h s.promise

    -- and what `timetable_ticks_short` says of them is 1 or more
    pub solve_falls_short : number_of r ≡ no_timetable_number → {ticks : ℕ} → ShortIn (read text) (codes call) ticks → 1 ≤ ticks
    solve_falls_short e f = none_short call s.promise e p h (rw h.reads at f)

  -- a known plan ends as the table says, its chain too
  pub solve_known : (k : Known) → Memᴰ k table → text ≡ bytes k.text → long_enough before ≡ true →
      Ended call (k.outcome side) × (r ≡ named (number (k.outcome side)) (place (k.outcome side)))
  solve_known k m e l = let x = known_plans k m call e l s.promise in (x, s.variant ∙ ap₂ named x.numbered x.placed)
