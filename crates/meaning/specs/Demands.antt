-- The three demands, that any two results agree, and the five idle versions of document 01, section 9, as statements about one call of the solver.
-- In quotation marks the words of the customer. Each is shown for every call that keeps the promise (proofs/Demands, proofs/Idle).
use Rattle.std.specs.Prelude.{◌≡◌, ◌↔◌, ◌⊎◌, true, ℕ, ◌≤◌, ◌<◌, length, take, drop, ℤ, ◌≤ℤ◌}
use mathlib.Core.List.{List, [], ◌∷◌, Memᴰ}
use Prim.Native.String.{String}
use Rattle.meaning.specs.Plan.{Plan, Times, Timetable, levels, wishes}
use Rattle.meaning.specs.Reading.{plan, refused, read}
use Rattle.meaning.specs.Bounds.{Bound, Holds, bounds, Chain}
use Rattle.meaning.specs.Ladder.{lv, Loss, Pareto, Highest}
use Rattle.meaning.specs.Numbers.{nothing_allowed_number}
use Rattle.meaning.specs.Outcome.{Outcome, number, place, at, BestTimes, AsFar, Areas, long_enough, heard, written, Promise}
use Rattle.meaning.specs.Known.{Known, bytes, case_5_text, case_5_raised_text, case_6_text, table}
use Rattle.scope.specs.declared.Side.{Side}
use Rattle.scope.specs.declared.Side.TheVariants.{Latest, Earliest}

-- what a call was given, and what came of it
pub record Call : Type 0 where
  pub side : Side
  pub text : List ℕ
  pub before : Areas
  pub after : Areas
  pub number : ℕ
  pub place : ℕ

abbrev pub Kept : Call → Type 0
Kept c = Promise c.side c.text c.before c.after c.number c.place

-- the text is the plan p, and the areas are long enough
pub record OnPlan (c : Call) (p : Plan) : Type 0 where
  pub reads : read c.text ≡ plan p
  pub long : long_enough c.before ≡ true

-- what stands in the areas afterwards: a time for each event, a level for each wish, the codes of the chain
abbrev pub times : Call → Plan → List ℤ
times c p = take p.events c.after.times

abbrev pub grades : Call → List ℕ
grades c = take c.place c.after.levels

abbrev pub codes : Call → List ℕ
codes c = take c.place c.after.chain

-- ---- demand 1: "every text, damaged or huge, gets a result or a numbered refusal and nothing in the caller's memory changes but what is promised"

-- nothing changed but the first k entries
pub record FrontOnly {A : Type 0} (k : ℕ) (before after : List A) : Type 0 where
  pub long : length after ≡ length before
  pub rest : drop k after ≡ drop k before

pub record Demand1 (c : Call) : Type 0 where
  pub numbered : c.number ≤ nothing_allowed_number
  -- "each has its condition in section 3", and it is the first in its order
  pub reason : 2 ≤ c.number → heard c.before c.text ≡ refused c.number c.place
  pub untouched : 2 ≤ c.number → c.after ≡ c.before
  -- a result comes only for a plan
  pub planned : c.number < 2 → (p : Plan) × OnPlan c p
  pub solved : c.number ≡ 0 → (p : Plan) → OnPlan c p →
      FrontOnly p.events c.before.times c.after.times × FrontOnly c.place c.before.levels c.after.levels
      × (c.after.chain ≡ c.before.chain)
  pub none : c.number ≡ 1 →
      (c.after.times ≡ c.before.times) × (c.after.levels ≡ c.before.levels) × FrontOnly c.place c.before.chain c.after.chain

-- there is an outcome for every text and all areas
abbrev pub EveryText : Type 0
EveryText = (s : Side) (text : List ℕ) (before : Areas) → (after : Areas) × (no at : ℕ) × Promise s text before after no at

-- ---- demand 2: the times keep every bound; "'no timetable' comes exactly when none exists, with a closed chain of bounds that clash; the levels are
-- those of the ladder, the times the latest (or earliest, when asked) that have them"

pub record Demand2 (c : Call) (p : Plan) : Type 0 where
  pub keeps : c.number ≡ 0 → (b : Bound) → Memᴰ b (bounds p) → Holds (at (times c p)) b
  pub exactly : (c.number ≡ 1) ↔ ((t : Times) → Timetable p t → ⊥)
  pub clash : c.number ≡ 1 → Chain p (codes c)
  pub best : c.number ≡ 0 → BestTimes p (at (times c p))
  pub levelled : c.number ≡ 0 → grades c ≡ levels p (at (times c p))
  -- T-02: "the latest, or the earliest when asked"
  pub furthest : c.number ≡ 0 → (u : Times) → BestTimes p u → (e : ℕ) → e < p.events → AsFar c.side (at (times c p) e) (u e)

-- ---- demand 3: "Take a solved plan and any other timetable that keeps all bounds. If it lifts one wish above the level we returned, then some other
-- wish has a level in it that is below that wish's returned one and no higher than the returned level of the lifted wish."

abbrev pub Demand3 : Call → Plan → Type 0
Demand3 c p =
    c.number ≡ 0 → (t : Times) → Timetable p t → (k : ℕ) → k < wishes p → lv (grades c) k < lv (levels p t) k →
    Loss (wishes p) k (grades c) (levels p t)

-- "It also gives Pareto optimality and the greatest least level"
pub record Optimal (c : Call) (p : Plan) : Type 0 where
  pub pareto : c.number ≡ 0 → Pareto (Timetable p) (levels p) (wishes p) (at (times c p))
  pub highest : c.number ≡ 0 → Highest (Timetable p) (levels p) (wishes p) (at (times c p))

-- ---- "Any two outcomes that satisfy it are proved equal. The chosen chain is an exception"

-- what two calls on the same text and areas agree on, whatever side each asks for
pub record ButTimes (x y : Areas) (no mo at bt : ℕ) : Type 0 where
  pub numbers : no ≡ mo
  pub levels : x.levels ≡ y.levels
  pub rest : (no ≡ 1) ⊎ ((at ≡ bt) × (x.chain ≡ y.chain))

-- and where both ask for the same
pub record Agree (x y : Areas) (no mo at bt : ℕ) : Type 0 where
  pub others : ButTimes x y no mo at bt
  pub times : x.times ≡ y.times

abbrev pub AnyTwoAgree : Type 0
AnyTwoAgree = (s : Side) (text : List ℕ) (before x y : Areas) (no mo at bt : ℕ) → Promise s text before x no at → Promise s text before y mo bt →
    Agree x y no mo at bt

-- T-02: asking for the earliest changes nothing but the times, and no time becomes greater
abbrev pub SidesAgree : Type 0
SidesAgree = (text : List ℕ) (before x y : Areas) (no mo i j : ℕ) → Promise Latest text before x no i → Promise Earliest text before y mo j →
    ButTimes x y no mo i j × ((e : ℕ) → at y.times e ≤ℤ at x.times e)

-- ---- "Case 2 and the starred cases are one table with a single statement that covers it"

-- the call ended in this outcome, and nothing else was written
pub record Ended (c : Call) (o : Outcome) : Type 0 where
  pub numbered : c.number ≡ number o
  pub placed : c.place ≡ place o
  pub writes : c.after ≡ written o c.before

abbrev pub KnownPlans : Type 0
KnownPlans = (k : Known) → Memᴰ k table → (c : Call) → c.text ≡ bytes k.text → long_enough c.before ≡ true → Kept c →
    Ended c (k.outcome c.side)

-- ---- "Five idle versions have to be excluded"

-- "One that refuses all plans": a plan in areas long enough is never refused, and a plan with a timetable is solved
abbrev pub RefusesNoPlan : Type 0
RefusesNoPlan = (c : Call) (p : Plan) → OnPlan c p → Kept c → (c.number < 2) × ((t : Times) → Timetable p t → c.number ≡ 0)

-- "One with a fixed reply": no areas are right afterwards for every text
abbrev pub NoFixedReply : Type 0
NoFixedReply = (s : Side) (before after : Areas) → long_enough before ≡ true → ¬ ((text : List ℕ) → (no at : ℕ) × Promise s text before after no at)

-- "One that writes nothing"
abbrev pub WritesSomething : Type 0
WritesSomething = (s : Side) (before : Areas) → long_enough before ≡ true → ¬ ((text : List ℕ) → (no at : ℕ) × Promise s text before before no at)

-- a text does not end with these levels
abbrev pub NeverEndsAt : String → List ℕ → Type 0
NeverEndsAt text g = (c : Call) → c.text ≡ bytes text → long_enough c.before ≡ true → Kept c → ¬ (grades c ≡ g)

-- "One that climbs the first grade only and keeps the rest: demand 3, case 6"; section 8, "Stopping at the greatest least level: case 6 ends at 1, 1"
abbrev pub ClimbsOn : Type 0
ClimbsOn = NeverEndsAt case_6_text (1 ∷ 1 ∷ [])

-- section 8, "Letting the first wish climb as far as it can: case 5 ends at 5, 0". Since T-04 level 0 is not allowed there, so that the same is said with
-- every level one higher
abbrev pub ClimbsTogether : Type 0
ClimbsTogether = NeverEndsAt case_5_text (5 ∷ 0 ∷ []) × NeverEndsAt case_5_raised_text (6 ∷ 1 ∷ [])

-- "One that invents the step count: demand 2, through section 5"
abbrev pub CountsSteps : Type 0
CountsSteps = (c : Call) (p : Plan) → OnPlan c p → Kept c → c.number ≡ 1 → (2 ≤ c.place) × (c.place ≤ p.events) × Chain p (codes c)
