-- What the reader says of a text and a lent area: its plan in memory, or its first fault and the line of it.
use Rattle.std.specs.Prelude.{◌≡◌, cond, List, ℕ, ◌+◌, ◌≤◌, ◌<◌, leb, length, get_or, Result, Ok, Err}
use Rattle.meaning.specs.Plan as M
use Rattle.meaning.specs.Plan.{most_levels_together}
use Rattle.meaning.specs.Reading as R
use Rattle.meaning.specs.Reading.{Reading, Step, plan, refused, taken, fault, empty}
use Rattle.meaning.specs.Numbers.{area_too_short_number}
use Rattle.scope.specs.declared.Fault.{Fault}
use Rattle.scope.specs.declared.Refusal.{Refusal}
use Rattle.scope.specs.Faults.{number}
use Rattle.plan.specs.declared.Plan.{Plan}
use Rattle.plan.specs.Held.{Holds, LevelsHeld}
use Rattle.faults.specs.declared.SoFar.{SoFar}
use Rattle.line.specs.Lines.{Room}

-- an area too short comes first, at place 0; then the text
abbrev pub heard : List ℕ → List ℕ → Reading
heard area text = cond (leb most_levels_together (length area)) (R.read text) (refused area_too_short_number 0)

-- the plan whose levels are left in the area: the empty one after a refusal
abbrev pub plan_in : Reading → M.Plan
plan_in (plan p) = p
plan_in (refused k line) = empty

-- the answer to a reading: the image of its plan, or the fault of its number and its line
abbrev pub Told : Reading → Result Plan Refusal → Type 0
Told (plan p) (Ok h) = Holds p h
Told (plan p) (Err r) = ⊥
Told (refused k line) (Ok h) = ⊥
Told (refused k line) (Err r) = (number r.fault ≡ k) × (r.line ≡ line)

-- the answer says the reading, and the area has the levels of its plan; an area too short is not written
pub record Read (text before after : List ℕ) (r : Result Plan Refusal) : Type 0 where
  pub told : Told (heard before text) r
  pub short : length before < most_levels_together → after ≡ before
  pub levels : most_levels_together ≤ length before → LevelsHeld (plan_in (heard before text)) before after

-- ---- the parts of the reader

-- two areas are the same past the place of the last possible level
abbrev pub SameAbove : List ℕ → List ℕ → Type 0
SameAbove before after = (i : ℕ) → most_levels_together ≤ i → get_or after i 0 ≡ get_or before i 0

abbrev pub so_far : Plan → SoFar
so_far h = record { events = h.events; records = h.count; levels = h.used }

-- before line `line` the plan read so far is p, and it stands in memory; `before` is the area as it was lent
pub record Standing (line : ℕ) (p : M.Plan) (h : Plan) (before area : List ℕ) : Type 0 where
  pub one : 1 ≤ line
  pub holds : Holds p h
  pub held : LevelsHeld p before area
  pub start : line ≡ 1 → p ≡ empty
  pub room : Room (so_far h)

-- what line `line` does to it: the plan that follows stands there, or it has this fault
abbrev pub Stepped : Step → ℕ → List ℕ → Plan → List ℕ → Result (Unit {0}) Fault → Type 0
Stepped (taken q) line before h area (Ok _) = Standing (line + 1) q h before area
Stepped (taken q) line before h area (Err f) = ⊥
Stepped (fault k) line before h area (Ok _) = ⊥
Stepped (fault k) line before h area (Err f) = (number f ≡ k) × SameAbove before area

-- what the lines of a text give: their plan stands in memory, or they have this first fault
abbrev pub Walked : Reading → List ℕ → Plan → List ℕ → Result (Unit {0}) Refusal → Type 0
Walked (plan p) before h after (Ok _) = Holds p h × LevelsHeld p before after
Walked (plan p) before h after (Err r) = ⊥
Walked (refused k line) before h after (Ok _) = ⊥
Walked (refused k line) before h after (Err r) = (number r.fault ≡ k) × (r.line ≡ line) × SameAbove before after
