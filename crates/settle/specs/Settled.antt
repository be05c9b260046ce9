-- The outcome as document 01 numbers it, and the outcome of a plan in memory.
use Rattle.std.specs.Prelude.{◌≡◌, Result, Ok, Err, ℕ, zero, suc}
use Rattle.meaning.specs.Plan as M
use Rattle.meaning.specs.Reading.{plan}
use Rattle.meaning.specs.Outcome as O
use Rattle.meaning.specs.Outcome.{Areas, Right, number, place, written}
use Rattle.meaning.specs.Numbers.{solved_number, no_timetable_number}
use Rattle.scope.specs.declared.Side.{Side}
use Rattle.scope.specs.declared.Refusal.{Refusal}
use Rattle.scope.specs.Faults as F
use Rattle.settle.specs.declared.Outcome.{Outcome}
use Rattle.settle.specs.declared.Outcome.TheVariants.{Solved, NoTimetable}

-- what a text comes to: an outcome of its plan, or a refusal
abbrev pub Answer : Type 0
Answer = Result Outcome Refusal

-- the number and the place of section 3
abbrev pub number_of : Answer → ℕ
number_of (Ok (Solved w)) = solved_number
number_of (Ok (NoTimetable steps)) = no_timetable_number
number_of (Err refused) = F.number refused.fault

abbrev pub place_of : Answer → ℕ
place_of (Ok (Solved w)) = w
place_of (Ok (NoTimetable steps)) = steps
place_of (Err refused) = refused.line

-- the same of any refusal, by what it says
abbrev pub number_by : {E : Type 0} → (E → ℕ) → Result Outcome E → ℕ
number_by said (Ok (Solved w)) = solved_number
number_by said (Ok (NoTimetable steps)) = no_timetable_number
number_by said (Err refused) = said refused

abbrev pub place_by : {E : Type 0} → (E → ℕ) → Result Outcome E → ℕ
place_by said (Ok (Solved w)) = w
place_by said (Ok (NoTimetable steps)) = steps
place_by said (Err refused) = said refused

-- the answer that a number and a place name
abbrev pub named : ℕ → ℕ → Answer
named zero w = Ok (Solved w)
named (suc zero) steps = Ok (NoTimetable steps)
named (suc (suc k)) line = Err (record { fault = F.named (suc (suc k)); line = line })

-- an outcome that is right for the plan and the side, and what it writes
pub record Settled (s : Side) (p : M.Plan) (before after : Areas) (r : Outcome) : Type 0 where
  pub outcome : O.Outcome
  pub right : Right s (plan p) outcome
  pub numbered : number_of (Ok r) ≡ number outcome
  pub placed : place_of (Ok r) ≡ place outcome
  pub variant : Ok r ≡ named (number_of (Ok r)) (place_of (Ok r))
  pub writes : after ≡ written outcome before
