-- The outcome and what is written: document 01, section 3, and T-02: the side that is asked for. `Promise` is what the solver promises of every text and all
-- areas.
use Rattle.std.specs.Prelude.{◌≡◌, List, ◌++◌, Bool, cond, ◌&&◌, leb, ℕ, ◌<◌, length, drop, get_or, ℤ, pos, ◌≤ℤ◌}
use Rattle.meaning.specs.Plan.{Plan, Times, Timetable, levels, wishes, most_events, most_records}
use Rattle.meaning.specs.Ladder.{questions, Best}
use Rattle.meaning.specs.Bounds.{Chain}
use Rattle.meaning.specs.Reading.{Reading, plan, refused, read}
use Rattle.meaning.specs.Numbers.{solved_number, no_timetable_number, area_too_short_number}
use Rattle.scope.specs.declared.Side.{Side}
use Rattle.scope.specs.declared.Side.TheVariants.{Latest, Earliest}

-- ---- what an outcome says

pub data Outcome : Type 0 where
  solved : (times : List ℤ) (levels : List ℕ) → Outcome
  none : (chain : List ℕ) → Outcome
  refusal : (number place : ℕ) → Outcome

abbrev pub number : Outcome → ℕ
number (solved ts ls) = solved_number
number (none cs) = no_timetable_number
number (refusal n l) = n

-- the count of wishes; the count of chain steps; the line
abbrev pub place : Outcome → ℕ
place (solved ts ls) = length ls
place (none cs) = length cs
place (refusal n l) = l

-- ---- which outcome is right

-- a best timetable: one than which none is better on the ladder
abbrev pub BestTimes : Plan → Times → Type 0
BestTimes p t = Best (Timetable p) (levels p) (questions (wishes p)) t

abbrev pub at : List ℤ → Times
at ts e = get_or ts e (pos 0)

-- on the side that is asked for, the time x is as far out as y: no earlier, or no later
abbrev pub AsFar : Side → ℤ → ℤ → Type 0
AsFar Latest x y = y ≤ℤ x
AsFar Earliest x y = x ≤ℤ y

-- among the best timetables the one with the greatest time for each event, or the least where the earliest are asked for, and its levels
pub record Solved (s : Side) (p : Plan) (times : List ℤ) (ls : List ℕ) : Type 0 where
  pub count : length times ≡ p.events
  pub best : BestTimes p (at times)
  pub levelled : ls ≡ levels p (at times)
  pub furthest : (u : Times) → BestTimes p u → (e : ℕ) → e < p.events → AsFar s (at times e) (u e)

abbrev pub Right : Side → Reading → Outcome → Type 0
Right s (plan p) (solved ts ls) = Solved s p ts ls
Right s (plan p) (none cs) = Chain p cs
Right s (plan p) (refusal n l) = ⊥
Right s (refused m k) (solved ts ls) = ⊥
Right s (refused m k) (none cs) = ⊥
Right s (refused m k) (refusal n l) = (n ≡ m) × (l ≡ k)

-- ---- the caller's areas

pub record Areas : Type 0 where
  pub times : List ℤ
  pub levels : List ℕ
  pub chain : List ℕ

abbrev pub long_enough : Areas → Bool
long_enough a = leb most_events (length a.times) && leb most_records (length a.levels) && leb most_events (length a.chain)

-- 7 at place 0 for an area too short comes first; then the text
abbrev pub heard : Areas → List ℕ → Reading
heard a text = cond (long_enough a) (read text) (refused area_too_short_number 0)

-- written from the front; all other entries keep their old contents
abbrev pub over {ℓ} : {A : Type ℓ} → List A → List A → List A
over new old = new ++ drop (length new) old

abbrev pub written : Outcome → Areas → Areas
written (solved ts ls) a = record { times = over ts a.times; levels = over ls a.levels; chain = a.chain }
written (none cs) a = record { times = a.times; levels = a.levels; chain = over cs a.chain }
written (refusal n l) a = a

pub record Promise (s : Side) (text : List ℕ) (before after : Areas) (no at : ℕ) : Type 0 where
  pub outcome : Outcome
  pub right : Right s (heard before text) outcome
  pub numbered : no ≡ number outcome
  pub placed : at ≡ place outcome
  pub writes : after ≡ written outcome before

abbrev pub areas : List ℤ → List ℕ → List ℕ → Areas
areas ts ls cs = record { times = ts; levels = ls; chain = cs }
