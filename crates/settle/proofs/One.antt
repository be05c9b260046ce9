-- Any two outcomes of a plan on one side that satisfy the promise of `settle` are the same, or both are chains; number, place and areas follow from the
-- outcome. The promises of `number_of` and `place_in` say so themselves, and of an answer they say its number and place. And an answer is the one that
-- these two name.
use mathlib.Core.Path.{◌≡◌, refl}
use Rattle.std.specs.Prelude.{Ok, Err}
use Rattle.meaning.specs.Plan as M
use Rattle.meaning.specs.Reading.{plan}
use Rattle.meaning.specs.Outcome.{Areas}
use Rattle.meaning.specs.Faultless.{WithoutFault}
use Rattle.meaning.proofs.Promises.{Faultless, Same, one_outcome}
use Rattle.scope.specs.declared.Side.{Side}
use Rattle.scope.specs.declared.Refusal.{Refusal}
use Rattle.settle.specs.declared.Outcome.{Outcome}
use Rattle.settle.specs.declared.Outcome.TheVariants.{Solved, NoTimetable}
use Rattle.settle.specs.Settled.{Answer, number_of, place_of, number_by, place_by, named, Settled}
use Rattle.scope.specs.declared.Fault.{Fault}
use Rattle.scope.specs.declared.Fault.TheVariants.{WrongForm, TooMany, OutOfRange, SameEvent, NotPeaked, AreaTooShort, NothingAllowed}
use Rattle.scope.specs.Faults.{number}

pub one_settled : {s : Side} {p : M.Plan} {before x y : Areas} {q r : Outcome} → WithoutFault p → (a : Settled s p before x q) (b : Settled s p before y r)
    → Same a.outcome b.outcome
one_settled {s} {p} w a b =
    let all : Faultless (plan p) = record { faultless = λ q e. let same : p ≡ q = cc in rw (← same) w } in
    one_outcome s (plan p) all a.outcome b.outcome a.right b.right

pub answer_named : (r : Answer) → r ≡ named (number_of r) (place_of r)
answer_named (Ok (Solved w)) = refl
answer_named (Ok (NoTimetable steps)) = refl
answer_named (Err refused) = by refused.fault
  where
    by : (f : Fault) → Err (record { fault = f; line = refused.line }) ≡ named (number f) refused.line
    by WrongForm = refl
    by TooMany = refl
    by OutOfRange = refl
    by SameEvent = refl
    by NotPeaked = refl
    by AreaTooShort = refl
    by NothingAllowed = refl

pub number_same : (r : Answer) → number_by (λ (refused : Refusal). number refused.fault) r ≡ number_of r
number_same (Ok (Solved w)) = refl
number_same (Ok (NoTimetable steps)) = refl
number_same (Err refused) = refl

pub place_same : (r : Answer) → place_by (λ (refused : Refusal). refused.line) r ≡ place_of r
place_same (Ok (Solved w)) = refl
place_same (Ok (NoTimetable steps)) = refl
place_same (Err refused) = refl
