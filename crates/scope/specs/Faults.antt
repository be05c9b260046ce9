-- The number of a fault: document 01, section 3, and T-04.
use Rattle.std.specs.Prelude.{ℕ, cond, eqb, Result, Ok, Err}
use Rattle.scope.specs.declared.Fault.{Fault}
use Rattle.scope.specs.declared.Fault.TheVariants.{WrongForm, TooMany, OutOfRange, SameEvent, NotPeaked, AreaTooShort, NothingAllowed}

abbrev pub number : Fault → ℕ
number WrongForm = 2
number TooMany = 3
number OutOfRange = 4
number SameEvent = 5
number NotPeaked = 6
number AreaTooShort = 7
number NothingAllowed = 8

-- the fault of a number; of one that is none's, the first
abbrev pub named : ℕ → Fault
named n =
    cond (eqb n 3) TooMany
    (cond (eqb n 4) OutOfRange
    (cond (eqb n 5) SameEvent
    (cond (eqb n 6) NotPeaked
    (cond (eqb n 7) AreaTooShort
    (cond (eqb n 8) NothingAllowed WrongForm)))))

-- what a test gives: 0 where it finds no fault
abbrev pub numbered : {A : Type 0} → Result A Fault → ℕ
numbered (Ok _) = 0
numbered (Err fault) = number fault
