-- One number of the reader's answer.
use Rattle.std.specs.Prelude.{◌≡◌, cond, List, ℕ, eqb, ltb, get_or, ℤ, pos, Result, Ok, Err}
use Rattle.meaning.specs.Plan.{most_records}
use Rattle.scope.specs.declared.Refusal.{Refusal}
use Rattle.scope.specs.Faults.{number}
use Rattle.plan.specs.declared.Plan.{Plan}
use Rattle.plan.specs.declared.Record.{Record}
use Rattle.plan.specs.Held.{blank}
use Rattle.reader.specs.Heard.{Read}

-- r is what `value` takes from the reader's answer, which also says what is left in the area
pub record Asked {A : Type 0} (text before after : List ℕ) (value : Result Plan Refusal → A) (r : A) : Type 0 where
  pub answer : Result Plan Refusal
  pub read : Read text before after answer
  pub got : r ≡ value answer

-- the number and the place of document 01, section 3; a plan is 0 at 0
abbrev pub number_in : Result Plan Refusal → ℕ
number_in (Ok h) = 0
number_in (Err r) = number r.fault

abbrev pub place_in : Result Plan Refusal → ℕ
place_in (Ok h) = 0
place_in (Err r) = r.line

-- 0 events, 1 horizon, 2 records, 3 levels used; else 0
abbrev pub head_of : ℕ → Plan → ℕ
head_of which p =
    cond (eqb which 0) p.events
    (cond (eqb which 1) p.horizon
    (cond (eqb which 2) p.count
    (cond (eqb which 3) p.used 0)))

-- of a text that is refused, 0
abbrev pub head_in : ℕ → Result Plan Refusal → ℕ
head_in which (Ok h) = head_of which h
head_in which (Err r) = 0

-- 0 a, 1 b, 2 lo, 3 hi, 4 first, 5 count; else 0
abbrev pub field_of : ℕ → Record → ℤ
field_of which r =
    cond (eqb which 0) (pos r.a)
    (cond (eqb which 1) (pos r.b)
    (cond (eqb which 2) r.lo
    (cond (eqb which 3) r.hi
    (cond (eqb which 4) (pos r.first)
    (cond (eqb which 5) (pos r.count) (pos 0))))))

-- of a record that there is no place for, and of a text that is refused, 0
abbrev pub field_in : ℕ → ℕ → Result Plan Refusal → ℤ
field_in k which (Ok h) = cond (ltb k most_records) (field_of which (get_or h.records k blank)) (pos 0)
field_in k which (Err r) = pos 0
