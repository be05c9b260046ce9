-- What a line gives by its form and the faults of its record.
use Rattle.std.specs.Prelude.{◌≡◌, Bool, true, cond, ◌&&◌, not, List, [], ◌∷◌, ℕ, ◌+◌, ◌-◌, ◌≤◌, eqb, leb, ℤ, pos, nat_abs, ◌+ℤ◌, Result, Ok, Err}
use Rattle.std.proofs.Math.Seq.{slice}
use Rattle.scope.specs.declared.Fault.{Fault}
use Rattle.scope.specs.Faults.{number}
use Rattle.meaning.specs.Plan.{top_level}
use Rattle.meaning.specs.Numbers.{wrong_form_number, too_many_number}
use Rattle.meaning.specs.Reading.{item, is_end, is_level}
use Rattle.plan.specs.declared.Record.{Record}
use Rattle.faults.specs.declared.SoFar.{SoFar}
use Rattle.faults.specs.declared.Span.{Span}
use Rattle.faults.specs.Faults.{no_fault, unless_met, first_fault, head_fault, has_room, record_fault, entry_fault}
use Rattle.fields.specs.declared.Line.{Line}
use Rattle.line.specs.declared.Effect.{Effect}
use Rattle.line.specs.declared.Effect.TheVariants.{Head, Entry}

-- ---- levels as they are stored

-- a number that is no level is stored as one above the top
abbrev pub level_of : ℤ → ℕ
level_of v = cond (is_level v) (nat_abs v) (top_level + 1)

-- ---- the numbers of a record

-- a, b, lo, hi
abbrev pub span_of : List ℤ → Span
span_of vs = record { a = item vs 0; b = item vs 1; lo = item vs 2; hi = item vs 3 }

-- the distance of the last of m levels, where lo is in range
abbrev pub last_from : ℤ → ℕ → ℤ
last_from lo m = cond (is_end lo) (lo +ℤ pos (m - 1)) lo

-- a, b, lo and m levels
abbrev pub wish_span : List ℤ → ℕ → Span
wish_span vs m = record { a = item vs 0; b = item vs 1; lo = item vs 2; hi = last_from (item vs 2) m }

-- its `count` levels stand from place `first` on
abbrev pub row_from : Span → ℕ → ℕ → Record
row_from r first count = record { a = nat_abs r.a; b = nat_abs r.b; first = first; count = count; lo = r.lo; hi = r.hi }

-- ---- the form of a line: `events` is the first, `rule` and `wish` are later ones, and each has its count of numbers

abbrev pub is_head : Line → Bool
is_head l = eqb l.number 1 && eqb l.count 2

abbrev pub is_rule : Line → Bool
is_rule l = not (eqb l.number 1) && eqb l.count 4

abbrev pub is_wish : Line → Bool
is_wish l = not (eqb l.number 1) && leb 4 l.count

-- ---- what a line gives

-- the answer r: e where there is no fault, and else the fault whose number is k
abbrev pub Given : ℕ → Effect → Result Effect Fault → Type 0
Given k e (Ok x) = (k ≡ no_fault) × (x ≡ e)
Given k e (Err f) = k ≡ number f

unfoldable pub EventsEffect : Line → Result Effect Fault → Type 0
EventsEffect l r =
    let n = item l.fields 0 in
    let h = item l.fields 1 in
    Given (first_fault (unless_met (is_head l) wrong_form_number ∷ head_fault n h ∷ [])) (Head (nat_abs n) (nat_abs h)) r

unfoldable pub RuleEffect : Line → SoFar → Result Effect Fault → Type 0
RuleEffect l s r =
    let x = span_of l.fields in
    Given (first_fault (unless_met (is_rule l) wrong_form_number ∷ entry_fault s x [] ∷ [])) (Entry (row_from x s.levels 0)) r

-- a wish whose levels ls are stored
unfoldable pub WishEffect : Line → SoFar → List ℕ → Result Effect Fault → Type 0
WishEffect l s ls r =
    let m = l.count - 3 in
    let x = wish_span l.fields m in
    Given (record_fault s.events x ls) (Entry (row_from x s.levels m)) r

-- the line has the numbers of a wish, and there is room for it
pub record Roomy (l : Line) (s : SoFar) : Type 0 where
  pub numbers : 4 ≤ l.count
  pub room : has_room s (l.count - 3) ≡ true

-- a line `wish`: its form, the room for it, and then what its levels give, which stand in the area behind those of the others
unfoldable pub WishTaken : Line → SoFar → List ℕ → Result Effect Fault → Type 0
WishTaken l s area r =
    let m = l.count - 3 in
    let x = wish_span l.fields m in
    let f = record_fault s.events x (slice s.levels (s.levels + m) area) in
    Given (first_fault (unless_met (is_wish l) wrong_form_number ∷ unless_met (has_room s m) too_many_number ∷ f ∷ [])) (Entry (row_from x s.levels m)) r
