-- Any two answers that satisfy the promise of `take` are equal. The promise `levels.new ≡ …` of `store_level` says so itself.
use mathlib.Core.Path.{◌≡◌, refl, sym, ap, ◌∙◌}
use mathlib.Core.List.{List, [], ◌∷◌}
use Prim.Native.Nat.{ℕ}
use native.Mathlib.Omega.{arith}
use lib.ListN.{length, get_or, length-append}
use lib.Seq.{get_or_at}
use lib.IntN.{ℤ}
use Rattle.std.specs.Prelude.{Result, Ok, Err}
use Rattle.scope.specs.declared.Fault.{Fault}
use Rattle.scope.specs.Faults.{number}
use Rattle.meaning.specs.Plan as M
use Rattle.meaning.specs.Reading.{Form, Step, taken, fault, with_record, empty}
use Rattle.plan.specs.declared.Record.{Record}
use Rattle.plan.specs.Held.{row_of}
use Rattle.fields.specs.declared.Line.{Line}
use Rattle.faults.specs.declared.SoFar.{SoFar}
use Rattle.scope.proofs.Numbers.{not_zero, one_fault}
use Rattle.line.specs.declared.Effect.{Effect}
use Rattle.line.specs.declared.Effect.TheVariants.{Head, Entry}
use Rattle.line.specs.Effects.{Given}
use Rattle.line.specs.Lines.{Counts, Says, Whole, Judged, word_form}

-- the plan of a step that is taken
abbrev plan_of : Step → M.Plan
plan_of (taken q) = q
plan_of (fault k) = empty

-- the plan with one record more says which record that is
last_record : (p : M.Plan) (x y : M.Record) → with_record p x ≡ with_record p y → x ≡ y
last_record p x y e =
    let n = length p.records in
    sym (get_or_at p.records x [] M.nothing n refl)
    ∙ ap (λ (q : M.Plan). get_or q.records n M.nothing) e
    ∙ get_or_at p.records y [] M.nothing n refl

-- the first line leaves no record, and a record is one
no_record : {A : Type 0} (p : M.Plan) (x : M.Record) (m h : ℕ) → record { events = m; horizon = h; records = [] } ≡ with_record p x → A
no_record p x m h e = absurd (omega (arith, ap (λ (q : M.Plan). length q.records) e, length-append p.records (x ∷ [])))

module _ (line : ℕ) (f : Form) (n count used : ℕ) (before area : List ℕ) (p : M.Plan) (k : Counts p n count used) where
  one_says : (q r : Result Effect Fault) → Says line f n count used before area q → Says line f n count used before area r → q ≡ r
  one_says (Err i) (Err j) x y =
      let e : fault (number i) ≡ fault (number j) = sym (x.step p k) ∙ y.step p k in
      let same : number i ≡ number j = cc in
      ap Err (one_fault i j same)
  one_says (Ok (Head m h)) (Ok (Head m' h')) x y =
      let e = ap plan_of (sym (x.step p) ∙ y.step p) in
      let events : m ≡ m' = ap (λ (q : M.Plan). q.events) e in
      let horizon : h ≡ h' = ap (λ (q : M.Plan). q.horizon) e in
      rw (events, horizon)
  one_says (Ok (Entry q)) (Ok (Entry r)) x y =
      let e = last_record p x.entry y.entry (ap plan_of (sym (x.step p k) ∙ y.step p k)) in
      ap (λ (t : Record). Ok (Entry t)) (x.row ∙ ap (row_of used) e ∙ sym y.row)
  one_says (Ok (Head m h)) (Ok (Entry r)) x y = no_record p y.entry m h (ap plan_of (sym (x.step p) ∙ y.step p k))
  one_says (Ok (Entry q)) (Ok (Head m h)) x y = no_record p x.entry m h (ap plan_of (sym (y.step p) ∙ x.step p k))
  one_says (Err i) (Ok (Head m h)) x y = let e = sym (x.step p k) ∙ y.step p in let z : ◌≡◌ {A = ℕ} 0 1 = cc in absurd (omega arith)
  one_says (Err i) (Ok (Entry r)) x y = let e = sym (x.step p k) ∙ y.step p k in let z : ◌≡◌ {A = ℕ} 0 1 = cc in absurd (omega arith)
  one_says (Ok (Head m h)) (Err j) x y = let e = sym (x.step p) ∙ y.step p k in let z : ◌≡◌ {A = ℕ} 0 1 = cc in absurd (omega arith)
  one_says (Ok (Entry q)) (Err j) x y = let e = sym (x.step p k) ∙ y.step p k in let z : ◌≡◌ {A = ℕ} 0 1 = cc in absurd (omega arith)

-- what the parts of `take` promise says one answer too
pub one_given : (k : ℕ) (e : Effect) (q r : Result Effect Fault) → Given k e q → Given k e r → q ≡ r
one_given k e (Ok x) (Ok y) g h = ap Ok (g.1 ∙ sym h.1)
one_given k e (Err i) (Err j) g h = ap Err (one_fault i j (sym g ∙ h))
one_given k e (Ok x) (Err j) g h = absurd (omega (arith, g.0, h, (not_zero j).1))
one_given k e (Err i) (Ok y) g h = absurd (omega (arith, h.0, g, (not_zero i).1))

-- any two answers to the same line on the same plan p are equal
pub one_effect : {vs : List ℤ} {l : Line} {s : SoFar} {before area : List ℕ} {p : M.Plan} → Whole vs l s before area
    → Counts p s.events s.records s.levels → (q r : Result Effect Fault) → Judged l s area q → Judged l s area r → q ≡ r
one_effect {vs} {l} {s} {before} {area} {p} w k q r x y =
    one_says l.number (word_form l.word vs) s.events s.records s.levels before area p k q r (x vs before w) (y vs before w)
