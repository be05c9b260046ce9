-- Any two answers to the same text and area are equal, and so is what they leave in the area.
use mathlib.Core.Path.{◌≡◌, refl, sym, ap, ◌∙◌}
use mathlib.Core.Bool.{Bool, true, false}
use mathlib.Core.List.{List}
use Prim.Native.Nat.{ℕ}
use borrow.Author.Tests.{leb-true, leb-false}
use lib.Dec.{leb}
use lib.ListN.{length}
use Rattle.std.specs.Prelude.{Result, Ok, Err}
use Rattle.meaning.specs.Plan.{most_levels_together}
use Rattle.meaning.specs.Reading.{Reading, plan, refused}
use Rattle.scope.specs.declared.Fault.{Fault}
use Rattle.scope.specs.declared.Refusal.{Refusal}
use Rattle.scope.proofs.Numbers.{one_fault}
use Rattle.plan.specs.declared.Plan.{Plan}
use Rattle.plan.proofs.Same.{one_plan, one_area}
use Rattle.reader.specs.Heard.{Told, Read, heard, plan_in}

abbrev refusal_of : Fault → ℕ → Refusal
refusal_of f line = record { fault = f; line = line }

one_told : (x : Reading) (q r : Result Plan Refusal) → Told x q → Told x r → q ≡ r
one_told (plan p) (Ok g) (Ok h) a b = ap Ok (one_plan p g h a b)
one_told (plan p) (Ok g) (Err r) a b = absurd b
one_told (plan p) (Err q) r a b = absurd a
one_told (refused k line) (Ok g) r a b = absurd a
one_told (refused k line) (Err q) (Ok h) a b = absurd b
one_told (refused k line) (Err q) (Err r) a b =
    let f : q.fault ≡ r.fault = one_fault q.fault r.fault (a.0 ∙ sym b.0) in
    let l : q.line ≡ r.line = a.1 ∙ sym b.1 in
    let e : refusal_of q.fault q.line ≡ refusal_of r.fault r.line = cc in
    ap Err e

pub one_answer : (text before x y : List ℕ) (q r : Result Plan Refusal) → Read text before x q → Read text before y r → (q ≡ r) × (x ≡ y)
one_answer text before x y q r a b = (one_told (heard before text) q r a.told b.told, area (leb most_levels_together (length before)) refl)
  where
    area : (t : Bool) → leb most_levels_together (length before) ≡ t → x ≡ y
    area true e =
        let h = leb-true most_levels_together (length before) e in
        one_area (plan_in (heard before text)) before x y (a.levels h) (b.levels h)
    area false e =
        let h = leb-false most_levels_together (length before) e in
        a.short h ∙ sym (b.short h)
