-- Any two answers to the same text, side and area are equal but for the free chain (document 01, section 5): where the area is too short nothing is written;
-- else both are the printed forms of right outcomes, and two right outcomes are the same or two chains of one plan.
use mathlib.Core.Path.{◌≡◌, refl, sym, ◌∙◌}
use mathlib.Core.Logic.{◌⊎◌, inl, inr}
use mathlib.Core.Bool.{Bool, true, false}
use mathlib.Core.List.{List}
use Prim.Native.Nat.{ℕ, ◌≤◌}
use borrow.Author.Tests.{leb-true, leb-false}
use lib.Dec.{leb}
use lib.ListN.{length}
use Rattle.meaning.specs.Plan.{Plan, Times, Timetable}
use Rattle.meaning.specs.Reading as R
use Rattle.meaning.specs.Reading.{read}
use Rattle.meaning.specs.Bounds.{Chain}
use Rattle.meaning.specs.Outcome.{Outcome, none, Right, over}
use Rattle.meaning.proofs.ReadGood.{read_faultless}
use Rattle.meaning.proofs.Chains.{chain_excludes}
use Rattle.meaning.proofs.Promises.{Same, equal, chains, one_outcome}
use Rattle.scope.specs.declared.Side.{Side}
use Rattle.reader.specs.Heard.{plan_in}
use Rattle.forms.specs.Printed.{printed}
use Rattle.forms.specs.Put.{area_room}
use Rattle.report.specs.Answer.{Answered}
use Rattle.report.proofs.Outcomes.{none_plan}

-- the form of a chain of the plan at the front, and all else as before
pub record ChainTold (p : Plan) (before after : List ℕ) (r : ℕ) : Type 0 where
  pub codes : List ℕ
  pub chain : Chain p codes
  pub count : r ≡ length (printed p (none codes))
  pub written : after ≡ over (printed p (none codes)) before

-- the one freedom: the text is a plan with no timetable, and each answer is the form of some chain of it
pub record FreeChain (text before x y : List ℕ) (q r : ℕ) : Type 0 where
  pub plan : Plan
  pub reads : read text ≡ R.plan plan
  pub excluded : (t : Times) → Timetable plan t → ⊥
  pub room : area_room ≤ length before
  pub one : ChainTold plan before x q
  pub other : ChainTold plan before y r

-- a right outcome of a text and a side is the same as any other, or both are chains
pub one_right : (s : Side) (text : List ℕ) (o q : Outcome) → Right s (read text) o → Right s (read text) q → Same o q
one_right s text = one_outcome s (read text) (record { faultless = λ p e. read_faultless text e })

-- two answers to one text, side and area: equal, or the one freedom
pub one_answer : {s : Side} {text before x y : List ℕ} {q r : ℕ} → Answered s text before x q → Answered s text before y r →
    ((q ≡ r) × (x ≡ y)) ⊎ FreeChain text before x y q r
one_answer {s} {text} {before} {x} {y} {q} {r} a b = go (leb area_room (length before)) refl
  where
    p : Plan
    p = plan_in (read text)

    -- the forms of two right outcomes
    forms : area_room ≤ length before → {o u : Outcome} → Same o u → Right s (read text) o → Right s (read text) u →
        q ≡ length (printed p o) → r ≡ length (printed p u) → x ≡ over (printed p o) before → y ≡ over (printed p u) before →
        ((q ≡ r) × (x ≡ y)) ⊎ FreeChain text before x y q r
    forms l equal f g c d w v = inl (c ∙ sym d, w ∙ sym v)
    forms l (chains {cs} {ds}) f g c d w v =
        let m = none_plan s (read text) f in
        let n = none_plan s (read text) g in
        inr (record {
          plan = p;
          reads = m.0;
          excluded = λ t h. chain_excludes m.1 h;
          room = l;
          one = record { codes = cs; chain = m.1; count = c; written = w };
          other = record { codes = ds; chain = n.1; count = d; written = v };
        })

    go : (t : Bool) → leb area_room (length before) ≡ t → ((q ≡ r) × (x ≡ y)) ⊎ FreeChain text before x y q r
    go true e =
        let l = leb-true area_room (length before) e in
        let t = a.long l in
        let u = b.long l in
        forms l (one_right s text t.outcome u.outcome t.right u.right) t.right u.right t.count u.count t.written u.written
    go false e =
        let l = leb-false area_room (length before) e in
        let t = a.short l in
        let u = b.short l in
        inl (t.0 ∙ sym u.0, t.1 ∙ sym u.1)
