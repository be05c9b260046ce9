-- Any two replies to the same question about the same text and area are equal, and so is what they leave in the area: the reader's answer is one.
use mathlib.Core.Path.{◌≡◌, sym, ap, ◌∙◌}
use mathlib.Core.List.{List}
use Prim.Native.Nat.{ℕ}
use Rattle.std.specs.Prelude.{Result}
use Rattle.scope.specs.declared.Refusal.{Refusal}
use Rattle.plan.specs.declared.Plan.{Plan}
use Rattle.reader.proofs.Same.{one_answer}
use Rattle.plan_c.specs.Asked.{Asked}

-- one number and one area: for `plan_number`, `plan_place`, `plan_head` and `plan_field`, each by its own value
pub one_asked : {A : Type 0} {text before x y : List ℕ} {value : Result Plan Refusal → A} {q r : A} →
    Asked text before x value q → Asked text before y value r → (q ≡ r) × (x ≡ y)
one_asked {text = text} {before} {x} {y} {value} a b =
    let s = one_answer text before x y a.answer b.answer a.read b.read in
    (a.got ∙ ap value s.0 ∙ sym b.got, s.1)
