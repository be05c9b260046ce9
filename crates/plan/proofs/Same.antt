-- Any two structs that hold one plan are equal, and so are any two areas that hold its levels: `empty_plan` leaves no choice.
use mathlib.Core.Path.{◌≡◌, refl, sym, ◌∙◌}
use mathlib.Core.Bool.{Bool, true, false}
use mathlib.Core.List.{List}
use Prim.Native.Nat.{ℕ}
use borrow.Author.Tests.{ltb-true, ltb-false}
use lib.Dec.{ltb}
use lib.ListN.{get_or}
use lib.Seq.{ext_get_or}
use Rattle.meaning.specs.Plan as M
use Rattle.meaning.specs.Plan.{most_levels_together}
use Rattle.plan.specs.declared.Record.{Record}
use Rattle.plan.specs.declared.Plan.{Plan}
use Rattle.plan.specs.Held.{blank, Holds, LevelsHeld}

abbrev plan_of : ℕ → ℕ → ℕ → ℕ → List Record → Plan
plan_of n z k u rs = record { events = n; horizon = z; count = k; used = u; records = rs }

pub one_plan : (p : M.Plan) (g h : Plan) → Holds p g → Holds p h → g ≡ h
one_plan p g h a b =
    let n : g.events ≡ h.events = a.events ∙ sym b.events in
    let z : g.horizon ≡ h.horizon = a.horizon ∙ sym b.horizon in
    let k : g.count ≡ h.count = a.count ∙ sym b.count in
    let u : g.used ≡ h.used = a.used ∙ sym b.used in
    let rs : g.records ≡ h.records = ext_get_or blank g.records h.records (a.size ∙ sym b.size) (λ i _. a.rows i ∙ sym (b.rows i)) in
    let e : plan_of g.events g.horizon g.count g.used g.records ≡ plan_of h.events h.horizon h.count h.used h.records = cc in
    e

pub one_area : (p : M.Plan) (before x y : List ℕ) → LevelsHeld p before x → LevelsHeld p before y → x ≡ y
one_area p before x y a b = ext_get_or 0 x y (a.long ∙ sym b.long) (λ i _. go i (ltb i most_levels_together) refl)
  where
    go : (i : ℕ) (t : Bool) → ltb i most_levels_together ≡ t → get_or x i 0 ≡ get_or y i 0
    go i true e = let h = ltb-true i most_levels_together e in a.done i h ∙ sym (b.done i h)
    go i false e = let h = ltb-false i most_levels_together e in a.rest i h ∙ sym (b.rest i h)
