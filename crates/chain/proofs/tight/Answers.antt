-- `chain::tight` decides whether a bound is tight: the test is the equation, of a sum that fits.
use mathlib.Core.Path.{◌≡◌, sym, ap, ◌∙◌}
use lib.Dec.{eqb}
use lib.IntN.{ℤ}
use mir.Facts.{to_z-of_z}
use mir.Syntax.{w32}
use mir.Val.{SFits, to_z, of_z}
use borrow.Author.Tests.{eqb-true, eqb-false}
use Rattle.ticks.proofs.Ticks.{back, ticks}
use Rattle.distances.proofs.Range.{weight_fits}
use Rattle.chain.specs.Marks.{Decided}
use Rattle.chain.proofs.tight.Goals as goal

decided : (x y : ℤ) → SFits w32 x → SFits w32 y → Decided (x ≡ y) (eqb (of_z w32 x) (of_z w32 y))
decided x y f g = record {
  taken = λ e. sym (to_z-of_z f) ∙ ap (to_z w32) (eqb-true (of_z w32 x) (of_z w32 y) e) ∙ to_z-of_z g;
  left = λ e p. eqb-false (of_z w32 x) (of_z w32 y) e (ap (of_z w32) p);
}

pub returns : goal.returns
returns c =
    let s = c.requires in
    let weight = s.fit.weight in
    let e = c.distance in
    let f = c.distance-2 in
    let near = s.table.near _ _ s.fit.start s.to in
    let far = s.table.near _ _ s.fit.end s.to in
    let from = rw c.from-u.ensures at e.ensures in
    let to = rw c.from-v.ensures at f.ensures in
    rw (to_z-of_z (weight_fits _ weight), back w32 f.result f.type_inv, from, to)
    (decided _ _ (omega (ticks, near.above, near.below)) (omega (ticks, weight.above, weight.below, far.above, far.below)))
