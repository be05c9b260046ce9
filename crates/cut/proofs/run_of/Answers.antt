-- `cut::run_of` meets its contract: both ends are counted from where the row's levels begin.
use mathlib.Core.Path.{◌≡◌, ap, ap₂, ◌∙◌}
use lib.IntN.{ℤ, pos, ◌+ℤ◌}
use mir.Syntax.{w32}
use mir.Val.{to_z, of_z}
use mir.Facts.{to_z-of_z}
use Rattle.ticks.proofs.Ticks.{back}
use Rattle.meaning.specs.Run.{run_first, run_past}
use Rattle.plan.specs.Held.{levels_at}
use Rattle.cut.proofs.Cuts.{lo_fits, first_reach, past_reach, before_fits, levels_here}
use Rattle.cut.proofs.run_of.Goals as goal
use Rattle.cut.proofs.run_of.Goals.{After-run_past-past}

first : (c : After-run_past-past) → c.run_first-first.result ≡ run_first c.args.y (levels_at c.args.r c.args.held.now)
first c = let s = c.args in c.run_first-first.ensures ∙ ap (run_first s.y) (levels_here s.r s.held.now c.from-at.ensures c.from.ensures)

past : (c : After-run_past-past) → c.run_past-past.result ≡ run_past c.args.y (levels_at c.args.r c.args.held.now)
past c = let s = c.args in c.run_past-past.ensures ∙ ap (run_past s.y) (levels_here s.r s.held.now c.from-at.ensures c.from.ensures)

pub distance_of-requires : goal.distance_of-requires
distance_of-requires c =
    rw (to_z-of_z (lo_fits c.requires), first (goal.at.distance_of-requires c).After-run_past-past) (first_reach c.requires c.args.y)

pub distance_of-requires-2 : goal.distance_of-requires-2
distance_of-requires-2 c =
    rw (to_z-of_z (lo_fits c.requires), past (goal.at.distance_of-requires-2 c).After-run_past-past) (past_reach c.requires c.args.y)

pub returns : goal.returns
returns c =
    let s = c.args in
    let is = (goal.at.returns c).After-run_past-past in
    let here : to_z w32 (of_z w32 s.r.lo) ≡ s.r.lo = to_z-of_z (lo_fits c.requires) in
    let low : to_z w32 (of_z w32 c.distance_of.result) ≡ s.r.lo +ℤ pos (run_first s.y (levels_at s.r s.held.now)) =
    back w32 c.distance_of.result c.distance_of.type_inv ∙ (rw (here, first is) at c.distance_of.ensures) in
    let beyond : to_z w32 (of_z w32 c.distance_of-2.result) ≡ s.r.lo +ℤ pos (run_past s.y (levels_at s.r s.held.now)) =
    back w32 c.distance_of-2.result c.distance_of-2.type_inv ∙ (rw (here, past is) at c.distance_of-2.ensures) in
    ap₂ (λ (l h : ℤ). record { lo = l; hi = h }) low (rw beyond (to_z-of_z (before_fits (past_reach c.requires s.y))))
