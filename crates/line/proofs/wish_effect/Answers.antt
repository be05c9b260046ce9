-- `line::wish_effect` meets its contract: the fault that its tests find, or the record.
use mathlib.Core.Path.{refl, sym}
use mathlib.Core.List.{List}
use Prim.Native.Nat.{ℕ, ◌+◌, ◌-◌, ◌≤◌}
use native.Mathlib.Omega.{arith}
use lib.ListN.{length, take, drop}
use lib.Seq.{length-slice}
use Rattle.std.proofs.lemmas.Result.{err_from_is_err_and}
use Rattle.meaning.specs.Plan.{most_levels_together}
use Rattle.cut.proofs.Cuts.{slice_here}
use Rattle.faults.specs.declared.SoFar.{SoFar}
use Rattle.faults.proofs.Firsts.{fitting, limits}
use Rattle.fields.specs.declared.Line.{Line}
use Rattle.line.specs.Effects.{Roomy, WishEffect}
use Rattle.line.proofs.Judges.{found_in}
use Rattle.line.proofs.wish_effect.Goals as goal

-- there is a level
some : (l : Line) (s : SoFar) (area : List ℕ) → Roomy l s → most_levels_together ≤ length area
    → 1 ≤ length (take (s.levels + (l.count - 3) - s.levels) (drop s.levels area))
some l s area r long =
    let m = l.count - 3 in
    let fits = (limits s m r.room).together in
    rw (slice_here s.levels m area) (omega (arith, r.numbers, length-slice s.levels (s.levels + m) area (omega (arith, fits, long))))

pub wish_fault-requires : goal.wish_fault-requires
wish_fault-requires c = let a = c.args in (c.requires.0.events, some a.line a.plan a.levels.now c.requires.1 c.requires.2)

pub returns-in_err-wish_fault : goal.returns-in_err-wish_fault
unfolding WishEffect
returns-in_err-wish_fault c =
    let s = c.args.plan in
    let gave = err_from_is_err_and c.from_residual.result c.from_residual.ensures.1 in
    let tested = rw (slice_here s.levels (c.args.line.count - 3) c.args.levels.now) at c.in_err-wish_fault.ensures in
    rw (gave.1, gave.2) (found_in _ _ c.wish_span-span.ensures tested)

pub row_of-requires : goal.row_of-requires
row_of-requires c =
    let a = c.args in
    let fits = fitting a.plan.events c.wish_span-span.result _ c.requires.0.events (sym c.in_ok-wish_fault.ensures) in
    (fits, c.requires.0.levels, (limits a.plan (a.line.count - 3) c.requires.1.room).one)

pub returns : goal.returns
unfolding WishEffect
returns c =
    let s = c.args.plan in
    let tested = rw (slice_here s.levels (c.args.line.count - 3) c.args.levels.now) at c.in_ok-wish_fault.ensures in
    rw (c.row_of.ensures, c.wish_span-span.ensures) (found_in _ _ c.wish_span-span.ensures tested, refl)
