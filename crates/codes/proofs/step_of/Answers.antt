-- `codes::step_of` meets its contract: codes below those of the horizon name records, the others the horizon.
use mathlib.Core.Path.{sym, ap, ◌∙◌}
use Prim.Native.Nat.{ℕ}
use Rattle.meaning.specs.Plan.{record_at}
use Rattle.plan.specs.Held.{row_of, recalled}
use Rattle.plan.proofs.Use.{row_at, held_row}
use Rattle.cut.specs.Cut.{allowed}
use Rattle.cut.proofs.Cuts.{cutting, ends_are}
use Rattle.codes.proofs.Names.{name_record, name_horizon}
use Rattle.codes.proofs.step_of.Goals as goal

pub ends_of-requires : goal.ends_of-requires
ends_of-requires c = cutting c.plan.invariant c.in-Record.k

pub returns-in-Record : goal.returns-in-Record
returns-in-Record c =
    let o = c.plan.invariant in
    let h = c.plan.inside.plan.now in
    let p = recalled h c.plan.inside.levels.now in
    let k = c.in-Record.k in
    let owns = c.in-Record.ensures in
    let row = held_row o.holds k ∙ ap (λ (i : ℕ). row_of (row_at h k).first (record_at p i)) owns.1 in
    let own = c.ends_of.ensures ∙ ends_are o k ∙ ap (λ (i : ℕ). allowed (record_at p i)) owns.1 in
    rw (← c.plan.view_is) (c.of_record.ensures p _ row own ∙ sym (name_record p c.args.c owns.0))

pub returns-in-Event : goal.returns-in-Event
returns-in-Event c =
    let p = recalled c.plan.inside.plan.now c.plan.inside.levels.now in
    let owns = c.in-Event.ensures in
    rw (← c.plan.view_is) (c.of_horizon.ensures p c.plan.invariant.holds.horizon owns.0 owns.1 ∙ sym (name_horizon p c.args.c owns.0))
