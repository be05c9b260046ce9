-- `line::take_wish` meets its contract: each test that fails is the first fault.
use mathlib.Core.Path.{sym, ◌∙◌}
use Prim.Native.Nat.{◌+◌, ◌-◌}
use lib.Seq.{slice}
use Rattle.faults.proofs.Firsts.{only}
use Rattle.faults.specs.Faults.{record_fault}
use Rattle.line.specs.Effects.{wish_span, WishEffect, WishTaken}
use Rattle.line.proofs.take_wish.Goals as goal

pub returns-then-not-is_wish : goal.returns-then-not-is_wish
unfolding WishTaken
returns-then-not-is_wish c = rw (sym c.is_wish.ensures ∙ c.if-not-is_wish.true)

pub returns-then-not-has_room : goal.returns-then-not-has_room
unfolding WishTaken
returns-then-not-has_room c = rw (sym c.is_wish.ensures ∙ c.if-not-is_wish.false, sym c.has_room.ensures ∙ c.if-not-has_room.true)

pub returns : goal.returns
unfolding WishEffect WishTaken
returns c =
    let a = c.args in
    let m = a.line.count - 3 in
    let fault = record_fault a.plan.events (wish_span a.line.fields m) (slice a.plan.levels (a.plan.levels + m) a.levels.now) in
    rw (sym c.is_wish.ensures ∙ c.if-not-is_wish.false, sym c.has_room.ensures ∙ c.if-not-has_room.false, only fault) c.wish_effect.ensures
