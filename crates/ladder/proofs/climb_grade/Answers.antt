-- `ladder::climb_grade` meets its contract: the wishes so far are asked at the grade, in their order.
use mathlib.Core.Path.{◌≡◌, ◌∙◌}
use borrow.Author.Tests.{tests}
use lib.ListN.{length}
use Rattle.std.proofs.Common.{rules}
use Rattle.std.proofs.lemmas.Iterator.{YieldsList-from_slice}
use Rattle.std.proofs.lemmas.Iterator.Consumers.{YieldsList-from_filter, YieldsList-from_enumerate, YieldsList-turn, YieldsList-end}
use Rattle.std.proofs.lemmas.List.{length_push}
use Rattle.std.proofs.lemmas.List.FromFn.{length-enumerate_from}
use Rattle.std.specs.List.{filter}
use Rattle.plan.specs.Held.{InMemory}
use Rattle.ladder.proofs.Wishes.{Wish, is_wish, rows, wishes_are, wish_met}
use Rattle.ladder.proofs.Stages.{upto_asks, upto_next, upto_all}
use Rattle.ladder.proofs.climb_grade.Goals as goal
use Rattle.ladder.proofs.climb_grade.Goals.{In-Some}

-- which wish this turn is
met : (c : In-Some) → let n = length c.loop-w.yielded in (c.in-Some.w ≡ n) × Wish c.args.plan.now c.plan.inside.levels.now n c.in-Some.r.now
met c =
    let h = c.plan.inside.plan.now in
    let o : InMemory c.args.plan.now h c.plan.inside.levels.now = rw c.plan.view_is at c.plan.invariant in
    wish_met o (length c.loop-w.yielded) c.in-Some.w c.in-Some.r.now
    (YieldsList-turn
    (YieldsList-from_enumerate
    (YieldsList-from_filter _ is_wish (YieldsList-from_slice (rows h) cc) c.filter.ensures.closure (λ x r q k. search (rules, tests))) cc)
    c.loop-w.yielded _ c.loop-w.yielded_by _ _ (c.in-Some.w, c.in-Some.r) c.in-Some.is c.next.ensures.steps)

pub climb_wish-requires : goal.climb_wish-requires
climb_wish-requires c =
    let o : InMemory c.args.plan.now c.plan.inside.plan.now c.plan.inside.levels.now = rw c.plan.view_is at c.plan.invariant in
    let t = met (goal.at.climb_wish-requires c).In-Some in
    rw t.0 (upto_asks o.faultless c.requires c.loop-w.invariant t.1)

pub loop-w-preserved : goal.loop-w-preserved
loop-w-preserved c =
    let o : InMemory c.args.plan.now c.plan.inside.plan.now c.plan.inside.levels.now = rw c.plan.view_is at c.plan.invariant in
    let t = met (goal.at.loop-w-preserved c).In-Some in
    let e = c.climb_wish in
    rw (length_push c.loop-w.yielded (c.in-Some.w, c.in-Some.r))
    (upto_next o.faultless c.requires c.loop-w.invariant t.1 (rw t.0 at e.ensures.climbed) e.ensures.same_events e.auto.levels)

pub returns-clause-graded : goal.returns-clause-graded
returns-clause-graded c =
    let h = c.plan.inside.plan.now in
    let o : InMemory c.args.plan.now h c.plan.inside.levels.now = rw c.plan.view_is at c.plan.invariant in
    let end = YieldsList-end
    (YieldsList-from_enumerate
    (YieldsList-from_filter _ is_wish (YieldsList-from_slice (rows h) cc) c.filter.ensures.closure (λ x r q k. search (rules, tests))) cc)
    c.loop-w.yielded _ c.loop-w.yielded_by _ _ c.in-None.is c.next.ensures.steps in
    upto_all c.loop-w.invariant (end.1 ∙ length-enumerate_from 0 (filter is_wish (rows h)) ∙ wishes_are o)
