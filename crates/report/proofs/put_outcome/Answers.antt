-- `report::put_outcome` meets its contract: what the outcome left in its areas has its form.
use mathlib.Core.Path.{refl}
use Rattle.meaning.specs.Faultless.{WithoutFault}
use Rattle.plan.specs.Held.{Holds}
use Rattle.forms.specs.Timed.{Timed}
use Rattle.report.proofs.Outcomes.{LeftSolved, left_solved, left_timed, left_right, left_none, told_plan}
use Rattle.report.proofs.put_outcome.Goals as goal
use Rattle.report.proofs.put_outcome.Goals.{In-Solved}

-- the times and levels of a plan that is solved
solved_left : (c : In-Solved) →
    let areas = c.settle-outcome.new.areas in
    let p = c.args.plan.now in
    LeftSolved c.args.side p p.events areas.times.now areas.levels.now c.in-Solved.w
solved_left c =
    let faultless : WithoutFault c.args.plan.now = rw (← c.plan.view_is) c.plan.invariant.faultless in
    left_solved faultless refl c.in-Solved.ensures.outcome

timed : (c : In-Solved) →
    let areas = c.settle-outcome.new.areas in
    Timed c.args.plan.now c.plan.inside.plan.now c.in-Solved.w areas.times.now areas.levels.now
timed c =
    let faultless : WithoutFault c.args.plan.now = rw (← c.plan.view_is) c.plan.invariant.faultless in
    let holds : Holds c.args.plan.now c.plan.inside.plan.now = rw (← c.plan.view_is) c.plan.invariant.holds in
    left_timed (solved_left c) holds faultless

pub put_timed-requires : goal.put_timed-requires
put_timed-requires c = (c.requires, (c.args.plan.now, timed (goal.at.put_timed-requires c).In-Solved))

pub returns-in-Solved : goal.returns-in-Solved
returns-in-Solved c =
    λ text e.
    let s = (goal.at.returns-in-Solved c).In-Solved in
    told_plan e _ (left_right (solved_left s)) (c.put_timed.ensures c.args.plan.now (timed s))

pub returns-in-NoTimetable : goal.returns-in-NoTimetable
returns-in-NoTimetable c =
    let faultless : WithoutFault c.args.plan.now = rw (← c.plan.view_is) c.plan.invariant.faultless in
    λ text e. told_plan e _ (left_none faultless c.in-NoTimetable.ensures.outcome).right c.put_none.ensures
