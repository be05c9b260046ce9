-- `settle::settle` meets its contract: the bounds are added from the horizon on; where one fails the chain is the outcome, else the ladder is
-- climbed and the outermost times are read off. Each step is a law of `Settles`.
use mathlib.Core.Path.{◌∙◌}
use Rattle.meaning.proofs.Demands.{long_areas}
use Rattle.settle.specs.Lent.{lent}
use Rattle.settle.proofs.Settles.{begun, settle_trying, settle_broken, settle_ready, settle_chained, chained_settled, climbed_settled}
use Rattle.settle.proofs.settle.Goals as goal

pub try_all-requires : goal.try_all-requires
try_all-requires c =
    let o = begun c.plan.view_is c.plan.invariant c.list_of.ensures c.listed-list.ensures c.start.ensures.sized c.start.ensures.started.0 in
    settle_trying o

-- ---- a chain

pub chain_of-steps-requires : goal.chain_of-steps-requires
chain_of-steps-requires c =
    let o = begun c.plan.view_is c.plan.invariant c.list_of.ensures c.listed-list.ensures c.start.ensures.sized c.start.ensures.started.0 in
    let long = long_areas (lent c.args.areas.now) c.requires in
    ((_, settle_broken o c.in-Err.ensures.tried), long.for_chain)

pub returns-in-Err-clause-outcome : goal.returns-in-Err-clause-outcome
returns-in-Err-clause-outcome c =
    let o = begun c.plan.view_is c.plan.invariant c.list_of.ensures c.listed-list.ensures c.start.ensures.sized c.start.ensures.started.0 in
    chained_settled _ _ (settle_chained o c.in-Err.ensures.tried c.chain_of-steps.ensures)

-- ---- times and levels

pub climb-count-requires : goal.climb-count-requires
climb-count-requires c =
    let o = begun c.plan.view_is c.plan.invariant c.list_of.ensures c.listed-list.ensures c.start.ensures.sized c.start.ensures.started.0 in
    let long = long_areas (lent c.args.areas.now) c.requires in
    record { ready = settle_ready o c.try_all.ensures.same_events c.in_default.ensures.tried; room = long.for_levels }

pub returns-clause-outcome : goal.returns-clause-outcome
returns-clause-outcome c =
    let o = begun c.plan.view_is c.plan.invariant c.list_of.ensures c.listed-list.ensures c.start.ensures.sized c.start.ensures.started.0 in
    let r = settle_ready o c.try_all.ensures.same_events c.in_default.ensures.tried in
    let long = long_areas (lent c.args.areas.now) c.requires in
    climbed_settled o.faultless c.climb-count.ensures.climbed _ _ (c.climb-count.ensures.same_events ∙ r.events) long.for_times c.outermost.ensures
