-- `bounds::try_all` meets its contract: each turn adds a bound, or finds that it cannot be added, which ends the loop.
use mathlib.Core.Path.{refl, ◌∙◌}
use Rattle.bounds.proofs.Tries.{entered_none, adding_next, entered_more, stopped_here, entered_all}
use Rattle.bounds.proofs.try_all.Goals as goal

pub loop-k-init : goal.loop-k-init
loop-k-init c = record { same_events = refl; entered = entered_none c.requires.ordered }

pub try_bound-requires : goal.try_bound-requires
try_bound-requires c =
    let h = c.loop-k.invariant in
    rw h.same_events (adding_next c.requires h.entered c.loop-k-test.true)

pub loop-k-preserved : goal.loop-k-preserved
loop-k-preserved c =
    let h = c.loop-k.invariant in
    let a = rw h.same_events at c.try_bound.ensures.answered in
    record {
      same_events = c.try_bound.ensures.same_events ∙ h.same_events;
      entered = entered_more c.requires h.entered c.loop-k-test.true a c.if-not-try_bound.false;
    }

pub returns-then-not-try_bound-clause-tried : goal.returns-then-not-try_bound-clause-tried
returns-then-not-try_bound-clause-tried c =
    let h = c.loop-k.invariant in
    stopped_here c.requires h.entered c.loop-k-test.true (rw h.same_events at c.try_bound.ensures.answered) c.if-not-try_bound.true

pub returns-clause-tried : goal.returns-clause-tried
returns-clause-tried c = entered_all c.loop-k.invariant.entered c.loop-k-test.false
