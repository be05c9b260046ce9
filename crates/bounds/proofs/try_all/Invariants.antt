-- The bounds before bound k were added.
use mathlib.Core.Path.{◌≡◌}
use Rattle.bounds.specs.Tried.{Entered}
use Rattle.bounds.proofs.try_all.Given as goal

abbrev pub invariant-loop-k : goal.invariant-loop-k
invariant-loop-k l = record {
  same_events : l.d.events ≡ l.fn.d.events;
  entered : Entered l.list l.from l.fn.d.events l.fn.d.entries l.d.entries l.k;
}
