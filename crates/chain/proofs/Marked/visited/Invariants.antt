-- The event that is come to is one, and of every way by the notes the events passed are in the set. The set grows.
use Prim.Native.Nat.{◌-◌, ◌<◌}
use mathlib.Core.List.{List}
use lib.Count.{ones}
use Rattle.eventset.specs.Sets.{set_width, bits_of}
use Rattle.meaning.specs.Plan.{most_events}
use Rattle.meaning.specs.Bounds.{Bound}
use Rattle.chain.specs.Marks.{Path}
use Rattle.chain.proofs.Visit.{Passing}
use Rattle.chain.proofs.Marked.visited.Given as goal

abbrev pub invariant-loop-e : goal.invariant-loop-e
invariant-loop-e l = record {
  low : l.e < most_events;
  passing : (steps : List Bound) → Path l.self.notes l.a l.b steps → Passing l.self.notes l.a l.b steps (bits_of l.seen) l.e;
}

abbrev pub decreases-loop-e : goal.decreases-loop-e
decreases-loop-e l = set_width - ones (bits_of l.seen)
