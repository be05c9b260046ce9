-- Events are marked one by one, from a on, and the notes lead from event to event. A scan marks an event more, and there are no more than the
-- set holds.
use Prim.Native.Nat.{◌-◌}
use lib.Count.{ones}
use Rattle.eventset.specs.Sets.{set_width, bits_of, put_in}
use Rattle.chain.specs.Clash.{bounds_of}
use Rattle.chain.specs.Marks.{no_notes, Marks, Notes}
use Rattle.chain.proofs.Marked.reach.Given as goal

abbrev pub invariant-loop-self : goal.invariant-loop-self
invariant-loop-self l = record {
  marks : Marks (bounds_of l.list) l.d.entries l.a (put_in 0 l.a) no_notes (bits_of l.self.events) l.self.notes;
  notes : Notes l.self.notes;
}

abbrev pub decreases-loop-self : goal.decreases-loop-self
decreases-loop-self l = set_width - ones (bits_of l.self.events)
