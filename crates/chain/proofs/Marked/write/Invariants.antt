-- After as many steps an event is come to, and the codes passed are written.
use Prim.Native.Nat.{◌<◌}
use Rattle.meaning.specs.Plan.{most_events}
use Rattle.chain.proofs.Codes.{Putting}
use Rattle.chain.proofs.Marked.write.Given as goal

abbrev pub invariant-loop-i : goal.invariant-loop-i
invariant-loop-i l = record { low : l.e < most_events; putting : Putting l.self.notes l.from l.count l.fn.out l.i l.e l.out }
