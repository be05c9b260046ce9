-- What the bounds before bound b have done.
use Rattle.eventset.specs.Sets.{bits_of}
use Rattle.chain.proofs.Marks.{Under}
use Rattle.chain.proofs.Marked.scan.Given as goal

abbrev pub invariant-loop-b : goal.invariant-loop-b
invariant-loop-b l = Under l.list l.d.entries l.a (bits_of l.fn.self.events) l.fn.self.notes l.b-index (bits_of l.self.events) l.self.notes
