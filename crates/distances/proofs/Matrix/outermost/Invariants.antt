-- The events so far have their outermost times.
use lib.IntN.{pos}
use Rattle.meaning.specs.Distances.{outermost}
use Rattle.distances.specs.Matrix.{at}
use Rattle.distances.specs.Sweep.{Swept}
use Rattle.distances.proofs.Matrix.outermost.Given as goal

abbrev pub invariant-loop-e : goal.invariant-loop-e
invariant-loop-e l = Swept (pos 0) l.fn.times l.times 0 l.e (outermost l.side (at l.self.entries))
