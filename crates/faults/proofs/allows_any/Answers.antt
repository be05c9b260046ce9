-- `faults::allows_any` meets its contract: a level of at least the least one stands before the end, unless all are 0.
use Rattle.faults.proofs.Allowed.{found_allows}
use Rattle.faults.proofs.allows_any.Goals as goal

pub returns : goal.returns
returns c = rw c.run_first.ensures (found_allows c.args.levels.now c.requires)
