-- `solver::outcome_of` meets its contract: the outcome of the plan that was read, or the first fault of the text.
use Rattle.settle.specs.Lent.{lent}
use Rattle.solver.proofs.Heard.{fault_solves, settled_solves, read_fault, read_loaded, read_recalled}
use Rattle.solver.proofs.outcome_of.Goals as goal

pub invariant_of-loaded : goal.invariant_of-loaded
invariant_of-loaded c = read_loaded (rw c.in-Ok.is at c.requires.read.1)

pub returns-in-Ok-clause-solves : goal.returns-in-Ok-clause-solves
returns-in-Ok-clause-solves c = λ text r.
    settled_solves text (lent c.args.areas.now) c.requires.room (read_recalled (rw c.in-Ok.is at r)) c.settle.ensures.outcome

pub returns-in-Err-clause-solves : goal.returns-in-Err-clause-solves
returns-in-Err-clause-solves c = λ text r. fault_solves text (lent c.args.areas.now) _ c.requires.room (read_fault (rw c.in-Err.is at r))
