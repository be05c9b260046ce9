-- `faults::head_fault` meets its contract: the tests in turn.
use borrow.Author.Rules.{rules}
use Rattle.faults.specs.Faults.{head_fault}
use Rattle.faults.proofs.head_fault.Goals as goal

pub returns-then-is_between-2 : goal.returns-then-is_between-2
unfolding head_fault
returns-then-is_between-2 c = search rules

pub returns-else-is_between : goal.returns-else-is_between
unfolding head_fault
returns-else-is_between c = search rules
