-- `faults::rule_fault` meets its contract: the tests in turn; a rule has no levels, so that the tests of levels are met.
use borrow.Author.Rules.{rules}
use Rattle.faults.specs.Faults.{record_fault}
use Rattle.faults.proofs.Firsts.{flat}
use Rattle.faults.proofs.rule_fault.Goals as goal

pub returns-then-not-in_range : goal.returns-then-not-in_range
unfolding record_fault
returns-then-not-in_range c = search rules

pub returns-then-span : goal.returns-then-span
unfolding record_fault
returns-then-span c = search rules

pub returns-then-span-2 : goal.returns-then-span-2
unfolding record_fault
returns-then-span-2 c = search rules

pub returns : goal.returns
unfolding record_fault
returns c = rw flat (search rules)
