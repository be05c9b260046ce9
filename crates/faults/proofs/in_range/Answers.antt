-- `faults::in_range` meets its contract: the tests in turn.
use borrow.Author.Rules.{rules}
use Rattle.faults.proofs.in_range.Goals as goal
use Rattle.faults.proofs.in_range.Goals.{then-is_event, else-is_event, then-is_event-2, else-is_event-2}

pub returns-then-is_end : goal.returns-then-is_end
returns-then-is_end c = elim c.if-is_event-2.branch [
  | then-is_event-2 w ↦ elim c.if-is_event.branch [ then-is_event v ↦ search rules | else-is_event v ↦ search rules ]
  | else-is_event-2 w ↦ elim c.if-is_event.branch [ then-is_event v ↦ search rules | else-is_event v ↦ search rules ]
]

pub returns-else-is_end : goal.returns-else-is_end
returns-else-is_end c = elim c.if-is_event-2.branch [
  | then-is_event-2 w ↦ elim c.if-is_event.branch [ then-is_event v ↦ search rules | else-is_event v ↦ search rules ]
  | else-is_event-2 w ↦ elim c.if-is_event.branch [ then-is_event v ↦ search rules | else-is_event v ↦ search rules ]
]
