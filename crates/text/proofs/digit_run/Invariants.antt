-- `text::digit_run`: as many digits as were read have a value below that power of ten, and what is left says what the whole says.
use Rattle.text.proofs.Runs.{Swept}
use Rattle.text.proofs.digit_run.Given as goal

abbrev pub invariant-loop-i : goal.invariant-loop-i
invariant-loop-i l = Swept l.digits l.v l.i
