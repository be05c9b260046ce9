-- The lines of the times passed are written, and those of the others are left.
use Prim.Native.Nat.{◌*◌}
use lib.ListN.{drop}
use Rattle.forms.specs.Put.{line_room}
use Rattle.forms.specs.Printed.{at_lines}
use Rattle.forms.proofs.Puts.{Printing}
use Rattle.forms.proofs.at_lines.Given as goal

abbrev pub invariant-loop-e : goal.invariant-loop-e
invariant-loop-e l = Printing l.initial.sheet l.sheet (line_room * l.e) (at_lines 0 l.times) (at_lines l.e (drop l.e l.times))
