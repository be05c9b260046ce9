-- The lines of the codes passed are written, and those of the others are left.
use Prim.Native.Nat.{◌*◌}
use lib.ListN.{drop}
use Rattle.forms.specs.Put.{step_room}
use Rattle.forms.specs.Printed.{step_lines}
use Rattle.forms.proofs.Puts.{Printing}
use Rattle.forms.proofs.step_lines.Given as goal

abbrev pub invariant-loop-c : goal.invariant-loop-c
invariant-loop-c l =
    Printing l.initial.sheet l.sheet (step_room * l.c-index) (step_lines l.plan l.chain) (step_lines l.plan (drop l.c-index l.chain))
