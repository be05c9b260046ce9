-- The lines of the records passed are written, and those of the others are left, whose first wish is number w, for every plan that memory holds.
use mathlib.Core.Path.{◌≡◌}
use Prim.Native.Nat.{◌+◌, ◌*◌}
use lib.ListN.{length, drop}
use Rattle.meaning.specs.Plan as M
use Rattle.meaning.specs.Plan.{wish_count}
use Rattle.forms.specs.Put.{line_room}
use Rattle.forms.specs.Printed.{level_lines}
use Rattle.forms.specs.Timed.{Levels}
use Rattle.forms.proofs.Puts.{Printing}
use Rattle.forms.proofs.level_lines.Given as goal

abbrev pub invariant-loop-k : goal.invariant-loop-k
invariant-loop-k l =
    (p : M.Plan) → Levels p l.plan l.levels → (l.w + wish_count (drop l.k p.records) ≡ length l.levels)
    × Printing l.initial.sheet l.sheet (line_room * l.k) (level_lines 0 p.records l.levels)
    (level_lines l.k (drop l.k p.records) (drop l.w l.levels))
