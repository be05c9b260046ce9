-- Before each line `Walking` holds, in a line before each field `Scanning`.
use Prim.Native.Nat.{◌-◌}
use lib.ListN.{length}
use Rattle.reader.proofs.Steps.{Walking, Scanning}
use Rattle.reader.proofs.read_lines.Given as goal

abbrev pub invariant-lines : goal.invariant-lines
invariant-lines l = Walking l.text l.fn.levels l.levels l.plan l.number l.rest

abbrev pub decreases-lines : goal.decreases-lines
decreases-lines l = length l.rest

abbrev pub invariant-loop-tab : goal.invariant-loop-tab
invariant-loop-tab l = Scanning l.bytes l.number l.plan.used l.initial.levels l.line l.levels l.tab

abbrev pub decreases-loop-tab : goal.decreases-loop-tab
decreases-loop-tab l = length l.bytes - l.tab
