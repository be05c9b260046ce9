-- The bytes so far are those of reads one behind the other.
use Rattle.intake.specs.Gathered.{Reads}
use Rattle.intake.proofs.read_text.Given as goal

abbrev pub invariant-loop : goal.invariant-loop
invariant-loop g l = Reads l.initial.area l.n l.area
