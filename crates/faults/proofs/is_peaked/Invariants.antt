-- The one pass from here on gives what the whole gives.
use mathlib.Core.Path.{◌≡◌}
use lib.ListN.{drop}
use Rattle.meaning.specs.Peak.{peaked, peaked_from}
use Rattle.faults.proofs.is_peaked.Given as goal

abbrev pub invariant-loop-level : goal.invariant-loop-level
invariant-loop-level l = peaked_from l.fallen l.last (drop l.level-index l.levels) ≡ peaked l.levels
