-- `line::head_of` meets its contract: numbers in range have no sign.
use mir.Facts.{to_z-of_z}
use Rattle.meaning.specs.Plan.{most_events, most_horizon}
use Rattle.faults.proofs.Tests.{sign}
use Rattle.faults.proofs.Firsts.{head_ranges}
use Rattle.line.proofs.head_of.Goals as goal

pub number-requires : goal.number-requires
number-requires c = rw (to_z-of_z c.ranges.n) (sign 1 most_events c.args.n (head_ranges c.args.n c.args.h c.requires).0)

pub number-requires-2 : goal.number-requires-2
number-requires-2 c = rw (to_z-of_z c.ranges.h) (sign 0 most_horizon c.args.h (head_ranges c.args.n c.args.h c.requires).1)
