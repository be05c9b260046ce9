-- `EventSet::empty` meets its contract: no digit in either word.
use mathlib.Core.Path.{refl}
use Rattle.eventset.specs.Sets.{bits_of}
use Rattle.eventset.proofs.EventSet.empty.Goals as goal

pub returns : goal.returns
unfolding bits_of
returns c = refl
