-- `bounds::Bounds::clear` meets its contract: every entry is blank.
use mathlib.Core.Path.{refl}
use Rattle.bounds.proofs.Lists.{front_none}
use Rattle.bounds.proofs.Bounds.clear.Goals as goal

pub returns : goal.returns
returns c = front_none _ refl refl
