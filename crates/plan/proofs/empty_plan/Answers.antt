-- `plan::empty_plan` meets its contract: all is zero.
use mathlib.Core.Path.{refl}
use Rattle.plan.proofs.Growth.{holds_empty}
use Rattle.plan.proofs.empty_plan.Goals as goal

pub returns : goal.returns
returns c = holds_empty _ refl refl
