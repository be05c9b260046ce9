-- `eventset::word_has` meets its contract: shifting by e brings the digit at place e to the bottom.
use mathlib.Core.Path.{ap}
use Prim.Native.Nat.{ℕ}
use lib.Dec.{eqb}
use Rattle.eventset.proofs.Digits.{digit_shr}
use Rattle.eventset.proofs.word_has.Goals as goal

pub returns : goal.returns
returns c = ap (λ (d : ℕ). eqb d 1) (digit_shr c.args.w c.args.e)
