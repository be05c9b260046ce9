-- `Sheet::digits` meets its contract: the fewest digits that hold the number are written, and these are its decimal digits.
use mathlib.Core.Path.{ap, ◌∙◌}
use native.Mathlib.Omega.{arith}
use lib.ListN.{length}
use Rattle.print.proofs.Decimals.{fewest_decimal}
use Rattle.print.proofs.Writes.{wrote_as}
use Rattle.print.proofs.Sheet.digits.Goals as goal

pub word-requires : goal.word-requires
word-requires c =
    let made = c.decimal-k.ensures.digits ∙ fewest_decimal _ _ c.decimal-k.ensures.len in
    omega (arith, ap length made, c.requires)

pub returns : goal.returns
returns c =
    let made = c.decimal-k.ensures.digits ∙ fewest_decimal _ _ c.decimal-k.ensures.len in
    record { wrote = wrote_as made c.word.ensures.wrote; same = c.word.ensures.same }
