-- `text::read_number` meets its contract: behind a minus by what the digits say.
use Prim.Native.Nat.{ℕ}
use native.Mathlib.Omega.{arith}
use Rattle.std.proofs.lemmas.List.{take_rest}
use Rattle.text.proofs.Numbers.{number_rules}
use Rattle.text.proofs.read_number.Goals as goal

pub returns-in-Ok : goal.returns-in-Ok
returns-in-Ok c = grind (arith, number_rules, take_rest {X = ℕ}, c.in-Ok.ensures)

pub returns-in-Ok-2 : goal.returns-in-Ok-2
returns-in-Ok-2 c = grind (arith, number_rules, take_rest {X = ℕ}, c.in-Ok-2.ensures)

pub returns-in-Err : goal.returns-in-Err
returns-in-Err c = grind (arith, number_rules, take_rest {X = ℕ}, c.in-Err.ensures)
