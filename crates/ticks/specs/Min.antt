-- The lesser of two whole numbers.
use Rattle.std.specs.Prelude.{cond, ℤ}
use Rattle.std.specs.Int.Signed.{le_z}

unfoldable pub min_z : ℤ → ℤ → ℤ
min_z a b = cond (le_z a b) a b
