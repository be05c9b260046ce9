-- What a sheet holds after bytes were put on it: its area, from the place on, and the place after them.
use Rattle.std.specs.Prelude.{◌≡◌, List, ℕ, ◌+◌, ◌≤◌, length}
use Rattle.print.specs.Written.{Wrote}
use Rattle.print.specs.declared.Sheet.{Sheet}

-- there is room for the bytes
abbrev pub Room : Sheet → List ℕ → Type 0
Room s bytes = s.at + length bytes ≤ length s.out.now

-- they are written, and the area is the one that was lent
pub record Puts (before after : Sheet) (bytes : List ℕ) : Type 0 where
  pub wrote : Wrote before.out.now after.out.now before.at after.at bytes
  pub same : after.out.ghost_name ≡ before.out.ghost_name
