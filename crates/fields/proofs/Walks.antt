-- The fields of a line by the places that `field_after` gives.
use Prim.Native.Nat.{ℕ, ◌+◌, ◌≤◌, ◌<◌}
use mathlib.Core.Path.{◌≡◌, ◌∙◌}
use mathlib.Core.List.{List, ◌∷◌}
use native.Mathlib.Omega.{arith}
use lib.ListN.{length, drop, length-drop}
use lib.Seq.{drop-drop}
use Rattle.text.specs.Bytes.{after}
use Rattle.text.proofs.Cuts.{until_le, split_until, after_step_lem}
use Rattle.meaning.specs.Reading.{tab_byte}
use Rattle.fields.specs.Fields.{first_field, field_end}

-- where the walk stands at p, before a field
pub fields_step : (line : List ℕ) (p : ℕ) → p < length line
    → after tab_byte (drop p line) ≡ first_field (drop (p + 1) line) ∷ after tab_byte (drop (field_end line p) line)
fields_step line p h = after_step_lem tab_byte line p h ∙ split_until tab_byte (drop (p + 1) line) ∙ rw (drop-drop)

-- a field ends past where it begins, and inside the line
pub field_in : (line : List ℕ) (p : ℕ) → p < length line → (p < field_end line p) × (field_end line p ≤ length line)
field_in line p h = (omega arith, omega (arith, until_le tab_byte (drop (p + 1) line), length-drop (p + 1) line))
