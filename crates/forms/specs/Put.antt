-- Bytes put into a lent area, of which there are at most so many, and how many a printed form has.
use Rattle.std.specs.Prelude.{ℕ, ◌+◌, ◌*◌, ◌≤◌, List, length}
use Rattle.meaning.specs.Plan.{most_events, most_records}
use Rattle.print.specs.Written.{Wrote}
use Rattle.print.specs.Sheets.{Puts}
use Rattle.print.specs.declared.Sheet.{Sheet}

-- the bytes of a line with two numbers, at most; a line `step` has four
abbrev pub line_room : ℕ
line_room = 64

abbrev pub step_room : ℕ
step_room = 2 * line_room

-- one line `solved`, a line `at` for each event and a line `level` for each wish
abbrev pub area_room : ℕ
area_room = line_room * (1 + most_events + most_records)

pub record Put (before after : List ℕ) (at next most : ℕ) (bytes : List ℕ) : Type 0 where
  pub wrote : Wrote before after at next bytes
  pub few : next ≤ at + most

-- ---- the same of a sheet

-- so many bytes are free
abbrev pub Free : Sheet → ℕ → Type 0
Free s most = s.at + most ≤ length s.out.now

pub record Adds (before after : Sheet) (most : ℕ) (bytes : List ℕ) : Type 0 where
  pub puts : Puts before after bytes
  pub few : after.at ≤ before.at + most
