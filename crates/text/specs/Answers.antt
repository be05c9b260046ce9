-- What a reader of digits or of a number answers: the number or none, and the place where reading stopped.
use Rattle.std.specs.Prelude.{◌≡◌, List, ℕ, ℤ, length, Result, Ok, Err}
use Rattle.std.proofs.Math.Option.{Option, none, some}
use Rattle.meaning.specs.Reading.{number_of}
use Rattle.text.specs.Number.{number_stop}

abbrev pub read_as : {A : Type 0} → Result A ℕ → Option A
read_as (Ok v) = some v
read_as (Err place) = none

-- the place where reading stopped, which is the end where there is a value
abbrev pub stopped_at : {A : Type 0} → ℕ → Result A ℕ → ℕ
stopped_at end (Ok v) = end
stopped_at end (Err place) = place

-- what `read_number` promises of its answer to the bytes of a field
abbrev pub NumberRead : List ℕ → Result ℤ ℕ → Type 0
NumberRead field r = (read_as r ≡ number_of field) × (stopped_at (length field) r ≡ number_stop field)
