-- The fields of a line: a line as a struct, and the field behind a tab.
use Rattle.std.specs.Prelude.{◌≡◌, List, [], ◌∷◌, ℕ, ◌+◌, ◌<◌, length, get_or, set, take, drop, ℤ, pos, Option, Some, None}
use Rattle.std.proofs.Math.Option.{none, some}
use Rattle.meaning.specs.Reading.{tab_byte, item, number_of}
use Rattle.text.specs.Bytes.{until}
use Rattle.text.specs.Words.{word_of}
use Rattle.fields.specs.declared.Line.{Line}

-- the first field of a line, or of what is left of it
abbrev pub first_field : List ℕ → List ℕ
first_field line = take (until tab_byte line) line

-- ---- a line as a struct

-- the line, none of its numbers read
abbrev pub begun : List ℕ → ℕ → Line
begun line number = record {
  number = number;
  word = word_of (first_field line);
  first = until tab_byte line;
  count = 0;
  fields = pos 0 ∷ pos 0 ∷ pos 0 ∷ pos 0 ∷ [];
}

-- one number more: the first four are kept
abbrev pub with_number : Line → ℤ → Line
with_number l v = record {
  number = l.number;
  word = l.word;
  first = l.first;
  count = l.count + 1;
  fields = set l.fields l.count v;
}

-- the struct has the numbers vs
pub record Numbered (vs : List ℤ) (l : Line) : Type 0 where
  pub count : l.count ≡ length vs
  pub size : length l.fields ≡ 4
  pub at : (k : ℕ) → k < 4 → get_or l.fields k (pos 0) ≡ item vs k

-- ---- the field behind a tab

-- the place where the field behind the tab at p ends
abbrev pub field_end : List ℕ → ℕ → ℕ
field_end line p = p + 1 + until tab_byte (drop (p + 1) line)

-- the field behind the tab at p
abbrev pub FieldRead : List ℕ → ℕ → Option (ℤ × ℕ) → Type 0
FieldRead line p (Some (v, next)) = (next ≡ field_end line p) × (number_of (first_field (drop (p + 1) line)) ≡ some v)
FieldRead line p None = number_of (first_field (drop (p + 1) line)) ≡ none
