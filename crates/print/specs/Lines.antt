-- A line of a word and its numbers, as document 01, section 7, prints one.
use Rattle.std.specs.Prelude.{List, [], ◌∷◌, ◌++◌, ℕ, ℤ}
use Rattle.meaning.specs.Reading.{tab_byte, line_feed}
use Rattle.print.specs.Written.{decimal_z}

-- each number behind a tab
abbrev pub fields : List ℤ → List ℕ
fields [] = []
fields (z ∷ zs) = (tab_byte ∷ decimal_z z) ++ fields zs

-- a word, its numbers, and the line feed
unfoldable pub line : List ℕ → List ℤ → List ℕ
line word zs = word ++ (fields zs ++ (line_feed ∷ []))
