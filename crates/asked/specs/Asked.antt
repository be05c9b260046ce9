-- What the program's first word asks for: T-02. No word is the empty word.
use Rattle.std.specs.Prelude.{ℕ, cond, List}
use Rattle.meaning.specs.Reading.{same}
use Rattle.meaning.specs.Known.{bytes}
use Rattle.scope.specs.declared.Side.{Side}
use Rattle.scope.specs.declared.Side.TheVariants.{Latest, Earliest}

-- the word that asks for the earliest times
abbrev pub earliest_word : List ℕ
earliest_word = bytes "earliest"

-- any other asks for nothing, and the latest are given
abbrev pub side_of : List ℕ → Side
side_of word = cond (same word earliest_word) Earliest Latest
