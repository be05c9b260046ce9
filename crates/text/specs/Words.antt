-- The first field of a line: one of three words, or another.
use Rattle.std.specs.Prelude.{ℕ, cond, List}
use Rattle.meaning.specs.Reading.{same, events_word, rule_word, wish_word}
use Rattle.text.specs.declared.Word.{Word}
use Rattle.text.specs.declared.Word.TheVariants.{Events, Rule, Wish, Other}

unfoldable pub word_of : List ℕ → Word
word_of f = cond (same f events_word) Events (cond (same f rule_word) Rule (cond (same f wish_word) Wish Other))
