-- A set of events is one number s: event e is in it exactly when the binary digit of s at place e is 1. In memory the number is two words.
use Rattle.std.specs.Prelude.{ℕ, zero, suc, ◌+◌, ◌*◌, ◌/◌, ◌%◌, ◌^◌, Bool, eqb}
use Rattle.std.specs.Int.Bits.{bit_or}
use Rattle.eventset.specs.declared.EventSet.{EventSet}

-- the digits of a word
abbrev pub word_width : ℕ
word_width = 64

-- the events of a set are below this
abbrev pub set_width : ℕ
set_width = word_width + word_width

-- the number whose upper digits are the high word and whose lower ones are the low word
unfoldable pub bits_of : EventSet → ℕ
bits_of s = s.high * 2 ^ word_width + s.low

-- the digit of s at place e: 0 or 1
unfoldable pub digit : ℕ → ℕ → ℕ
digit s zero = s % 2
digit s (suc e) = digit (s / 2) e

abbrev pub member : ℕ → ℕ → Bool
member s e = eqb (digit s e) 1

-- the set with e
abbrev pub put_in : ℕ → ℕ → ℕ
put_in s e = bit_or s (2 ^ e)
