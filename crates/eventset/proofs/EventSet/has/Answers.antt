-- `EventSet::has` meets its contract: an event below the word's end is in the low word, any other in the high one.
use native.Mathlib.Omega.{arith}
use mathlib.Core.Path.{◌∙◌, sym}
use Prim.Native.Nat.{◌^◌, ◌<◌}
use Rattle.eventset.specs.Sets.{word_width, bits_of}
use Rattle.eventset.proofs.Words.{member_low, member_high}
use Rattle.eventset.proofs.EventSet.has.Goals as goal

pub returns-then-e-lt-WORD : goal.returns-then-e-lt-WORD
unfolding bits_of
returns-then-e-lt-WORD c =
    let a = c.args in
    c.word_has.ensures ∙ sym (member_low word_width a.self.low a.self.high a.e c.if-e-lt-WORD.true)

pub returns : goal.returns
unfolding bits_of
returns c =
    let a = c.args in
    let l : a.self.low < 2 ^ word_width = omega arith in
    c.word_has-2.ensures ∙ sym (member_high word_width a.self.low a.self.high a.e l c.if-e-lt-WORD.false)
