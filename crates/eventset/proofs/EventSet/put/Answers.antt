-- `EventSet::put` meets its contract: an event below the word's end goes into the low word, any other into the high one.
use native.Mathlib.Omega.{arith}
use mathlib.Core.Path.{ap, ◌∙◌, sym}
use Prim.Native.Nat.{ℕ, ◌+◌, ◌*◌, ◌^◌, ◌<◌}
use Rattle.eventset.specs.Sets.{word_width, bits_of}
use Rattle.eventset.proofs.Words.{put_low, put_high}
use Rattle.eventset.proofs.EventSet.put.Goals as goal

pub returns-then-e-lt-WORD : goal.returns-then-e-lt-WORD
unfolding bits_of
returns-then-e-lt-WORD c =
    let a = c.args in
    let l : a.self.low < 2 ^ word_width = omega arith in
    ap (λ (x : ℕ). a.self.high * 2 ^ word_width + x) c.word_put.ensures ∙ sym (put_low word_width a.self.low a.self.high a.e l c.if-e-lt-WORD.true)

pub returns : goal.returns
unfolding bits_of
returns c =
    let a = c.args in
    let l : a.self.low < 2 ^ word_width = omega arith in
    ap (λ (x : ℕ). x * 2 ^ word_width + a.self.low) c.word_put-2.ensures ∙ sym (put_high word_width a.self.low a.self.high a.e l c.if-e-lt-WORD.false)
