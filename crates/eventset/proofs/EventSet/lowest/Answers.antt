-- `EventSet::lowest` meets its contract: the least of the low word, or where that is empty the least of the high one, past the low word's digits.
use native.Mathlib.Omega.{arith}
use mathlib.Core.Path.{ap, ◌∙◌, sym}
use Prim.Native.Nat.{ℕ, ◌+◌, ◌^◌, ◌≤◌, ◌<◌}
use lib.Count.{count_trailing_zeros}
use Rattle.eventset.specs.Sets.{word_width, bits_of}
use Rattle.eventset.proofs.Words.{least_low, least_high}
use Rattle.eventset.proofs.EventSet.lowest.Goals as goal

pub returns-then-low-lt-WORD : goal.returns-then-low-lt-WORD
unfolding bits_of
returns-then-low-lt-WORD c =
    let s = c.args.self in
    let is = c.number-low.ensures in
    let here : count_trailing_zeros word_width s.low < word_width = omega (arith, is, c.if-low-lt-WORD.true) in
    is ∙ sym (least_low word_width word_width s.low s.high here)

pub returns : goal.returns
unfolding bits_of
returns c =
    let s = c.args.self in
    let l : s.low < 2 ^ word_width = omega arith in
    let past : word_width ≤ count_trailing_zeros word_width s.low = omega (arith, c.number-low.ensures, c.if-low-lt-WORD.false) in
    ap (λ (x : ℕ). word_width + x) c.number.ensures ∙ sym (least_high word_width word_width s.low s.high l past)
