-- `Sheet::line` meets its contract: the word, and behind it a walk over the numbers: what is written, the fields that are left and the line
-- feed are the whole.
use mathlib.Core.Path.{sym, ap, ◌∙◌}
use mathlib.Core.List.{List, ◌∷◌}
use Prim.Native.Nat.{ℕ, ◌+◌, ◌≤◌, ◌<◌}
use native.Mathlib.Omega.{arith}
use borrow.Author.Rules.{rules}
use lib.IntN.{ℤ, pos}
use lib.ListN.{length, length-append, get_or}
use mir.Facts.{to_z-of_z}
use mir.Syntax.{w64}
use mir.Val.{SFits}
use Rattle.meaning.specs.Reading.{tab_byte}
use Rattle.print.specs.Written.{decimal_z, Wrote}
use Rattle.print.specs.Lines.{line}
use Rattle.print.proofs.Writes.{going_then, going_room, going_end, wrote_then, wrote_as, wrote_long}
use Rattle.print.proofs.Lines.{rest_of, line_rest, rest_more, rest_none}
use Rattle.print.proofs.Sheet.line.Goals as goal

-- there is room for the word, the fields and the line feed
all_room : (word : List ℕ) (numbers : List ℤ) (at long : ℕ) → at + length (line word numbers) ≤ long →
    at + (length word + length (rest_of numbers 0)) ≤ long
all_room word numbers at long h = omega (arith, h, ap length (line_rest word numbers), length-append word (rest_of numbers 0))

-- behind the word there is room for the fields and the line feed
behind_word : {s u : List ℕ} {at next : ℕ} {word : List ℕ} (numbers : List ℤ) → at + length (line word numbers) ≤ length s → Wrote s u at next word →
    next + length (rest_of numbers 0) ≤ length u
behind_word {s} {u} {at} {next} {word} numbers h w = omega (arith, w.ends, wrote_long w, all_room word numbers at (length s) h)

pub word-requires : goal.word-requires
word-requires c = omega (arith, all_room c.args.word.now c.args.numbers.now _ _ c.requires)

pub field-requires : goal.field-requires
field-requires c =
    let numbers = c.args.numbers.now in
    let i = c.loop-z.z-index in
    let l : i < length numbers = omega arith in
    let fits : SFits w64 (get_or numbers i (pos 0)) = search rules in
    simp (to_z-of_z fits)
    (omega (
      arith,
      going_room c.loop-z.invariant.1 (behind_word numbers c.requires c.word.ensures.wrote),
      ap length (rest_more numbers i l),
      length-append (tab_byte ∷ decimal_z (get_or numbers i (pos 0))) (rest_of numbers (i + 1)),
    ))

pub loop-z-preserved : goal.loop-z-preserved
loop-z-preserved c =
    let numbers = c.args.numbers.now in
    let i = c.loop-z.z-index in
    let l : i < length numbers = omega arith in
    let fits : SFits w64 (get_or numbers i (pos 0)) = search rules in
    (c.field.ensures.same ∙ c.loop-z.invariant.0, going_then c.loop-z.invariant.1 (rest_more numbers i l) (simp (to_z-of_z fits) at c.field.ensures.wrote))

pub word-requires-2 : goal.word-requires-2
word-requires-2 c =
    let numbers = c.args.numbers.now in
    let last = rest_none numbers c.loop-z.z-index (omega arith) in
    omega (arith, going_room c.loop-z.invariant.1 (behind_word numbers c.requires c.word.ensures.wrote), ap length last)

pub returns : goal.returns
returns c =
    let numbers = c.args.numbers.now in
    let last = rest_none numbers c.loop-z.z-index (omega arith) in
    let room = behind_word numbers c.requires c.word.ensures.wrote in
    record {
      wrote = wrote_as (line_rest _ _) (wrote_then c.word.ensures.wrote (going_end c.loop-z.invariant.1 room (wrote_as (sym last) c.word-2.ensures.wrote)));
      same = c.word-2.ensures.same ∙ c.loop-z.invariant.0 ∙ c.word.ensures.same;
    }
