-- `reader::read` meets its contract: each way out by what its last calls answer.
use native.Mathlib.Omega.{arith}
use Rattle.std.proofs.lemmas.Grind.{common_steps}
use Rattle.reader.proofs.Answers.{read_long, read_plan, read_fault}
use Rattle.reader.proofs.read.Goals as goal

pub returns-then-text-gt-MOST_BYTES : goal.returns-then-text-gt-MOST_BYTES
returns-then-text-gt-MOST_BYTES c = read_long c.if-levels-lt-MOST_LEVELS_TOGETHER.false c.clear.ensures c.if-text-gt-MOST_BYTES.true

pub returns-in-Ok : goal.returns-in-Ok
returns-in-Ok c =
    read_plan c.if-levels-lt-MOST_LEVELS_TOGETHER.false c.clear.ensures c.if-text-gt-MOST_BYTES.false _ _ _ c.in-Ok.ensures

pub returns-in-Err : goal.returns-in-Err
returns-in-Err c =
    let again = c.clear-in-Err.ensures in
    read_fault c.if-levels-lt-MOST_LEVELS_TOGETHER.false c.clear.ensures c.if-text-gt-MOST_BYTES.false _ _ c.in-Err.refusal c.in-Err.ensures
    c.read_lines.auto.levels
    (record {
      long = grind (arith, common_steps, again.long);
      done = λ i l. grind (arith, common_steps, again.done i l);
      rest = λ i l. grind (arith, common_steps, again.rest i l);
    })
