-- `report::answer` meets its contract: a short area is left alone; else the text is read once, and what was said of it is told.
use native.Mathlib.Nat.{le_refl}
use native.Mathlib.Omega.{arith}
use Rattle.meaning.specs.Plan.{most_levels_together}
use Rattle.meaning.proofs.Refusals.{refused_number}
use Rattle.solver.proofs.Heard.{read_into, read_fault, read_loaded, read_recalled}
use Rattle.report.proofs.Outcomes.{long_told, told_refusal}
use Rattle.report.proofs.answer.Goals as goal

pub invariant_of-loaded : goal.invariant_of-loaded
invariant_of-loaded c = read_loaded (read_into c.in-Ok.ensures (le_refl most_levels_together))

pub returns-in-Ok : goal.returns-in-Ok
returns-in-Ok c =
    long_told c.if-out-lt-AREA.false (c.put_outcome.ensures _ (read_recalled (read_into c.in-Ok.ensures (le_refl most_levels_together))))

pub put_refused-requires : goal.put_refused-requires
put_refused-requires c =
    let e = read_fault (read_into c.in-Err.ensures (le_refl most_levels_together)) in
    (c.if-out-lt-AREA.false, omega (arith, (refused_number c.args.text.now e).most))

pub returns-in-Err : goal.returns-in-Err
returns-in-Err c =
    let e = read_fault (read_into c.in-Err.ensures (le_refl most_levels_together)) in
    long_told c.if-out-lt-AREA.false (told_refusal e c.put_refused.ensures)
