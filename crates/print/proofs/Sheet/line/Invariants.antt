-- The fields that are written so far, and what is left of the line behind them; the sheet's area is still the lent one.
use mathlib.Core.Path.{◌≡◌}
use Rattle.print.proofs.Writes.{Going}
use Rattle.print.proofs.Lines.{rest_of}
use Rattle.print.proofs.Sheet.line.Given as goal

abbrev pub invariant-loop-z : goal.invariant-loop-z
invariant-loop-z l =
    let first = l.initial.self in
    (l.self.out.ghost_name ≡ first.out.ghost_name) × Going first.out.now l.self.out.now first.at l.self.at (rest_of l.numbers 0) (rest_of l.numbers l.z-index)
