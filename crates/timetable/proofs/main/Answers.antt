-- `timetable::main` hands on as many bytes as are a text's: these are bytes of the area.
use Prim.Native.Nat.{◌≤◌}
use native.Mathlib.Omega.{arith}
use lib.ListN.{length, length-take}
use Rattle.intake.proofs.Came.{whole_within}
use Rattle.timetable.proofs.main.Goals as goal

pub slice_bounds-text-end : goal.slice_bounds-text-end
slice_bounds-text-end c = whole_within c.read_text.ensures c.in-Ok.is

pub slice_bounds-print-end : goal.slice_bounds-print-end
slice_bounds-print-end c =
    let inside : c.in-Ok.n ≤ length c.read_text.new.area = whole_within c.read_text.ensures c.in-Ok.is in
    simp length-take (omega arith)
