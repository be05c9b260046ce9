-- One question: the run of a grade is near enough for the distance to be held to it, since it lies within the levels of a wish without fault.
use mathlib.Core.List.{List}
use Prim.Native.Nat.{ℕ}
use lib.IntN.{ℤ, pos, ◌+ℤ◌, ◌-ℤ◌}
use Rattle.meaning.specs.Plan as M
use Rattle.meaning.specs.Run.{run_first, run_past}
use Rattle.meaning.specs.Faultless.{GoodRecord}
use Rattle.meaning.proofs.Bounds.{run_lowest, run_highest}
use Rattle.distances.specs.Matrix.{Net, Narrowing}

pub wish_narrowing : {n H a b : ℕ} {lo : ℤ} {ls : List ℕ} {d : List ℤ} (y : ℕ) → GoodRecord n (M.wish a b lo ls) → Net n H d →
    Narrowing n a b (lo +ℤ pos (run_first y ls)) (lo +ℤ pos (run_past y ls) -ℤ pos 1) d
wish_narrowing {H = H} y g net = record { horizon = H; net = net; from = g.starts; to = g.ends; low = run_lowest g y; high = run_highest g y }
