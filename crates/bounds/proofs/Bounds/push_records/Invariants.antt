-- The list has two bounds more for each record before record k.
use Prim.Native.Nat.{◌+◌, ◌*◌}
use mathlib.Core.Path.{◌≡◌}
use mathlib.Core.List.{List}
use Rattle.meaning.specs.Bounds.{Bound}
use Rattle.bounds.specs.Entries.{Front}
use Rattle.bounds.proofs.Lists.{RecordsSoFar}
use Rattle.bounds.proofs.Bounds.push_records.Given as goal

abbrev pub invariant-loop-k : goal.invariant-loop-k
invariant-loop-k l = record {
  horizon : l.self.horizon ≡ l.fn.self.horizon;
  count : l.self.count ≡ l.fn.self.count + 2 * l.k;
  listed : (bs : List Bound) → Front l.fn.self bs → RecordsSoFar l.self bs l.plan.records l.k;
}
