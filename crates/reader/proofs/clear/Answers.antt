-- `reader::clear` meets its contract: the part that is filled, and the rest, which stays.
use mathlib.Core.Path.{◌≡◌, refl, ◌∙◌}
use Prim.Native.Nat.{◌+◌, ◌-◌}
use native.Mathlib.Omega.{arith}
use lib.ListN.{length, drop, length-append, length-drop}
use lib.Seq.{get_or-drop, length-take-le}
use Rattle.std.proofs.lemmas.List.{get_or_append_left, get_or-append_right}
use Rattle.meaning.specs.Plan.{most_levels_together}
use Rattle.reader.proofs.clear.Goals as goal

pub returns : goal.returns
returns c =
    let area = c.args.levels.now in
    let k = length-take-le most_levels_together area (omega arith) in
    let n : length c.fill.new.self ≡ most_levels_together = c.fill.ensures.len ∙ k in
    record {
      long = length-append c.fill.new.self (drop most_levels_together area) ∙ omega (arith, length-drop most_levels_together area);
      done = λ i l.
          get_or_append_left c.fill.new.self (drop most_levels_together area) 0 i (omega arith)
          ∙ c.fill.ensures.clones i 0 (omega (arith, k)) refl;
      rest = λ i l.
          let e : most_levels_together + (i - most_levels_together) ≡ i = omega arith in
          get_or-append_right c.fill.new.self (drop most_levels_together area) most_levels_together i 0 n l
          ∙ get_or-drop most_levels_together area (i - most_levels_together) 0 ∙ rw e;
    }
