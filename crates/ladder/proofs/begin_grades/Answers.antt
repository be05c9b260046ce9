-- `ladder::begin_grades` meets its contract: the rows with levels are the wishes, and each of their places holds the least level.
use mathlib.Core.Path.{◌≡◌, refl, ◌∙◌}
use Prim.Native.Nat.{◌≤◌}
use native.Mathlib.Omega.{arith}
use borrow.Author.Tests.{tests}
use lib.ListN.{length, length-replicate}
use Rattle.std.proofs.Common.{rules}
use Rattle.std.proofs.lemmas.Iterator.{YieldsList-from_slice}
use Rattle.std.proofs.lemmas.Iterator.Consumers.{YieldsList-from_filter, count_from_yields_List}
use Rattle.std.proofs.lemmas.List.{length-take-le}
use Rattle.meaning.specs.Plan.{wishes, least_level}
use Rattle.meaning.proofs.Wishes.{wishes_few}
use Rattle.plan.specs.Held.{InMemory}
use Rattle.ladder.proofs.Wishes.{is_wish, rows, wishes_are}
use Rattle.ladder.proofs.begin_grades.Goals as goal

pub returns : goal.returns
returns c =
    let h = c.plan.inside.plan.now in
    let p = c.args.plan.now in
    let o : InMemory p h c.plan.inside.levels.now = rw c.plan.view_is at c.plan.invariant in
    let levels = c.args.levels.now in
    let counted : c.count-count.result ≡ wishes p =
    count_from_yields_List _ c.count-count.result c.count-count.ensures.ran
    (YieldsList-from_filter _ is_wish (YieldsList-from_slice (rows h) cc) c.filter.ensures.closure (λ x r q k. search (rules, tests)))
    ∙ wishes_are o in
    let few : c.count-count.result ≤ length levels = omega (arith, counted, wishes_few p.records, o.faultless.few, c.requires) in
    record {
      faultless = o.faultless;
      count = counted;
      written = rw (c.fill.ensures.after (λ y e. e), length-take-le c.count-count.result levels few, counted, length-replicate (wishes p) least_level) refl;
    }
