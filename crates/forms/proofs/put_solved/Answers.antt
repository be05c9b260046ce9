-- `forms::put_solved` meets its contract: the line of the counts, the lines of the times and those of the levels.
use mathlib.Core.Path.{◌≡◌}
use mathlib.Core.List.{List}
use Prim.Native.Nat.{ℕ, ◌*◌}
use native.Mathlib.Omega.{arith}
use lib.ListN.{length}
use lib.IntN.{ℤ}
use Rattle.std.proofs.lemmas.List.{length-take, take_all}
use borrow.Author.Rules.{rules}
use Rattle.meaning.specs.Plan.{Plan, wishes}
use Rattle.plan.specs.declared.Plan.{Plan as Held}
use Rattle.plan.specs.Held.{InMemory}
use Rattle.print.specs.declared.Sheet.{Sheet}
use Rattle.forms.specs.Printed.{at_lines}
use Rattle.forms.specs.Put.{line_room, area_room, Adds}
use Rattle.forms.specs.Timed.{Levels}
use Rattle.ticks.proofs.Shown.{none, shown}
use Rattle.forms.proofs.Puts.{line_fits, line_adds}
use Rattle.forms.proofs.Whole.{times_room, levels_room, solved_adds}
use Rattle.forms.proofs.put_solved.Goals as goal

-- as many levels as the plan has wishes, where the plan is whole in memory
loaded_levels : {p : Plan} {h : Held} {area ls : List ℕ} → InMemory p h area → length ls ≡ wishes p → Levels p h ls
loaded_levels o n = record { holds = o.holds; faultless = o.faultless; count = n }

-- the lines of times that are all of these
all_times : {s u : Sheet} {xs : List ℤ} (ts : List ℤ) → Adds s u (line_room * length xs) (at_lines 0 xs) → xs ≡ ts →
    Adds s u (line_room * length ts) (at_lines 0 ts)
all_times ts a e = rw e at a

pub line-requires : goal.line-requires
line-requires c =
    let row = shown _ c.of.type_inv c.of.ensures (shown _ c.of-2.type_inv c.of-2.ensures none) in
    line_fits _ row area_room (omega arith) _ _ c.requires.0

pub at_lines-requires : goal.at_lines-requires
at_lines-requires c =
    let row = shown _ c.of.type_inv c.of.ensures (shown _ c.of-2.type_inv c.of-2.ensures none) in
    let head = line_adds _ row line_room (omega arith) c.line.ensures in
    times_room _ c.requires.0 head (grind (arith, length-take, c.requires.1))

pub level_lines-requires : goal.level_lines-requires
level_lines-requires c =
    let o : InMemory c.args.plan.now c.plan.inside.plan.now c.plan.inside.levels.now = rw (← c.plan.view_is) c.plan.invariant in
    let row = shown _ c.of.type_inv c.of.ensures (shown _ c.of-2.type_inv c.of-2.ensures none) in
    let head = line_adds _ row line_room (omega arith) c.line.ensures in
    let times = all_times c.args.times.now c.at_lines.ensures (grind (arith, take_all, c.requires.1)) in
    (levels_room _ c.requires.0 head c.requires.1 times, (c.args.plan.now, loaded_levels o c.requires.2))

pub returns : goal.returns
returns c =
    let o : InMemory c.args.plan.now c.plan.inside.plan.now c.plan.inside.levels.now = rw (← c.plan.view_is) c.plan.invariant in
    let row = shown _ c.of.type_inv c.of.ensures (shown _ c.of-2.type_inv c.of-2.ensures none) in
    let head = line_adds _ row line_room (omega arith) c.line.ensures in
    let times = all_times c.args.times.now c.at_lines.ensures (grind (arith, take_all, c.requires.1)) in
    let levels = c.level_lines.ensures c.args.plan.now (loaded_levels o c.requires.2) in
    let all = solved_adds c.args.plan.now c.args.times.now c.args.levels.now c.requires.1 head times levels in
    search (rules, all)
