-- `faults::is_peaked` meets its contract: the one pass from here on gives what the whole gives.
use mathlib.Core.Path.{◌≡◌}
use mathlib.Core.Bool.{false, ◌&&◌, ◌||◌}
use lib.Dec.{ltb}
use lib.ListN.{get_or}
use borrow.Author.Rules.{rules}
use Rattle.faults.proofs.Peaks.{peak_start, peak_up, peak_on, peak_end}
use Rattle.faults.proofs.is_peaked.Goals as goal

pub loop-level-init : goal.loop-level-init
loop-level-init c = peak_start _

pub returns-then-last-level : goal.returns-then-last-level
returns-then-last-level c =
    let l = c.loop-level in
    peak_up l.fallen l.last c.args.levels.now l.level-index l.invariant c.loop-level-test.true (search rules)

pub loop-level-preserved : goal.loop-level-preserved
loop-level-preserved c =
    let l = c.loop-level in
    let z = get_or c.args.levels.now l.level-index 0 in
    let low : (l.fallen && ltb l.last z) ≡ false = search rules in
    let fallen : c.if-fallen-2.fallen ≡ (l.fallen || ltb z l.last) = search rules in
    rw fallen (peak_on l.fallen l.last c.args.levels.now l.level-index l.invariant c.loop-level-test.true low)

pub returns : goal.returns
returns c =
    let l = c.loop-level in
    peak_end l.fallen l.last c.args.levels.now l.level-index l.invariant c.loop-level-test.false
