-- `reader::read_lines` meets its contract: a field, a line, and each way out of the walk is a law of `Steps`.
use mathlib.Core.Path.{sym}
use borrow.Author.Rules.{rules}
use borrow.Author.Tests.{eqb-true, eqb-false}
use lib.ListN.{length}
use mir.Facts.{to_z-of_z}
use mir.Syntax.{w32}
use mir.Val.{SFits}
use native.Mathlib.Omega.{arith}
use Rattle.std.specs.Prelude.{Ok, Err}
use Rattle.std.proofs.lemmas.List.{take_rest}
use Rattle.meaning.specs.Reading.{line_feed}
use Rattle.text.proofs.Cuts.{found, found_none}
use Rattle.reader.proofs.Steps as S
use Rattle.reader.proofs.read_lines.Goals as goal
use Rattle.reader.proofs.read_lines.Goals.{in-Head, in-Entry}
use Rattle.reader.proofs.read_lines.Goals.{else-number-ne1-via-then-number-ne1+else-is_empty, else-number-ne1-via-else-number-ne1}

-- ---- no line feed is left

pub returns-then-is_empty : goal.returns-then-is_empty
returns-then-is_empty c =
    let e = found_none line_feed c.lines.rest.now c.in_default.ensures in
    S.walk_end c.lines.invariant e _ (λ n. c.if-number-ne1.true (omega (arith, n))) (eqb-true (length c.lines.rest.now) 0 (sym c.if-is_empty.ensures))

pub returns-else-number-ne1 : goal.returns-else-number-ne1
returns-else-number-ne1 c =
    let w = c.lines.invariant in
    let e = found_none line_feed c.lines.rest.now c.in_default.ensures in
    elim c.else-number-ne1.branch [
      | else-number-ne1-via-then-number-ne1+else-is_empty v ↦ S.walk_unended w e (eqb-false (length c.lines.rest.now) 0 (sym v.if-is_empty.ensures))
      | else-number-ne1-via-else-number-ne1 v ↦ S.walk_none w e (omega (arith, v.if-number-ne1.false))
    ]

-- ---- the fields of a line

pub loop-tab-init : goal.loop-tab-init
loop-tab-init c = rw c.begin-line.ensures (S.scan_begin _ c.lines.number c.lines.plan.used c.lines.levels)

pub loop-tab-preserved : goal.loop-tab-preserved
loop-tab-preserved c =
    let fits : SFits w32 c.in-Some-field_after.v = search rules in
    let f = c.in-Some-field_after in
    let more = S.scan_more c.loop-tab.invariant c.loop-tab-test.true f.v f.next f.ensures in
    rw (c.with_number-line.ensures, c.store_level.ensures, to_z-of_z fits) more

pub returns-in_default-field_after : goal.returns-in_default-field_after
returns-in_default-field_after c =
    let w = c.lines.invariant in
    let f = found line_feed c.in-Some.end c.lines.rest.now c.in-Some.ensures in
    let bad = S.unread c.loop-tab.invariant c.loop-tab-test.true c.in_default-field_after.ensures w.p c.args.levels.now c.lines.plan w.standing in
    S.walk_fault w c.in-Some.end f.0 f.1 _ _ _ bad

-- ---- what the line gives

pub lines-preserved : goal.lines-preserved
lines-preserved c =
    let w = c.lines.invariant in
    let f = found line_feed c.in-Some.end c.lines.rest.now c.in-Some.ensures in
    let s = c.loop-tab.invariant in
    let all = c.loop-tab-test.false in
    let gave = S.judged_so_far c.lines.plan (Ok c.in-Ok.effect) c.so_far.ensures c.in-Ok.ensures s.seen c.lines.levels (S.whole c.lines.plan s all) in
    elim c.match-effect.branch [
      | in-Head v ↦
          let step = S.headed c.lines.plan s all w.p c.args.levels.now w.standing _ _ tt (rw v.in-Head.is at gave) in
          rw (take_rest, v.plan-is) (S.walk_on w c.in-Some.end f.0 f.1 _ _ tt step)
      | in-Entry v ↦
          let step = S.entered c.lines.plan s all w.p c.args.levels.now w.standing _ _ tt (omega arith) v.from.ensures (rw v.in-Entry.is at gave) in
          rw (take_rest, v.plan-is) (S.walk_on w c.in-Some.end f.0 f.1 _ _ tt step)
    ]

pub returns-in-Err : goal.returns-in-Err
returns-in-Err c =
    let w = c.lines.invariant in
    let f = found line_feed c.in-Some.end c.lines.rest.now c.in-Some.ensures in
    let s = c.loop-tab.invariant in
    let all = c.loop-tab-test.false in
    let gave = S.judged_so_far c.lines.plan (Err c.in-Err.fault) c.so_far.ensures c.in-Err.ensures s.seen c.lines.levels (S.whole c.lines.plan s all) in
    S.walk_fault w c.in-Some.end f.0 f.1 _ _ _ (S.faulted c.lines.plan s all w.p c.args.levels.now w.standing _ gave)
