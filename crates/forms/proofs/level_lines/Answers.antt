-- `forms::level_lines` meets its contract: the lines of the records passed are written, for every plan that memory holds; w wishes are among them.
use mathlib.Core.Path.{◌≡◌, ap, ◌∙◌}
use Prim.Native.Nat.{ℕ, ◌+◌, ◌*◌, ◌≤◌, ◌<◌}
use native.Mathlib.Omega.{arith}
use mathlib.Core.List.{List}
use lib.ListN.{length, get_or, take}
use lib.Seq.{length-take-le, get_or-take}
use Rattle.meaning.specs.Plan.{Plan, record_at}
use Rattle.plan.specs.declared.Record.{Record}
use Rattle.plan.specs.declared.Plan.{Plan as Held}
use Rattle.plan.specs.Held.{levels_in, blank}
use Rattle.plan.proofs.Use.{held_row}
use Rattle.forms.specs.Put.{line_room}
use Rattle.forms.specs.Timed.{Levels}
use Rattle.ticks.proofs.Shown.{none, shown}
use Rattle.forms.proofs.Puts.{line_fits, line_adds, printing_then, printing_past}
use Rattle.forms.proofs.Rests.{level_none, level_more}
use Rattle.forms.proofs.level_lines.Goals as goal
use Rattle.forms.proofs.level_lines.Goals.{then-r-gt0, else-r-gt0}

-- row k is record k of the plan
row : {p : Plan} {h : Held} {ls : List ℕ} → Levels p h ls → (k : ℕ) → k < length (take h.count h.records) →
    (k < length p.records) × ((get_or (take h.count h.records) k blank).count ≡ length (levels_in (record_at p k)))
row {p} {h} o k l =
    let long : h.count ≤ length h.records = omega (arith, o.holds.count, o.holds.size, o.faultless.few) in
    let some : k < h.count = omega (arith, length-take-le h.count h.records long) in
    (omega (arith, o.holds.count), ap (λ (r : Record). r.count) (get_or-take h.count h.records k blank some ∙ held_row o.holds k))

pub bounds-levels-w : goal.bounds-levels-w
bounds-levels-w c =
    let p = c.requires.1.0 in
    let o = c.requires.1.1 in
    let passed = c.loop-k.invariant p o in
    let r = row o c.loop-k.k c.loop-k-test.true in
    let levelled = (o.faultless.each c.loop-k.k r.0).levelled in
    (level_more c.args.levels.now c.loop-k.k c.loop-k.w p.records r.0 levelled (λ z. omega (arith, r.1, c.if-r-gt0.true)) passed.0).0

pub line-requires : goal.line-requires
line-requires c =
    let p = c.requires.1.0 in
    let o = c.requires.1.1 in
    let r = row o c.loop-k.k c.loop-k-test.true in
    let numbers = shown _ c.of.type_inv c.of.ensures (shown _ c.from.type_inv c.from.ensures none) in
    let passed = (c.loop-k.invariant p o).1 in
    line_fits _ numbers line_room (omega arith) _ _ (omega (arith, r.0, o.faultless.few, passed.few, passed.going.long))

pub loop-k-preserved : goal.loop-k-preserved
loop-k-preserved c p o =
    let k = c.loop-k.k in
    let ls = c.args.levels.now in
    let rs = p.records in
    let passed = c.loop-k.invariant p o in
    let r = row o k c.loop-k-test.true in
    let levelled = (o.faultless.each k r.0).levelled in
    elim c.if-r-gt0.branch [
      | then-r-gt0 w ↦
          let more = level_more ls k c.loop-k.w rs r.0 levelled (λ z. omega (arith, r.1, w.if-r-gt0.true)) passed.0 in
          let numbers = shown _ w.of.type_inv w.of.ensures (shown _ w.from.type_inv w.from.ensures none) in
          let put = line_adds _ numbers line_room (omega arith) w.line.ensures in
          rw (w.w-is, w.sheet-is) (more.2, printing_then passed.1 (line_room * (k + 1)) (omega arith) more.1 put)
      | else-r-gt0 w ↦
          let past = level_none ls k c.loop-k.w rs r.0 levelled (omega (arith, r.1, w.if-r-gt0.false)) in
          rw (w.w-is, w.sheet-is)
          (omega (arith, past.1, passed.0), printing_past passed.1 (line_room * (k + 1)) (omega arith) past.0)
    ]
