-- `chain::Marked::reach` scans until b is marked. While it is not, a scan marks an event more, and there are no more than the set holds.
use mathlib.Core.Path.{sym, ap, ◌∙◌}
use Prim.Native.Nat.{ℕ, ◌<◌}
use native.Mathlib.Omega.{arith}
use Rattle.eventset.specs.Sets.{set_width, put_in}
use Rattle.eventset.proofs.Laws.{one_member}
use Rattle.chain.specs.Marks.{same}
use Rattle.chain.proofs.Limits.{low, fits}
use Rattle.chain.proofs.Notes.{notes_none}
use Rattle.chain.proofs.Marks.{marks_keep, marks_few, marks_then, marks_untouched, progress}
use Rattle.chain.proofs.Marked.reach.Goals as goal

pub loop-self-init : goal.loop-self-init
loop-self-init c =
    let s = c.requires in
    record { marks = same (c.put-self.ensures ∙ ap (λ (x : ℕ). put_in x c.args.a) s.unmarked) s.blank; notes = rw s.blank notes_none }

pub loop-self-smaller : goal.loop-self-smaller
loop-self-smaller c =
    let s = c.requires in
    let h = c.loop-self.invariant in
    let r = c.scan.ensures in
    let below = λ (e : ℕ) (l : e < s.n). fits (low s.table l) in
    let unmarked = sym c.has.ensures ∙ c.loop-self-test.true in
    omega (
      arith,
      progress _ _ _ _ r s.lead (marks_keep _ _ _ _ h.marks (one_member _)) unmarked,
      marks_few _ _ _ set_width (below _ s.to) (λ β i. below _ (s.given.fit β i).start) (marks_then _ _ _ h.marks r.marks),
    )

pub loop-self-preserved : goal.loop-self-preserved
loop-self-preserved c =
    let r = c.scan.ensures in
    record { marks = marks_then _ _ _ c.loop-self.invariant.marks r.marks; notes = r.notes }

pub returns : goal.returns
returns c =
    let h = c.loop-self.invariant in
    record {
      marks = h.marks;
      notes = h.notes;
      untouched = marks_untouched _ _ _ h.marks;
      reached = sym c.has.ensures ∙ c.loop-self-test.false;
    }
