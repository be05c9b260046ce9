-- From what `settle` left in its areas to the outcome that is printed: what stands in front of the areas is the right outcome, and its form is the
-- lines that were put.
use mathlib.Core.Path.{◌≡◌, refl, sym, ap, ◌∙◌}
use mathlib.Core.Bool.{Bool, true, false}
use mathlib.Core.List.{List}
use Prim.Native.Nat.{ℕ, ◌≤◌}
use native.Mathlib.Omega.{arith}
use borrow.Author.Tests.{leb-true, leb-false}
use lib.Dec.{leb}
use lib.ListN.{length, take, length-map}
use lib.Seq.{length-take-le}
use lib.IntN.{ℤ}
use Rattle.meaning.specs.Plan.{Plan, most_events, wishes}
use Rattle.meaning.specs.Reading.{Reading, plan, refused, read}
use Rattle.meaning.specs.Bounds.{Chain}
use Rattle.meaning.specs.Outcome.{Outcome, solved, none, refusal, Right, Areas, areas, at, written, number, place}
use Rattle.meaning.specs.Faultless.{WithoutFault}
use Rattle.meaning.proofs.Levels.{levels_count}
use Rattle.meaning.proofs.Over.{over_front, over_room}
use Rattle.scope.specs.declared.Side.{Side}
use Rattle.plan.specs.declared.Plan.{Plan as Held}
use Rattle.plan.specs.Held.{Holds}
use Rattle.reader.specs.Heard.{plan_in}
use Rattle.settle.specs.Settled.{Settled}
use Rattle.settle.specs.declared.Outcome.TheVariants as Out
use Rattle.forms.specs.Printed.{printed}
use Rattle.forms.specs.Put.{area_room, Put}
use Rattle.forms.specs.Timed.{Timed}
use Rattle.report.specs.Answer.{Told, Answered}
use Rattle.forms.proofs.Puts.{put_front}

-- a form that was put is told
pub told_plan : {side : Side} {text s u : List ℕ} {r m : ℕ} {p : Plan} → read text ≡ plan p → (o : Outcome) → Right side (plan p) o →
    Put s u 0 r m (printed p o) → Told side text s u r
told_plan e o h p = let f = put_front p in record { outcome = o; right = rw e h; count = rw e f.0; written = rw e f.1 }

pub told_refusal : {side : Side} {text s u : List ℕ} {r m k line : ℕ} → read text ≡ refused k line →
    ((p : Plan) → Put s u 0 r m (printed p (refusal k line))) → Told side text s u r
told_refusal {text = text} {k = k} {line} e p =
    let f = put_front (p (plan_in (read text))) in
    record { outcome = refusal k line; right = rw e (refl, refl); count = f.0; written = f.1 }

-- an area that is not too short
pub long_told : {side : Side} {text s u : List ℕ} {r : ℕ} → area_room ≤ length s → Told side text s u r → Answered side text s u r
long_told l t = record { long = λ h. t; short = λ h. absurd (omega arith) }

-- a chain is the right outcome of a plan alone
pub none_plan : (side : Side) (r : Reading) {cs : List ℕ} → Right side r (none cs) → (r ≡ plan (plan_in r)) × Chain (plan_in r) cs
none_plan side (plan p) h = (refl, h)
none_plan side (refused m k) h = absurd h

-- ---- what the solver left, by its outcome

pub record LeftSolved (side : Side) (p : Plan) (n : ℕ) (times : List ℤ) (levels : List ℕ) (w : ℕ) : Type 0 where
  pub right : Right side (plan p) (solved (take n times) (take w levels))
  pub times_room : n ≤ length times
  pub levels_room : w ≤ length levels
  pub few : length (take n times) ≤ most_events
  pub counted : length (take w levels) ≡ wishes p

pub record LeftNone (side : Side) (p : Plan) (chain : List ℕ) (steps : ℕ) : Type 0 where
  pub right : Right side (plan p) (none (take steps chain))
  pub room : steps ≤ length chain
  pub few : length (take steps chain) ≤ most_events

module _ {side : Side} {p : Plan} (g : WithoutFault p) {before : Areas} {times : List ℤ} {levels chain : List ℕ} where
  -- n is the count of the plan's events
  pub left_solved : {n w : ℕ} → n ≡ p.events → Settled side p before (areas times levels chain) (Out.Solved w) → LeftSolved side p n times levels w
  left_solved {n} {w} e s = go s.outcome s.right s.numbered s.placed s.writes
    where
      go : (o : Outcome) → Right side (plan p) o → 0 ≡ number o → w ≡ place o → areas times levels chain ≡ written o before → LeftSolved side p n times levels w
      go (solved ts ls) h m q o =
          let f : take n times ≡ ts = ap (λ (x : Areas). take n x.times) o ∙ over_front ts before.times n (e ∙ sym h.count) in
          let l : take w levels ≡ ls = ap (λ (x : Areas). take w x.levels) o ∙ over_front ls before.levels _ q in
          record {
            right = rw (f, l) h;
            times_room = omega (arith, e, h.count, over_room ts before.times, ap (λ (x : Areas). length x.times) o);
            levels_room = omega (arith, q, over_room ls before.levels, ap (λ (x : Areas). length x.levels) o);
            few = rw f (omega (arith, h.count, g.most));
            counted = rw l (ap length h.levelled ∙ levels_count p (at ts));
          }
      go (none cs) h n q o = absurd (omega arith)
      go (refusal m j) h n q o = absurd h

  pub left_none : {steps : ℕ} → Settled side p before (areas times levels chain) (Out.NoTimetable steps) → LeftNone side p chain steps
  left_none {steps} s = go s.outcome s.right s.numbered s.placed s.writes
    where
      go : (o : Outcome) → Right side (plan p) o → 1 ≡ number o → steps ≡ place o → areas times levels chain ≡ written o before → LeftNone side p chain steps
      go (solved ts ls) h n q o = absurd (omega arith)
      go (none cs) h n q o =
          let f : take steps chain ≡ cs = ap (λ (x : Areas). take steps x.chain) o ∙ over_front cs before.chain steps q in
          record {
            right = rw f h;
            room = omega (arith, q, over_room cs before.chain, ap (λ (x : Areas). length x.chain) o);
            few = rw f (omega (arith, ap length h.coded, length-map h.steps (λ b. b.code), h.most, g.most));
          }
      go (refusal m j) h n q o = absurd h

-- the times and levels that are printed are those of the plan
module _ {side : Side} {p : Plan} {times : List ℤ} {levels : List ℕ} {w : ℕ} (s : LeftSolved side p p.events times levels w) where
  left_count : w ≡ wishes p
  left_count = sym (length-take-le w levels s.levels_room) ∙ s.counted

  pub left_timed : {h : Held} → Holds p h → WithoutFault p → Timed p h w times levels
  left_timed o g = record { holds = o; faultless = g; count = left_count; long = s.times_room; room = omega (arith, left_count, s.levels_room) }

  pub left_right : Right side (plan p) (solved (take p.events times) (take (wishes p) levels))
  left_right = rw left_count at s.right

-- ---- the count lies within the area

told_within : {side : Side} {text before after : List ℕ} {r : ℕ} → Told side text before after r → r ≤ length after
told_within {text = text} {before} t = omega (arith, t.count, over_room (printed (plan_in (read text)) t.outcome) before, ap length t.written)

pub answered_within : {side : Side} {text before after : List ℕ} {r : ℕ} → Answered side text before after r → r ≤ length after
answered_within {before = before} {after = after} {r = r} h = go (leb area_room (length before)) refl
  where
    go : (b : Bool) → leb area_room (length before) ≡ b → r ≤ length after
    go true e = told_within (h.long (leb-true area_room (length before) e))
    go false e = omega (arith, (h.short (leb-false area_room (length before) e)).0)
