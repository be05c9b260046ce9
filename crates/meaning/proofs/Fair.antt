-- What follows for the best: one row of levels, fairness (demand 3), Pareto optimality and the greatest least level.
-- First for any set of things with levels up to the top level, then for the timetables of a plan without fault.
use mathlib.Core.Path.{◌≡◌, sym, subst, subst⁻¹, ◌∙◌}
use mathlib.Core.List.{List}
use Prim.Native.Nat.{ℕ, suc, ◌≤◌, ◌<◌}
use native.Mathlib.Decide.{dec_lt}
use native.Mathlib.Omega.{arith}
use lib.Dec.{T, leb}
use lib.ListN.{length}
use lib.Seq.{ext_get_or}
use borrow.Author.Tests.{leb-true, leb-false, le-leb, lt-leb}
use Rattle.meaning.specs.Plan.{Plan, Times, Timetable, levels, wishes, top_level}
use Rattle.meaning.specs.Ladder.{Question, questions, lv, reply, replies, better, Best, Fair, Loss, Pareto, Highest}
use Rattle.meaning.specs.Outcome.{BestTimes}
use Rattle.meaning.proofs.Replies.{Against, before, at}
use Rattle.meaning.proofs.Questions.{ask, Place, place, Low}
use Rattle.meaning.proofs.Best.{same_replies}
use Rattle.meaning.specs.Faultless.{WithoutFault}
use Rattle.meaning.proofs.Levels.{levels_count, levels_mild}

-- two levels that pass the same grades are equal
same_level : (a b : ℕ) → a ≤ top_level → b ≤ top_level → ((y : ℕ) → 1 ≤ y → y ≤ top_level → leb y a ≡ leb y b) → a ≡ b
same_level a b p q f = go (dec_lt a b) (dec_lt b a)
  where
    up : a < b → b ≤ a
    up h = leb-true b a (f b (omega arith) q ∙ le-leb b b (omega arith))

    down : b < a → a ≤ b
    down h = leb-true a b (sym (f a (omega arith) p) ∙ le-leb a a (omega arith))

    go : Dec (a < b) → Dec (b < a) → a ≡ b
    go (yes h) d = omega (arith, up h)
    go (no n) (yes h) = omega (arith, down h)
    go (no n) (no m) = omega arith

module _ {A : Type 0} {S : A → Type 0} {lev : A → List ℕ} (w : ℕ) (count : (a : A) → length (lev a) ≡ w)
    (mild : (a : A) → S a → (j : ℕ) → j < w → lv (lev a) j ≤ top_level) where
  -- all best ones have the same levels
  pub same_levels : {a b : A} → Best S lev (questions w) a → Best S lev (questions w) b → lev a ≡ lev b
  same_levels {a} {b} p q = ext_get_or 0 (lev a) (lev b) (count a ∙ sym (count b)) (λ j h. one j (omega (arith, count a)))
    where
      pass : (j : ℕ) → j < w → (y : ℕ) → 1 ≤ y → y ≤ top_level → leb y (lv (lev a) j) ≡ leb y (lv (lev b) j)
      pass j h y l m =
          let s : Place w y (ask y j) (questions w) = place w y j l m h in
          at (λ r. reply (lev a) r) (λ r. reply (lev b) r) s.front (ask y j) s.back
          (subst (λ qs. replies qs (lev a) ≡ replies qs (lev b)) s.whole (same_replies S lev (questions w) p q))

      one : (j : ℕ) → j < w → lv (lev a) j ≡ lv (lev b) j
      one j h = same_level _ _ (mild a p.member j h) (mild b q.member j h) (pass j h)

  -- demand 3: where wish k is lifted from level x to more, the question of grade x + 1 for k says yes and no, so an earlier one says no and yes
  pub always_fair : {a : A} → Best S lev (questions w) a → Fair S lev w a
  always_fair {a} p = record { fair = loss }
    where
      found : (b : A) (k : ℕ) → lv (lev a) k < lv (lev b) k →
          Against (λ r. reply (lev b) r) (λ r. reply (lev a) r) (Low w (suc (lv (lev a) k))) → Loss w k (lev a) (lev b)
      found b k l f =
          let r : Question = f.0 in
          let u : lv (lev b) r.wish < r.grade = leb-false r.grade (lv (lev b) r.wish) f.2 in
          let v : r.grade ≤ lv (lev a) r.wish = leb-true r.grade (lv (lev a) r.wish) f.3 in
          record {
            other = r.wish;
            counts = f.1.wish;
            differs = λ e. clash (subst (λ (i : ℕ). lv (lev b) i < lv (lev a) i) e (omega arith));
            lost = omega arith;
            low = omega arith;
          }
        where
          clash : lv (lev b) k < lv (lev a) k → ⊥
          clash q = omega arith

      loss : (b : A) → S b → (k : ℕ) → k < w → lv (lev a) k < lv (lev b) k → Loss w k (lev a) (lev b)
      loss b s k h l =
          let y : ℕ = suc (lv (lev a) k) in
          let z : Place w y (ask y k) (questions w) = place w y k (omega arith) (omega (arith, mild b s k h)) h in
          found b k l (before (λ r. reply (lev b) r) (λ r. reply (lev a) r) {C = Low w y} z.front (ask y k) z.back z.low
          (λ t. p.unbeaten b s (subst⁻¹ (λ qs. T (better (replies qs (lev b)) (replies qs (lev a)))) z.whole t))
          (le-leb y (lv (lev b) k) l) (lt-leb y (lv (lev a) k) (omega arith)))

module _ {A : Type 0} {S : A → Type 0} {lev : A → List ℕ} {w : ℕ} {a : A} (f : Fair S lev w a) where
  pub fair_pareto : Pareto S lev w a
  fair_pareto = record {
    pareto = λ b s up k h. elim (dec_lt (lv (lev a) k) (lv (lev b) k)) [
      | yes l ↦ (let x : Loss w k (lev a) (lev b) = f.fair b s k h l in omega (arith, up x.other x.counts))
      | no n ↦ omega (arith, up k h)
    ];
  }

  pub fair_highest : Highest S lev w a
  fair_highest = record {
    highest = λ b s m all k h. elim (dec_lt (lv (lev a) k) m) [
      | yes l ↦ (let x : Loss w k (lev a) (lev b) = f.fair b s k h (omega (arith, all k h)) in omega (arith, all x.other x.counts))
      | no n ↦ omega arith
    ];
  }

-- ---- for the timetables of a plan without fault

module _ {p : Plan} (good : WithoutFault p) where
  -- all best timetables have the same levels
  pub best_levels : {t u : Times} → BestTimes p t → BestTimes p u → levels p t ≡ levels p u
  best_levels = same_levels (wishes p) (levels_count p) (λ t s j h. levels_mild good t j)

  -- demand 3: whatever lifts a wish above its level in a best timetable has the loss
  pub best_fair : {t : Times} → BestTimes p t → Fair (Timetable p) (levels p) (wishes p) t
  best_fair = always_fair (wishes p) (levels_count p) (λ t s j h. levels_mild good t j)

  -- no timetable has every level at least as high as a best one, and one higher
  pub best_pareto : {t : Times} → BestTimes p t → Pareto (Timetable p) (levels p) (wishes p) t
  best_pareto b = fair_pareto (best_fair b)

  -- a best timetable has the greatest least level
  pub best_highest : {t : Times} → BestTimes p t → Highest (Timetable p) (levels p) (wishes p) t
  best_highest b = fair_highest (best_fair b)
