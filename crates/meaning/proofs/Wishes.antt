-- The ladder of a plan: which wish a record is, its question as two bounds on a distance, and what is left at the end of the climb.
use mathlib.Core.Path.{◌≡◌, refl, ap, subst, subst⁻¹}
use mathlib.Core.Logic.{◌↔◌}
use mathlib.Core.List.{List, [], ◌∷◌}
use Prim.Native.Nat.{ℕ, zero, suc, ◌≤◌, ◌<◌, suc-le-suc}
use native.Mathlib.Nat.{le_of_suc-le-suc, not-suc-le-zero}
use native.Mathlib.Decide.{dec_le}
use native.Mathlib.Omega.{arith}
use lib.ListN.{length, get_or, set, replicate}
use lib.Seq.{take-length}
use lib.IntN.{ℤ, ◌-ℤ◌}
use Rattle.meaning.specs.Plan.{Record, rule, wish, nothing, Plan, record_at, Times, Timetable, level_at, levels_of, levels, wish_count, wishes}
use Rattle.meaning.specs.Plan.{top_level, least_level}
use Rattle.meaning.specs.Ladder.{lv}
use Rattle.meaning.specs.Peak.{SinglePeaked}
use Rattle.meaning.specs.Outcome.{BestTimes}
use Rattle.meaning.specs.Faultless.{WithoutFault}
use Rattle.meaning.specs.Climb.{wishes_before, Left, Climbed, number, ClimbedTo}
use Rattle.meaning.proofs.Levels.{levels_count, levels_allowed, levels_mild}
use Rattle.meaning.proofs.Climb.{raised, fails_again, reached_start, reached_yes, reached_no, reached_next, reached_best, reached_levels}
use Rattle.meaning.proofs.Runs.{Run, InRun}
use Rattle.meaning.proofs.Peaks.{level_bounds}

-- ---- record r is a wish

module _ {a b : ℕ} {lo : ℤ} {ls : List ℕ} where
  pub wish_level : (t : Times) (rs : List Record) (r : ℕ) → r < length rs → get_or rs r nothing ≡ wish a b lo ls →
      lv (levels_of rs t) (wishes_before rs r) ≡ level_at ls (t b -ℤ t a -ℤ lo)
  wish_level t [] r h e = absurd (not-suc-le-zero h)
  wish_level t (x ∷ rs) zero h e = subst⁻¹ (λ (z : Record). lv (levels_of (z ∷ rs) t) 0 ≡ level_at ls (t b -ℤ t a -ℤ lo)) e refl
  wish_level t (rule c d l k ∷ rs) (suc r) h e = wish_level t rs r (le_of_suc-le-suc h) e
  wish_level t (wish c d l k ∷ rs) (suc r) h e = wish_level t rs r (le_of_suc-le-suc h) e

  pub wish_number : (rs : List Record) (r : ℕ) → r < length rs → get_or rs r nothing ≡ wish a b lo ls → wishes_before rs r < wish_count rs
  wish_number [] r h e = absurd (not-suc-le-zero h)
  wish_number (x ∷ rs) zero h e = subst⁻¹ (λ (z : Record). 0 < wish_count (z ∷ rs)) e (omega arith)
  wish_number (rule c d l k ∷ rs) (suc r) h e = wish_number rs r (le_of_suc-le-suc h) e
  wish_number (wish c d l k ∷ rs) (suc r) h e = suc-le-suc (wish_number rs r (le_of_suc-le-suc h) e)

  -- the number of the next record: one more after a wish
  pub next_wish : (rs : List Record) (r : ℕ) → r < length rs → get_or rs r nothing ≡ wish a b lo ls → wishes_before rs (suc r) ≡ suc (wishes_before rs r)
  next_wish [] r h e = absurd (not-suc-le-zero h)
  next_wish (x ∷ rs) zero h e = subst⁻¹ (λ (z : Record). wish_count (z ∷ []) ≡ 1) e refl
  next_wish (rule c d l k ∷ rs) (suc r) h e = next_wish rs r (le_of_suc-le-suc h) e
  next_wish (wish c d l k ∷ rs) (suc r) h e = ap suc (next_wish rs r (le_of_suc-le-suc h) e)

-- and the same after a rule
pub next_rule : {a b : ℕ} {lo hi : ℤ} (rs : List Record) (r : ℕ) → r < length rs → get_or rs r nothing ≡ rule a b lo hi →
    wishes_before rs (suc r) ≡ wishes_before rs r
next_rule [] r h e = absurd (not-suc-le-zero h)
next_rule (x ∷ rs) zero h e = subst⁻¹ (λ (z : Record). wish_count (z ∷ []) ≡ 0) e refl
next_rule (rule c d l k ∷ rs) (suc r) h e = next_rule rs r (le_of_suc-le-suc h) e
next_rule (wish c d l k ∷ rs) (suc r) h e = ap suc (next_rule rs r (le_of_suc-le-suc h) e)

-- no more wishes than records
pub wishes_few : (rs : List Record) → wish_count rs ≤ length rs
wishes_few [] = omega arith
wishes_few (rule a b lo hi ∷ rs) = omega (arith, wishes_few rs)
wishes_few (wish a b lo ls ∷ rs) = omega (arith, wishes_few rs)

pub wish_below : {a b : ℕ} {lo : ℤ} {ls : List ℕ} (rs : List Record) (k : ℕ) → k < length rs → get_or rs k nothing ≡ wish a b lo ls →
    wishes_before rs k < length rs
wish_below rs k l e = omega (arith, wish_number rs k l e, wishes_few rs)

-- past the last record all wishes are counted
pub all_wishes : (rs : List Record) → wishes_before rs (length rs) ≡ wish_count rs
all_wishes rs = ap wish_count (take-length rs)

module _ (p : Plan) where
  -- the question "grade y or more?" of the wish that is record r, as two bounds
  pub question_bounds : {y r a b first past : ℕ} {lo : ℤ} {ls : List ℕ} → r < length p.records → record_at p r ≡ wish a b lo ls →
      Run y ls first past → SinglePeaked ls → 1 ≤ y → y ≤ top_level → (t : Times) → (y ≤ lv (levels p t) (number p r)) ↔ InRun lo first past (t b -ℤ t a)
  question_bounds {y} {r} {a} {b} {first} {past} {lo} {ls} h e run s one top t =
      subst⁻¹ (λ (n : ℕ). (y ≤ n) ↔ InRun lo first past (t b -ℤ t a)) (wish_level t p.records r h e)
      (level_bounds run s one top (t b -ℤ t a) lo)

  -- ---- the climb, record by record: y grades are done, and r records of the next

  -- the first grade is part of the plan
  pub climb_start : (t : Times) → Timetable p t → ClimbedTo p least_level 0 (replicate (wishes p) least_level)
  climb_start t h = reached_start least_level (λ u k. levels_allowed k) t h

  -- a rule has no question
  pub climb_rule : {y r a b : ℕ} {lo hi : ℤ} {g : List ℕ} → ClimbedTo p y r g → r < length p.records → record_at p r ≡ rule a b lo hi →
      ClimbedTo p y (suc r) g
  climb_rule {y} {r} {g = g} c h e = subst⁻¹ (λ (k : ℕ). Climbed p y k g) (next_rule p.records r h e) c

  module _ {y r a b : ℕ} {lo : ℤ} {ls g : List ℕ} (c : ClimbedTo p y r g) (h : r < length p.records) (e : record_at p r ≡ wish a b lo ls) where
    unanswered : ((u : Times) → Left p g u → lv (levels p u) (number p r) ≤ y) → ClimbedTo p y (suc r) g
    unanswered none = subst⁻¹ (λ (k : ℕ). Climbed p y k g) (next_wish p.records r h e) (reached_no c (wish_number p.records r h e) none)

    -- a wish that failed at an earlier grade need not be asked
    pub climb_failed : lv g (number p r) < y → ClimbedTo p y (suc r) g
    climb_failed f = unanswered (fails_again c (wish_number p.records r h e) f)

    module _ {first past : ℕ} (run : Run (suc y) ls first past) (s : SinglePeaked ls) (top : y < top_level) where
      -- yes: a timetable left is within the run, and those within it are left
      pub climb_yes : (u : Times) → Left p g u → InRun lo first past (u b -ℤ u a) → ClimbedTo p y (suc r) (set g (number p r) (suc y))
      climb_yes u l i = subst⁻¹ (λ (k : ℕ). Climbed p y k (set g (number p r) (suc y))) (next_wish p.records r h e)
          (reached_yes c (wish_number p.records r h e) l ((question_bounds h e run s (omega arith) top u).1 i))

      pub climb_within : (t : Times) → (Left p g t × InRun lo first past (t b -ℤ t a)) ↔ Left p (set g (number p r) (suc y)) t
      climb_within t = (
        λ q. rise.0 (q.0, (question_bounds h e run s (omega arith) top t).1 q.1),
        λ q. ((rise.1 q).0, (question_bounds h e run s (omega arith) top t).0 (rise.1 q).1),
      )
        where
          rise : (Left p g t × (suc y ≤ lv (levels p t) (number p r))) ↔ Left p (set g (number p r) (suc y)) t
          rise = raised c (wish_number p.records r h e) t

      -- no: no timetable left is within the run, and all are left
      pub climb_no : ((u : Times) → Left p g u → ¬ InRun lo first past (u b -ℤ u a)) → ClimbedTo p y (suc r) g
      climb_no none = unanswered (λ u l. low u l (dec_le (suc y) (lv (levels p u) (number p r))))
        where
          low : (u : Times) → Left p g u → Dec (suc y ≤ lv (levels p u) (number p r)) → lv (levels p u) (number p r) ≤ y
          low u l (yes d) = absurd (none u l ((question_bounds h e run s (omega arith) top u).0 d))
          low u l (no n) = omega arith

  -- past the last record the grade is done
  pub climb_next : {y : ℕ} {g : List ℕ} → ClimbedTo p y (length p.records) g → ClimbedTo p (suc y) 0 g
  climb_next {y} {g} c = reached_next (subst (λ (k : ℕ). Climbed p y k g) (all_wishes p.records) c)

  -- the end of the ladder: the timetables left are the best ones
  pub climb_best : {g : List ℕ} → ClimbedTo p top_level 0 g → (t : Times) → Left p g t ↔ BestTimes p t
  climb_best c = reached_best c

  -- and the grades reached are their levels
  pub climb_levels : {g : List ℕ} → WithoutFault p → ClimbedTo p top_level 0 g → (t : Times) → BestTimes p t → levels p t ≡ g
  climb_levels good c t b = reached_levels c (levels_count p t) (levels_mild good t) ((climb_best c t).1 b)
