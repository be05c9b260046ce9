-- Every plan without fault that has a timetable has its best ones, and on either side one of them has the outermost time of every event: the climb of the
-- ladder with a matrix for the timetables left. Each question is two bounds; they can be added (yes) or leave nothing (no).
use mathlib.Core.Path.{◌≡◌, refl, ap, sym, subst, subst⁻¹, ◌∙◌}
use mathlib.Core.Logic.{◌↔◌, ◌⊎◌, inl, inr, ⊎_elim, ⊎_map}
use mathlib.Core.List.{List}
use Prim.Native.Nat.{ℕ, zero, suc, ◌+◌, ◌-◌, ◌≤◌, ◌<◌}
use native.Mathlib.Omega.{arith}
use lib.ListN.{length, set, replicate, get_or-replicate}
use lib.IntN.{ℤ, pos, ◌+ℤ◌, ◌-ℤ◌}
use Rattle.ticks.proofs.Ticks as K
use Rattle.ticks.proofs.Ticks.{ticks}
use Rattle.meaning.specs.Plan.{Record, rule, wish, Plan, record_at, Times, Timetable, Within, levels, wishes, top_level, least_level}
use Rattle.meaning.specs.Bounds.{Bound, upper, lower}
use Rattle.meaning.specs.Distances.{Keeps, outermost, Distances, Stands, added_bound}
use Rattle.meaning.specs.Outcome.{BestTimes, at, AsFar, Solved}
use Rattle.meaning.specs.Run.{run_first, run_past}
use Rattle.meaning.proofs.Times.{times_from, times_count, times_at}
use Rattle.meaning.specs.Faultless.{WithoutFault, GoodRecord}
use Rattle.meaning.specs.Climb.{Left, number, ClimbedTo}
use Rattle.meaning.proofs.Distances.{outermost_holds, outermost_furthest}
use Rattle.meaning.proofs.Runs.{Run, InRun, run_is}
use Rattle.meaning.proofs.Levels.{levels_allowed}
use Rattle.meaning.proofs.Wishes.{climb_start, climb_rule, climb_yes, climb_within, climb_no, climb_next, climb_best, climb_levels}
use Rattle.meaning.proofs.Bounds.{Placed, kept_upper, kept_lower, held_record}
use Rattle.meaning.proofs.Stands.{stands_same, With, added_adds, stands_adds, stands_none, stands_outermost}
use Rattle.scope.specs.declared.Side.{Side}
use Rattle.scope.specs.declared.Side.TheVariants.{Latest}
use Rattle.meaning.proofs.Chains.{chain_excludes}
use Rattle.meaning.proofs.Exists.{plan_held}

-- ---- a distance between two ends, as the two bounds of a rule

abbrev pub Between : ℕ → ℕ → ℤ → ℤ → (Times → Type 0) → Times → Type 0
Between a b lo hi X t = X t × Within lo (t b -ℤ t a) hi

abbrev pub TwoBounds : ℕ → ℕ → ℤ → ℤ → (Times → Type 0) → Times → Type 0
TwoBounds a b lo hi X = With (lower 0 (rule a b lo hi)) (With (upper 0 (rule a b lo hi)) X)

pub between_bounds : (a b : ℕ) (lo hi : ℤ) (X : Times → Type 0) (t : Times) → TwoBounds a b lo hi X t ↔ Between a b lo hi X t
between_bounds a b lo hi X t = (
  λ y. (y.0.0, held_record t 0 (rule a b lo hi) y.0.1 y.1),
  λ y. ((y.0, kept_upper t 0 (rule a b lo hi) y.1), kept_lower t 0 (rule a b lo hi) y.1),
)

-- a matrix for X, or nothing in X
abbrev Found : ℕ → (Times → Type 0) → Type 0
Found n X = ((D : Distances) × Stands n D X) ⊎ ((t : Times) → X t → ⊥)

one_bound : {n : ℕ} {X : Times → Type 0} {β : Bound} → Placed n β → Found n X → Found n (With β X)
one_bound l (inr f) = inr (λ t y. f t y.0)
one_bound {n} {X} {β} l (inl (D, s)) =
    ⊎_map (λ m. (added_bound β D, stands_adds s l (added_adds n β D) m)) (λ m. stands_none s l m)
    (K.total (pos 0) (D β.end β.start +ℤ β.weight))

two_bounds : {n a b : ℕ} → a < n → b < n → (a ≡ b → ⊥) → (lo hi : ℤ) (X : Times → Type 0) → Found n X → Found n (Between a b lo hi X)
two_bounds {n} {a} {b} ha hb f lo hi X x = ⊎_map
    (λ y. (y.0, stands_same y.1 (between_bounds a b lo hi X)))
    (λ q t y. q t ((between_bounds a b lo hi X t).1 y))
    (one_bound {β = lower 0 (rule a b lo hi)} (record { starts = hb; ends = ha; apart = λ e. f (sym e) })
    (one_bound {β = upper 0 (rule a b lo hi)} (record { starts = ha; ends = hb; apart = f }) x))

-- ---- the first grade is part of the plan: all timetables are left

pub all_left : (p : Plan) (t : Times) → Timetable p t ↔ Left p (replicate (wishes p) least_level) t
all_left p t = (
  λ h. record { member = h; at_least = λ j l. omega (arith, get_or-replicate {A = ℕ} (wishes p) j least_level 0 l, levels_allowed h j l) },
  λ h. h.member,
)

-- ---- the end: the times on a side

-- rows of times that agree on the events
keeps_agree : {n : ℕ} {D : Distances} {t : Times} (u : Times) → 0 < n → Keeps n D t → ((e : ℕ) → e < n → u e ≡ t e) → Keeps n D u
keeps_agree u z h f = record { origin = f 0 z ∙ h.origin; kept = λ {i} {j} p q. omega (ticks, h.kept p q, f i p, f j q) }

-- the outermost times of a matrix that stands for the best timetables are the outcome, with the levels that these have
pub outermost_solved : (s : Side) {p : Plan} {g : List ℕ} {D : Distances} → 0 < p.events → Stands p.events D (BestTimes p) →
    ((t : Times) → BestTimes p t → levels p t ≡ g) → (ts : List ℤ) → length ts ≡ p.events → ((e : ℕ) → e < p.events → at ts e ≡ outermost s D e) →
    Solved s p ts g
outermost_solved s {p} z x levelled ts n f =
    let best : BestTimes p (at ts) = x.from (keeps_agree (at ts) z (outermost_holds s x.closed z) f) in
    record {
      count = n;
      best = best;
      levelled = sym (levelled (at ts) best);
      furthest = λ u b e l. subst⁻¹ (λ y. AsFar s y (u e)) (f e l) (outermost_furthest s z (x.into b) l);
    }

-- ---- the climb, with a matrix for the timetables left

module _ {p : Plan} (w : WithoutFault p) where
  -- y grades are done, and r records of the next
  record Stage (y r : ℕ) : Type 0 where
    grades : List ℕ
    climbed : ClimbedTo p y r grades
    matrix : Distances
    stands : Stands p.events matrix (Left p grades)

  one_record : {y r : ℕ} → y < top_level → r < length p.records → Stage y r → Stage y (suc r)
  one_record {y} {r} top h s = go (record_at p r) refl (w.each r h)
    where
      go : (x : Record) → record_at p r ≡ x → GoodRecord p.events x → Stage y (suc r)
      go (rule a b lo hi) e q = record { grades = s.grades; climbed = climb_rule p s.climbed h e; matrix = s.matrix; stands = s.stands }
      go (wish a b lo ls) e q =
          answered (two_bounds q.starts q.ends q.apart (lo +ℤ pos first) (lo +ℤ pos past -ℤ pos 1) (Left p s.grades) (inl (s.matrix, s.stands)))
        where
          first : ℕ
          first = run_first (suc y) ls

          past : ℕ
          past = run_past (suc y) ls

          run : Run (suc y) ls first past
          run = run_is (suc y) (omega arith) ls

          answered : Found p.events (λ t. Left p s.grades t × InRun lo first past (t b -ℤ t a)) → Stage y (suc r)
          answered (inl (D, t)) =
              let u = stands_outermost Latest w.some t in
              record {
                grades = set s.grades (number p r) (suc y);
                climbed = climb_yes p s.climbed h e run q.levelled.peaked top (outermost Latest D) u.0 u.1;
                matrix = D;
                stands = stands_same t (climb_within p s.climbed h e run q.levelled.peaked top);
              }
          answered (inr f) =
              let c = climb_no p s.climbed h e run q.levelled.peaked top (λ u l i. f u (l, i)) in
              record { grades = s.grades; climbed = c; matrix = s.matrix; stands = s.stands }

  -- the first r records, at grade y + 1
  records_asked : {y : ℕ} → y < top_level → Stage y 0 → (r : ℕ) → r ≤ length p.records → Stage y r
  records_asked top s zero l = s
  records_asked top s (suc r) l = one_record top l (records_asked top s r (omega arith))

  one_grade : {y : ℕ} → y < top_level → Stage y 0 → Stage (suc y) 0
  one_grade {y} top s =
      let t : Stage y (length p.records) = records_asked top s (length p.records) (omega arith) in
      record { grades = t.grades; climbed = climb_next p t.climbed; matrix = t.matrix; stands = t.stands }

  -- m grades above the first
  more_grades : Stage least_level 0 → (m : ℕ) → least_level + m ≤ top_level → Stage (least_level + m) 0
  more_grades s zero l = s
  more_grades s (suc m) l = subst (λ (y : ℕ). Stage y 0) (omega arith) (one_grade (omega arith) (more_grades s m (omega arith)))

  -- best times, of them the outermost
  pub plan_solved : (s : Side) {D : Distances} → Stands p.events D (Timetable p) → (ts : List ℤ) × (ls : List ℕ) × Solved s p ts ls
  plan_solved s {D} x =
      let first : Stage least_level 0 = record {
        grades = replicate (wishes p) least_level;
        climbed = climb_start p (outermost s D) (stands_outermost s w.some x);
        matrix = D;
        stands = stands_same x (all_left p);
      } in
      let l : Stage top_level 0 = more_grades first (top_level - least_level) (omega arith) in
      let t : Times = outermost s l.matrix in
      let ts : List ℤ = times_from t 0 p.events in
      let best : Stands p.events l.matrix (BestTimes p) = stands_same l.stands (climb_best p l.climbed) in
      let same : (e : ℕ) → e < p.events → at ts e ≡ t e = λ e h. times_at t 0 p.events e h ∙ ap t (omega arith) in
      (ts, l.grades, outermost_solved s w.some best (climb_levels p w l.climbed) ts (times_count t 0 p.events) same)

-- where there is a timetable there are best ones, and on either side one of them has the outermost time of every event
pub best_exists : (s : Side) {p : Plan} → WithoutFault p → {t : Times} → Timetable p t → (ts : List ℤ) × (ls : List ℕ) × Solved s p ts ls
best_exists s w h = ⊎_elim (λ x. plan_solved w s x.1.stands) (λ c. absurd (chain_excludes c.1 h)) (plan_held w)
