-- The climb wish by wish: what the functions do to the matrix and to the levels is a step of the ladder. By the wish: it failed before, or its question
-- is answered yes or no. A rule has no question.
use mathlib.Core.Path.{◌≡◌, refl, sym, ap, ◌∙◌}
use mathlib.Core.Bool.{Bool, true, false}
use mathlib.Core.List.{List}
use Prim.Native.Nat.{ℕ, suc, ◌+◌, ◌-◌, ◌≤◌, ◌<◌}
use native.Mathlib.Nat.{not-suc-le-zero}
use native.Mathlib.Decide.{ℕ_discrete}
use native.Mathlib.Omega.{arith}
use lib.ListN.{length, get_or, set}
use lib.IntN.{ℤ, pos, ◌+ℤ◌, ◌-ℤ◌}
use Rattle.meaning.specs.Plan as M
use Rattle.meaning.specs.Plan.{record_at, wishes, Times, Within, top_level}
use Rattle.meaning.specs.Distances.{outermost, Stands}
use Rattle.meaning.specs.Run.{run_first, run_past}
use Rattle.meaning.specs.Faultless.{GoodRecord, WithoutFault}
use Rattle.meaning.specs.Climb.{number, ClimbedTo}
use Rattle.scope.specs.declared.Side.TheVariants.{Latest}
use Rattle.meaning.proofs.Stands.{stands_same, stands_outermost}
use Rattle.meaning.proofs.Solve.{Between}
use Rattle.meaning.proofs.Runs.{Run, run_is}
use Rattle.meaning.proofs.Over.{over_at, over_set}
use Rattle.meaning.proofs.Wishes.{wish_number, wish_below, next_wish, all_wishes, climb_failed, climb_yes, climb_within, climb_no, climb_next}
use Rattle.plan.specs.declared.Record.{Record}
use Rattle.plan.specs.Held.{levels_in, row_of, levels_at}
use Rattle.cut.specs.Cut.{Cutting}
use Rattle.distances.specs.declared.Matrix.{Matrix}
use Rattle.distances.specs.Matrix.{at, Net, Narrowing, Narrowed}
use Rattle.distances.proofs.Net.{narrowed_means, narrowed_none}
use Rattle.distances.proofs.Rows.{beside_then, narrowed_beside}
use Rattle.ladder.specs.Climbing.{Asking, WishAnswered, WishClimbed, Stage, Grading, Graded}
use Rattle.ladder.proofs.Asks.{wish_narrowing}
use Rattle.ladder.proofs.Wishes.{Wish}

-- ---- the matrix held to a run

module _ {n a b : ℕ} {lo hi : ℤ} {d d' : List ℤ} {X : Times → Type 0} (s : Stands n (at d) X) where
  narrowed_stands : {H : ℕ} → Net n H d → Narrowing n a b lo hi d → Narrowed n a b lo hi d d' true → Stands n (at d') (Between a b lo hi X)
  narrowed_stands net k h = record {
    closed = (h.net net).closed;
    into = λ {t} x. (narrowed_means k h refl t).1 (s.into x.0, x.1);
    from = λ {t} x. let y = (narrowed_means k h refl t).0 x in (s.from y.0, y.1);
  }

  narrowed_nothing : Narrowing n a b lo hi d → Narrowed n a b lo hi d d' false → (t : Times) → X t → Within lo (t b -ℤ t a) hi → ⊥
  narrowed_nothing k h t x y = narrowed_none k h refl t (s.into x) y

-- ---- one record

-- the same grades, matrix and levels at another question
same_grades : {p : M.Plan} {g g' k k' : ℕ} {old d : List ℤ} {before levels : List ℕ} (s : Stage p g k old d before levels) →
    ClimbedTo p g' k' s.grades → Stage p g' k' old d before levels
same_grades s c = record { grades = s.grades; climbed = c; written = s.written; net = s.net; stands = s.stands; beside = s.beside }

module _ {p : M.Plan} {g k : ℕ} {old d : List ℤ} {before levels : List ℕ}
    (s : Stage p g k old d before levels) (l : k < length p.records) (held : List ℕ) (first : ℕ) where
  record_asking : (m : M.Record) → record_at p k ≡ m → GoodRecord p.events m → length p.records ≤ length levels →
      Cutting (row_of first m) held → levels_at (row_of first m) held ≡ levels_in m → 0 < (row_of first m).count →
      Asking p.events (row_of first m) held (suc g) d × (number p k < length levels)
  record_asking (M.rule a b lo hi) e q few cut same z = absurd (not-suc-le-zero z)
  record_asking (M.wish a b lo ls) e q few cut same z = (
    record { cutting = cut; narrowing = rw same (wish_narrowing (suc g) q s.net); grade = omega arith },
    omega (arith, wish_below p.records k l e),
  )

  -- the wish that is record k
  module _ {a b : ℕ} {lo : ℤ} {ls : List ℕ} (e : record_at p k ≡ M.wish a b lo ls) (q : GoodRecord p.events (M.wish a b lo ls)) (top : g < top_level) where
    here : number p k < length s.grades
    here = omega (arith, s.climbed.count, wish_number p.records k l e)

    grade_is : get_or levels (number p k) 0 ≡ get_or s.grades (number p k) 0
    grade_is = ap (λ v. get_or v (number p k) 0) s.written ∙ over_at s.grades before 0 (number p k) here

    -- the grade reached is at most g
    at_most : get_or s.grades (number p k) 0 ≤ g
    at_most = omega (arith, s.climbed.waiting s.climbed.some s.climbed.left (number p k) (omega arith) (wish_number p.records k l e))

    not_asked : (get_or levels (number p k) 0 ≡ suc g - 1 → ⊥) → Stage p g (suc k) old d before levels
    not_asked f = same_grades s (climb_failed p s.climbed l e (omega (arith, at_most, grade_is, f)))

    run : Run (suc g) ls (run_first (suc g) ls) (run_past (suc g) ls)
    run = run_is (suc g) (omega arith) ls

    answered : {d' : List ℤ} {levels' : List ℕ} → levels_at (row_of first (M.wish a b lo ls)) held ≡ ls →
        WishAnswered p.events (row_of first (M.wish a b lo ls)) held (suc g) (number p k) d d' levels levels' → Stage p g (suc k) old d' before levels'
    answered {d'} {levels'} same r = go r.answer refl (rw same at r.asked)
      where
        low : ℤ
        low = lo +ℤ pos (run_first (suc g) ls)

        high : ℤ
        high = lo +ℤ pos (run_past (suc g) ls) -ℤ pos 1

        asked : Narrowing p.events a b low high d
        asked = wish_narrowing (suc g) q s.net

        go : (t : Bool) → r.answer ≡ t → Narrowed p.events a b low high d d' t → Stage p g (suc k) old d' before levels'
        go true z n =
            let held_to = narrowed_stands s.stands s.net asked n in
            let u = stands_outermost Latest s.net.some held_to in
            record {
              grades = set s.grades (number p k) (suc g);
              climbed = climb_yes p s.climbed l e run q.levelled.peaked top (outermost Latest (at d')) u.0 u.1;
              written = r.up z ∙ ap (λ v. set v (number p k) (suc g)) s.written ∙ over_set s.grades before (number p k) (suc g) here;
              net = n.net s.net;
              stands = stands_same held_to (climb_within p s.climbed l e run q.levelled.peaked top);
              beside = beside_then s.beside (narrowed_beside n);
            }
        go false z n =
            rw (n.refused refl, r.stays z)
            (same_grades s (climb_no p s.climbed l e run q.levelled.peaked top (λ t x i. narrowed_nothing s.stands asked n t x i)))

    wish_next : {d' : List ℤ} {levels' : List ℕ} → levels_at (row_of first (M.wish a b lo ls)) held ≡ ls →
        WishClimbed p.events (row_of first (M.wish a b lo ls)) held (suc g) (number p k) d d' levels levels' → Stage p g (suc k) old d' before levels'
    wish_next {d'} {levels'} same c = go (ℕ_discrete (get_or levels (number p k) 0) (suc g - 1))
      where
        go : Dec (get_or levels (number p k) 0 ≡ suc g - 1) → Stage p g (suc k) old d' before levels'
        go (yes i) = answered same (c.climbing i)
        go (no i) = rw ((c.stopped i).0, (c.stopped i).1) (not_asked i)

  record_climbed : {d' : List ℤ} {levels' : List ℕ} → g < top_level → (m : M.Record) → record_at p k ≡ m → GoodRecord p.events m →
      levels_at (row_of first m) held ≡ levels_in m → 0 < (row_of first m).count →
      WishClimbed p.events (row_of first m) held (suc g) (number p k) d d' levels levels' →
      Stage p g (suc k) old d' before levels' × (number p k + 1 ≡ number p (suc k))
  record_climbed top (M.rule a b lo hi) e q same z c = absurd (not-suc-le-zero z)
  record_climbed top (M.wish a b lo ls) e q same z c = (wish_next e q top same c, omega (arith, next_wish p.records k l e))

-- ---- one grade: w wishes of it are done, and so are the first k records for each k that has w wishes before it

pub record Upto (p : M.Plan) (y w : ℕ) (d₀ d : Matrix) (levels₀ levels : List ℕ) : Type 0 where
  pub events : d.events ≡ d₀.events
  pub long : length levels ≡ length levels₀
  pub stage : {g : ℕ} {old : List ℤ} {before : List ℕ} → y ≡ suc g → Stage p g 0 old d₀.entries before levels₀ →
      (k : ℕ) → number p k ≡ w → Stage p g k old d.entries before levels

-- the same with other words for the events, the row, the grade and the number of the wish
asking_as : {n n' y y' w w' m : ℕ} {x x' : Record} {held : List ℕ} {d : List ℤ} →
    n' ≡ n → x' ≡ x → y' ≡ y → w' ≡ w → Asking n x held y d × (w < m) → Asking n' x' held y' d × (w' < m)
asking_as en ex ey ew a = rw (en, ex, ey, ew) a

climbed_as : {n n' y y' w w' : ℕ} {x x' : Record} {held : List ℕ} {d d' : List ℤ} {levels levels' : List ℕ} →
    n' ≡ n → x' ≡ x → y' ≡ y → w' ≡ w → WishClimbed n' x' held y' w' d d' levels levels' → WishClimbed n x held y w d d' levels levels'
climbed_as en ex ey ew c = rw (en, ex, ey, ew) at c

module _ {p : M.Plan} {held : List ℕ} (f : WithoutFault p) {y w : ℕ} {d₀ d : Matrix} {levels₀ levels : List ℕ}
    (asked : Grading p y d₀ levels₀) (u : Upto p y w d₀ d levels₀ levels) {x : Record} (r : Wish p held w x) where
  events : d.events ≡ p.events
  events = u.events ∙ asked.events

  pub upto_asks : Asking d.events x held y d.entries × (w < length levels)
  upto_asks =
      let s = u.stage asked.next asked.stage r.place (sym r.number) in
      asking_as events r.row.row asked.next r.number
      (record_asking s r.inside held x.first (record_at p r.place) refl (f.each r.place r.inside) (omega (arith, f.few, asked.room, u.long))
      (rw r.row.row at r.cutting) (rw r.row.row at r.row.levels) (rw r.row.row at r.some))

  pub upto_next : {d' : Matrix} {levels' : List ℕ} → WishClimbed d.events x held y w d.entries d'.entries levels levels' →
      d'.events ≡ d.events → length levels' ≡ length levels → Upto p y (w + 1) d₀ d' levels₀ levels'
  upto_next {d'} {levels'} c same long = record { events = same ∙ u.events; long = long ∙ u.long; stage = next }
    where
      next : {g : ℕ} {old : List ℤ} {before : List ℕ} → y ≡ suc g → Stage p g 0 old d₀.entries before levels₀ →
          (k : ℕ) → number p k ≡ w + 1 → Stage p g k old d'.entries before levels'
      next {g} {old} {before} e s₀ k n =
          let s = u.stage e s₀ r.place (sym r.number) in
          let t = record_climbed s r.inside held x.first (omega (arith, asked.top)) (record_at p r.place) refl (f.each r.place r.inside)
          (rw r.row.row at r.row.levels) (rw r.row.row at r.some) (climbed_as events r.row.row e r.number c) in
          let m : number p k ≡ number p (suc r.place) = omega (arith, n, r.number, t.1) in
          same_grades t.0 (rw m t.0.climbed)

pub upto_all : {p : M.Plan} {y w : ℕ} {d₀ d : Matrix} {levels₀ levels : List ℕ} →
    Upto p y w d₀ d levels₀ levels → w ≡ wishes p → Graded p y d₀.entries d.entries levels₀ levels
upto_all {p} {y} {w} {d₀} {d} {levels₀} {levels} u n = record { graded = all }
  where
    all : {g : ℕ} {old : List ℤ} {before : List ℕ} → y ≡ suc g → Stage p g 0 old d₀.entries before levels₀ → Stage p y 0 old d.entries before levels
    all e s₀ =
        let s = u.stage e s₀ (length p.records) (all_wishes p.records ∙ sym n) in
        rw e (same_grades s (climb_next p s.climbed))
