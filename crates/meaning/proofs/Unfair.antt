-- Levels that fairness, Pareto optimality and the greatest least level exclude, so that none of the three says too little: in case 6 the levels 1, 1,
-- and in case 5 with every level one higher the levels 6, 1. What excludes them is the timetable of the table, which has 1, 3 and 2, 2.
use mathlib.Core.Path.{◌≡◌, refl, sym, ap, subst, ◌∙◌}
use mathlib.Core.List.{List, [], ◌∷◌, Memᴰ}
use Prim.Native.Nat.{ℕ, zero, suc, ◌≤◌, ◌<◌}
use Prim.Native.String.{String}
use native.Mathlib.Omega.{arith}
use lib.ListN.{length}
use lib.IntN.{ℤ}
use Rattle.meaning.specs.Plan.{Plan, Times, Timetable, levels, wishes}
use Rattle.meaning.specs.Reading.{plan, read}
use Rattle.meaning.specs.Ladder.{lv, Loss, Fair, Pareto, Highest}
use Rattle.meaning.specs.Outcome.{solved, at, Solved, Right}
use Rattle.meaning.specs.Known.{bytes, case_5_raised_text, case_6_text, table}
use Rattle.meaning.proofs.Levels.{levels_count}
use Rattle.meaning.proofs.KnownRight.{known_right}
use Rattle.meaning.proofs.Idle.{row, case_5_raised, case_6}
use Rattle.scope.specs.declared.Side.TheVariants.{Latest}

-- a timetable with two levels
record Two (p : Plan) (x y : ℕ) : Type 0 where
  times : Times
  member : Timetable p times
  has : levels p times ≡ x ∷ y ∷ []
  both : wishes p ≡ 2

-- that of a row of the table
known_two : {t : String} {ts : List ℤ} {x y : ℕ} → Memᴰ (row t ts (x ∷ y ∷ [])) table → (p : Plan) → read (bytes t) ≡ plan p → Two p x y
known_two {t} {ts} {x} {y} m p e =
    let ls : List ℕ = x ∷ y ∷ [] in
    let s : Solved Latest p ts ls = subst (λ r. Right Latest r (solved ts ls)) e (known_right (row t ts ls) m Latest).right in
    record { times = at ts; member = s.best.member; has = sym s.levelled; both = sym (levels_count p (at ts)) ∙ sym (ap length s.levelled) }

module _ (p : Plan) (t : Times) {g₀ g₁ h₀ h₁ : ℕ} (o : Two p h₀ h₁) (e : levels p t ≡ g₀ ∷ g₁ ∷ []) where
  -- what lifts the second wish costs the first one
  fair_first : Fair (Timetable p) (levels p) (wishes p) t → g₁ < h₁ → (h₀ < g₀) × (h₀ ≤ g₁)
  fair_first f up = go x.other (omega (arith, x.counts, o.both)) (λ z. x.differs z) (rw (o.has, e) at x.lost) (rw (o.has, e) at x.low)
    where
      x : Loss (wishes p) 1 (levels p t) (levels p o.times)
      x = f.fair o.times o.member 1 (omega (arith, o.both)) (rw (e, o.has) up)

      go : (j : ℕ) → j < 2 → ¬ (j ≡ 1) → lv (h₀ ∷ h₁ ∷ []) j < lv (g₀ ∷ g₁ ∷ []) j → lv (h₀ ∷ h₁ ∷ []) j ≤ g₁ → (h₀ < g₀) × (h₀ ≤ g₁)
      go zero l d a b = (a, b)
      go (suc zero) l d a b = absurd (d refl)
      go (suc (suc j)) l d a b = absurd (omega arith)

  -- where the first wish has its level, the second one is not higher elsewhere
  pareto_second : Pareto (Timetable p) (levels p) (wishes p) t → g₀ ≤ h₀ → g₁ ≤ h₁ → h₁ ≡ g₁
  pareto_second f a b = rw (o.has, e) at (f.pareto o.times o.member (λ j l. rw (o.has, e) (go j)) 1 (omega (arith, o.both)))
    where
      go : (j : ℕ) → lv (g₀ ∷ g₁ ∷ []) j ≤ lv (h₀ ∷ h₁ ∷ []) j
      go zero = a
      go (suc zero) = b
      go (suc (suc j)) = omega arith

  -- a level that both have elsewhere, the second one has
  highest_second : Highest (Timetable p) (levels p) (wishes p) t → (m : ℕ) → m ≤ h₀ → m ≤ h₁ → m ≤ g₁
  highest_second f m a b = rw e at (f.highest o.times o.member m (λ j l. rw o.has (go j (omega (arith, l, o.both)))) 1 (omega (arith, o.both)))
    where
      go : (j : ℕ) → j < 2 → m ≤ lv (h₀ ∷ h₁ ∷ []) j
      go zero l = a
      go (suc zero) l = b
      go (suc (suc j)) l = absurd (omega arith)

-- ---- stopping at the greatest least level is neither fair nor Pareto optimal

pub stopped_unfair : (p : Plan) → read (bytes case_6_text) ≡ plan p → (t : Times) → levels p t ≡ 1 ∷ 1 ∷ [] → ¬ Fair (Timetable p) (levels p) (wishes p) t
stopped_unfair p r t e f = omega (arith, (fair_first p t (known_two case_6 p r) e f (omega arith)).0)

pub stopped_not_pareto : (p : Plan) → read (bytes case_6_text) ≡ plan p → (t : Times) → levels p t ≡ 1 ∷ 1 ∷ [] → ¬ Pareto (Timetable p) (levels p) (wishes p) t
stopped_not_pareto p r t e f = omega (arith, pareto_second p t (known_two case_6 p r) e f (omega arith) (omega arith))

-- ---- letting the first wish climb is neither fair, nor is its least level the greatest

pub climbed_unfair : (p : Plan) → read (bytes case_5_raised_text) ≡ plan p → (t : Times) → levels p t ≡ 6 ∷ 1 ∷ [] →
    ¬ Fair (Timetable p) (levels p) (wishes p) t
climbed_unfair p r t e f = omega (arith, (fair_first p t (known_two case_5_raised p r) e f (omega arith)).1)

pub climbed_not_highest : (p : Plan) → read (bytes case_5_raised_text) ≡ plan p → (t : Times) → levels p t ≡ 6 ∷ 1 ∷ [] →
    ¬ Highest (Timetable p) (levels p) (wishes p) t
climbed_not_highest p r t e f = omega (arith, highest_second p t (known_two case_5_raised p r) e f 2 (omega arith) (omega arith))
