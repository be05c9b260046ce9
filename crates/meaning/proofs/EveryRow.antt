-- A test of a solved outcome that computes, for small horizons: every row of times within the horizon is tried. Where it passes, the outcome is right.
use mathlib.Core.Path.{◌≡◌, refl, ap, sym, subst, subst⁻¹, ◌∙◌}
use mathlib.Core.List.{List, [], ◌∷◌}
use mathlib.Core.Bool.{Bool, true, false, not, ◌&&◌}
use Prim.Native.Nat.{ℕ, zero, suc, ◌+◌, ◌-◌, ◌≤◌, ◌<◌, suc-le-suc}
use native.Mathlib.Nat.{le_of_suc-le-suc, not-suc-le-zero}
use native.Mathlib.Decide.{ℕ_discrete}
use native.Mathlib.Omega.{arith}
use lib.Dec.{T, eqb, leb, leb→le, le→leb, eqb→eq, T_not, not_T}
use lib.ListN.{length, get_or}
use lib.IntN.{ℤ, pos, negsuc, ◌-ℤ◌}
use lib.Signed.{le_z, le_z_yes}
use mir.Facts.{and_yes, yes_and}
use Rattle.meaning.specs.Plan.{Record, rule, wish, nothing, Plan, Times, Within, level_at, Allows, Timetable, levels, wishes, least_level}
use Rattle.meaning.specs.Ladder.{questions, replies, better}
use Rattle.meaning.specs.Outcome.{BestTimes, at, AsFar, Solved}
use Rattle.meaning.specs.Reading.{same}
use Rattle.meaning.specs.Faultless.{WithoutFault}
use Rattle.scope.specs.declared.Side.{Side}
use Rattle.scope.specs.declared.Side.TheVariants.{Latest, Earliest}
use Rattle.meaning.proofs.All.{implies, implied, is_same}
use Rattle.meaning.proofs.Times.{times_from, times_at}
use Rattle.meaning.proofs.Agree.{agree_levels, agree_timetable}

-- ---- every row of times from 0 to H

abbrev up_to : ℕ → (ℕ → Bool) → Bool
up_to zero f = f 0
up_to (suc h) f = let r = up_to h f in f (suc h) && r

up_to_lem : (H : ℕ) (f : ℕ → Bool) → T (up_to H f) → (v : ℕ) → v ≤ H → T (f v)
up_to_lem zero f t v h = subst (λ (n : ℕ). T (f n)) (omega arith) t
up_to_lem (suc H) f t v h = go (ℕ_discrete v (suc H)) (λ g. up_to_lem H f (and_yes (f (suc H)) (up_to H f) t).1 v g)
  where
    go : Dec (v ≡ suc H) → (v ≤ H → T (f v)) → T (f v)
    go (yes e) k = subst⁻¹ (λ (n : ℕ). T (f n)) e (and_yes (f (suc H)) (up_to H f) t).0
    go (no n) k = k (omega arith)

-- the rows of m times
abbrev every : ℕ → ℕ → (List ℤ → Bool) → Bool
every H zero f = f []
every H (suc m) f = up_to H (λ v. every H m (λ us. f (pos v ∷ us)))

in_range_lem : (z : ℤ) (H : ℕ) → Within (pos 0) z (pos H) → (v : ℕ) × (z ≡ pos v) × (v ≤ H)
in_range_lem (pos n) H w = (n, refl, leb→le n H w.below.le)
in_range_lem (negsuc n) H w = absurd w.above.le

tried : (H : ℕ) (u : Times) (m s : ℕ) (f : List ℤ → Bool) → T (every H m f) → ((e : ℕ) → s ≤ e → e < s + m → Within (pos 0) (u e) (pos H)) →
    T (f (times_from u s m))
tried H u zero s f t w = t
tried H u (suc m) s f t w =
    let v : (v : ℕ) × (u s ≡ pos v) × (v ≤ H) = in_range_lem (u s) H (w s (omega arith) (omega arith)) in
    let one : T (every H m (λ us. f (pos v.0 ∷ us))) = up_to_lem H (λ v. every H m (λ us. f (pos v ∷ us))) t v.0 v.2 in
    subst⁻¹ (λ z. T (f (z ∷ times_from u (suc s) m))) v.1 (tried H u m (suc s) (λ us. f (pos v.0 ∷ us)) one (λ e a b. w e (omega arith) (omega arith)))

-- ---- a row that is a timetable

-- the record allows these times
abbrev allows : Record → Times → Bool
allows (rule a b lo hi) t = le_z lo (t b -ℤ t a) && le_z (t b -ℤ t a) hi
allows (wish a b lo ls) t = leb least_level (level_at ls (t b -ℤ t a -ℤ lo))

allows_sound : (r : Record) (t : Times) → T (allows r t) → Allows r t
allows_sound (rule a b lo hi) t h =
    let b = and_yes (le_z lo (t b -ℤ t a)) (le_z (t b -ℤ t a) hi) h in
    record { above = le_z_yes b.0; below = le_z_yes b.1 }
allows_sound (wish a b lo ls) t h = leb→le least_level (level_at ls (t b -ℤ t a -ℤ lo)) h

allows_complete : (r : Record) (t : Times) → Allows r t → T (allows r t)
allows_complete (rule a b lo hi) t h = yes_and (le_z lo (t b -ℤ t a)) (le_z (t b -ℤ t a) hi) h.above.le h.below.le
allows_complete (wish a b lo ls) t h = le→leb least_level (level_at ls (t b -ℤ t a -ℤ lo)) h

abbrev allows_all : List Record → Times → Bool
allows_all [] t = true
allows_all (r ∷ rs) t = let k = allows_all rs t in allows r t && k

all_sound : (rs : List Record) (t : Times) → T (allows_all rs t) → (k : ℕ) → k < length rs → Allows (get_or rs k nothing) t
all_sound [] t h k l = absurd (not-suc-le-zero l)
all_sound (r ∷ rs) t h zero l = allows_sound r t (and_yes (allows r t) (allows_all rs t) h).0
all_sound (r ∷ rs) t h (suc k) l = all_sound rs t (and_yes (allows r t) (allows_all rs t) h).1 k (le_of_suc-le-suc l)

all_complete : (rs : List Record) (t : Times) → ((k : ℕ) → k < length rs → Allows (get_or rs k nothing) t) → T (allows_all rs t)
all_complete [] t f = tt
all_complete (r ∷ rs) t f =
    yes_and (allows r t) (allows_all rs t) (allows_complete r t (f 0 (omega arith))) (all_complete rs t (λ k l. f (suc k) (suc-le-suc l)))

abbrev inside : ℕ → List ℤ → Bool
inside H [] = true
inside H (t ∷ ts) = let k = inside H ts in le_z (pos 0) t && (le_z t (pos H) && k)

is_inside : (H : ℕ) (ts : List ℤ) → T (inside H ts) → (e : ℕ) → e < length ts → Within (pos 0) (at ts e) (pos H)
is_inside H [] h e l = absurd (not-suc-le-zero l)
is_inside H (t ∷ ts) h e l = go e l (λ f k. is_inside H ts rest.1 f k)
  where
    first : T (le_z (pos 0) t) × T (le_z t (pos H) && inside H ts)
    first = and_yes (le_z (pos 0) t) _ h

    rest : T (le_z t (pos H)) × T (inside H ts)
    rest = and_yes (le_z t (pos H)) (inside H ts) first.1

    go : (e : ℕ) → e < length (t ∷ ts) → ((f : ℕ) → f < length ts → Within (pos 0) (at ts f) (pos H)) → Within (pos 0) (at (t ∷ ts) e) (pos H)
    go zero l r = record { above = le_z_yes first.0; below = le_z_yes rest.0 }
    go (suc e) l r = r e (le_of_suc-le-suc l)

abbrev is_zero : ℤ → Bool
is_zero (pos n) = eqb n 0
is_zero (negsuc n) = false

is_zero_lem : (z : ℤ) → T (is_zero z) → z ≡ pos 0
is_zero_lem (pos n) h = ap pos (eqb→eq n 0 h)
is_zero_lem (negsuc n) h = absurd h

abbrev timetable_test : Plan → List ℤ → Bool
timetable_test p ts = eqb (length ts) p.events && (is_zero (at ts 0) && (inside p.horizon ts && allows_all p.records (at ts)))

timetable_right : (p : Plan) (ts : List ℤ) → T (timetable_test p ts) → (length ts ≡ p.events) × Timetable p (at ts)
timetable_right p ts h =
    let h1 = and_yes (eqb (length ts) p.events) _ h in
    let h2 = and_yes (is_zero (at ts 0)) _ h1.1 in
    let h3 = and_yes (inside p.horizon ts) _ h2.1 in
    let n = eqb→eq (length ts) p.events h1.0 in (
      n,
      record {
        origin = is_zero_lem (at ts 0) h2.0;
        within = λ e l. is_inside p.horizon ts h3.0 e (omega arith);
        keeps = all_sound p.records (at ts) h3.1;
      },
    )

-- ---- every timetable is tried

abbrev try_all : Plan → (List ℤ → Bool) → Bool
try_all p f = every p.horizon (p.events - 1) (λ us. let k = f (pos 0 ∷ us) in implies (allows_all p.records (at (pos 0 ∷ us))) k)

module _ {p : Plan} (good : WithoutFault p) where
  row : Times → List ℤ
  row u = pos 0 ∷ times_from u 1 (p.events - 1)

  row_agrees : {u : Times} → Timetable p u → (e : ℕ) → e < p.events → at (row u) e ≡ u e
  unfolding row
  row_agrees h zero l = sym h.origin
  row_agrees {u} h (suc e) l = times_at u 1 (p.events - 1) e (omega arith) ∙ ap u (omega arith)

  tried_all : (f : List ℤ → Bool) → T (try_all p f) → (u : Times) → Timetable p u → T (f (row u))
  unfolding row
  tried_all f t u h =
      let this : List ℤ → Bool = λ us. implies (allows_all p.records (at (pos 0 ∷ us))) (f (pos 0 ∷ us)) in
      implied (allows_all p.records (at (row u))) (f (row u))
      (tried p.horizon u (p.events - 1) 1 this t (λ e a b. h.within e (omega arith)))
      (all_complete p.records (at (row u)) (agree_timetable good (row_agrees h) h).keeps)

-- ---- the test of a solved plan

-- one time is as far out as another
abbrev as_far : Side → ℤ → ℤ → Bool
as_far Latest x y = le_z y x
as_far Earliest x y = le_z x y

as_far_lem : (s : Side) (x y : ℤ) → T (as_far s x y) → AsFar s x y
as_far_lem Latest x y h = le_z_yes h
as_far_lem Earliest x y h = le_z_yes h

-- each time of a row is as far out as that of another row
abbrev all_as_far : Side → List ℤ → List ℤ → Bool
all_as_far s [] us = true
all_as_far s (t ∷ ts) [] = false
all_as_far s (t ∷ ts) (u ∷ us) = let k = all_as_far s ts us in as_far s t u && k

all_as_far_lem : (s : Side) (ts us : List ℤ) → T (all_as_far s ts us) → (e : ℕ) → e < length ts → AsFar s (at ts e) (at us e)
all_as_far_lem s [] us h e l = absurd (not-suc-le-zero l)
all_as_far_lem s (t ∷ ts) [] h e l = absurd h
all_as_far_lem s (t ∷ ts) (u ∷ us) h zero l = as_far_lem s t u (and_yes (as_far s t u) (all_as_far s ts us) h).0
all_as_far_lem s (t ∷ ts) (u ∷ us) h (suc e) l = all_as_far_lem s ts us (and_yes (as_far s t u) (all_as_far s ts us) h).1 e (le_of_suc-le-suc l)

-- the row us, whose replies are y, is not better than ts, whose replies are x, and where it is not worse, none of its times is further out
abbrev not_ahead : Side → List ℤ → List ℤ → List Bool → List Bool → Bool
not_ahead s ts us x y = let k = implies (not (better x y)) (all_as_far s ts us) in not (better y x) && k

-- the row itself is a timetable of the plan with these levels, and no timetable is ahead of it
abbrev pub solved_test : Side → Plan → List ℤ → List ℕ → Bool
solved_test s p ts ls =
    let qs = questions (wishes p) in
    timetable_test p ts && (same ls (levels p (at ts)) && try_all p (λ us. not_ahead s ts us (replies qs (levels p (at ts))) (replies qs (levels p (at us)))))

module _ (s : Side) (p : Plan) (ts : List ℤ) (ls : List ℕ) (good : WithoutFault p) (h : T (solved_test s p ts ls)) where
  replies_of : Times → List Bool
  replies_of u = replies (questions (wishes p)) (levels p u)

  is : (length ts ≡ p.events) × Timetable p (at ts)
  is = timetable_right p ts (and_yes (timetable_test p ts) _ h).0

  rest : (ls ≡ levels p (at ts)) × T (try_all p (λ us. not_ahead s ts us (replies_of (at ts)) (replies_of (at us))))
  unfolding replies_of
  rest = let b = and_yes (same ls (levels p (at ts))) _ (and_yes (timetable_test p ts) _ h).1 in (is_same ls (levels p (at ts)) b.0, b.1)

  judged : (u : Times) → Timetable p u → T (not_ahead s ts (row good u) (replies_of (at ts)) (replies_of u))
  unfolding replies_of
  judged u k =
      let test : List ℤ → Bool = λ us. not_ahead s ts us (replies_of (at ts)) (replies_of (at us)) in
      subst (λ l. T (not_ahead s ts (row good u) (replies_of (at ts)) (replies (questions (wishes p)) l))) (agree_levels good (row_agrees good k))
      (tried_all good test rest.1 u k)

  best : BestTimes p (at ts)
  unfolding replies_of
  best = record {
    member = is.1;
    unbeaten = λ u k. T_not (better (replies_of u) (replies_of (at ts))) (and_yes (not (better (replies_of u) (replies_of (at ts)))) _ (judged u k)).0;
  }

  furthest : (u : Times) → BestTimes p u → (e : ℕ) → e < p.events → AsFar s (at ts e) (u e)
  unfolding replies_of
  furthest u b e l =
      let x : List Bool = replies_of (at ts) in
      let y : List Bool = replies_of u in
      let us : List ℤ = row good u in
      let unbeaten : T (not (better x y)) = not_T (better x y) (b.unbeaten (at ts) is.1) in
      let far : T (all_as_far s ts us) = implied (not (better x y)) (all_as_far s ts us) (and_yes (not (better y x)) _ (judged u b.member)).1 unbeaten in
      subst (λ z. AsFar s (at ts e) z) (row_agrees good b.member e l) (all_as_far_lem s ts us far e (omega (arith, is.0)))

  -- what passes the test is right
  pub solved_right : Solved s p ts ls
  solved_right = record { count = is.0; best = best; levelled = rest.0; furthest = furthest }
