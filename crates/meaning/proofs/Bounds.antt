-- The bounds of a plan: which they are, that a code names one of them, that their events are two different ones of the plan, and that a
-- timetable is a row of times that holds them all. A plan's timetables are told record by record too: `UpTo p k` keeps the horizon and the first k records.
use mathlib.Core.Path.{◌≡◌, refl, ap, sym, subst}
use mathlib.Core.Logic.{⊎_elim}
use mathlib.Core.List.Memᴰ
use mathlib.Core.List.{List, [], ◌∷◌, Memᴰ}
use Prim.Native.Nat.{ℕ, zero, suc, ◌+◌, ◌-◌, ◌≤◌, ◌<◌, suc-le-suc}
use native.Mathlib.Nat.{le_of_suc-le-suc, not-suc-le-zero}
use native.Mathlib.Decide.{ℕ_discrete}
use native.Mathlib.Omega.{arith}
use lib.ListN.{length, get_or}
use lib.IntN.{ℤ, pos, neg_ℤ, ◌+ℤ◌, ◌-ℤ◌}
use lib.Signed.{◌≤ℤ◌}
use Rattle.ticks.proofs.Ticks.{ticks, sum}
use Rattle.meaning.specs.Plan.{Record, rule, wish, nothing, Plan, record_at, start, end, low, high, most_end, least_level}
use Rattle.meaning.specs.Plan.{Times, Within, Allows, Timetable}
use Rattle.meaning.specs.Run.{run_first, run_past}
use Rattle.meaning.specs.Bounds.{Bound, Holds, shortest, longest, upper, lower, horizon_upper, horizon_lower, record_bounds, horizon_bounds, bounds}
use Rattle.meaning.specs.Faultless.{Levelled, GoodRecord, WithoutFault}
use Rattle.meaning.proofs.Distances.{Horizon}
use Rattle.meaning.proofs.Runs.{past_most, in_run, level_within, run_is}
use Rattle.meaning.proofs.Peaks.{level_bounds}

-- ---- which bounds they are

abbrev pub Given : Plan → Bound → Type 0
Given p b = Memᴰ b (bounds p)

-- both bounds of a record, and of the horizon for an event
abbrev Both : (Bound → Type 0) → ℕ → Record → Type 0
Both C k r = C (upper k r) × C (lower k r)

abbrev BothAt : (Bound → Type 0) → ℕ → ℕ → Type 0
BothAt C H e = C (horizon_upper H e) × C (horizon_lower e)

module _ (C : Bound → Type 0) where
  each_record : (k : ℕ) (rs : List Record) → ((i j : ℕ) → j ≡ k + i → i < length rs → Both C j (get_or rs i nothing))
      → (b : Bound) → Memᴰ b (record_bounds k rs) → C b
  each_record k [] f b x'' = elim x'' [ ]
  each_record k (r ∷ rs) f b (Memᴰ.head e) = subst C (sym e) (f 0 k (omega arith) (omega arith)).0
  each_record k (r ∷ rs) f b (Memᴰ.tail (Memᴰ.head e)) = subst C (sym e) (f 0 k (omega arith) (omega arith)).1
  each_record k (r ∷ rs) f b (Memᴰ.tail (Memᴰ.tail m)) = each_record (suc k) rs (λ i j e h. f (suc i) j (omega arith) (suc-le-suc h)) b m

  each_event : (H e m : ℕ) → ((f : ℕ) → e ≤ f → f < e + m → BothAt C H f) → (b : Bound) → Memᴰ b (horizon_bounds H e m) → C b
  each_event H e zero f b m = absurd (Memᴰ.not-nil m)
  each_event H e (suc m) f b (Memᴰ.head q) = subst C (sym q) (f e (omega arith) (omega arith)).0
  each_event H e (suc m) f b (Memᴰ.tail (Memᴰ.head q)) = subst C (sym q) (f e (omega arith) (omega arith)).1
  each_event H e (suc m) f b (Memᴰ.tail (Memᴰ.tail n)) = each_event H (suc e) m (λ g h l. f g (omega arith) (omega arith)) b n

-- what is true of both bounds of each record and of each event other than 0 is true of every bound
pub each_bound : (p : Plan) (C : Bound → Type 0) → ((k : ℕ) → k < length p.records → C (upper k (record_at p k)) × C (lower k (record_at p k))) →
    ((e : ℕ) → 1 ≤ e → e < p.events → C (horizon_upper p.horizon e) × C (horizon_lower e)) → (b : Bound) → Given p b → C b
each_bound p C f g b m = ⊎_elim
    (λ q. each_record C 0 p.records (λ i j e h. subst (λ (x : ℕ). Both C x (record_at p i)) (omega arith) (f i h)) b q)
    (λ q. each_event C p.horizon 1 (p.events - 1) (λ e h l. g e h (omega arith)) b q)
    (Memᴰ.append_cases (record_bounds 0 p.records) m)

given_record : (k : ℕ) (rs : List Record) (i j : ℕ) → j ≡ k + i → i < length rs → Both (λ b. Memᴰ b (record_bounds k rs)) j (get_or rs i nothing)
given_record k [] i j e h = absurd (not-suc-le-zero h)
given_record k (r ∷ rs) zero j e h =
    subst (λ (x : ℕ). Both (λ b. Memᴰ b (record_bounds k (r ∷ rs))) x r) (omega arith) (Memᴰ.head refl, Memᴰ.tail (Memᴰ.head refl))
given_record k (r ∷ rs) (suc i) j e h =
    let m = given_record (suc k) rs i j (omega arith) (le_of_suc-le-suc h) in
    (Memᴰ.tail (Memᴰ.tail m.0), Memᴰ.tail (Memᴰ.tail m.1))

given_event : (H e m f : ℕ) → e ≤ f → f < e + m → BothAt (λ b. Memᴰ b (horizon_bounds H e m)) H f
given_event H e zero f h l = absurd (omega arith)
given_event H e (suc m) f h l = go (ℕ_discrete e f) (λ k. given_event H (suc e) m f k (omega arith))
  where
    go : Dec (e ≡ f) → (suc e ≤ f → BothAt (λ b. Memᴰ b (horizon_bounds H (suc e) m)) H f) → BothAt (λ b. Memᴰ b (horizon_bounds H e (suc m))) H f
    go (yes q) k = subst (λ (x : ℕ). BothAt (λ b. Memᴰ b (horizon_bounds H e (suc m))) H x) q (Memᴰ.head refl, Memᴰ.tail (Memᴰ.head refl))
    go (no q) k = let m = k (omega arith) in (Memᴰ.tail (Memᴰ.tail m.0), Memᴰ.tail (Memᴰ.tail m.1))

module _ (p : Plan) where
  pub given_upper : (k : ℕ) → k < length p.records → Given p (upper k (record_at p k))
  given_upper k h = Memᴰ.append_left (horizon_bounds p.horizon 1 (p.events - 1)) (given_record 0 p.records k k (omega arith) h).0

  pub given_lower : (k : ℕ) → k < length p.records → Given p (lower k (record_at p k))
  given_lower k h = Memᴰ.append_left (horizon_bounds p.horizon 1 (p.events - 1)) (given_record 0 p.records k k (omega arith) h).1

  pub given_horizon_upper : (e : ℕ) → 1 ≤ e → e < p.events → Given p (horizon_upper p.horizon e)
  given_horizon_upper e h l = Memᴰ.append_right (record_bounds 0 p.records) (given_event p.horizon 1 (p.events - 1) e h (omega arith)).0

  pub given_horizon_lower : (e : ℕ) → 1 ≤ e → e < p.events → Given p (horizon_lower e)
  given_horizon_lower e h l = Memᴰ.append_right (record_bounds 0 p.records) (given_event p.horizon 1 (p.events - 1) e h (omega arith)).1

-- ---- the codes: 767 is the last, the lower bound of event 127

pub last_code : (p : Plan) → WithoutFault p → (b : Bound) → Given p b → b.code ≤ 767
last_code p w = each_bound p (λ b. b.code ≤ 767)
    (λ k h. (omega (arith, h, w.few), omega (arith, h, w.few)))
    (λ e h l. (omega (arith, l, w.most), omega (arith, l, w.most)))

-- ---- a code names one bound: those of the records lie below horizon_codes, those of the horizon from there on

-- two bounds with one code are one
abbrev pub Told : Bound → Bound → Type 0
Told b c = b.code ≡ c.code → b ≡ c

-- no other bound of the plan has the code of b
abbrev pub Alone : Plan → Bound → Type 0
Alone p b = (c : Bound) → Given p c → Told b c

-- so it is in a plan without fault: it has at most most_records records
pub one_code : (p : Plan) → WithoutFault p → (b : Bound) → Given p b → Alone p b
one_code p w = each_bound p (Alone p) (λ k h. (of_upper k h, of_lower k h)) (λ e h l. (of_horizon_upper e, of_horizon_lower e))
  where
    of_upper : (k : ℕ) → k < length p.records → Alone p (upper k (record_at p k))
    of_upper k h = each_bound p (Told (upper k (record_at p k)))
        (λ j i. (λ e. ap (λ n. upper n (record_at p n)) (omega arith), λ e. absurd (omega arith)))
        (λ f i l. (λ e. absurd (omega arith), λ e. absurd (omega arith)))

    of_lower : (k : ℕ) → k < length p.records → Alone p (lower k (record_at p k))
    of_lower k h = each_bound p (Told (lower k (record_at p k)))
        (λ j i. (λ e. absurd (omega arith), λ e. ap (λ n. lower n (record_at p n)) (omega arith)))
        (λ f i l. (λ e. absurd (omega arith), λ e. absurd (omega arith)))

    of_horizon_upper : (e : ℕ) → Alone p (horizon_upper p.horizon e)
    of_horizon_upper e = each_bound p (Told (horizon_upper p.horizon e))
        (λ j i. (λ q. absurd (omega arith), λ q. absurd (omega arith)))
        (λ f i l. (λ q. ap (horizon_upper p.horizon) (omega arith), λ q. absurd (omega arith)))

    of_horizon_lower : (e : ℕ) → Alone p (horizon_lower e)
    of_horizon_lower e = each_bound p (Told (horizon_lower e))
        (λ j i. (λ q. absurd (omega arith), λ q. absurd (omega arith)))
        (λ f i l. (λ q. absurd (omega arith), λ q. ap horizon_lower (omega arith)))

-- ---- the distances of a record without fault are in range, and in order

pub record GoodEnds (r : Record) : Type 0 where
  pub lowest : neg_ℤ (pos most_end) ≤ℤ shortest r
  pub ordered : shortest r ≤ℤ longest r
  pub highest : longest r ≤ℤ pos most_end

-- so are those of any grade of a wish
module _ {n a b : ℕ} {lo : ℤ} {ls : List ℕ} (g : GoodRecord n (wish a b lo ls)) (y : ℕ) where
  pub run_lowest : neg_ℤ (pos most_end) ≤ℤ (lo +ℤ pos (run_first y ls))
  run_lowest = omega (ticks, g.lowest, sum lo (pos (run_first y ls)))

  pub run_highest : (lo +ℤ pos (run_past y ls) -ℤ pos 1) ≤ℤ pos most_end
  run_highest = omega (ticks, g.highest, past_most y ls, sum lo (pos (run_past y ls)), sum lo (pos (length ls)))

pub good_ends : {n : ℕ} (r : Record) → GoodRecord n r → GoodEnds r
good_ends (rule a b lo hi) g = record { lowest = g.lowest; ordered = g.ordered; highest = g.highest }
good_ends (wish a b lo ls) g =
    let first = run_first least_level ls in
    let past = run_past least_level ls in
    let i = in_run (run_is least_level (omega arith) ls) g.levelled.place g.levelled.allowed in
    record {
      lowest = run_lowest g least_level;
      ordered = omega (ticks, i.0, i.1, sum lo (pos first), sum lo (pos past));
      highest = run_highest g least_level;
    }

-- ---- their events

-- a bound between two different events
pub record Placed (n : ℕ) (b : Bound) : Type 0 where
  pub starts : b.start < n
  pub ends : b.end < n
  pub apart : b.start ≡ b.end → ⊥

pub bound_placed : (p : Plan) → WithoutFault p → (b : Bound) → Given p b → Placed p.events b
bound_placed p w = each_bound p (Placed p.events)
    (λ k h. let g = w.each k h in
    (record { starts = g.starts; ends = g.ends; apart = g.apart }, record { starts = g.ends; ends = g.starts; apart = λ e. g.apart (sym e) }))
    (λ e h l. (record { starts = omega arith; ends = l; apart = λ q. omega arith }, record { starts = l; ends = omega arith; apart = λ q. omega arith }))

-- ---- a timetable holds the bounds

-- t(b) − t(a) lies between the shortest and the longest distance of the record
abbrev pub Inside : Record → Times → Type 0
Inside r t = Within (shortest r) (t (end r) -ℤ t (start r)) (longest r)

-- so it does where the record allows the times, and only there if its levels are single-peaked
pub allowed_inside : (r : Record) (t : Times) → Allows r t → Inside r t
allowed_inside (rule a b lo hi) t h = h
allowed_inside (wish a b lo ls) t h = level_within (run_is least_level (omega arith) ls) (omega arith) (t b -ℤ t a) lo h

pub inside_allowed : (r : Record) (t : Times) → Levelled r → Inside r t → Allows r t
inside_allowed (rule a b lo hi) t g h = h
inside_allowed (wish a b lo ls) t g h =
    (level_bounds (run_is least_level (omega arith) ls) g.peaked (omega arith) (omega arith) (t b -ℤ t a) lo).1 h

-- what is allowed lies within the record's span: level 0 takes distances away, and adds none
pub allowed_spanned : (r : Record) (t : Times) → Allows r t → Within (low r) (t (end r) -ℤ t (start r)) (high r)
allowed_spanned (rule a b lo hi) t h = h
allowed_spanned (wish a b lo ls) t h =
    let first = run_first least_level ls in
    let past = run_past least_level ls in
    let i = allowed_inside (wish a b lo ls) t h in
    record {
      above = omega (ticks, i.above, sum lo (pos first));
      below = omega (ticks, i.below, past_most least_level ls, sum lo (pos past), sum lo (pos (length ls)));
    }

-- and inside is what its two bounds say
pub kept_upper : (t : Times) (k : ℕ) (r : Record) → Inside r t → Holds t (upper k r)
kept_upper t k r w = omega (ticks, w.below)

pub kept_lower : (t : Times) (k : ℕ) (r : Record) → Inside r t → Holds t (lower k r)
kept_lower t k r w = omega (ticks, w.above)

pub held_record : (t : Times) (k : ℕ) (r : Record) → Holds t (upper k r) → Holds t (lower k r) → Inside r t
held_record t k r u l = record { above = omega ticks; below = omega ticks }

pub timetable_holds : {p : Plan} {t : Times} → Timetable p t → (b : Bound) → Given p b → Holds t b
timetable_holds {p} {t} h = each_bound p (Holds t)
    (λ k l. let r = record_at p k in let i = allowed_inside r t (h.keeps k l) in (kept_upper t k r i, kept_lower t k r i))
    (λ e l m. (omega (ticks, h.origin, (h.within e m).below), omega (ticks, h.origin, (h.within e m).above)))

pub holds_timetable : {p : Plan} → WithoutFault p → {t : Times} → t 0 ≡ pos 0 → ((b : Bound) → Given p b → Holds t b) → Timetable p t
holds_timetable {p} w {t} o f = record {
  origin = o;
  within = λ e h. inside e h;
  keeps = λ k h. let r = record_at p k in
      inside_allowed r t (w.each k h).levelled (held_record t k r (f _ (given_upper p k h)) (f _ (given_lower p k h)));
}
  where
    inside : (e : ℕ) → e < p.events → Within (pos 0) (t e) (pos p.horizon)
    inside zero h = record { above = omega (ticks, o); below = omega (ticks, o) }
    inside (suc e) h = record {
      above = omega (ticks, o, f _ (given_horizon_lower p (suc e) (omega arith) h));
      below = omega (ticks, o, f _ (given_horizon_upper p (suc e) (omega arith) h));
    }

-- ---- record by record

-- keeps the horizon and the first k records
pub record UpTo (p : Plan) (k : ℕ) (t : Times) : Type 0 where
  pub inside : Horizon p.events p.horizon t
  pub keeps : (j : ℕ) → j < k → Inside (record_at p j) t

module _ {p : Plan} {t : Times} where
  pub up_to_none : Horizon p.events p.horizon t → UpTo p 0 t
  up_to_none h = record { inside = h; keeps = λ j l. absurd (not-suc-le-zero l) }

  -- one record more is its two bounds more
  pub up_to_next : {k : ℕ} → UpTo p k t → Holds t (upper k (record_at p k)) → Holds t (lower k (record_at p k)) → UpTo p (suc k) t
  up_to_next {k} h u l = record { inside = h.inside; keeps = λ j m. go j m (ℕ_discrete j k) }
    where
      go : (j : ℕ) → j < suc k → Dec (j ≡ k) → Inside (record_at p j) t
      go j m (yes e) = rw e (held_record t k (record_at p k) u l)
      go j m (no n) = h.keeps j (omega arith)

  pub up_to_less : {k : ℕ} → UpTo p (suc k) t → UpTo p k t
  up_to_less h = record { inside = h.inside; keeps = λ j m. h.keeps j (omega arith) }

  pub up_to_upper : {k : ℕ} → UpTo p (suc k) t → Holds t (upper k (record_at p k))
  up_to_upper {k} h = kept_upper t k (record_at p k) (h.keeps k (omega arith))

  pub up_to_lower : {k : ℕ} → UpTo p (suc k) t → Holds t (lower k (record_at p k))
  up_to_lower {k} h = kept_lower t k (record_at p k) (h.keeps k (omega arith))

  pub up_to_all : WithoutFault p → UpTo p (length p.records) t → Timetable p t
  up_to_all w h = record {
    origin = h.inside.origin;
    within = λ e l. record { above = h.inside.low l; below = h.inside.high l };
    keeps = λ k l. inside_allowed (record_at p k) t (w.each k l).levelled (h.keeps k l);
  }

  pub timetable_up_to : Timetable p t → (k : ℕ) → k ≤ length p.records → UpTo p k t
  timetable_up_to h k l = record {
    inside = record { origin = h.origin; low = λ {e} m. (h.within e m).above; high = λ {e} m. (h.within e m).below };
    keeps = λ j m. allowed_inside (record_at p j) t (h.keeps j (omega arith));
  }
