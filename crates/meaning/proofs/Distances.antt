-- Closed distances: one more bound, the horizon alone, times that are attained, and one matrix for one set of timetables.
-- Each fact is one call of `omega ticks` over the triangles that it needs; what is true of the earliest times is what the turned matrix says of the latest.
use mathlib.Core.Path.{◌≡◌, refl}
use Prim.Native.Nat.{ℕ, ◌<◌}
use mathlib.Core.Bool.{Bool, true, false, cond}
use native.Mathlib.Decide.{ℕ_discrete}
use lib.Dec.{eqb}
use lib.IntN.{ℤ, pos, neg_ℤ, ◌+ℤ◌, ◌-ℤ◌}
use lib.Signed.{◌≤ℤ◌, ◌<ℤ◌}
use borrow.Author.Tests.{eq-eqb, ne_eqb}
use Rattle.ticks.specs.Min.{min_z}
use Rattle.ticks.proofs.Ticks.{ticks}
use Rattle.meaning.specs.Distances.{Distances, Closed, Keeps, Adds, Below, horizon_only, outermost}
use Rattle.meaning.specs.Outcome.{AsFar}
use Rattle.scope.specs.declared.Side.{Side}
use Rattle.scope.specs.declared.Side.TheVariants.{Latest, Earliest}

-- where no entry is above H, none is below −H
pub above : {n H : ℕ} {D : Distances} → Closed n D → Below n H D → {i j : ℕ} → i < n → j < n → neg_ℤ (pos H) ≤ℤ D i j
above c r p q = omega (ticks, c.tri p q p, c.diag p, r.hi q p)

module _ {n a b : ℕ} {w : ℤ} {D D' : Distances} (c : Closed n D) (la : a < n) (lb : b < n) (e : Adds n a b w D D') where
  -- nothing is left
  pub none_left : (D b a +ℤ w) <ℤ pos 0 → (t : ℕ → ℤ) → Keeps n D t → t b ≤ℤ (t a +ℤ w) → ⊥
  none_left m t h k = omega (ticks, h.kept lb la)

  pub adds_closed : pos 0 ≤ℤ (D b a +ℤ w) → Closed n D'
  adds_closed m = record {
    diag = λ {i} p. omega (ticks, e.at p p, c.diag p, c.tri p la lb, c.tri lb p la);
    tri = λ {i} {j} {k} p q r. omega (ticks, e.at p r, e.at p q, e.at q r, c.tri p q r, c.tri p q la, c.tri lb q r, c.tri lb q la);
  }

  pub adds_keeps : {t : ℕ → ℤ} → Keeps n D t → t b ≤ℤ (t a +ℤ w) → Keeps n D' t
  adds_keeps {t} h k = record {
    origin = h.origin;
    kept = λ {i} {j} p q. omega (ticks, e.at p q, h.kept p q, h.kept p la, h.kept lb q);
  }

  pub adds_old : {t : ℕ → ℤ} → Keeps n D' t → Keeps n D t
  adds_old {t} h = record { origin = h.origin; kept = λ {i} {j} p q. omega (ticks, e.at p q, h.kept p q) }

  pub adds_new : {t : ℕ → ℤ} → Keeps n D' t → t b ≤ℤ (t a +ℤ w)
  adds_new {t} h = omega (ticks, e.at la lb, h.kept la lb, c.diag la, c.diag lb)

  pub same_row : {i : ℕ} → i < n → D i b ≤ℤ (D i a +ℤ w) → {j : ℕ} → j < n → D' i j ≡ D i j
  same_row {i} p m {j} q = omega (ticks, e.at p q, c.tri p lb q)

  -- the entries' range
  pub adds_below : {H : ℕ} → Below n H D → Below n H D'
  adds_below {H} r = record { hi = λ {i} {j} p q. omega (ticks, e.at p q, r.hi p q) }

-- a row that the program passes over is as `Adds` asks
pub skipped : {n b i j : ℕ} {D : Distances} (a : ℕ) (w : ℤ) → Closed n D → b < n → i < n → j < n → D i b ≤ℤ (D i a +ℤ w) →
    D i j ≡ min_z (D i j) ((D i a +ℤ w) +ℤ D b j)
skipped a w c lb p q m = omega (ticks, c.tri p lb q)

-- ---- timetables of a closed matrix

abbrev pub turned : Distances → Distances
turned D i j = D j i

pub turned_closed : {n : ℕ} {D : Distances} → Closed n D → Closed n (turned D)
turned_closed {n} {D} c = record { diag = c.diag; tri = λ {i} {j} {k} p q r. omega (ticks, c.tri r q p) }

turned_as : {n : ℕ} {D : Distances} {t : ℕ → ℤ} (t' : ℕ → ℤ) → Keeps n D t → ((e : ℕ) → t' e ≡ neg_ℤ (t e)) → Keeps n (turned D) t'
turned_as t' h f = record {
  origin = omega (ticks, f 0, h.origin);
  kept = λ {i} {j} p q. omega (ticks, f i, f j, h.kept q p);
}

pub turned_holds : {n : ℕ} {D : Distances} {t : ℕ → ℤ} → Keeps n D t → Keeps n (turned D) (λ e. neg_ℤ (t e))
turned_holds h = turned_as _ h (λ e. refl)

latest_holds : {n : ℕ} {D : Distances} → Closed n D → 0 < n → Keeps n D (outermost Latest D)
latest_holds c z = record { origin = c.diag z; kept = c.tri z }

latest_greatest : {n : ℕ} {D : Distances} {t : ℕ → ℤ} → 0 < n → Keeps n D t → {e : ℕ} → e < n → t e ≤ℤ outermost Latest D e
latest_greatest z h p = omega (ticks, h.kept z p, h.origin)

-- the outermost times are times of the matrix
pub outermost_holds : (s : Side) {n : ℕ} {D : Distances} → Closed n D → 0 < n → Keeps n D (outermost s D)
outermost_holds Latest c z = latest_holds c z
outermost_holds Earliest c z = turned_holds (latest_holds (turned_closed c) z)

-- and none of its times lies further out
pub outermost_furthest : (s : Side) {n : ℕ} {D : Distances} {t : ℕ → ℤ} → 0 < n → Keeps n D t → {e : ℕ} → e < n → AsFar s (outermost s D e) (t e)
outermost_furthest Latest z h p = latest_greatest z h p
outermost_furthest Earliest {D = D} {t} z h {e} p = omega (ticks, latest_greatest z (turned_holds h) p)

-- the row of a, moved so that the origin stands at 0
pub row_holds : {n a : ℕ} {D : Distances} (t : ℕ → ℤ) → Closed n D → 0 < n → a < n → ((e : ℕ) → t e ≡ D a e -ℤ D a 0) → Keeps n D t
row_holds {n} {a} {D} t c z la f = record {
  origin = omega (ticks, f 0);
  kept = λ {i} {j} p q. omega (ticks, f i, f j, c.tri la p q);
}

-- each distance from -D[b][a] to D[a][b] is that of a timetable
attained_by : {n a b : ℕ} {D D' : Distances} {d : ℤ} (t : ℕ → ℤ) → Closed n D → 0 < n → a < n → b < n → neg_ℤ (D b a) ≤ℤ d → d ≤ℤ D a b →
    Adds n a b d D D' → ((j : ℕ) → t j ≡ D' a j -ℤ D' a 0) → (t : ℕ → ℤ) × Keeps n D t × (t b ≡ t a +ℤ d)
attained_by {a = a} {b} t c z la lb lo hi e f =
    let c' = adds_closed c la lb e (omega ticks) in
    (t, adds_old c la lb e (row_holds t c' z la f), omega (ticks, f a, f b, e.at la lb, c'.diag la, c.diag la, c.diag lb))

pub attained : {n a b : ℕ} {D : Distances} → Closed n D → 0 < n → a < n → b < n → (d : ℤ) → neg_ℤ (D b a) ≤ℤ d → d ≤ℤ D a b →
    (t : ℕ → ℤ) × Keeps n D t × (t b ≡ t a +ℤ d)
attained {a = a} {b} {D} c z la lb d lo hi =
    attained_by {D' = λ i j. min_z (D i j) ((D i a +ℤ d) +ℤ D b j)} _ c z la lb lo hi (record { at = λ p q. refl }) (λ j. refl)

-- each tick from the earliest to the latest of an event is its time in a timetable
pub tick_attained : {n e : ℕ} {D : Distances} → Closed n D → 0 < n → e < n → (x : ℤ) → outermost Earliest D e ≤ℤ x → x ≤ℤ outermost Latest D e →
    (t : ℕ → ℤ) × Keeps n D t × (t e ≡ x)
tick_attained {n} {e} {D} c z l x lo hi = let r = attained c z z l x lo hi in (r.0, r.1, omega (ticks, r.2, r.1.origin))

-- ---- one matrix for one set
pub narrower : {n : ℕ} {D E : Distances} → Closed n D → 0 < n → ((t : ℕ → ℤ) → Keeps n D t → Keeps n E t) →
    {a b : ℕ} → a < n → b < n → D a b ≤ℤ E a b
narrower {n} {D} {E} c z f {a} {b} la lb =
    let r = attained c z la lb (D a b) (omega (ticks, c.tri la lb la, c.diag la)) (omega ticks) in
    omega (ticks, r.2, (f r.0 r.1).kept la lb)

pub same_matrix : {n : ℕ} {D E : Distances} → Closed n D → Closed n E → 0 < n →
    ((t : ℕ → ℤ) → Keeps n D t → Keeps n E t) → ((t : ℕ → ℤ) → Keeps n E t → Keeps n D t) → {a b : ℕ} → a < n → b < n → D a b ≡ E a b
same_matrix c k z f g {a} {b} la lb = omega (ticks, narrower c z f la lb, narrower k z g la lb)

pub same_set : {n : ℕ} {D E : Distances} → ((a b : ℕ) → a < n → b < n → D a b ≡ E a b) → {t : ℕ → ℤ} → Keeps n D t → Keeps n E t
same_set {n} {D} {E} f {t} h = record { origin = h.origin; kept = λ {i} {j} p q. omega (ticks, f i j p q, h.kept p q) }

-- the greatest distance over all timetables is the entry: it is a bound Keeps.kept, and it is attained
pub greatest : {n a b : ℕ} {D : Distances} → Closed n D → 0 < n → a < n → b < n → (t : ℕ → ℤ) × Keeps n D t × (t b ≡ t a +ℤ D a b)
greatest {a = a} {b} {D} c z la lb = attained c z la lb (D a b) (omega (ticks, c.tri la lb la, c.diag la)) (omega ticks)

-- ---- the start
pub start_low : (H i j : ℕ) → pos 0 ≤ℤ horizon_only H i j
unfolding horizon_only
start_low H i j = go (eqb j 0) (eqb i j)
  where
    go : (x y : Bool) → pos 0 ≤ℤ cond x (pos 0) (cond y (pos 0) (pos H))
    go true y = omega ticks
    go false true = omega ticks
    go false false = omega ticks

pub start_high : (H i j : ℕ) → horizon_only H i j ≤ℤ pos H
unfolding horizon_only
start_high H i j = go (eqb j 0) (eqb i j)
  where
    go : (x y : Bool) → cond x (pos 0) (cond y (pos 0) (pos H)) ≤ℤ pos H
    go true y = omega ticks
    go false true = omega ticks
    go false false = omega ticks

pub start_origin : (H i : ℕ) → horizon_only H i 0 ≡ pos 0
unfolding horizon_only
start_origin H i = refl

pub start_self : (H i : ℕ) → horizon_only H i i ≡ pos 0
unfolding horizon_only
start_self H i = rw (eq-eqb i i refl) (go (eqb i 0))
  where
    go : (x : Bool) → cond x (pos 0) (pos 0) ≡ pos 0
    go true = refl
    go false = refl

pub start_else : (H i j : ℕ) → (j ≡ 0 → ⊥) → (i ≡ j → ⊥) → horizon_only H i j ≡ pos H
unfolding horizon_only
start_else H i j f g = rw (ne_eqb j 0 f, ne_eqb i j g)

pub start_closed : (n H : ℕ) → Closed n (horizon_only H)
start_closed n H = record { diag = λ {i} p. start_self H i; tri = λ {i} {j} {k} p q r. go i j k (ℕ_discrete j k) (ℕ_discrete k 0) }
  where
    go : (i j k : ℕ) → Dec (j ≡ k) → Dec (k ≡ 0) → horizon_only H i k ≤ℤ (horizon_only H i j +ℤ horizon_only H j k)
    go i j k (yes e) d = rw e (omega (ticks, start_low H k k))
    go i j k (no f) (yes e) = rw e (omega (ticks, start_origin H i, start_low H i j, start_low H j 0))
    go i j k (no f) (no g) = omega (ticks, start_else H j k g f, start_high H i k, start_low H i j)

pub start_below : (n H : ℕ) → Below n H (horizon_only H)
start_below n H = record { hi = λ {i} {j} p q. start_high H i j }

-- it stands for the timetables within the horizon
pub record Horizon (n H : ℕ) (t : ℕ → ℤ) : Type 0 where
  pub origin : t 0 ≡ pos 0
  pub low : {e : ℕ} → e < n → pos 0 ≤ℤ t e
  pub high : {e : ℕ} → e < n → t e ≤ℤ pos H

pub start_means : {n H : ℕ} {t : ℕ → ℤ} → 0 < n → Keeps n (horizon_only H) t → Horizon n H t
start_means {n} {H} {t} z h = record {
  origin = h.origin;
  low = λ {e} p. omega (ticks, h.kept p z, h.origin, start_origin H e);
  high = λ {e} p. omega (ticks, h.kept z p, h.origin, start_high H 0 e);
}

pub means_start : {n H : ℕ} {t : ℕ → ℤ} → Horizon n H t → Keeps n (horizon_only H) t
means_start {n} {H} {t} h = record { origin = h.origin; kept = λ {i} {j} p q. go i j p q (ℕ_discrete j 0) (ℕ_discrete i j) }
  where
    go : (i j : ℕ) → i < n → j < n → Dec (j ≡ 0) → Dec (i ≡ j) → t j ≤ℤ (t i +ℤ horizon_only H i j)
    go i j p q (yes e) d = rw e (omega (ticks, start_origin H i, h.low p, h.origin))
    go i j p q (no f) (yes e) = rw e (omega (ticks, start_self H j))
    go i j p q (no f) (no g) = omega (ticks, start_else H i j f g, h.low p, h.high q)
