-- What the answers mean for timetables: each law carries a fact of closed distances over to the matrix in a list.
use Prim.Native.Nat.{ℕ, ◌≤◌, ◌<◌}
use mathlib.Core.Path.{◌≡◌, refl, sym, ◌∙◌}
use mathlib.Core.Logic.{◌↔◌}
use mathlib.Core.Bool.{Bool, true, false, ◌&&◌, true≢false, false≢true}
use mathlib.Core.List.{List}
use lib.IntN.{ℤ, pos, neg_ℤ, ◌+ℤ◌, ◌-ℤ◌}
use lib.Signed.{le_z, ◌≤ℤ◌}
use Rattle.ticks.proofs.Ticks.{ticks, neg, sum}
use Rattle.meaning.specs.Plan.{Within, most_end, most_horizon}
use Rattle.meaning.specs.Distances.{added, Closed, Keeps, Adds, Below}
use Rattle.meaning.proofs.Distances.{adds_closed, adds_below, adds_keeps, adds_old, adds_new}
use Rattle.meaning.proofs.Distances.{start_closed, start_below, start_means, means_start, same_set, Horizon}
use Rattle.distances.specs.Matrix.{stride, at, meeting, Net, Changed, Started, Adding, Narrowing, Cut, Narrowed}

-- ---- a matrix is as its entries are
same_closed : {n : ℕ} {D E : ℕ → ℕ → ℤ} → Closed n D → ((i j : ℕ) → i < n → j < n → E i j ≡ D i j) → Closed n E
same_closed c f = record {
  diag = λ {i} p. f i i p p ∙ c.diag p;
  tri = λ {i} {j} {k} p q r. omega (ticks, c.tri p q r, f i k p r, f i j p q, f j k q r);
}

same_below : {n H : ℕ} {D E : ℕ → ℕ → ℤ} → Below n H D → ((i j : ℕ) → i < n → j < n → E i j ≡ D i j) → Below n H E
same_below r f = record { hi = λ {i} {j} p q. omega (ticks, f i j p q, r.hi p q) }

-- ---- the horizon alone
pub started_net : {n H : ℕ} {d : List ℤ} → Started n H d → 0 < n → n ≤ stride → H ≤ most_horizon → Net n H d
started_net {n} {H} s some few near = record {
  size = s.size;
  some = some;
  events = few;
  near = near;
  closed = same_closed (start_closed n H) s.start;
  below = same_below (start_below n H) s.start;
}

pub started_means : {n H : ℕ} {d : List ℤ} {t : ℕ → ℤ} → Started n H d → 0 < n → Keeps n (at d) t ↔ Horizon n H t
started_means s some =
    ((λ k. start_means some (same_set s.start k)), (λ k. same_set (λ i j p q. sym (s.start i j p q)) (means_start k)))

-- ---- one more bound
changed_adds : {n : ℕ} {d d' : List ℤ} (a b : ℕ) (w : ℤ) → Changed n n d d' (added (at d) a b w) → Adds n a b w (at d) (at d')
changed_adds a b w r = record { at = λ {i} {j} p q. r.done i j p q }

-- closed distances with no entry above H, written over such a matrix, give such a matrix
pub written_net : {n H : ℕ} {d d' : List ℤ} {D : ℕ → ℕ → ℤ} → Net n H d → Changed n n d d' D → Closed n D → Below n H D → Net n H d'
written_net net r c l = record {
  size = r.long ∙ net.size;
  some = net.some;
  events = net.events;
  near = net.near;
  closed = same_closed c r.done;
  below = same_below l r.done;
}

pub changed_net : {n H : ℕ} {d d' : List ℤ} (a b : ℕ) (w : ℤ) → Net n H d → a < n → b < n → pos 0 ≤ℤ (at d b a +ℤ w) →
    Changed n n d d' (added (at d) a b w) → Net n H d'
changed_net {n} {d = d} a b w net la lb ok r =
    let e : Adds n a b w (at d) (added (at d) a b w) = record { at = λ p q. refl } in
    written_net net r (adds_closed net.closed la lb e ok) (adds_below net.closed la lb e net.below)

-- ---- a question
-- the run meets what is left
pub record Met (D : ℕ → ℕ → ℤ) (a b : ℕ) (lo hi : ℤ) : Type 0 where
  pub some : lo ≤ℤ hi
  pub left : lo ≤ℤ D a b
  pub right : pos 0 ≤ℤ (D b a +ℤ hi)

pub met : (D : ℕ → ℕ → ℤ) (a b : ℕ) (lo hi : ℤ) → meeting D a b lo hi ≡ true → Met D a b lo hi
met D a b lo hi = go (le_z lo hi) (le_z lo (D a b)) (le_z (neg_ℤ (D b a)) hi) refl refl refl
  where
    go : (x y z : Bool) → le_z lo hi ≡ x → le_z lo (D a b) ≡ y → le_z (neg_ℤ (D b a)) hi ≡ z → (x && (y && z)) ≡ true → Met D a b lo hi
    go true true true e f g m = record { some = omega ticks; left = omega ticks; right = omega (ticks, neg (D b a)) }
    go true true false e f g m = absurd (false≢true m)
    go true false z e f g m = absurd (false≢true m)
    go false y z e f g m = absurd (false≢true m)

missed : (D : ℕ → ℕ → ℤ) (a b : ℕ) (lo hi x : ℤ) → meeting D a b lo hi ≡ false → x ≤ℤ D a b → neg_ℤ (D b a) ≤ℤ x → Within lo x hi → ⊥
missed D a b lo hi x = go (le_z lo hi) (le_z lo (D a b)) (le_z (neg_ℤ (D b a)) hi) refl refl refl
  where
    go : (u v z : Bool) → le_z lo hi ≡ u → le_z lo (D a b) ≡ v → le_z (neg_ℤ (D b a)) hi ≡ z → (u && (v && z)) ≡ false
        → x ≤ℤ D a b → neg_ℤ (D b a) ≤ℤ x → Within lo x hi → ⊥
    go true true true e f g m p q k = absurd (true≢false m)
    go true true false e f g m p q k = omega (ticks, neg (D b a), k.below)
    go true false z e f g m p q k = omega (ticks, k.above)
    go false v z e f g m p q k = omega (ticks, k.above, k.below)

-- both ends are added: the second bound leaves a timetable where the run is not empty
module _ {n a b : ℕ} {lo hi : ℤ} {d : List ℤ} (asked : Narrowing n a b lo hi d) (m : Met (at d) a b lo hi) where
  pub middle_net : {d₁ : List ℤ} {H : ℕ} → Changed n n d d₁ (added (at d) a b hi) → Net n H d → Net n H d₁
  middle_net r net = changed_net a b hi net asked.from asked.to m.right r

  pub low_range : Within (neg_ℤ (pos most_end)) lo (pos most_end)
  low_range = record { above = asked.low; below = omega (ticks, m.some, asked.high) }

  pub lower_asked : {d₁ : List ℤ} → Changed n n d d₁ (added (at d) a b hi) → Adding n b a (neg_ℤ lo) d₁
  lower_asked r =
      let k = low_range in
      record {
        horizon = asked.horizon;
        net = middle_net r asked.net;
        from = asked.to;
        to = asked.from;
        weight = record { above = omega (ticks, neg lo); below = omega ticks };
      }

  lower_end : {d₁ : List ℤ} → Changed n n d d₁ (added (at d) a b hi) → pos 0 ≤ℤ (at d₁ a b +ℤ neg_ℤ lo)
  lower_end {d₁} r =
      let c = asked.net.closed in
      omega (ticks, r.done a b asked.from asked.to, c.diag asked.from, c.diag asked.to, m.some, m.left, neg lo, sum (at d₁ a b) (neg_ℤ lo))

  pub cut_net : {d' : List ℤ} {H : ℕ} → Cut n a b lo hi d d' → Net n H d → Net n H d'
  cut_net c net = changed_net b a (neg_ℤ lo) (middle_net c.upper net) asked.to asked.from (lower_end c.upper) c.lower

module _ {n a b : ℕ} {lo hi : ℤ} {d d' : List ℤ} {r : Bool} (asked : Narrowing n a b lo hi d) (h : Narrowed n a b lo hi d d' r) where
  pub narrowed_means : r ≡ true → (t : ℕ → ℤ) → Keeps n (at d') t ↔ (Keeps n (at d) t × Within lo (t b -ℤ t a) hi)
  narrowed_means e t =
      let la = asked.from in
      let lb = asked.to in
      let cut = h.taken e in
      let c = asked.net.closed in
      let c₁ = (middle_net asked (met (at d) a b lo hi (sym h.answer ∙ e)) cut.upper asked.net).closed in
      let s = changed_adds a b hi cut.upper in
      let s₁ = changed_adds b a (neg_ℤ lo) cut.lower in (
        (λ k.
            let k₁ = adds_old c₁ lb la s₁ k in
            let high = adds_new c la lb s k₁ in
            let low = adds_new c₁ lb la s₁ k in
            (adds_old c la lb s k₁, record { above = omega ticks; below = omega ticks })),
        (λ k. adds_keeps c₁ lb la s₁ (adds_keeps c la lb s k.0 (omega (ticks, k.1.below))) (omega (ticks, k.1.above))),
      )

  pub narrowed_none : r ≡ false → (t : ℕ → ℤ) → Keeps n (at d) t → Within lo (t b -ℤ t a) hi → ⊥
  narrowed_none e t k =
      missed (at d) a b lo hi (t b -ℤ t a) (sym h.answer ∙ e) (omega (ticks, k.kept asked.from asked.to))
      (omega (ticks, k.kept asked.to asked.from, neg (at d b a), sum (t b) (neg_ℤ (t a)), neg (t a)))
