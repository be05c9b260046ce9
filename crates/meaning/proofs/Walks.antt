-- Each entry of the solver's matrix is the weight of a simple walk along given bounds: true of the horizon, and kept by each bound that is
-- added, since two walks that the new bound joins to a lighter one have no event in common. Such a walk is tight at every step.
use mathlib.Core.Path.{◌≡◌, refl, ap, sym, subst, ◌∙◌}
use mathlib.Core.Logic.{⊎_elim}
use mathlib.Core.List.Memᴰ
use mathlib.Core.List.{List, [], ◌∷◌, ◌++◌, map-append, Memᴰ}
use Prim.Native.Nat.{ℕ, ◌≤◌, ◌<◌}
use native.Mathlib.Decide.{ℕ_discrete}
use native.Mathlib.Omega.{arith}
use lib.Dec.{T}
use lib.IntN.{ℤ, pos, ◌+ℤ◌, +ℤ_idl, +ℤ_assoc}
use lib.Signed.{◌≤ℤ◌, ◌<ℤ◌}
use Rattle.ticks.proofs.Ticks as K
use Rattle.ticks.proofs.Ticks.{ticks, sum}
use Rattle.meaning.specs.Bounds.{Bound, horizon_upper, horizon_lower, Leads, stop, step, total, distinct, ends}
use Rattle.meaning.specs.Distances.{Closed, horizon_only, Distances, Meets}
use Rattle.meaning.proofs.Distances.{start_high, start_origin, start_self, start_else}
use Rattle.meaning.proofs.Distinct.{Disjoint, distinct_join, distinct_cons}
use Rattle.meaning.proofs.Stands.{AddsBound}

-- ---- bounds that lead from event to event

pub leads_join : {i j k : ℕ} {xs ys : List Bound} → Leads i xs j → Leads j ys k → Leads i (xs ++ ys) k
leads_join stop m = m
leads_join (step l) m = step (leads_join l m)

pub total_join : (xs ys : List Bound) → total (xs ++ ys) ≡ total xs +ℤ total ys
total_join [] ys = sym (+ℤ_idl (total ys))
total_join (b ∷ xs) ys = ap (λ z. b.weight +ℤ z) (total_join xs ys) ∙ sym (+ℤ_assoc b.weight (total xs) (total ys))

-- parted at an event
pub record Parted (i v j : ℕ) (bs : List Bound) : Type 0 where
  pub front : List Bound
  pub back : List Bound
  pub whole : bs ≡ front ++ back
  pub comes : Leads i front v
  pub goes : Leads v back j

-- at the first event, with nothing in front
part_here : {i j : ℕ} {bs : List Bound} → Leads i bs j → (v : ℕ) → v ≡ i → Parted i v j bs
part_here {i} {j} {bs} l v e = record {
  front = [];
  back = bs;
  whole = refl;
  comes = subst (λ (z : ℕ). Leads i [] z) (sym e) stop;
  goes = subst (λ (z : ℕ). Leads z bs j) (sym e) l;
}

-- one bound more in front
part_behind : {v j : ℕ} {bs : List Bound} → (b : Bound) → Parted b.end v j bs → Parted b.start v j (b ∷ bs)
part_behind b p = record {
  front = b ∷ p.front;
  back = p.back;
  whole = ap {B = List Bound} (λ z. b ∷ z) p.whole;
  comes = step p.comes;
  goes = p.goes;
}

-- at each event on the way they can be
pub part : {i j : ℕ} {bs : List Bound} → Leads i bs j → (v : ℕ) → Memᴰ v (i ∷ ends bs) → Parted i v j bs
part stop v m = ⊎_elim (λ e. part_here stop v e) (λ n. absurd (Memᴰ.not-nil n)) (Memᴰ.cases_cons m)
part (step {b = b} l) v m = ⊎_elim (λ e. part_here (step l) v e) (λ n. part_behind b (part l v n)) (Memᴰ.cases_cons m)

-- ---- walks along given bounds

-- a given bound that D knows
pub record Known (n : ℕ) (G : Bound → Type 0) (D : Distances) (b : Bound) : Type 0 where
  pub given : G b
  pub starts : b.start < n
  pub ends : b.end < n
  pub light : D b.start b.end ≤ℤ b.weight

abbrev pub AllKnown : ℕ → (Bound → Type 0) → Distances → List Bound → Type 0
AllKnown n G D bs = (b : Bound) → Memᴰ b bs → Known n G D b

pub record Walk (n : ℕ) (G : Bound → Type 0) (D : Distances) (i j : ℕ) (z : ℤ) : Type 0 where
  pub steps : List Bound
  pub leads : Leads i steps j
  pub sums : total steps ≡ z
  pub known : AllKnown n G D steps
  -- no event twice
  pub simple : T (distinct (i ∷ ends steps))

-- each entry is the weight of a walk
pub record Walks (n : ℕ) (G : Bound → Type 0) (D : Distances) : Type 0 where
  pub walk : {i j : ℕ} → i < n → j < n → Walk n G D i j (D i j)

-- more bounds, no fewer walks
pub walks_wider : {n : ℕ} {G F : Bound → Type 0} {D : Distances} → ((b : Bound) → G b → F b) → Walks n G D → Walks n F D
walks_wider f W = record {
  walk = λ hi hj. let w = W.walk hi hj in record {
    steps = w.steps;
    leads = w.leads;
    sums = w.sums;
    simple = w.simple;
    known = λ b m. let k = w.known b m in record { given = f b k.given; starts = k.starts; ends = k.ends; light = k.light };
  };
}

-- a matrix is as its entries are
pub walks_same : {n : ℕ} {G : Bound → Type 0} {D E : Distances} → ((i j : ℕ) → i < n → j < n → E i j ≡ D i j) → Walks n G D → Walks n G E
walks_same f W = record {
  walk = λ {i} {j} hi hj. let w = W.walk hi hj in record {
    steps = w.steps;
    leads = w.leads;
    sums = w.sums ∙ sym (f i j hi hj);
    simple = w.simple;
    known = λ b m. let k = w.known b m in
        record { given = k.given; starts = k.starts; ends = k.ends; light = rw (f b.start b.end k.starts k.ends) k.light };
  };
}

module _ {n : ℕ} {G : Bound → Type 0} {D : Distances} where
  -- they lead to an event below n
  pub leads_below : {i v : ℕ} {bs : List Bound} → i < n → Leads i bs v → AllKnown n G D bs → v < n
  leads_below h stop k = h
  leads_below h (step {b = b} l) k = leads_below (k b (Memᴰ.head refl)).ends l (λ c m. k c (Memᴰ.tail m))

  -- none are lighter than D says
  pub lighter : Closed n D → {i j : ℕ} {bs : List Bound} → i < n → j < n → Leads i bs j → AllKnown n G D bs → D i j ≤ℤ total bs
  lighter c hi hj stop k = omega (ticks, c.diag hi)
  lighter c {j = j} hi hj (step {b = b} {bs = bs} l) k =
      let f : Known n G D b = k b (Memᴰ.head refl) in
      omega (ticks, f.light, c.tri hi f.ends hj, lighter c f.ends hj l (λ x m. k x (Memᴰ.tail m)))

  -- where they are as light as D says, both parts are
  module _ (c : Closed n D) {i v j : ℕ} {bs : List Bound} (hi : i < n) (hj : j < n) (s : total bs ≡ D i j) (k : AllKnown n G D bs) (p : Parted i v j bs) where
    front_known : AllKnown n G D p.front
    front_known b m = k b (subst (λ l. Memᴰ b l) (sym p.whole) (Memᴰ.append_left p.back m))

    back_known : AllKnown n G D p.back
    back_known b m = k b (subst (λ l. Memᴰ b l) (sym p.whole) (Memᴰ.append_right p.front m))

    pub part_below : v < n
    part_below = leads_below hi p.comes front_known

    parts : D i j ≡ total p.front +ℤ total p.back
    parts = sym s ∙ ap total p.whole ∙ total_join p.front p.back

    pub front_tight : total p.front ≡ D i v
    front_tight = omega (ticks, parts, lighter c hi part_below p.comes front_known, lighter c part_below hj p.goes back_known, c.tri hi part_below hj)

    -- each suffix's total is the entry from its start
    pub back_tight : total p.back ≡ D v j
    back_tight = omega (ticks, parts, lighter c hi part_below p.comes front_known, lighter c part_below hj p.goes back_known, c.tri hi part_below hj)

    pub parts_tight : D i j ≡ D i v +ℤ D v j
    parts_tight = omega (ticks, parts, front_tight, back_tight)

  -- so each step is tight towards the end
  pub step_tight : Closed n D → {i j : ℕ} {bs : List Bound} → i < n → j < n → Leads i bs j → total bs ≡ D i j → AllKnown n G D bs →
      (b : Bound) → Memᴰ b bs → D b.start j ≡ b.weight +ℤ D b.end j
  step_tight c hi hj stop s k x m = elim m [ ]
  step_tight c {j = j} hi hj (step {b = b} {bs = bs} l) s k x m = go (λ q. step_tight c h hj l tight rest x q) m
    where
      h : b.end < n
      h = (k b (Memᴰ.head refl)).ends

      rest : AllKnown n G D bs
      rest y q = k y (Memᴰ.tail q)

      tight : total bs ≡ D b.end j
      tight = omega (ticks, s, sum b.weight (total bs), (k b (Memᴰ.head refl)).light, lighter c h hj l rest, c.tri hi h hj)

      go : (Memᴰ x bs → D x.start j ≡ x.weight +ℤ D x.end j) → Memᴰ x (b ∷ bs) → D x.start j ≡ x.weight +ℤ D x.end j
      go f (Memᴰ.head e) = subst (λ (y : Bound). D y.start j ≡ y.weight +ℤ D y.end j) (sym e) (sym s ∙ ap (λ z. b.weight +ℤ z) tight)
      go f (Memᴰ.tail q) = f q

-- ---- one more bound

module _ {n : ℕ} {G : Bound → Type 0} {D D' : Distances} {β : Bound} (c : Closed n D) (W : Walks n G D) (ha : β.start < n) (hb : β.end < n) (g : G β)
    (e : AddsBound n β D D') (ok : Meets β D) where
  knows_old : (x : Bound) → Known n G D x → Known n G D' x
  knows_old x k = record { given = k.given; starts = k.starts; ends = k.ends; light = omega (ticks, k.light, e.at k.starts k.ends) }

  knows_new : Known n G D' β
  knows_new = record { given = g; starts = ha; ends = hb; light = omega (ticks, e.at ha hb, c.diag ha, c.diag hb) }

  module _ {i j : ℕ} (hi : i < n) (hj : j < n) where
    P : Walk n G D i β.start (D i β.start)
    P = W.walk hi ha

    Q : Walk n G D β.end j (D β.end j)
    Q = W.walk hb hj

    -- the walks that β joins to a lighter one have no event in common
    apart : ((D i β.start +ℤ β.weight) +ℤ D β.end j) <ℤ D i j → Disjoint (i ∷ ends P.steps) (β.end ∷ ends Q.steps)
    apart less v m k =
        let p : Parted i v β.start P.steps = part P.leads v m in
        let q : Parted β.end v j Q.steps = part Q.leads v k in
        let hv : v < n = part_below c hi ha P.sums P.known p in
        omega (ticks, parts_tight c hi ha P.sums P.known p, parts_tight c hb hj Q.sums Q.known q, c.tri hi hv hj, c.tri hb hv ha)

    joined : ((D i β.start +ℤ β.weight) +ℤ D β.end j) <ℤ D i j → Walk n G D' i j (D' i j)
    unfolding P Q
    joined less = record {
      steps = P.steps ++ β ∷ Q.steps;
      leads = leads_join P.leads (step Q.leads);
      sums = omega (ticks, e.at hi hj, total_join P.steps (β ∷ Q.steps), sum β.weight (total Q.steps), P.sums, Q.sums);
      known = λ x m. ⊎_elim (λ q. knows_old x (P.known x q))
          (λ q. ⊎_elim (λ r. subst (Known n G D') (sym r) knows_new) (λ r. knows_old x (Q.known x r)) (Memᴰ.cases_cons q))
          (Memᴰ.append_cases P.steps m);
      simple = rw map-append (distinct_join (i ∷ ends P.steps) (β.end ∷ ends Q.steps) P.simple Q.simple (apart less));
    }

    stays : D i j ≤ℤ ((D i β.start +ℤ β.weight) +ℤ D β.end j) → Walk n G D' i j (D' i j)
    stays more =
        let w : Walk n G D i j (D i j) = W.walk hi hj in
        record { steps = w.steps; leads = w.leads; sums = omega (ticks, w.sums, e.at hi hj); known = λ x m. knows_old x (w.known x m); simple = w.simple }

  -- the walks of the matrix with the bound added
  pub walks_add : Walks n G D'
  walks_add = record { walk = λ {i} {j} hi hj. ⊎_elim (stays hi hj) (joined hi hj) (K.total (D i j) ((D i β.start +ℤ β.weight) +ℤ D β.end j)) }

-- ---- the horizon alone: no step, down to event 0, up from it, or both

module _ (n H : ℕ) (G : Bound → Type 0) (uppers : (e : ℕ) → 1 ≤ e → e < n → G (horizon_upper H e))
    (lowers : (e : ℕ) → 1 ≤ e → e < n → G (horizon_lower e)) where
  knows_upper : {e : ℕ} → (e ≡ 0 → ⊥) → e < n → Known n G (horizon_only H) (horizon_upper H e)
  knows_upper {e} z h = record { given = uppers e (omega arith) h; starts = omega arith; ends = h; light = start_high H 0 e }

  knows_lower : {e : ℕ} → (e ≡ 0 → ⊥) → e < n → Known n G (horizon_only H) (horizon_lower e)
  knows_lower {e} z h = record { given = lowers e (omega arith) h; starts = h; ends = omega arith; light = omega (ticks, start_origin H e) }

  one_known : {b : Bound} → Known n G (horizon_only H) b → AllKnown n G (horizon_only H) (b ∷ [])
  one_known k x m = subst (Known n G (horizon_only H)) (sym (Memᴰ.eq_of_singleton m)) k

  two_known : {b d : Bound} → Known n G (horizon_only H) b → Known n G (horizon_only H) d → AllKnown n G (horizon_only H) (b ∷ d ∷ [])
  two_known k l x (Memᴰ.head e) = subst (Known n G (horizon_only H)) (sym e) k
  two_known k l x (Memᴰ.tail m) = one_known l x m

  stay : (i : ℕ) (z : ℤ) → z ≡ pos 0 → Walk n G (horizon_only H) i i z
  stay i z e = record { steps = []; leads = stop; sums = sym e; known = λ b m. absurd (Memᴰ.not-nil m); simple = tt }

  down : (i : ℕ) → (i ≡ 0 → ⊥) → i < n → Walk n G (horizon_only H) i 0 (horizon_only H i 0)
  down i z h = record {
    steps = horizon_lower i ∷ [];
    leads = step stop;
    sums = omega (ticks, start_origin H i);
    known = one_known (knows_lower z h);
    simple = distinct_cons i (0 ∷ []) (λ m. z (Memᴰ.eq_of_singleton m)) tt;
  }

  up_from_zero : (j : ℕ) → (j ≡ 0 → ⊥) → j < n → Walk n G (horizon_only H) 0 j (horizon_only H 0 j)
  up_from_zero j z h = record {
    steps = horizon_upper H j ∷ [];
    leads = step stop;
    sums = omega (ticks, start_else H 0 j z (λ e. z (sym e)));
    known = one_known (knows_upper z h);
    simple = distinct_cons 0 (j ∷ []) (λ m. z (sym (Memᴰ.eq_of_singleton m))) tt;
  }

  over_zero : (i j : ℕ) → (j ≡ 0 → ⊥) → (i ≡ j → ⊥) → i < n → j < n → Dec (i ≡ 0) → Walk n G (horizon_only H) i j (horizon_only H i j)
  over_zero i j z a hi hj (yes e) = subst (λ (x : ℕ). Walk n G (horizon_only H) x j (horizon_only H x j)) (sym e) (up_from_zero j z hj)
  over_zero i j z a hi hj (no y) = record {
    steps = horizon_lower i ∷ horizon_upper H j ∷ [];
    leads = step (step stop);
    sums = omega (ticks, start_else H i j z a);
    known = two_known (knows_lower y hi) (knows_upper z hj);
    simple = distinct_cons i (0 ∷ j ∷ []) (λ m. ⊎_elim y (λ q. a (Memᴰ.eq_of_singleton q)) (Memᴰ.cases_cons m))
        (distinct_cons 0 (j ∷ []) (λ m. z (sym (Memᴰ.eq_of_singleton m))) tt);
  }

  pub walks_horizon : Walks n G (horizon_only H)
  walks_horizon = record { walk = λ {i} {j} hi hj. go i j hi hj (ℕ_discrete i j) (ℕ_discrete j 0) }
    where
      go : (i j : ℕ) → i < n → j < n → Dec (i ≡ j) → Dec (j ≡ 0) → Walk n G (horizon_only H) i j (horizon_only H i j)
      go i j hi hj (yes e) d = subst (λ (x : ℕ). Walk n G (horizon_only H) i x (horizon_only H i x)) e (stay i (horizon_only H i i) (start_self H i))
      go i j hi hj (no a) (yes e) = subst (λ (x : ℕ). Walk n G (horizon_only H) i x (horizon_only H i x)) (sym e) (down i (λ q. a (q ∙ sym e)) hi)
      go i j hi hj (no a) (no z) = over_zero i j z a hi hj (ℕ_discrete i 0)
