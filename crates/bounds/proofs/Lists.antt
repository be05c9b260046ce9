-- The list of bounds grows by two at a time: those of an event, or those of a record, stand behind what is there.
use mathlib.Core.Path.{◌≡◌, refl, ap, ◌∙◌}
use mathlib.Core.List.{List, [], ◌∷◌, ◌++◌, append_assoc, map-append}
use Prim.Native.Nat.{ℕ, zero, suc, ◌+◌, ◌*◌, ◌-◌, ◌≤◌, ◌<◌}
use native.Mathlib.Nat.{le_of_suc-le-suc, not-suc-le-zero}
use native.Mathlib.Numerals.{add-one}
use native.Mathlib.Omega.{arith}
use lib.ListN.{length, get_or, take, replicate, length-set, length-append, length-replicate}
use lib.Seq.{take-suc-set, get_or-set_other, get_or-take, length-take-le}
use lib.IntN.{neg_ℤ}
use mir.Syntax.{w32}
use mir.Val.{SFits}
use Rattle.ticks.proofs.Ticks.{ticks}
use Rattle.meaning.specs.Plan as M
use Rattle.meaning.specs.Plan.{record_at}
use Rattle.meaning.specs.Bounds.{Bound, shortest, longest, upper, lower, horizon_upper, horizon_lower, record_bounds, horizon_bounds}
use Rattle.meaning.proofs.Bounds.{good_ends}
use Rattle.plan.specs.declared.Plan.{Plan}
use Rattle.plan.specs.declared.Record.{Record as Row}
use Rattle.plan.specs.Held.{blank, InMemory}
use Rattle.plan.proofs.Use.{row_at, held_row}
use Rattle.cut.specs.Cut.{ends_of}
use Rattle.cut.proofs.Cuts.{ends_are}
use Rattle.chain.specs.declared.Bound.{Bound as Entry}
use Rattle.chain.specs.Clash.{bound_of}
use Rattle.bounds.specs.declared.Bounds.{Bounds}
use Rattle.bounds.specs.Listed.{in_order, Listed}
use Rattle.bounds.specs.Entries.{most_bounds, none, upper_entry, lower_entry, Front, Pushed}

-- ---- no bound, one more, and two

-- a list of blank entries is blank everywhere
blanks : (n k : ℕ) → get_or (replicate n none) k none ≡ none
blanks zero k = refl
blanks (suc n) zero = refl
blanks (suc n) (suc k) = blanks n k

pub front_none : (b : Bounds) → b.all ≡ replicate most_bounds none → b.count ≡ 0 → Front b []
front_none b e f = record {
  long = ap length e ∙ length-replicate most_bounds none;
  room = omega arith;
  count = f;
  bounds = rw f refl;
  rest = λ k l. rw e (blanks most_bounds k);
}

pub front_push : {b b' : Bounds} {bs : List Bound} (x : Entry) {β : Bound} → Front b bs → Pushed b x b' → b.count < most_bounds → bound_of x ≡ β →
    Front b' (bs ++ (β ∷ []))
front_push {b} {b'} {bs} x {β} f p h q = record {
  long = ap length p.all ∙ length-set b.all b.count x ∙ f.long;
  room = omega (arith, p.count);
  count = simp length-append (omega (arith, p.count, f.count));
  bounds = rw (p.count, p.all, add-one, take-suc-set b.all b.count x (omega (arith, f.long)), map-append, f.bounds, q) refl;
  rest = λ k l.
      rw p.all
      (get_or-set_other b.all b.count k x none (λ e. omega (arith, p.count)) ∙ f.rest k (omega (arith, p.count)));
}

pub front_two : {b c d : Bounds} {bs : List Bound} (x y : Entry) {β γ : Bound} → Front b bs → Pushed b x c → Pushed c y d → b.count + 2 ≤ most_bounds →
    bound_of x ≡ β → bound_of y ≡ γ → Front d (bs ++ (β ∷ γ ∷ []))
front_two {bs = bs} x y {β} {γ} f p q h u v =
    rw (← append_assoc bs (β ∷ []) (γ ∷ [])) (front_push y (front_push x f p (omega arith) u) q (omega (arith, p.count)) v)

-- ---- the bounds of one event more, and of one record more

horizon_more : (H e m f : ℕ) → f ≡ e + m → horizon_bounds H e (suc m) ≡ horizon_bounds H e m ++ (horizon_upper H f ∷ horizon_lower f ∷ [])
horizon_more H e zero f q = let r : f ≡ e = omega arith in rw r
horizon_more H e (suc m) f q = ap {B = List Bound} (λ l. horizon_upper H e ∷ horizon_lower e ∷ l) (horizon_more H (suc e) m f (omega arith))

records_more : (k : ℕ) (rs : List M.Record) (i j : ℕ) → j ≡ k + i → i < length rs →
    record_bounds k (take (suc i) rs) ≡ record_bounds k (take i rs) ++ (upper j (get_or rs i M.nothing) ∷ lower j (get_or rs i M.nothing) ∷ [])
records_more k [] i j e h = absurd (not-suc-le-zero h)
records_more k (r ∷ rs) zero j e h = let q : j ≡ k = omega arith in rw q
records_more k (r ∷ rs) (suc i) j e h = ap {B = List Bound} (λ l. upper k r ∷ lower k r ∷ l) (records_more (suc k) rs i j (omega arith) (le_of_suc-le-suc h))

-- ---- a record as it stands in memory

module _ {p : M.Plan} {h : Plan} {held : List ℕ} (o : InMemory p h held) (k : ℕ) where
  -- it is one of the rows in use
  count_fits : h.count ≤ length h.records
  count_fits = omega (arith, o.holds.count, o.holds.size, o.faultless.few)

  pub record_used : k < length (take h.count h.records) → k < length p.records
  record_used l = omega (arith, length-take-le h.count h.records count_fits, o.holds.count)

  pub row_used : k < length (take h.count h.records) → get_or (take h.count h.records) k blank ≡ row_at h k
  row_used l = get_or-take h.count h.records k blank (omega (arith, length-take-le h.count h.records count_fits))

  -- the entries of its row are its bounds
  pub entry_upper : bound_of (upper_entry k (row_at h k) (ends_of (row_at h k) held).hi) ≡ upper k (record_at p k)
  entry_upper = rw (ends_are o k) (ap (λ (x : Row). bound_of (upper_entry k x (longest (record_at p k)))) (held_row o.holds k))

  pub entry_lower : bound_of (lower_entry k (row_at h k) (ends_of (row_at h k) held).lo) ≡ lower k (record_at p k)
  entry_lower = rw (ends_are o k) (ap (λ (x : Row). bound_of (lower_entry k x (shortest (record_at p k)))) (held_row o.holds k))

  -- the negative of its shortest distance fits 32 bits
  pub low_fits : k < length p.records → SFits w32 (neg_ℤ (ends_of (row_at h k) held).lo)
  low_fits l =
      let g = good_ends (record_at p k) (o.faultless.each k l) in
      rw (ends_are o k) (omega (ticks, g.lowest, g.ordered, g.highest))

-- ---- the two loops

pub length_horizon : (H e m : ℕ) → length (horizon_bounds H e m) ≡ 2 * m
length_horizon H e zero = refl
length_horizon H e (suc m) = omega (arith, length_horizon H (suc e) m)

-- the horizon's bounds before event e
abbrev pub HorizonSoFar : Bounds → ℕ → ℕ → Type 0
HorizonSoFar b H e = Front b (horizon_bounds H 1 (e - 1))

pub horizon_next : {b c d : Bounds} {H e : ℕ} (x y : Entry) → HorizonSoFar b H e → Pushed b x c → Pushed c y d → 1 ≤ e → b.count + 2 ≤ most_bounds →
    bound_of x ≡ horizon_upper H e → bound_of y ≡ horizon_lower e → HorizonSoFar d H (e + 1)
horizon_next {H = H} {e} x y f p q low room u v =
    let s : (e + 1) - 1 ≡ suc (e - 1) = omega arith in
    rw (s, horizon_more H 1 (e - 1) e (omega arith)) (front_two x y f p q room u v)

-- the bounds of the first k records behind bs
abbrev pub RecordsSoFar : Bounds → List Bound → List M.Record → ℕ → Type 0
RecordsSoFar b bs rs k = Front b (bs ++ record_bounds 0 (take k rs))

pub records_next : {b c d : Bounds} (bs : List Bound) (rs : List M.Record) {k : ℕ} (x y : Entry) → RecordsSoFar b bs rs k → Pushed b x c → Pushed c y d →
    k < length rs → b.count + 2 ≤ most_bounds → bound_of x ≡ upper k (get_or rs k M.nothing) → bound_of y ≡ lower k (get_or rs k M.nothing) →
    RecordsSoFar d bs rs (k + 1)
records_next bs rs {k} x y f p q l room u v =
    let r = get_or rs k M.nothing in
    rw (add-one k, records_more 0 rs k k (omega arith) l, ← append_assoc bs (record_bounds 0 (take k rs)) (upper k r ∷ lower k r ∷ []))
    (front_two x y f p q room u v)

-- ---- both

length_records : (k : ℕ) (rs : List M.Record) → length (record_bounds k rs) ≡ 2 * length rs
length_records k [] = refl
length_records k (r ∷ rs) = omega (arith, length_records (suc k) rs)

pub both_listed : (p : M.Plan) {b c : Bounds} → b.horizon ≡ b.count → Front b (horizon_bounds p.horizon 1 (p.events - 1)) → c.horizon ≡ b.horizon →
    Front c (in_order p) → Listed p c
both_listed p e f g all =
    let hs = horizon_bounds p.horizon 1 (p.events - 1) in
    let h = length_horizon p.horizon 1 (p.events - 1) in
    record {
      horizon = omega (arith, e, f.count, h, g);
      count = omega (arith, all.count, length-append hs (record_bounds 0 p.records), h, length_records 0 p.records);
      front = all;
    }
