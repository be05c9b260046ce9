-- A plan that is read from a text has no fault: each line that is taken adds one record that passed the tests, and so keeps the plan without fault.
use mathlib.Core.Path.{◌≡◌, refl, subst}
use mathlib.Core.Option.{Option, none, some}
use mathlib.Core.List.{List, [], ◌∷◌, ◌++◌, map}
use mathlib.Core.Bool.{Bool, true, false, not, cond, ◌&&◌}
use Prim.Native.Nat.{ℕ, zero, suc, ◌+◌, ◌-◌, ◌≤◌, ◌<◌, suc-le-suc, zero-le}
use native.Mathlib.Nat.{le_of_suc-le-suc, not-suc-le-zero}
use native.Mathlib.Omega.{arith}
use borrow.Author.Tests.{ltb-true, leb-true, eqb-false}
use lib.Dec.{leb, ltb, eqb}
use lib.ListN.{length, get_or, drop, length-append, length-drop, length-map}
use lib.IntN.{ℤ, pos, nat_abs, ◌+ℤ◌, ◌-ℤ◌, neg_ℤ}
use lib.Signed.{le_z, ◌≤ℤ◌}
use Rattle.ticks.proofs.Ticks.{ticks, sum}
use Rattle.meaning.specs.Plan.{Record, rule, wish, Plan, nothing}
use Rattle.meaning.specs.Plan.{most_records, most_levels, most_levels_together, most_horizon, most_events, most_end, most_bytes}
use Rattle.meaning.specs.Peak.{peaked}
use Rattle.meaning.specs.Reading.{events_word, rule_word, wish_word, tab_byte, line_feed, same, split, numbers, item}
use Rattle.meaning.specs.Reading.{Form, events_line, rule_line, wish_line, wrong, events_form, rule_form, wish_form, form_of, line_form}
use Rattle.meaning.specs.Reading.{between, all_levels, in_range, same_event, all_zero, last_of, levels_together, with_record}
use Rattle.meaning.specs.Reading.{Step, taken, fault, unless, first_line, later_line, line_step, plan, refused, empty, after_step, read_pieces, read}
use Rattle.meaning.specs.Faultless.{GoodRecord, WithoutFault}
use Rattle.meaning.proofs.Peaks.{peaked_sound}
use Rattle.meaning.proofs.Tests.{both, event_below, count_from, count_to, levels_mild, apart, in_range_lem}
use Rattle.meaning.proofs.Zeros.{some_allowed}
use Rattle.meaning.specs.Numbers.{wrong_form_number, too_many_number, out_of_range_number, same_event_number, not_peaked_number, nothing_allowed_number}

-- ---- a form that a line has: a wish has a level

abbrev SomeLevel : Form → Type 0
SomeLevel (wish_line a b lo ls) = 1 ≤ length ls
SomeLevel (events_line n h) = Unit {0}
SomeLevel (rule_line a b lo hi) = Unit {0}
SomeLevel wrong = Unit {0}

form_level : (word : List ℕ) (vs : Option (List ℤ)) → SomeLevel (form_of word vs)
form_level word none = tt
form_level word (some vs) = go (same word events_word) (same word rule_word) (same word wish_word)
  where
    events : (t : Bool) → SomeLevel (cond t (events_line (item vs 0) (item vs 1)) wrong)
    events true = tt
    events false = tt

    rules : (t : Bool) → SomeLevel (cond t (rule_line (item vs 0) (item vs 1) (item vs 2) (item vs 3)) wrong)
    rules true = tt
    rules false = tt

    wishes : (t : Bool) → leb 4 (length vs) ≡ t → SomeLevel (cond t (wish_line (item vs 0) (item vs 1) (item vs 2) (drop 3 vs)) wrong)
    wishes true e = omega (arith, leb-true, length-drop 3 vs)
    wishes false e = tt

    go : (x y z : Bool) → SomeLevel (cond x (events_form vs) (cond y (rule_form vs) (cond z (wish_form vs) wrong)))
    go true y z = events (eqb (length vs) 2)
    go false true z = rules (eqb (length vs) 4)
    go false false true = wishes (leb 4 (length vs)) refl
    go false false false = tt

line_level : (l : List ℕ) → SomeLevel (line_form l)
unfolding line_form
line_level l = go (split tab_byte l)
  where
    go : (fs : List (List ℕ)) → SomeLevel (elim fs [ [] ↦ wrong | w ∷ fs ↦ form_of w (numbers fs) ])
    go [] = tt
    go (w ∷ fs) = form_level w (numbers fs)

-- ---- the end of a wish

-- the last level's distance is a wish's hi
last_high : (lo : ℤ) (ls : List ℤ) → 1 ≤ length ls → last_of lo ls ≡ lo +ℤ pos (length (map nat_abs ls)) -ℤ pos 1
last_high lo ls h =
    let m = pos (length (map nat_abs ls)) in
    omega (ticks, length-map ls nat_abs, sum lo (pos (length ls - 1)), sum lo m, sum (lo +ℤ m) (neg_ℤ (pos 1)))

-- ---- one record more

each_more : (C : Record → Type 0) (rs : List Record) (r : Record) → ((k : ℕ) → k < length rs → C (get_or rs k nothing)) → C r →
    (k : ℕ) → k < length (rs ++ (r ∷ [])) → C (get_or (rs ++ (r ∷ [])) k nothing)
each_more C [] r f g zero h = g
each_more C [] r f g (suc k) h = absurd (not-suc-le-zero (le_of_suc-le-suc h))
each_more C (x ∷ rs) r f g zero h = f 0 (omega arith)
each_more C (x ∷ rs) r f g (suc k) h = each_more C rs r (λ k h. f (suc k) (suc-le-suc h)) g k (le_of_suc-le-suc h)

levels_more : (rs : List Record) (r : Record) → levels_together (rs ++ (r ∷ [])) ≡ levels_together rs + levels_together (r ∷ [])
levels_more [] r = omega arith
levels_more (rule a b lo hi ∷ rs) r = levels_more rs r
levels_more (wish a b lo ls ∷ rs) r = omega (arith, levels_more rs r)

record_more : (p : Plan) (r : Record) → WithoutFault p → length p.records < most_records →
    levels_together p.records + levels_together (r ∷ []) ≤ most_levels_together →
    GoodRecord p.events r → WithoutFault (with_record p r)
record_more p r w few together g = record {
  some = w.some;
  most = w.most;
  near = w.near;
  few = omega (arith, length-append p.records (r ∷ []));
  together = omega (arith, levels_more p.records r);
  each = each_more (GoodRecord p.events) p.records r w.each g;
}

-- ---- a line

-- a test that the line passed
passed : (t : Bool) (k : ℕ) (s : Step) {q : Plan} → unless t k s ≡ taken q → (t ≡ true) × (s ≡ taken q)
passed true k s e = (refl, e)
passed false k s e = let z : ◌≡◌ {A = ℕ} 0 1 = cc in absurd (omega arith)

is_without : {p q : Plan} → taken p ≡ taken q → WithoutFault p → WithoutFault q
is_without {p} {q} e w = let d : p ≡ q = cc in subst WithoutFault d w

refuse : {k : ℕ} {q : Plan} {A : Type 0} → fault k ≡ taken q → A
refuse e = let z : ◌≡◌ {A = ℕ} 0 1 = cc in absurd (omega arith)

first_without : (f : Form) {q : Plan} → first_line f ≡ taken q → WithoutFault q
first_without (rule_line a b lo hi) e = refuse e
first_without (wish_line a b lo ls) e = refuse e
first_without wrong e = refuse e
first_without (events_line n h) e =
    let e4 = passed (between (pos 1) (pos most_events) n && between (pos 0) (pos most_horizon) h) out_of_range_number _ e in
    let t = both (between (pos 1) (pos most_events) n) (between (pos 0) (pos most_horizon) h) e4.0 in
    is_without e4.1 (record {
      some = count_from 1 n (both (le_z (pos 1) n) (le_z n (pos most_events)) t.0).0;
      most = count_to most_events 1 n t.0;
      near = count_to most_horizon 0 h t.1;
      few = zero-le;
      together = zero-le;
      each = λ k l. absurd (not-suc-le-zero l);
    })

rule_without : (p : Plan) (a b lo hi : ℤ) {q : Plan} → WithoutFault p → later_line p (rule_line a b lo hi) ≡ taken q → WithoutFault q
rule_without p a b lo hi w e =
    let e3 = passed (ltb (length p.records) most_records) too_many_number _ e in
    let e4 = passed (in_range p.events a b lo hi && le_z lo hi) out_of_range_number _ e3.1 in
    let e5 = passed (not (same_event a b)) same_event_number _ e4.1 in
    let t = both (in_range p.events a b lo hi) (le_z lo hi) e4.0 in
    let r = in_range_lem p.events a b lo hi t.0 in
    let o = t.1 in
    let few = ltb-true (length p.records) most_records e3.0 in
    is_without e5.1 (record_more p (rule (nat_abs a) (nat_abs b) lo hi) w few (omega (arith, w.together)) (record {
      starts = event_below p.events a r.first;
      ends = event_below p.events b r.second;
      apart = apart p.events a b r.first r.second e5.0;
      lowest = r.lowest;
      ordered = omega ticks;
      highest = r.highest;
      levelled = tt;
    }))

wish_without : (p : Plan) (a b lo : ℤ) (ls : List ℤ) {q : Plan} → 1 ≤ length ls → WithoutFault p → later_line p (wish_line a b lo ls) ≡ taken q → WithoutFault q
wish_without p a b lo ls h w e =
    let many = ltb (length p.records) most_records in
    let n = p.events in
    let e3 = passed (many && leb (length ls) most_levels && leb (levels_together p.records + length ls) most_levels_together) too_many_number _ e in
    let e4 = passed (in_range n a b lo (last_of lo ls) && all_levels ls) out_of_range_number _ e3.1 in
    let e5 = passed (not (same_event a b)) same_event_number _ e4.1 in
    let e6 = passed (peaked (map nat_abs ls)) not_peaked_number _ e5.1 in
    let e8 = passed (not (all_zero (map nat_abs ls))) nothing_allowed_number _ e6.1 in
    let rest = some_allowed (map nat_abs ls) e8.0 in
    let counts = both (many && leb (length ls) most_levels) (leb (levels_together p.records + length ls) most_levels_together) e3.0 in
    let count = both many (leb (length ls) most_levels) counts.0 in
    let t = both (in_range n a b lo (last_of lo ls)) (all_levels ls) e4.0 in
    let r = in_range_lem n a b lo (last_of lo ls) t.0 in
    let long = length-map ls nat_abs in
    let last = last_high lo ls h in
    is_without e8.1 (record_more p (wish (nat_abs a) (nat_abs b) lo (map nat_abs ls)) w (ltb-true (length p.records) most_records count.0)
    (omega (arith, long, leb-true (levels_together p.records + length ls) most_levels_together counts.1)) (record {
      starts = event_below n a r.first;
      ends = event_below n b r.second;
      apart = apart n a b r.first r.second e5.0;
      lowest = r.lowest;
      ordered = subst (λ z. lo ≤ℤ z) last (omega ticks);
      highest = subst (λ z. z ≤ℤ pos most_end) last r.highest;
      levelled = record {
        some = omega (arith, long);
        few = omega (arith, long, leb-true (length ls) most_levels count.1);
        mild = levels_mild ls t.1;
        peaked = peaked_sound (map nat_abs ls) e6.0;
        place = rest.0;
        allowed = rest.1;
      };
    }))

later_without : (p : Plan) (f : Form) {q : Plan} → SomeLevel f → WithoutFault p → later_line p f ≡ taken q → WithoutFault q
later_without p (events_line n h) s w e = refuse e
later_without p (rule_line a b lo hi) s w e = rule_without p a b lo hi w e
later_without p (wish_line a b lo ls) s w e = wish_without p a b lo ls s w e
later_without p wrong s w e = refuse e

-- ---- the lines from the top

-- before line 1 nothing is known of the plan
abbrev Before : ℕ → Plan → Type 0
Before line p = 1 < line → WithoutFault p

step_without : (line : ℕ) (p : Plan) (f : Form) {q : Plan} → 1 ≤ line → SomeLevel f → Before line p → line_step line p f ≡ taken q → WithoutFault q
unfolding line_step
step_without line p f {q} h s w e = go (eqb line 1) refl e
  where
    go : (t : Bool) → eqb line 1 ≡ t → cond t (first_line f) (later_line p f) ≡ taken q → WithoutFault q
    go true d e = first_without f e
    go false d e = later_without p f s (w (omega (arith, eqb-false line 1 d))) e

is_plan : {p q : Plan} → plan p ≡ plan q → WithoutFault p → WithoutFault q
is_plan {p} {q} e w = let d : p ≡ q = cc in subst WithoutFault d w

unread : {k line : ℕ} {q : Plan} {A : Type 0} → refused k line ≡ plan q → A
unread e = let z : ◌≡◌ {A = ℕ} 0 1 = cc in absurd (omega arith)

pieces_without : (ps : List (List ℕ)) (line : ℕ) (p : Plan) {q : Plan} → 1 ≤ line → Before line p → read_pieces ps line p ≡ plan q → WithoutFault q
pieces_without [] line p h w e = unread e
pieces_without (l ∷ []) line p {q} h w e = go (eqb (length l) 0 && ltb 1 line) refl e
  where
    go : (t : Bool) → (eqb (length l) 0 && ltb 1 line) ≡ t → cond t (plan p) (refused wrong_form_number line) ≡ plan q → WithoutFault q
    go true d e = is_plan e (w (ltb-true 1 line (both (eqb (length l) 0) (ltb 1 line) d).1))
    go false d e = unread e
pieces_without (l ∷ m ∷ ms) line p {q} h w e = go (line_step line p (line_form l)) refl (λ r v. pieces_without (m ∷ ms) (line + 1) r (omega arith) (λ g. v)) e
  where
    go : (s : Step) → line_step line p (line_form l) ≡ s → ((r : Plan) → WithoutFault r → read_pieces (m ∷ ms) (line + 1) r ≡ plan q → WithoutFault q) →
        after_step line (λ (r : Plan). read_pieces (m ∷ ms) (line + 1) r) s ≡ plan q → WithoutFault q
    go (taken r) d f e = f r (step_without line p (line_form l) h (line_level l) w d) e
    go (fault k) d f e = unread e

pub read_faultless : (text : List ℕ) {p : Plan} → read text ≡ plan p → WithoutFault p
unfolding read
read_faultless text {p} e = go (ltb most_bytes (length text)) e
  where
    go : (t : Bool) → cond t (refused too_many_number 0) (read_pieces (split line_feed text) 1 empty) ≡ plan p → WithoutFault p
    go true e = unread e
    go false e = pieces_without (split line_feed text) 1 empty (omega arith) (λ h. absurd (omega arith)) e
