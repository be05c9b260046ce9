-- Tests in a row: what is known where there is no fault, where the first test fails, and how the tests of a wish are those of a rule and three more.
use mathlib.Core.Path.{◌≡◌, refl, sym, ◌∙◌}
use mathlib.Core.Bool.{Bool, true, false, not, ◌&&◌}
use mathlib.Core.List.{List, [], ◌∷◌}
use Prim.Native.Nat.{ℕ, zero, suc, ◌+◌, ◌≤◌, ◌<◌}
use native.Mathlib.Omega.{arith}
use borrow.Author.Tests.{ltb-true, leb-true}
use lib.Dec.{leb, ltb}
use lib.IntN.{ℤ, pos}
use lib.Signed.{le_z}
use Rattle.scope.specs.declared.Fault.{Fault}
use Rattle.scope.specs.Faults.{number}
use Rattle.meaning.specs.Plan.{most_events, most_horizon, most_records, most_levels, most_levels_together}
use Rattle.meaning.specs.Peak.{peaked}
use Rattle.meaning.specs.Numbers.{out_of_range_number, same_event_number, not_peaked_number, nothing_allowed_number}
use Rattle.meaning.specs.Reading.{between, is_event, is_end, in_range, same_event}
use Rattle.meaning.proofs.Tests.{both, event_below, in_range_lem}
use Rattle.faults.specs.declared.SoFar.{SoFar}
use Rattle.faults.specs.declared.Span.{Span}
use Rattle.faults.specs.Faults.{no_fault, unless_met, first_fault, head_fault, are_levels, allows_any, has_room, shape_fault, record_fault, Fitting}
use Rattle.faults.proofs.Tests.{all_three, event_sign}
use Rattle.scope.proofs.Numbers.{not_zero}

pub only : (k : ℕ) → first_fault (k ∷ []) ≡ k
only zero = refl
only (suc k) = refl

pub stops : (k : ℕ) (ks : List ℕ) → (k ≡ no_fault → ⊥) → k ≡ first_fault (k ∷ ks)
stops zero ks n = absurd (n refl)
stops (suc k) ks n = refl

-- a fault that was found stops the tests
pub stops_fault : (f : Fault) (ks : List ℕ) → first_fault (number f ∷ ks) ≡ number f
stops_fault f ks = rw (not_zero f).1

-- ---- no fault

-- the first test is met, and so are the others
pub met : (b : Bool) (k : ℕ) (ks : List ℕ) → 0 < k → first_fault (unless_met b k ∷ ks) ≡ no_fault → (b ≡ true) × (first_fault ks ≡ no_fault)
met true k ks h e = (refl, e)
met false zero ks h e = absurd (omega arith)
met false (suc k) ks h e = absurd (omega arith)

pub head_ranges : (n h : ℤ) → head_fault n h ≡ no_fault
    → (between (pos 1) (pos most_events) n ≡ true) × (between (pos 0) (pos most_horizon) h ≡ true)
unfolding head_fault
head_ranges n h e =
    let horizon = between (pos 0) (pos most_horizon) h in
    let t = met (between (pos 1) (pos most_events) n) out_of_range_number (unless_met horizon out_of_range_number ∷ []) (omega arith) e in
    (t.0, (met horizon out_of_range_number [] (omega arith) t.1).0)

pub ranged : (n : ℕ) (r : Span) (ls : List ℕ) → record_fault n r ls ≡ no_fault → in_range n r.a r.b r.lo r.hi ≡ true
unfolding record_fault
ranged n r ls e = go (in_range n r.a r.b r.lo r.hi) refl
  where
    go : (b : Bool) → in_range n r.a r.b r.lo r.hi ≡ b → in_range n r.a r.b r.lo r.hi ≡ true
    go true q = q
    go false q = let z : out_of_range_number ≡ no_fault = rw q at e in absurd (omega arith)

pub low_end : (n : ℕ) (r : Span) → in_range n r.a r.b r.lo r.hi ≡ true → is_end r.lo ≡ true
low_end n r e =
    let t = both (is_event n r.a) (is_event n r.b && (is_end r.lo && is_end r.hi)) e in
    let u = both (is_event n r.b) (is_end r.lo && is_end r.hi) t.1 in
    (both (is_end r.lo) (is_end r.hi) u.1).0

-- a record without fault has events of the plan, which fit their bytes
pub fitting : (n : ℕ) (r : Span) (ls : List ℕ) → n ≤ most_events → record_fault n r ls ≡ no_fault → Fitting r
fitting n r ls h e =
    let f = in_range_lem n r.a r.b r.lo r.hi (ranged n r ls e) in
    record {
      a_sign = event_sign n r.a f.first;
      a_below = omega (arith, event_below n r.a f.first);
      b_sign = event_sign n r.b f.second;
      b_below = omega (arith, event_below n r.b f.second);
    }

-- what room for a record with m levels says
pub record Limits (s : SoFar) (m : ℕ) : Type 0 where
  pub few : s.records < most_records
  pub one : m ≤ most_levels
  pub together : s.levels + m ≤ most_levels_together

pub limits : (s : SoFar) (m : ℕ) → has_room s m ≡ true → Limits s m
limits s m e =
    let t = all_three (ltb s.records most_records) (leb m most_levels) (leb (s.levels + m) most_levels_together) e in
    record {
      few = ltb-true s.records most_records t.0;
      one = leb-true m most_levels t.1;
      together = leb-true (s.levels + m) most_levels_together t.2;
    }

-- ---- a wish is a rule with levels

pub flat : peaked [] ≡ true
unfolding peaked
flat = refl

-- the tests of a record, each by its answer
abbrev pub six : Bool → Bool → Bool → Bool → Bool → Bool → ℕ
six x y l s u w =
    first_fault (
    unless_met x out_of_range_number
    ∷ unless_met y out_of_range_number
    ∷ unless_met l out_of_range_number
    ∷ unless_met s same_event_number
    ∷ unless_met u not_peaked_number
    ∷ unless_met w nothing_allowed_number
    ∷ [])

levels_first : (x y l s u w : Bool)
    → six x y l s u w
    ≡ first_fault (
    unless_met l out_of_range_number
    ∷ six x y true s true true
    ∷ first_fault (unless_met u not_peaked_number ∷ unless_met w nothing_allowed_number ∷ [])
    ∷ [])
levels_first false y false s u w = refl
levels_first true false false s u w = refl
levels_first true true false s u w = refl
levels_first false y true s u w = refl
levels_first true false true s u w = refl
levels_first true true true false u w = refl
levels_first true true true true false w = refl
levels_first true true true true true false = refl
levels_first true true true true true true = refl

pub by_levels : (n : ℕ) (r : Span) (ls : List ℕ)
    → record_fault n r ls ≡ first_fault (unless_met (are_levels ls) out_of_range_number ∷ record_fault n r [] ∷ shape_fault ls ∷ [])
unfolding record_fault
by_levels n r ls =
    rw flat
    (levels_first (in_range n r.a r.b r.lo r.hi) (le_z r.lo r.hi) (are_levels ls) (not (same_event r.a r.b)) (peaked ls) (allows_any ls))

pub levelled : (n : ℕ) (r : Span) (ls : List ℕ) → record_fault n r ls ≡ no_fault → are_levels ls ≡ true
levelled n r ls e = (met (are_levels ls) out_of_range_number (record_fault n r [] ∷ shape_fault ls ∷ []) (omega arith) (sym (by_levels n r ls) ∙ e)).0
