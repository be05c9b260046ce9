-- The faults of the first line and of a record, by the tests of section 3 and of T-04 in their order.
use Rattle.std.specs.Prelude.{Bool, true, false, ◌&&◌, not, List, [], ◌∷◌, ℕ, zero, suc, ◌+◌, ◌<◌, T, leb, ltb, length, ℤ, pos, nat_abs}
use Rattle.std.specs.Int.Signed.{le_z, non_neg}
use Rattle.meaning.specs.Plan.{most_events, most_horizon, most_records, most_levels, most_levels_together, top_level}
use Rattle.meaning.specs.Peak.{peaked}
use Rattle.meaning.specs.Numbers.{too_many_number, out_of_range_number, same_event_number, not_peaked_number, nothing_allowed_number}
use Rattle.meaning.specs.Reading.{between, in_range, same_event, all_zero}
use Rattle.faults.specs.declared.SoFar.{SoFar}
use Rattle.faults.specs.declared.Span.{Span}

-- ---- tests in a row

abbrev pub no_fault : ℕ
no_fault = 0

-- the fault k, unless the test is met
abbrev pub unless_met : Bool → ℕ → ℕ
unless_met true k = no_fault
unless_met false k = k

abbrev pub first_fault : List ℕ → ℕ
first_fault [] = no_fault
first_fault (zero ∷ ks) = first_fault ks
first_fault (suc k ∷ ks) = suc k

-- levels as they are stored
abbrev pub are_levels : List ℕ → Bool
are_levels [] = true
are_levels (l ∷ ls) = leb l top_level && are_levels ls

-- a wish has a distance that is allowed; a rule has no levels, and is not asked
abbrev pub allows_any : List ℕ → Bool
allows_any [] = true
allows_any (l ∷ ls) = not (all_zero (l ∷ ls))

-- its events are among those that any plan may have
pub record Fitting (r : Span) : Type 0 where
  pub a_sign : T (non_neg r.a)
  pub a_below : nat_abs r.a < most_events
  pub b_sign : T (non_neg r.b)
  pub b_below : nat_abs r.b < most_events

-- ---- the faults

-- n events and the horizon h
unfoldable pub head_fault : ℤ → ℤ → ℕ
head_fault n h =
    first_fault (
    unless_met (between (pos 1) (pos most_events) n) out_of_range_number
    ∷ unless_met (between (pos 0) (pos most_horizon) h) out_of_range_number
    ∷ [])

-- one record more, with m levels, is within the limits of their numbers
abbrev pub has_room : SoFar → ℕ → Bool
has_room s m = ltb s.records most_records && leb m most_levels && leb (s.levels + m) most_levels_together

-- a row of levels, by its shape
abbrev pub shape_fault : List ℕ → ℕ
shape_fault ls = first_fault (unless_met (peaked ls) not_peaked_number ∷ unless_met (allows_any ls) nothing_allowed_number ∷ [])

-- a record in a plan of n events, by its numbers and its levels; a rule has none
unfoldable pub record_fault : ℕ → Span → List ℕ → ℕ
record_fault n r ls =
    first_fault (
    unless_met (in_range n r.a r.b r.lo r.hi) out_of_range_number
    ∷ unless_met (le_z r.lo r.hi) out_of_range_number
    ∷ unless_met (are_levels ls) out_of_range_number
    ∷ unless_met (not (same_event r.a r.b)) same_event_number
    ∷ unless_met (peaked ls) not_peaked_number
    ∷ unless_met (allows_any ls) nothing_allowed_number
    ∷ [])

-- the same as one record more of the plan read so far
abbrev pub entry_fault : SoFar → Span → List ℕ → ℕ
entry_fault s r ls = first_fault (unless_met (has_room s (length ls)) too_many_number ∷ record_fault s.events r ls ∷ [])
