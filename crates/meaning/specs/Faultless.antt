-- A plan without fault: what document 01, sections 1 and 4, and T-04 allow, for each record and for the whole. What is read is one.
use Rattle.std.specs.Prelude.{◌≡◌, List, ℕ, ◌≤◌, ◌<◌, length, get_or, pos, neg_ℤ, ◌≤ℤ◌}
use Rattle.meaning.specs.Plan.{Record, rule, wish, Plan, record_at, start, end, low, high}
use Rattle.meaning.specs.Plan.{most_events, most_horizon, most_end, most_records, most_levels, most_levels_together, top_level, least_level}
use Rattle.meaning.specs.Peak.{SinglePeaked}
use Rattle.meaning.specs.Reading.{levels_together}

pub record GoodLevels (ls : List ℕ) : Type 0 where
  pub some : 1 ≤ length ls
  pub few : length ls ≤ most_levels
  pub mild : (i : ℕ) → get_or ls i 0 ≤ top_level
  pub peaked : SinglePeaked ls
  -- some distance is allowed
  pub place : ℕ
  pub allowed : least_level ≤ get_or ls place 0

abbrev pub Levelled : Record → Type 0
Levelled (rule a b lo hi) = Unit {0}
Levelled (wish a b lo ls) = GoodLevels ls

pub record GoodRecord (n : ℕ) (r : Record) : Type 0 where
  pub starts : start r < n
  pub ends : end r < n
  pub apart : start r ≡ end r → ⊥
  pub lowest : neg_ℤ (pos most_end) ≤ℤ low r
  pub ordered : low r ≤ℤ high r
  pub highest : high r ≤ℤ pos most_end
  pub levelled : Levelled r

pub record WithoutFault (p : Plan) : Type 0 where
  pub some : 1 ≤ p.events
  pub most : p.events ≤ most_events
  pub near : p.horizon ≤ most_horizon
  pub few : length p.records ≤ most_records
  pub together : levels_together p.records ≤ most_levels_together
  pub each : (k : ℕ) → k < length p.records → GoodRecord p.events (record_at p k)
