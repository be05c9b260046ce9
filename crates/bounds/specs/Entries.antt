-- The list of bounds while it is made: the horizon's at the front, the records' behind it.
use Rattle.std.specs.Prelude.{◌≡◌, List, ℕ, ◌+◌, ◌*◌, ◌-◌, ◌≤◌, length, get_or, take, set, ℤ, pos, neg_ℤ}
use Rattle.meaning.specs.Plan.{most_events, most_records}
use Rattle.meaning.specs.Bounds.{Bound}
use Rattle.plan.specs.declared.Record.{Record}
use Rattle.chain.specs.declared.Bound.{Bound as Entry}
use Rattle.chain.specs.Clash.{bound_of, bounds_of}
use Rattle.bounds.specs.declared.Bounds.{Bounds}

-- two bounds for each event other than 0, and two for each record; in code the constant of this name
abbrev pub most_bounds : ℕ
most_bounds = 2 * (most_events - 1) + 2 * most_records

-- what stands where there is no bound
abbrev pub none : Entry
none = record { start = 0; «end» = 0; code = 0; weight = pos 0 }

-- the bound at place k
abbrev pub bound_at : List Entry → ℕ → Bound
bound_at list k = bound_of (get_or list k none)

-- the entries of record k, whose longest distance is hi and whose shortest is lo
abbrev pub upper_entry : ℕ → Record → ℤ → Entry
upper_entry k r hi = record { start = r.a; «end» = r.b; code = 2 * k; weight = hi }

abbrev pub lower_entry : ℕ → Record → ℤ → Entry
lower_entry k r lo = record { start = r.b; «end» = r.a; code = 2 * k + 1; weight = neg_ℤ lo }

-- the entries in use
abbrev pub held : Bounds → List Entry
held b = take b.count b.all

-- these are the bounds bs, and nothing stands past them
pub record Front (b : Bounds) (bs : List Bound) : Type 0 where
  pub long : length b.all ≡ most_bounds
  pub room : b.count ≤ most_bounds
  pub count : b.count ≡ length bs
  pub bounds : bounds_of (held b) ≡ bs
  pub rest : (k : ℕ) → b.count ≤ k → get_or b.all k none ≡ none

-- one entry more
pub record Pushed (b : Bounds) (x : Entry) (b' : Bounds) : Type 0 where
  pub all : b'.all ≡ set b.all b.count x
  pub count : b'.count ≡ b.count + 1
  pub horizon : b'.horizon ≡ b.horizon
