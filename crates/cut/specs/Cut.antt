-- The cut of a row in memory: the distances of a grade, and those that a record allows.
use Rattle.std.specs.Prelude.{cond, List, ℕ, ◌+◌, ◌≤◌, eqb, length, ℤ, pos, neg_ℤ, ◌+ℤ◌, ◌-ℤ◌}
use Rattle.meaning.specs.Plan as M
use Rattle.meaning.specs.Plan.{Within, most_end, most_levels, least_level}
use Rattle.meaning.specs.Run.{run_first, run_past}
use Rattle.meaning.specs.Bounds.{shortest, longest}
use Rattle.plan.specs.declared.Record.{Record}
use Rattle.plan.specs.Held.{levels_at}
use Rattle.cut.specs.declared.Ends.{Ends}

-- the k-th distance from lo on
pub record Reach (lo : ℤ) (k : ℕ) : Type 0 where
  pub ends : Within (neg_ℤ (pos most_end)) lo (pos most_end)
  pub few : k ≤ most_levels

-- the row begins within the limits, and its levels stand in the area
pub record Cutting (x : Record) (held : List ℕ) : Type 0 where
  pub reach : Reach x.lo x.count
  pub inside : x.first + x.count ≤ length held

-- the distances that a record allows
abbrev pub allowed : M.Record → Ends
allowed m = record { lo = shortest m; hi = longest m }

-- the run of grade y in the row's levels, as distances
abbrev pub run_of : Record → List ℕ → ℕ → Ends
run_of x held y = record { lo = x.lo +ℤ pos (run_first y (levels_at x held)); hi = x.lo +ℤ pos (run_past y (levels_at x held)) -ℤ pos 1 }

-- a row with no levels is a rule
abbrev pub ends_of : Record → List ℕ → Ends
ends_of x held = cond (eqb x.count 0) (record { lo = x.lo; hi = x.hi }) (run_of x held least_level)
