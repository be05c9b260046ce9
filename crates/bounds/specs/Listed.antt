-- The plan's bounds in one list: the horizon's first, then those of the records.
use Rattle.std.specs.Prelude.{◌≡◌, List, ◌++◌, ℕ, ◌+◌, ◌*◌, ◌-◌, length}
use Rattle.meaning.specs.Plan as M
use Rattle.meaning.specs.Bounds.{Bound, horizon_bounds, record_bounds}
use Rattle.bounds.specs.declared.Bounds.{Bounds}
use Rattle.bounds.specs.Entries.{Front}

abbrev pub in_order : M.Plan → List Bound
in_order p = horizon_bounds p.horizon 1 (p.events - 1) ++ record_bounds 0 p.records

-- how many there are
abbrev pub horizon_count : M.Plan → ℕ
horizon_count p = 2 * (p.events - 1)

abbrev pub bound_count : M.Plan → ℕ
bound_count p = horizon_count p + 2 * length p.records

-- all of them are listed, and nothing stands past the last
pub record Listed (p : M.Plan) (b : Bounds) : Type 0 where
  pub horizon : b.horizon ≡ horizon_count p
  pub count : b.count ≡ bound_count p
  pub front : Front b (in_order p)
