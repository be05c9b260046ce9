-- How a plan stands in memory: a struct, and the levels of all its wishes in one lent area.
use Rattle.std.specs.Prelude.{◌≡◌, cond, List, [], ◌∷◌, ◌++◌, map, take, ℕ, ◌+◌, ◌≤◌, ◌<◌, eqb, length, get_or, pos}
use Rattle.std.proofs.Math.Seq.{slice}
use Rattle.meaning.specs.Plan as M
use Rattle.meaning.specs.Plan.{most_records, most_levels_together}
use Rattle.meaning.specs.Reading.{levels_together}
use Rattle.meaning.specs.Faultless.{WithoutFault}
use Rattle.plan.specs.declared.Record.{Record}
use Rattle.plan.specs.declared.Plan.{Plan}

-- ---- records

-- the levels of a record: a rule has none
abbrev pub levels_in : M.Record → List ℕ
levels_in (M.rule a b lo hi) = []
levels_in (M.wish a b lo ls) = ls

-- a record whose levels stand from place `at` on
abbrev pub row_of : ℕ → M.Record → Record
row_of at r = record { a = M.start r; b = M.end r; first = at; count = length (levels_in r); lo = M.low r; hi = M.high r }

-- the records one after the other, their levels from place `at` on
abbrev pub rows_of : ℕ → List M.Record → List Record
rows_of at [] = []
rows_of at (r ∷ rs) = row_of at r ∷ rows_of (at + length (levels_in r)) rs

-- the levels of a row, in the area of all levels
abbrev pub levels_at : Record → List ℕ → List ℕ
levels_at x area = slice x.first (x.first + x.count) area

-- the levels of all wishes, one wish after the other
abbrev pub flat : List M.Record → List ℕ
flat [] = []
flat (r ∷ rs) = levels_in r ++ flat rs

-- a record made again from its row and the area of all levels
abbrev pub record_of : List ℕ → Record → M.Record
record_of area x = cond (eqb x.count 0) (M.rule x.a x.b x.lo x.hi) (M.wish x.a x.b x.lo (levels_at x area))

-- what stands past the last record
abbrev pub blank : Record
blank = record { a = 0; b = 0; first = 0; count = 0; lo = pos 0; hi = pos 0 }

-- ---- the plan

-- the struct is the image of p
pub record Holds (p : M.Plan) (h : Plan) : Type 0 where
  pub events : h.events ≡ p.events
  pub horizon : h.horizon ≡ p.horizon
  pub count : h.count ≡ length p.records
  pub used : h.used ≡ levels_together p.records
  pub size : length h.records ≡ most_records
  pub rows : (k : ℕ) → get_or h.records k blank ≡ get_or (rows_of 0 p.records) k blank

-- the plan made again from the struct and the area of all levels
abbrev pub recalled : Plan → List ℕ → M.Plan
recalled h area = record { events = h.events; horizon = h.horizon; records = map (record_of area) (take h.count h.records) }

-- the area has the levels of p, then zeros; past the place of the last possible level it is as before
pub record LevelsHeld (p : M.Plan) (before after : List ℕ) : Type 0 where
  pub long : length after ≡ length before
  pub done : (i : ℕ) → i < most_levels_together → get_or after i 0 ≡ get_or (flat p.records) i 0
  pub rest : (i : ℕ) → most_levels_together ≤ i → get_or after i 0 ≡ get_or before i 0

-- a plan without fault in memory: the struct, and the levels of its wishes in their area
pub record InMemory (p : M.Plan) (h : Plan) (area : List ℕ) : Type 0 where
  pub holds : Holds p h
  pub faultless : WithoutFault p
  pub room : most_levels_together ≤ length area
  pub levels : (i : ℕ) → i < most_levels_together → get_or area i 0 ≡ get_or (flat p.records) i 0
