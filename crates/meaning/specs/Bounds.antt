-- Bounds and chains: document 01, section 5, with T-04: the bounds of a wish are the ends of its run at grade 1.
use Rattle.std.specs.Prelude.{◌≡◌, Bool, true, cond, ◌&&◌, not, ℕ, zero, suc, ◌+◌, ◌*◌, ◌-◌, ◌≤◌, T, eqb, length, ℤ, pos, ◌+ℤ◌, ◌-ℤ◌, neg_ℤ, ◌≤ℤ◌, ◌<ℤ◌}
use mathlib.Core.List.{List, [], ◌∷◌, ◌++◌, map, Memᴰ}
use Rattle.meaning.specs.Plan as P
use Rattle.meaning.specs.Plan.{Record, rule, wish, Plan, Times, most_records, least_level}
use Rattle.meaning.specs.Run.{run_first, run_past}

-- t(end) − t(start) ≤ weight
pub record Bound : Type 0 where
  pub start : ℕ
  pub end : ℕ
  pub weight : ℤ
  pub code : ℕ

-- a row of times keeps it
abbrev pub Holds : Times → Bound → Type 0
Holds t b = t b.end ≤ℤ (t b.start +ℤ b.weight)

-- the shortest and the longest distance that a record allows: a rule's lo and hi, and the ends of a wish's run at grade 1
abbrev pub shortest : Record → ℤ
shortest (rule a b lo hi) = lo
shortest (wish a b lo ls) = lo +ℤ pos (run_first least_level ls)

abbrev pub longest : Record → ℤ
longest (rule a b lo hi) = hi
longest (wish a b lo ls) = lo +ℤ pos (run_past least_level ls) -ℤ pos 1

-- of record k: an upper bound from a to b whose weight is the longest and whose code is 2k, a lower one from b to a with the shortest, negated, and 2k + 1
abbrev pub upper : ℕ → Record → Bound
upper k r = record { start = P.start r; end = P.end r; weight = longest r; code = 2 * k }

abbrev pub lower : ℕ → Record → Bound
lower k r = record { start = P.end r; end = P.start r; weight = neg_ℤ (shortest r); code = 2 * k + 1 }

-- the codes of the records are below the horizon's
abbrev pub horizon_codes : ℕ
horizon_codes = 2 * most_records

-- of the horizon, for event e other than 0: from 0 to e with weight H, and from e to 0 with weight 0
abbrev pub horizon_upper : ℕ → ℕ → Bound
horizon_upper H e = record { start = 0; end = e; weight = pos H; code = horizon_codes + 2 * e }

abbrev pub horizon_lower : ℕ → Bound
horizon_lower e = record { start = e; end = 0; weight = pos 0; code = horizon_codes + 2 * e + 1 }

-- of the records from number k on
abbrev pub record_bounds : ℕ → List Record → List Bound
record_bounds k [] = []
record_bounds k (r ∷ rs) = upper k r ∷ lower k r ∷ record_bounds (suc k) rs

-- of the horizon H, for the events from e on, m of them
abbrev pub horizon_bounds : ℕ → ℕ → ℕ → List Bound
horizon_bounds H e zero = []
horizon_bounds H e (suc m) = horizon_upper H e ∷ horizon_lower e ∷ horizon_bounds H (suc e) m

-- one list of entries
abbrev pub bounds : Plan → List Bound
bounds p = record_bounds 0 p.records ++ horizon_bounds p.horizon 1 (p.events - 1)

-- ---- chains

-- the bounds lead from one event to another, each ending where the next begins
pub data Leads : ℕ → List Bound → ℕ → Type 0 where
  stop : {s : ℕ} → Leads s [] s
  step : {z : ℕ} {b : Bound} {bs : List Bound} → Leads b.end bs z → Leads b.start (b ∷ bs) z

abbrev pub total : List Bound → ℤ
total [] = pos 0
total (b ∷ bs) = b.weight +ℤ total bs

-- by how many ticks they fall short: what their weights lack to zero
abbrev pub shortfall : List Bound → ℤ
shortfall bs = neg_ℤ (total bs)

abbrev pub absent : ℕ → List ℕ → Bool
absent x [] = true
absent x (y ∷ ys) = not (eqb x y) && absent x ys

-- none stands twice
abbrev pub distinct : List ℕ → Bool
distinct [] = true
distinct (x ∷ xs) = absent x xs && distinct xs

-- the number of different ones
abbrev pub different : List ℕ → ℕ
different [] = 0
different (x ∷ xs) = let r = different xs in cond (absent x xs) (suc r) r

abbrev pub starts : List Bound → List ℕ
starts bs = map (λ b. b.start) bs

abbrev pub ends : List Bound → List ℕ
ends bs = map (λ b. b.end) bs

-- a list of codes is a chain of the plan
pub record Chain (p : Plan) (codes : List ℕ) : Type 0 where
  pub steps : List Bound
  -- the codes are those of bounds of the plan
  pub coded : map (λ b. b.code) steps ≡ codes
  pub given : (b : Bound) → Memᴰ b steps → Memᴰ b (bounds p)
  -- each bound ends where the next begins, the last ends where the first begins
  pub from : ℕ
  pub closed : Leads from steps from
  -- no event is entered twice, and the weights sum below zero
  pub once : T (distinct (ends steps))
  pub negative : total steps <ℤ pos 0
  -- the number of steps equals the number of different events on it, 2 to n
  pub counted : length steps ≡ different (starts steps ++ ends steps)
  pub two : 2 ≤ length steps
  pub most : length steps ≤ p.events
  -- the first step leaves the least event
  pub least : (b : Bound) → Memᴰ b steps → from ≤ b.start
