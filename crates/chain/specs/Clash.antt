-- A bound that fails against the distances of the bounds before it, and the chain that shows it.
use Rattle.std.specs.Prelude.{◌≡◌, ℕ, ◌≤◌, ◌<◌, T, length, take, ℤ, pos, neg_ℤ, ◌+ℤ◌, ◌<ℤ◌}
use mathlib.Core.List.{List, [], ◌∷◌, ◌++◌, map, Memᴰ}
use Rattle.meaning.specs.Plan.{most_events, most_horizon, most_end, Within}
use Rattle.meaning.specs.Bounds.{Bound, Leads, total, distinct, ends}
use Rattle.meaning.specs.Outcome.{over}
use Rattle.distances.specs.Matrix.{at}
use Rattle.chain.specs.declared.Bound.{Bound as Entry}

-- an entry of a list as a bound of document 01, the bounds of a list, and those of its first m entries
abbrev pub bound_of : Entry → Bound
bound_of b = record { start = b.start; end = b.«end»; weight = b.weight; code = b.code }

abbrev pub bounds_of : List Entry → List Bound
bounds_of list = map bound_of list

abbrev pub listed : List Entry → ℕ → List Bound
listed list m = bounds_of (take m list)

-- ---- what is asked

-- a bound between two of n events
pub record Fit (n : ℕ) (β : Bound) : Type 0 where
  pub start : β.start < n
  pub end : β.end < n
  pub weight : Within (neg_ℤ (pos most_end)) β.weight (pos most_end)

-- bounds between two of n events each
pub record Given (bounds : List Bound) (n : ℕ) : Type 0 where
  pub fit : (β : Bound) → Memᴰ β bounds → Fit n β

-- distances of n events
pub record Table (d : List ℤ) (n : ℕ) : Type 0 where
  pub events : n ≤ most_events
  pub near : (i j : ℕ) → i < n → j < n → Within (neg_ℤ (pos most_horizon)) (at d i j) (pos most_horizon)

-- a bound is tight towards a: a shortest way from its start to a begins with it
abbrev pub Tight : List ℤ → ℕ → Bound → Type 0
Tight d a β = at d β.start a ≡ β.weight +ℤ at d β.end a

-- from u there is a way to a along tight ones of these bounds
pub data Lead (bounds : List Bound) (d : List ℤ) (a : ℕ) : ℕ → Type 0 where
  here : {u : ℕ} → u ≡ a → Lead bounds d a u
  by : {u : ℕ} (β : Bound) → Memᴰ β bounds → u ≡ β.start → Tight d a β → Lead bounds d a β.end → Lead bounds d a u

-- the last bound cannot be kept with those before it, whose distances are d
pub record Broken (before : List Bound) (last : Bound) (d : List ℤ) (n : ℕ) : Type 0 where
  pub given : Given (before ++ (last ∷ [])) n
  pub table : Table d n
  pub self : at d last.start last.start ≡ pos 0
  pub lead : Lead before d last.start last.end
  pub below : (at d last.end last.start +ℤ last.weight) <ℤ pos 0

-- ---- what is promised

-- r codes are written, those of a closed chain of these bounds that begins at its least event
pub record Found (bounds : List Bound) (before : List ℕ) (r : ℕ) (after : List ℕ) : Type 0 where
  pub steps : List Bound
  pub from : ℕ
  pub given : (b : Bound) → Memᴰ b steps → Memᴰ b bounds
  pub closed : Leads from steps from
  pub once : T (distinct (ends steps))
  pub negative : total steps <ℤ pos 0
  pub least : (b : Bound) → Memᴰ b steps → from ≤ b.start
  pub counted : r ≡ length steps
  pub written : after ≡ over (map (λ b. b.code) steps) before
