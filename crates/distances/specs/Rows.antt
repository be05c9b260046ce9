-- What the functions within ask of one another: a row is lowered by row b, which stands beside the matrix as `via`.
use Rattle.std.specs.Prelude.{ℕ, ◌+◌, ◌≤◌, ◌<◌, List, length, get_or, ℤ, pos, neg_ℤ, ◌+ℤ◌, ◌≤ℤ◌}
use Rattle.ticks.specs.Min.{min_z}
use Rattle.meaning.specs.Plan.{Within, most_horizon, most_end}
use Rattle.distances.specs.Matrix.{stride, at}

-- the range of a closed matrix's entries, and of one with a weight added
abbrev pub Near : ℤ → Type 0
Near x = Within (neg_ℤ (pos most_horizon)) x (pos most_horizon)

abbrev pub Nearby : ℤ → Type 0
Nearby x = Within (neg_ℤ (pos (most_horizon + most_end))) x (pos (most_horizon + most_end))

-- a row's entry in column j, lowered to base + via j where that is less
abbrev pub lowered : List ℤ → ℕ → List ℤ → ℤ → ℕ → ℤ
lowered d i via base j = min_z (at d i j) (base +ℤ get_or via j (pos 0))

pub record Lowering (i n : ℕ) (via : List ℤ) (base : ℤ) : Type 0 where
  pub row : i < stride
  pub events : n ≤ stride
  pub long : n ≤ length via
  pub base_range : Nearby base
  pub range : (j : ℕ) → j < n → Near (get_or via j (pos 0))

-- the bound from a to b of weight w is added to row i
pub record Inserting (d : List ℤ) (i n a b : ℕ) (w : ℤ) (via : List ℤ) : Type 0 where
  pub events : n ≤ stride
  pub row : i < n
  pub from : a < n
  pub to : b < n
  pub long : n ≤ length via
  pub weight : Within (neg_ℤ (pos most_end)) w (pos most_end)
  pub range : (j : ℕ) → j < n → Near (at d i j)
  pub via_range : (j : ℕ) → j < n → Near (get_or via j (pos 0))
  pub triangle : (j : ℕ) → j < n → at d i j ≤ℤ (at d i b +ℤ get_or via j (pos 0))
