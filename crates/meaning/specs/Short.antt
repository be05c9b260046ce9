-- By how many ticks a chain falls short: T-10.
use Rattle.std.specs.Prelude.{◌≡◌, cond, List, [], ◌∷◌, ℕ, ◌+◌, ◌≤◌, ℤ, pos, nat_abs, ◌-ℤ◌}
use Rattle.std.specs.Int.Signed.{non_neg}
use Rattle.meaning.specs.Plan.{Plan, Times}
use Rattle.meaning.specs.Bounds.{Bound, Chain, shortfall}
use Rattle.meaning.specs.Reading.{Reading, plan, refused}

-- s ticks: the shortfall of the chain that the codes are, or 0 where they are no chain of the plan
pub record ShortBy (p : Plan) (codes : List ℕ) (s : ℕ) : Type 0 where
  pub shown : 1 ≤ s → Chain p codes
  pub lacks : (c : Chain p codes) → shortfall c.steps ≡ pos s

-- in a text; 0 where it is refused
abbrev pub ShortIn : Reading → List ℕ → ℕ → Type 0
ShortIn (plan p) codes s = ShortBy p codes s
ShortIn (refused m k) codes s = s ≡ 0

-- ---- what that means for any times at all (`proofs/Short.missed`)

-- as much of a number as lies above zero
abbrev pub above : ℤ → ℕ
above z = cond (non_neg z) (nat_abs z) 0

-- the ticks by which times miss a bound; 0 where they keep it
abbrev pub missed_by : Times → Bound → ℕ
missed_by t b = above (t b.end -ℤ t b.start -ℤ b.weight)

-- the ticks by which they miss the bounds together
abbrev pub missed_together : Times → List Bound → ℕ
missed_together t [] = 0
missed_together t (b ∷ bs) = missed_by t b + missed_together t bs
