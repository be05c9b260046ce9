-- A loop that writes one entry a turn.
use Rattle.std.specs.Prelude.{ℕ, ◌+◌, ◌≤◌, ◌<◌, ◌≡◌, List, length, get_or}

-- d' is d but for the n entries from b on, which hold f 0, f 1, … (z is what a list holds past its end)
pub record Swept {A : Type 0} (z : A) (d d' : List A) (b n : ℕ) (f : ℕ → A) : Type 0 where
  pub long : length d' ≡ length d
  pub done : (j : ℕ) → j < n → get_or d' (b + j) z ≡ f j
  pub below : (k : ℕ) → k < b → get_or d' k z ≡ get_or d k z
  pub above : (k : ℕ) → b + n ≤ k → get_or d' k z ≡ get_or d k z
