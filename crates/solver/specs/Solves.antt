-- What the entry point promises, and what it takes from the reader.
use Rattle.std.specs.Prelude.{◌≡◌, Result, List, ℕ, ◌≤◌, length}
use Rattle.meaning.specs.Plan.{most_levels_together}
use Rattle.meaning.specs.Outcome.{Areas, Promise}
use Rattle.scope.specs.declared.Side.{Side}
use Rattle.scope.specs.declared.Refusal.{Refusal}
use Rattle.plan.specs.declared.Plan.{Plan}
use Rattle.reader.specs.Heard.{Read}
use Rattle.settle.specs.Settled.{Answer, number_of, place_of, named}

-- what the reader said of the text, and the levels that it left in an area that had room for all of them
pub record ReadInto (text held : List ℕ) (said : Result Plan Refusal) : Type 0 where
  pub before : List ℕ
  pub room : most_levels_together ≤ length before
  pub read : Read text before held said

-- the promise of `meaning`, and that the answer is the one that its number names
pub record Solves (s : Side) (text : List ℕ) (before after : Areas) (r : Answer) : Type 0 where
  pub promise : Promise s text before after (number_of r) (place_of r)
  pub variant : r ≡ named (number_of r) (place_of r)
