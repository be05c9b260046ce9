-- What `answer` promises: the printed form of a right outcome at the front of the area, or nothing where the area is too short.
use Rattle.std.specs.Prelude.{◌≡◌, List, ℕ, ◌≤◌, ◌<◌, length}
use Rattle.meaning.specs.Reading.{read}
use Rattle.meaning.specs.Outcome.{Outcome, Right, over}
use Rattle.scope.specs.declared.Side.{Side}
use Rattle.reader.specs.Heard.{plan_in}
use Rattle.forms.specs.Printed.{printed}
use Rattle.forms.specs.Put.{area_room}

-- all but the printed form keeps its old contents
pub record Told (s : Side) (text before after : List ℕ) (r : ℕ) : Type 0 where
  pub outcome : Outcome
  pub right : Right s (read text) outcome
  pub count : r ≡ length (printed (plan_in (read text)) outcome)
  pub written : after ≡ over (printed (plan_in (read text)) outcome) before

pub record Answered (s : Side) (text before after : List ℕ) (r : ℕ) : Type 0 where
  pub long : area_room ≤ length before → Told s text before after r
  pub short : length before < area_room → (r ≡ 0) × (after ≡ before)
