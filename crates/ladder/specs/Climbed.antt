-- The climb over grades and wishes on the matrix of a plan's timetables.
use Rattle.std.specs.Prelude.{◌≡◌, List, ℕ, ℤ}
use Rattle.meaning.specs.Plan as M
use Rattle.meaning.specs.Plan.{Times, Timetable, levels, wishes}
use Rattle.meaning.specs.Outcome.{BestTimes, over}
use Rattle.meaning.specs.Distances.{Stands}
use Rattle.distances.specs.declared.Matrix.{Matrix}
use Rattle.distances.specs.Matrix.{at, Net, Beside}

-- the matrix of a plan's timetables
pub record Ready (p : M.Plan) (d : Matrix) : Type 0 where
  pub events : d.events ≡ p.events
  pub net : Net p.events p.horizon d.entries
  pub stands : Stands p.events (at d.entries) (Timetable p)

-- the levels of the best timetables stand at the front of the levels, and the matrix is that of the best timetables; beside the n × n entries in use
-- nothing changed
pub record Climbed (p : M.Plan) (d d' : List ℤ) (before after : List ℕ) (r : ℕ) : Type 0 where
  pub grades : List ℕ
  -- there are best timetables, and these are their levels
  pub some : Times
  pub best : BestTimes p some
  pub levelled : (t : Times) → BestTimes p t → levels p t ≡ grades
  pub count : r ≡ wishes p
  pub written : after ≡ over grades before
  pub net : Net p.events p.horizon d'
  pub stands : Stands p.events (at d') (BestTimes p)
  pub beside : Beside p.events d d'
