-- What the functions of the climb ask of one another: one question, one grade, and where the climb begins.
use Rattle.std.specs.Prelude.{◌≡◌, Bool, true, false, List, ℕ, suc, ◌-◌, ◌≤◌, length, get_or, set, replicate, ℤ}
use Rattle.meaning.specs.Plan as M
use Rattle.meaning.specs.Plan.{most_records, top_level, least_level, wishes}
use Rattle.meaning.specs.Outcome.{over}
use Rattle.meaning.specs.Faultless.{WithoutFault}
use Rattle.meaning.specs.Distances.{Stands}
use Rattle.meaning.specs.Climb.{ClimbedTo, Left}
use Rattle.plan.specs.declared.Record.{Record}
use Rattle.cut.specs.Cut.{Cutting, run_of}
use Rattle.distances.specs.declared.Matrix.{Matrix}
use Rattle.distances.specs.Matrix.{at, Net, Beside, Narrowing, Narrowed}
use Rattle.ladder.specs.Climbed.{Ready}

-- ---- one question: has the wish of row x grade y or more in some timetable left?

-- the row can be cut, and the run of the grade is near enough
pub record Asking (n : ℕ) (x : Record) (held : List ℕ) (y : ℕ) (d : List ℤ) : Type 0 where
  pub cutting : Cutting x held
  pub narrowing : Narrowing n x.a x.b (run_of x held y).lo (run_of x held y).hi d
  pub grade : 1 ≤ y

-- the distance is held to the run of the grade
abbrev pub Asked : ℕ → Record → List ℕ → ℕ → List ℤ → List ℤ → Bool → Type 0
Asked n x held y d d' r = Narrowed n x.a x.b (run_of x held y).lo (run_of x held y).hi d d' r

-- ---- one wish at grade y: it is asked only where its grade so far is the one before

pub record WishAnswered (n : ℕ) (x : Record) (held : List ℕ) (y w : ℕ) (d d' : List ℤ) (before after : List ℕ) : Type 0 where
  pub answer : Bool
  pub asked : Asked n x held y d d' answer
  pub up : answer ≡ true → after ≡ set before w y
  pub stays : answer ≡ false → after ≡ before

pub record WishClimbed (n : ℕ) (x : Record) (held : List ℕ) (y w : ℕ) (d d' : List ℤ) (before after : List ℕ) : Type 0 where
  pub climbing : get_or before w 0 ≡ y - 1 → WishAnswered n x held y w d d' before after
  pub stopped : (get_or before w 0 ≡ y - 1 → ⊥) → (d' ≡ d) × (after ≡ before)

-- ---- one grade

-- g grades are done, and k records of the next; old and before are the matrix and the levels before the climb
pub record Stage (p : M.Plan) (g k : ℕ) (old d : List ℤ) (before after : List ℕ) : Type 0 where
  pub grades : List ℕ
  pub climbed : ClimbedTo p g k grades
  pub written : after ≡ over grades before
  pub net : Net p.events p.horizon d
  pub stands : Stands p.events (at d) (Left p grades)
  pub beside : Beside p.events old d

pub record Grading (p : M.Plan) (y : ℕ) (d : Matrix) (levels : List ℕ) : Type 0 where
  pub events : d.events ≡ p.events
  pub grade : ℕ
  pub next : y ≡ suc grade
  pub top : y ≤ top_level
  pub old : List ℤ
  pub before : List ℕ
  pub stage : Stage p grade 0 old d.entries before levels
  pub room : most_records ≤ length levels

pub record Graded (p : M.Plan) (y : ℕ) (d d' : List ℤ) (levels levels' : List ℕ) : Type 0 where
  pub graded : {g : ℕ} {old : List ℤ} {before : List ℕ} → y ≡ suc g → Stage p g 0 old d before levels → Stage p y 0 old d' before levels'

-- ---- before the climb every wish is at the least level, which is part of the plan

pub record GradesBegun (p : M.Plan) (before after : List ℕ) (r : ℕ) : Type 0 where
  pub faultless : WithoutFault p
  pub count : r ≡ wishes p
  pub written : after ≡ over (replicate (wishes p) least_level) before

-- ---- all grades

pub record ToClimb (p : M.Plan) (d : Matrix) (levels : List ℕ) : Type 0 where
  pub ready : Ready p d
  pub room : most_records ≤ length levels
