-- The ladder half climbed: y grades are done, and k wishes of the next. What the functions of the climb say to one another.
use Rattle.std.specs.Prelude.{◌≡◌, ◌↔◌, List, ◌++◌, ℕ, suc, ◌≤◌, ◌<◌, min, length, take}
use Rattle.meaning.specs.Plan.{Record, Plan, Times, Timetable, levels, wish_count, wishes}
use Rattle.meaning.specs.Ladder.{Question, row, rows, lv, Best}

-- what has been asked
abbrev pub asked : ℕ → ℕ → ℕ → List Question
asked w y k = rows w 1 y ++ row (suc y) 0 k

module _ {A : Type 0} (S : A → Type 0) (lev : A → List ℕ) (w : ℕ) where
  -- a thing with at least the grades g
  pub record Above (g : List ℕ) (a : A) : Type 0 where
    pub member : S a
    pub at_least : (j : ℕ) → j < w → lv g j ≤ lv (lev a) j

  -- the grades g are reached
  pub record Reached (y k : ℕ) (g : List ℕ) : Type 0 where
    pub count : length g ≡ w
    -- those left are the best on what has been asked, and there is one
    pub best : (a : A) → Above g a ↔ Best S lev (asked w y k) a
    pub some : A
    pub left : Above g some
    -- the grade reached is the level, as far as it has been asked for
    pub done : (a : A) → Above g a → (j : ℕ) → j < k → min (lv (lev a) j) (suc y) ≡ lv g j
    pub waiting : (a : A) → Above g a → (j : ℕ) → k ≤ j → j < w → min (lv (lev a) j) y ≡ lv g j

-- the number of wishes before record r: the number that record r has among the wishes, where it is one
abbrev pub wishes_before : List Record → ℕ → ℕ
wishes_before rs r = wish_count (take r rs)

module _ (p : Plan) where
  -- the timetables left when the grades g are reached
  abbrev pub Left : List ℕ → Times → Type 0
  Left g t = Above (Timetable p) (levels p) (wishes p) g t

  -- y grades are done, and k wishes of the next
  abbrev pub Climbed : ℕ → ℕ → List ℕ → Type 0
  Climbed y k g = Reached (Timetable p) (levels p) (wishes p) y k g

  -- the number of record r among the wishes
  abbrev pub number : ℕ → ℕ
  number r = wishes_before p.records r

  -- y grades are done, and r records of the next
  abbrev pub ClimbedTo : ℕ → ℕ → List ℕ → Type 0
  ClimbedTo y r g = Climbed y (number r) g
