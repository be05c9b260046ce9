-- What the form of times and levels is made of.
use Rattle.std.specs.Prelude.{◌≡◌, List, ℕ, ◌≤◌, length, ℤ}
use Rattle.meaning.specs.Plan as M
use Rattle.meaning.specs.Plan.{wishes}
use Rattle.meaning.specs.Faultless.{WithoutFault}
use Rattle.plan.specs.declared.Plan.{Plan}
use Rattle.plan.specs.Held.{Holds}

-- a plan in memory, the count of its wishes, and areas that have its times and levels in front
pub record Timed (p : M.Plan) (h : Plan) (w : ℕ) (times : List ℤ) (levels : List ℕ) : Type 0 where
  pub holds : Holds p h
  pub faultless : WithoutFault p
  pub count : w ≡ wishes p
  pub long : p.events ≤ length times
  pub room : wishes p ≤ length levels

-- levels that are those of its wishes and no more
pub record Levels (p : M.Plan) (h : Plan) (levels : List ℕ) : Type 0 where
  pub holds : Holds p h
  pub faultless : WithoutFault p
  pub count : length levels ≡ wishes p
