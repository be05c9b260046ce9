-- The climb as a whole: the least level for every wish at first, then one grade after the other, by what the loop over the grades has done so far.
use mathlib.Core.Path.{◌≡◌, ◌∙◌}
use mathlib.Core.List.{List}
use Prim.Native.Nat.{ℕ, suc, ◌+◌, ◌-◌, ◌≤◌, ◌<◌}
use native.Mathlib.Omega.{arith}
use lib.ListN.{length, replicate}
use lib.IntN.{ℤ}
use Rattle.meaning.specs.Plan as M
use Rattle.meaning.specs.Plan.{wishes, top_level, least_level, most_records}
use Rattle.meaning.specs.Outcome.{BestTimes}
use Rattle.meaning.specs.Distances.{outermost, Stands}
use Rattle.scope.specs.declared.Side.TheVariants.{Latest}
use Rattle.meaning.proofs.Stands.{stands_same, stands_outermost}
use Rattle.meaning.proofs.Solve.{all_left}
use Rattle.meaning.proofs.Wishes.{climb_start, climb_best, climb_levels}
use Rattle.distances.specs.declared.Matrix.{Matrix}
use Rattle.distances.specs.Matrix.{at}
use Rattle.distances.proofs.Rows.{beside_same}
use Rattle.ladder.specs.Climbed.{Ready, Climbed}
use Rattle.ladder.specs.Climbing.{GradesBegun, Stage, Grading, Graded, ToClimb}

-- ---- the grades below y are done

pub record GradesTo (p : M.Plan) (y : ℕ) (d₀ d : Matrix) (levels₀ levels : List ℕ) : Type 0 where
  pub some : least_level < y
  pub most : y ≤ top_level + 1
  pub events : d.events ≡ d₀.events
  pub long : length levels ≡ length levels₀
  pub stage : {g : ℕ} {old : List ℤ} {before : List ℕ} → y ≡ suc g →
      Stage p least_level 0 old d₀.entries before levels₀ → Stage p g 0 old d.entries before levels

-- the stage before the first grade that is asked for
module _ {p : M.Plan} {d : Matrix} (o : Ready p d) where
  ready_stage : {before levels : List ℕ} {r : ℕ} → GradesBegun p before levels r → Stage p least_level 0 d.entries d.entries before levels
  ready_stage c = record {
    grades = replicate (wishes p) least_level;
    climbed = climb_start p (outermost Latest (at d.entries)) (stands_outermost Latest o.net.some o.stands);
    written = c.written;
    net = o.net;
    stands = stands_same o.stands (all_left p);
    beside = beside_same;
  }

module _ {p : M.Plan} {y : ℕ} {d₀ d : Matrix} {levels₀ levels : List ℕ} (u : GradesTo p y d₀ d levels₀ levels) where
  pub grades_ask : {before : List ℕ} {r : ℕ} → ToClimb p d₀ before → GradesBegun p before levels₀ r → length levels₀ ≡ length before → y ≤ top_level →
      Grading p y d levels
  grades_ask {before} a c long l =
      let e : y ≡ suc (y - 1) = omega (arith, u.some) in
      record {
        events = u.events ∙ a.ready.events;
        grade = y - 1;
        next = e;
        top = l;
        old = d₀.entries;
        before = before;
        stage = u.stage e (ready_stage a.ready c);
        room = omega (arith, a.room, u.long);
      }

  pub grades_next : {d' : Matrix} {levels' : List ℕ} → y ≤ top_level → Graded p y d.entries d'.entries levels levels' →
      d'.events ≡ d.events → length levels' ≡ length levels → GradesTo p (y + 1) d₀ d' levels₀ levels'
  grades_next {d'} {levels'} l c events long =
      record { some = omega arith; most = omega arith; events = events ∙ u.events; long = long ∙ u.long; stage = stage }
    where
      stage : {g : ℕ} {old : List ℤ} {before : List ℕ} → y + 1 ≡ suc g →
          Stage p least_level 0 old d₀.entries before levels₀ → Stage p g 0 old d'.entries before levels'
      stage {g} e s =
          let z : g ≡ y = omega arith in
          let n : y ≡ suc (y - 1) = omega (arith, u.some) in
          rw z (c.graded n (u.stage n s))

  pub grades_all : {before : List ℕ} {r : ℕ} → Ready p d₀ → top_level < y → GradesBegun p before levels₀ r →
      Climbed p d₀.entries d.entries before levels r
  grades_all o l c =
      let e : y ≡ suc top_level = omega (arith, u.most) in
      let s = u.stage e (ready_stage o c) in
      let best : Stands p.events (at d.entries) (BestTimes p) = stands_same s.stands (climb_best p s.climbed) in
      record {
        grades = s.grades;
        some = outermost Latest (at d.entries);
        best = stands_outermost Latest o.net.some best;
        levelled = climb_levels p c.faultless s.climbed;
        count = c.count;
        written = s.written;
        net = s.net;
        stands = best;
        beside = s.beside;
      }
