-- `Matrix::narrow` meets its contract: where the run meets what is left, neither bound can fail.
use mathlib.Core.Path.{◌≡◌, sym, ◌∙◌}
use mathlib.Core.Bool.{true, true≢false}
use mir.Facts.{to_z-of_z}
use Rattle.meaning.specs.Distances.{added}
use Rattle.distances.specs.Matrix.{at, meeting, Changed, Cut}
use Rattle.distances.proofs.Range.{weight_fits, negated}
use Rattle.distances.proofs.Net.{Met, met, lower_asked, cut_net}
use Rattle.distances.proofs.Matrix.narrow.Goals as goal
use Rattle.distances.proofs.Matrix.narrow.Goals.{Then-met, After-tighten}

-- what is known on the way: the test, the first bound, and the negated end
test : (c : Then-met) → let s = c.args in true ≡ meeting (at s.self.now.entries) s.a s.b s.lo s.hi
test c = rw (to_z-of_z c.ranges.lo, to_z-of_z c.ranges.hi) at (sym c.if-met.true ∙ c.meets-met.ensures)

is_met : (c : Then-met) → let s = c.args in Met (at s.self.now.entries) s.a s.b s.lo s.hi
is_met c = met _ _ _ _ _ (sym (test c))

first : (c : After-tighten) → let s = c.args in let n = s.self.now.events in
    Changed n n s.self.now.entries c.tighten.new.self.entries (added (at s.self.now.entries) s.a s.b s.hi)
first c = rw (to_z-of_z c.ranges.hi) at c.tighten.ensures.changed

pub tighten-requires-then-met : goal.tighten-requires-then-met
tighten-requires-then-met c =
    let i = (goal.at.tighten-requires-then-met c).After-tighten in
    let asked = lower_asked c.requires (is_met (goal.at.tighten-requires-then-met c).Then-met) (first i) in
    rw (negated c.args.lo _ (to_z-of_z c.ranges.lo) (weight_fits _ asked.weight), c.tighten.ensures.same_events) asked

pub returns-then-met-clause-answered : goal.returns-then-met-clause-answered
returns-then-met-clause-answered c =
    let i = (goal.at.returns-then-met-clause-answered c).After-tighten in
    let t = (goal.at.returns-then-met-clause-answered c).Then-met in
    let m = is_met t in
    let asked = lower_asked c.requires m (first i) in
    let low = negated c.args.lo _ (to_z-of_z c.ranges.lo) (weight_fits _ asked.weight) in
    let s = c.args in
    let cut : Cut s.self.now.events s.a s.b s.lo s.hi s.self.now.entries c.tighten-then-met.new.self.entries =
    record { middle = c.tighten.new.self.entries; upper = first i; lower = rw (low, c.tighten.ensures.same_events) at c.tighten-then-met.ensures.changed } in
    rw c.if-met.true
    (record {
      answer = test t;
      taken = λ _. cut;
      refused = λ e. absurd (true≢false e);
      net = λ {H} net. cut_net c.requires m cut net;
    })
