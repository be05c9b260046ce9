-- `chain::Marked::visited` follows the notes from b to a. Each event on the way is new in the set, so that the loop ends; what the set is at the
-- end, `Passing` says of every way by the notes.
use mathlib.Core.Path.{ap}
use native.Mathlib.Omega.{arith}
use lib.Count.{ones}
use Rattle.eventset.proofs.Laws.{count_fresh}
use Rattle.eventset.proofs.Words.{at_most}
use Rattle.chain.proofs.Visit.{pass_start, pass, passed}
use Rattle.chain.proofs.Marked.visited.Goals as goal

pub loop-e-init : goal.loop-e-init
loop-e-init c = record { low = c.requires.from; passing = λ steps p. rw c.empty-seen.ensures (pass_start _ _ _ _ p) }

pub loop-e-smaller : goal.loop-e-smaller
loop-e-smaller c =
    let w = c.requires in
    let next = pass _ _ _ _ _ _ c.loop-e-test.true (c.loop-e.invariant.passing w.steps w.path) in
    omega (arith, ap ones c.put-seen.ensures, count_fresh _ _ next.fresh, at_most c.put-seen.result (omega arith) (omega arith))

pub loop-e-preserved : goal.loop-e-preserved
loop-e-preserved c =
    rw (c.from-e.ensures, c.put-seen.ensures)
    (record {
      low = c.requires.notes.low c.loop-e.e;
      passing = λ steps p. (pass _ _ _ _ _ _ c.loop-e-test.true (c.loop-e.invariant.passing steps p)).then;
    })

pub returns : goal.returns
returns c =
    record { events = λ steps p. rw c.put.ensures (passed _ _ _ _ _ _ c.loop-e-test.false (c.loop-e.invariant.passing steps p)) }
