-- `chain::Marked::write` writes a code a turn, and goes on to the end of its bound; the turns are as many as the set has events.
use native.Mathlib.Omega.{arith}
use Rattle.chain.proofs.Codes.{put_step}
use Rattle.chain.proofs.Marked.write.Goals as goal

pub loop-i-preserved : goal.loop-i-preserved
loop-i-preserved c =
    let h = c.loop-i in
    rw c.from-e.ensures
    (record {
      low = c.requires.notes.low h.e;
      putting = put_step _ _ _ _ _ _ _ (omega arith) (omega (arith, c.requires.room)) h.invariant.putting;
    })
