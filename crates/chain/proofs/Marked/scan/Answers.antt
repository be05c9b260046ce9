-- `chain::Marked::scan` meets its contract: a turn looks at a bound, and with it one more is done.
use Rattle.chain.proofs.Limits.{low}
use Rattle.chain.proofs.Lists.{bounds_at}
use Rattle.chain.proofs.Marks.{under_start, under_step, under_end}
use Rattle.chain.proofs.Marked.scan.Goals as goal

pub look-requires : goal.look-requires
look-requires c =
    let s = c.requires in
    record { n = s.n; table = s.table; fit = s.given.fit _ (bounds_at _ _ _ c.loop-b-test.true); to = s.to }

pub loop-b-init : goal.loop-b-init
loop-b-init c = under_start _ _ _ _ _ c.requires.notes

pub loop-b-preserved : goal.loop-b-preserved
loop-b-preserved c =
    let s = c.requires in
    let fit = s.given.fit _ (bounds_at _ _ _ c.loop-b-test.true) in
    under_step _ _ _ _ _ _ _ _ _ _ _ c.loop-b.invariant c.loop-b-test.true (low s.table fit.start) (low s.table fit.end) c.look.ensures

pub returns : goal.returns
returns c = under_end _ _ _ _ _ _ _ _ c.loop-b.invariant c.loop-b-test.false
