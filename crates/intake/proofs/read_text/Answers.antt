-- `intake::read_text` meets its contract: each read is one more, by what is done after it.
use Rattle.intake.specs.Gathered.{none, more}
use Rattle.intake.proofs.Came.{reads_room, gathered_last}
use Rattle.intake.proofs.read_text.Goals as goal

pub loop-init : goal.loop-init
loop-init g c = none

pub read_behind-requires : goal.read_behind-requires
read_behind-requires g c = reads_room c.loop.invariant

pub loop-preserved : goal.loop-preserved
loop-preserved g c = more c.loop.invariant c.in-Continue.ensures

pub returns-in-Break : goal.returns-in-Break
returns-in-Break g c = gathered_last _ c.loop.invariant c.in-Break.ensures
