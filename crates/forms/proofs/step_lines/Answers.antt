-- `forms::step_lines` meets its contract: the lines of the codes passed are written.
use mathlib.Core.Path.{ap}
use Prim.Native.Nat.{◌+◌, ◌*◌}
use native.Mathlib.Omega.{arith}
use Rattle.forms.specs.Put.{step_room}
use Rattle.forms.specs.Printed.{step_line}
use Rattle.forms.proofs.Puts.{adds_as, printing_then}
use Rattle.forms.proofs.Rests.{steps_more}
use Rattle.forms.proofs.step_lines.Goals as goal

pub loop-c-preserved : goal.loop-c-preserved
loop-c-preserved c =
    let i = c.loop-c.c-index in
    let put = adds_as c.put_step.ensures (ap step_line c.step_of.ensures) in
    printing_then c.loop-c.invariant (step_room * (i + 1)) (omega arith) (steps_more c.args.plan.now c.args.chain.now i c.loop-c-test.true) put
