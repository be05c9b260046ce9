-- `forms::put_step` meets its contract: the fields of the struct, each as wide as the line has it, are the numbers of the line.
use mathlib.Core.Path.{refl}
use mathlib.Core.List.{[], ◌∷◌}
use native.Mathlib.Omega.{arith}
use borrow.Author.Rules.{rules}
use mir.Syntax.{w64}
use mir.Val.{SFits}
use Rattle.codes.specs.Codes.{as_bound}
use Rattle.forms.specs.Put.{step_room}
use Rattle.forms.specs.Printed.{step_numbers}
use Rattle.ticks.proofs.Shown.{Shows, none, bits, shown}
use Rattle.forms.proofs.Puts.{line_fits, line_adds}
use Rattle.forms.proofs.put_step.Goals as goal
use Rattle.forms.proofs.put_step.Goals.{After-from-3}

-- the event that the step leaves, the one that it enters, the weight and the code
row : (c : After-from-3) → Shows (bits (c.from.result ∷ c.from-2.result ∷ c.args.s.weight ∷ c.from-3.result ∷ [])) (step_numbers (as_bound c.args.s))
row c =
    let a = c.from in
    let b = c.from-2 in
    let n = c.from-3 in
    let fits : SFits w64 c.args.s.weight = search rules in
    shown a.result a.type_inv a.ensures
    (shown b.result b.type_inv b.ensures (shown c.args.s.weight fits.sfits refl (shown n.result n.type_inv n.ensures none)))

pub line-requires : goal.line-requires
line-requires c = line_fits _ (row (goal.at.line-requires c).After-from-3) step_room (omega arith) _ _ c.requires

pub returns : goal.returns
returns c = line_adds _ (row (goal.at.returns c).After-from-3) step_room (omega arith) c.line.ensures
