-- Any two steps that satisfy the promise of `step_of` are equal: a step is what its bound is.
use mathlib.Core.Path.{◌≡◌, ap}
use Rattle.meaning.specs.Bounds.{Bound}
use Rattle.codes.specs.declared.Step.{Step}
use Rattle.codes.specs.Codes.{as_bound}

pub one_step : (s t : Step) → as_bound s ≡ as_bound t → s ≡ t
one_step s t e = ap (λ (b : Bound). record { from = b.start; to = b.end; weight = b.weight; code = b.code }) e
