-- The numbers of faults: none of them is 0, each names its fault, and no two are the same.
use mathlib.Core.Path.{◌≡◌, refl, sym, ap, ◌∙◌}
use Prim.Native.Nat.{ℕ, suc}
use Rattle.scope.specs.declared.Fault.{Fault}
use Rattle.scope.specs.declared.Fault.TheVariants.{WrongForm, TooMany, OutOfRange, SameEvent, NotPeaked, AreaTooShort, NothingAllowed}
use Rattle.scope.specs.Faults.{number, named}

pub not_zero : (f : Fault) → (k : ℕ) × (number f ≡ suc k)
not_zero WrongForm = (1, refl)
not_zero TooMany = (2, refl)
not_zero OutOfRange = (3, refl)
not_zero SameEvent = (4, refl)
not_zero NotPeaked = (5, refl)
not_zero AreaTooShort = (6, refl)
not_zero NothingAllowed = (7, refl)

pub named_again : (f : Fault) → named (number f) ≡ f
named_again WrongForm = refl
named_again TooMany = refl
named_again OutOfRange = refl
named_again SameEvent = refl
named_again NotPeaked = refl
named_again AreaTooShort = refl
named_again NothingAllowed = refl

pub one_fault : (f g : Fault) → number f ≡ number g → f ≡ g
one_fault f g e = sym (named_again f) ∙ ap named e ∙ named_again g
