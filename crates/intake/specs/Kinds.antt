-- The failures of a read that are none: a signal came before it took a byte.
use Rattle.std.specs.Prelude.{Bool, true, false}
use Rattle.std.specs.declared.io.ErrorKind.{ErrorKind}
use Rattle.std.specs.declared.io.ErrorKind.TheVariants.{Interrupted}

abbrev pub interrupts : ErrorKind → Bool
interrupts Interrupted = true
interrupts _ = false
