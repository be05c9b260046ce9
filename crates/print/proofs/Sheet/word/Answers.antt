-- `Sheet::word` meets its contract: the word is copied over the part of the area that begins at the place and is as long.
use mathlib.Core.Path.{refl}
use native.Mathlib.Omega.{arith}
use Rattle.print.proofs.Writes.{wrote_copied}
use Rattle.print.proofs.Sheet.word.Goals as goal

pub returns : goal.returns
returns c = record { wrote = wrote_copied _ _ _ _ _ c.requires (omega arith) c.copy_from_slice.ensures.after; same = refl }
