-- The areas that a caller lends, as contracts see them.
use Rattle.std.specs.Prelude.{◌≡◌}
use Rattle.meaning.specs.Outcome as O
use Rattle.meaning.specs.Outcome.{areas}
use Rattle.settle.specs.declared.Areas.{Areas}

-- what stands in them
abbrev pub lent : Areas → O.Areas
lent a = areas a.times.now a.levels.now a.chain.now

-- the three references are still those of the caller
pub record SameAreas (before after : Areas) : Type 0 where
  pub times : after.times.ghost_name ≡ before.times.ghost_name
  pub levels : after.levels.ghost_name ≡ before.levels.ghost_name
  pub chain : after.chain.ghost_name ≡ before.chain.ghost_name
