-- `faults::are_levels` meets its contract: `all` asks each level in turn.
use mathlib.Core.Path.{◌≡◌, refl, ◌∙◌}
use mathlib.Core.List.{List, [], ◌∷◌}
use Prim.Native.Nat.{ℕ}
use borrow.Author.Rules.{rules}
use borrow.Author.Tests.{tests}
use lib.Dec.{leb}
use Rattle.std.specs.List.{list_all}
use Rattle.std.proofs.lemmas.Iterator.{YieldsList-from_slice}
use Rattle.std.proofs.lemmas.Iterator.Search.{all_from_yields_List}
use Rattle.meaning.specs.Plan.{top_level}
use Rattle.faults.specs.Faults.{are_levels}
use Rattle.faults.proofs.are_levels.Goals as goal

all_levels : (ls : List ℕ) → list_all (λ l. leb l top_level) ls ≡ are_levels ls
all_levels [] = refl
all_levels (l ∷ ls) = rw (all_levels ls)

pub returns : goal.returns
returns c =
    let ls = c.args.levels.now in
    all_from_yields_List (λ l. leb l top_level) _ _ _ c.all.ensures.ran (YieldsList-from_slice ls cc) (λ x b q k. search (rules, tests)) ∙ all_levels ls
