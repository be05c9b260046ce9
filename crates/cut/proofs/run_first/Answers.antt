-- `cut::run_first` meets its contract: `position` passes over the levels below the grade.
use mathlib.Core.Path.{◌≡◌, refl, sym, ◌∙◌}
use mathlib.Core.List.{List, ◌∷◌}
use Prim.Native.Nat.{ℕ, ◌+◌, ◌≤◌, ◌<◌}
use native.Mathlib.Omega.{arith}
use borrow.Author.Rules.{rules}
use borrow.Author.Tests.{tests}
use Rattle.std.proofs.lemmas.Iterator.{YieldsList-from_slice, IsFirst-from_position, index_from_first}
use Rattle.meaning.specs.Run.{run_first}
use Rattle.meaning.proofs.Runs.{first_found, first_passed}
use Rattle.cut.proofs.run_first.Goals as goal

passed : (y x : ℕ) (xs : List ℕ) → x < y → run_first y (x ∷ xs) ≡ run_first y xs + 1
passed y x xs h = omega (arith, first_passed y x xs h)

pub returns : goal.returns
returns c =
    let y = c.args.y in
    let ls = c.args.levels.now in
    let first = IsFirst-from_position _ _ _ (λ x. y ≤ x) (λ x. x < y) c.position.ensures.ran (YieldsList-from_slice ls cc)
    (λ x q k. search (rules, tests)) (λ x q k. search (rules, tests)) in
    let found : c.unwrap_or.result ≡ run_first y ls = c.unwrap_or.ensures
    ∙ sym (index_from_first (run_first y) (λ x. y ≤ x) (λ x. x < y) refl (first_found y) (passed y) ls c.position.result first) in
    omega (arith, found)
