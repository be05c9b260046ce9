-- `cut::run_past` meets its contract: `rposition` passes over the levels below the grade, from the last one on.
use mathlib.Core.Path.{◌≡◌, refl, sym, ◌∙◌}
use mathlib.Core.List.{List, [], ◌∷◌}
use Prim.Native.Nat.{ℕ, zero, suc, ◌+◌, ◌≤◌, ◌<◌, zero-le, suc-le-suc}
use native.Mathlib.Omega.{arith}
use borrow.Author.Rules.{rules}
use borrow.Author.Tests.{le-leb, lt-leb}
use lib.ListN.{length, get_or}
use Rattle.std.specs.Prelude.{Option, Some, None}
use Rattle.std.specs.Option.{MatchOption}
use Rattle.meaning.specs.Run.{run_past}
use Rattle.cut.proofs.run_past.Goals as goal

-- no level has the grade
past_none : (y : ℕ) (ls : List ℕ) → ((k : ℕ) → k < length ls → get_or ls k 0 < y) → run_past y ls ≡ 0
past_none y [] low = refl
past_none y (x ∷ xs) low = rw (past_none y xs (λ k h. low (suc k) (suc-le-suc h)), lt-leb y x (low 0 (suc-le-suc zero-le)))

-- the i-th level has it, and no later one
abbrev IsLast : ℕ → List ℕ → ℕ → Type 0
IsLast y ls i = (i < length ls) × (y ≤ get_or ls i 0) × ((k : ℕ) → i + 1 ≤ k → k < length ls → get_or ls k 0 < y)

past_last : (y : ℕ) (ls : List ℕ) (i : ℕ) → IsLast y ls i → run_past y ls ≡ suc i
past_last y [] i l = absurd (omega arith)
past_last y (x ∷ xs) zero l = rw (past_none y xs (λ k h. l.2 (suc k) (omega arith) (suc-le-suc h)), le-leb y x l.1)
past_last y (x ∷ xs) (suc i) l = rw (past_last y xs i (omega arith, l.1, λ k h m. l.2 (suc k) (omega arith) (suc-le-suc m)))

-- so that the run is known from what was found
past_found : (y : ℕ) (ls : List ℕ) (found : Option ℕ) (n : ℕ) → MatchOption found ((k : ℕ) → k < length ls → get_or ls k 0 < y) (IsLast y ls)
    → MatchOption found (n ≡ 0) (λ i. n ≡ i + 1) → n ≡ run_past y ls
past_found y ls None n low e = e ∙ sym (past_none y ls low)
past_found y ls (Some i) n l e = omega (arith, e, past_last y ls i l)

pub returns : goal.returns
returns c = past_found c.args.y c.args.levels.now c.rposition.result c.map_or.result (search rules) (search rules)
