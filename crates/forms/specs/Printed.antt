-- The printed form: document 01, section 7.
use Rattle.std.specs.Prelude.{ℕ, suc, List, [], ◌∷◌, ◌++◌, length, ℤ, pos}
use Rattle.meaning.specs.Plan.{Record, rule, wish, Plan}
use Rattle.meaning.specs.Bounds.{Bound}
use Rattle.meaning.specs.Outcome.{Outcome, solved, none, refusal}
use Rattle.meaning.specs.Known.{bytes}
use Rattle.codes.specs.Codes.{named}
use Rattle.print.specs.Lines.{line}

-- `at`, event, time for each event from number e on
abbrev pub at_lines : ℕ → List ℤ → List ℕ
at_lines e [] = []
at_lines e (t ∷ ts) = line (bytes "at") (pos e ∷ t ∷ []) ++ at_lines (suc e) ts

-- `level`, record, level for each wish among the records from number k on
abbrev pub level_lines : ℕ → List Record → List ℕ → List ℕ
level_lines k [] ls = []
level_lines k (rule a b lo hi ∷ rs) ls = level_lines (suc k) rs ls
level_lines k (wish a b lo vs ∷ rs) [] = []
level_lines k (wish a b lo vs ∷ rs) (l ∷ ls) = line (bytes "level") (pos k ∷ pos l ∷ []) ++ level_lines (suc k) rs ls

-- `step`, from, to, weight, code
abbrev pub step_numbers : Bound → List ℤ
step_numbers b = pos b.start ∷ pos b.end ∷ b.weight ∷ pos b.code ∷ []

abbrev pub step_line : Bound → List ℕ
step_line b = line (bytes "step") (step_numbers b)

abbrev pub step_lines : Plan → List ℕ → List ℕ
step_lines p [] = []
step_lines p (c ∷ cs) = step_line (named p c) ++ step_lines p cs

-- the one form that is printed for an outcome
unfoldable pub printed : Plan → Outcome → List ℕ
printed p (solved ts ls) = line (bytes "solved") (pos (length ts) ∷ pos (length ls) ∷ []) ++ (at_lines 0 ts ++ level_lines 0 p.records ls)
printed p (none cs) = line (bytes "none") (pos (length cs) ∷ []) ++ step_lines p cs
printed p (refusal number place) = line (bytes "refused") (pos number ∷ pos place ∷ [])
