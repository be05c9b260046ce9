-- Lists of codes that are no chain of the plan that a text is read as. Each demand of `Chain` alone excludes one of them, but for `once`
-- and `counted`, which say the same of a closed round, and for `two` and `most`, which follow from the others (`Chains`).
use mathlib.Core.Path.{◌≡◌, refl}
use mathlib.Core.List.{List, [], ◌∷◌, Memᴰ}
use mathlib.Core.Bool.{Bool, false, not}
use Prim.Native.Nat.{ℕ}
use Prim.Native.String.{String}
use lib.Dec.{T, T_not}
use Rattle.meaning.specs.Plan.{Plan}
use Rattle.meaning.specs.Peak.{peaked}
use Rattle.meaning.specs.Bounds.{Chain}
use Rattle.meaning.specs.Reading.{Reading, plan, refused, read, split, digits_of, number_of, line_form, line_step}
use Rattle.meaning.specs.Faultless.{WithoutFault}
use Rattle.meaning.specs.Known.{bytes, case_7_text, case_8_text}
use Rattle.meaning.proofs.All.{all_each}
use Rattle.meaning.proofs.ReadGood.{read_faultless}
use Rattle.meaning.proofs.ChainTest.{chain_test, chain_only}

pub record Wrong : Type 0 where
  pub text : String
  pub codes : List ℕ

abbrev wrong : String → List ℕ → Wrong
wrong t cs = record { text = t; codes = cs }

-- case 9, whose chain is 514, 1, with four events
abbrev case_9_of_four : String
case_9_of_four = "events\t4\t3\nrule\t0\t1\t4\t10\n"

-- the chain of case 7 is 4, 3, 1; in case 8 its weights sum to zero
abbrev pub wrongs : List Wrong
wrongs =
    -- a step's code is another's: the last, the first
    wrong case_7_text (4 ∷ 3 ∷ 0 ∷ [])
    ∷ wrong case_7_text (5 ∷ 3 ∷ 1 ∷ [])
    -- no bound has these codes
    ∷ wrong case_7_text (6 ∷ 7 ∷ [])
    -- the last does not end where the first begins; a step does not end where the next begins
    ∷ wrong case_7_text (4 ∷ 3 ∷ [])
    ∷ wrong case_7_text (4 ∷ 1 ∷ 3 ∷ [])
    -- events are entered twice: in more steps than there are events, in as many
    ∷ wrong case_7_text (4 ∷ 3 ∷ 1 ∷ 4 ∷ 3 ∷ 1 ∷ [])
    ∷ wrong case_9_of_four (514 ∷ 1 ∷ 514 ∷ 1 ∷ [])
    -- the weights sum to 6; to zero
    ∷ wrong case_7_text (0 ∷ 1 ∷ [])
    ∷ wrong case_8_text (4 ∷ 3 ∷ 1 ∷ [])
    -- the first step does not leave the least event
    ∷ wrong case_7_text (3 ∷ 1 ∷ 4 ∷ [])
    ∷ []

-- the text has a plan, and the codes are no chain of it
abbrev pub NoChain : Reading → List ℕ → Type 0
NoChain r cs = (p : Plan) × (r ≡ plan p) × (Chain p cs → ⊥)

abbrev no_chain : Reading → List ℕ → Bool
no_chain (plan p) cs = not (chain_test p cs)
no_chain (refused m k) cs = false

no_chain_lem : (r : Reading) (cs : List ℕ) → ((p : Plan) → r ≡ plan p → WithoutFault p) → T (no_chain r cs) → NoChain r cs
no_chain_lem (plan p) cs f t = (p, refl, λ c. T_not (chain_test p cs) t (chain_only p (f p refl) cs c))
no_chain_lem (refused m k) cs f t = absurd t

abbrev wrong_test : Wrong → Bool
wrong_test x = no_chain (read (bytes x.text)) x.codes

-- none of them is a chain
pub wrong_chains : (x : Wrong) → Memᴰ x wrongs → NoChain (read (bytes x.text)) x.codes
unfolding read split digits_of number_of line_form line_step peaked
wrong_chains x m = no_chain_lem (read (bytes x.text)) x.codes (λ p e. read_faultless (bytes x.text) e) (all_each wrong_test wrongs tt x m)
