-- The outcome in the table of known plans is the only right one of its text and side. For times, levels and refusals that is true of every text
-- (`one_outcome`); a plan may have several chains, so for those of the table every list of bounds that is short enough is tried.
use mathlib.Core.Path.{◌≡◌, refl, ap, sym, ◌∙◌}
use mathlib.Core.List.{List, Memᴰ}
use mathlib.Core.Bool.{Bool, true}
use Prim.Native.Nat.{ℕ}
use lib.Dec.{T}
use lib.ListN.{length}
use Rattle.meaning.specs.Plan.{Plan}
use Rattle.meaning.specs.Peak.{peaked}
use Rattle.meaning.specs.Bounds.{bounds, Chain}
use Rattle.meaning.specs.Reading.{Reading, plan, refused, read, same, split, digits_of, number_of, line_form, line_step}
use Rattle.meaning.specs.Outcome.{Outcome, solved, none, refusal, Right}
use Rattle.meaning.specs.Known.{Known, bytes, table}
use Rattle.scope.specs.declared.Side.{Side}
use Rattle.meaning.proofs.All.{is_same, both_sides, each_side, implies, implied, all_each, lists, lists_each}
use Rattle.meaning.proofs.ReadGood.{read_faultless}
use Rattle.meaning.proofs.ChainTest.{codes, steps_test, chain_steps}
use Rattle.meaning.proofs.KnownRight.{known_right}
use Rattle.meaning.proofs.Promises.{Faultless, Same, equal, chains, one_outcome}

-- ---- plans with one chain

-- of the lists of at most n bounds only those with these codes are the steps of a chain
abbrev only_test : Plan → List ℕ → Bool
only_test p cs = lists p.events (bounds p) (λ bs. implies (steps_test p bs) (same (codes bs) cs))

only_chain : (p : Plan) (cs : List ℕ) → T (only_test p cs) → (ds : List ℕ) → Chain p ds → ds ≡ cs
only_chain p cs t ds c =
    let tried = lists_each p.events (bounds p) _ t c.steps c.most c.given in
    sym c.coded ∙ is_same (codes c.steps) cs (implied (steps_test p c.steps) _ tried (chain_steps c))

-- ---- the table

abbrev alone_test : Reading → Outcome → Bool
alone_test r (solved ts ls) = true
alone_test (plan p) (none cs) = only_test p cs
alone_test (refused m k) (none cs) = true
alone_test r (refusal n l) = true

alone : (s : Side) (r : Reading) {o q : Outcome} → T (alone_test r q) → Right s r o → Same o q → o ≡ q
alone s r t a equal = refl
alone s (plan p) t a (chains {cs} {ds}) = ap none (only_chain p ds t cs a)
alone s (refused m k) t a chains = absurd a

abbrev side_test : Known → Side → Bool
side_test k s = alone_test (read (bytes k.text)) (k.outcome s)

abbrev row_test : Known → Bool
row_test k = both_sides (side_test k)

row_alone : (k : Known) → Memᴰ k table → T (row_test k) → (s : Side) (o : Outcome) → Right s (read (bytes k.text)) o → o ≡ k.outcome s
row_alone k m t s o r =
    let text : List ℕ = bytes k.text in
    let all : Faultless (read text) = record { faultless = λ p e. read_faultless text e } in
    alone s (read text) (each_side (side_test k) t s) r (one_outcome s (read text) all o (k.outcome s) r (known_right k m s).right)

-- the outcome in the table is the only right one of its text and side
pub known_alone : (k : Known) → Memᴰ k table → (s : Side) (o : Outcome) → Right s (read (bytes k.text)) o → o ≡ k.outcome s
unfolding read split digits_of number_of line_form line_step peaked
known_alone k m = row_alone k m (all_each row_test table tt k m)

-- no row is lost
pub known_rows : length table ≡ 25
known_rows = refl
