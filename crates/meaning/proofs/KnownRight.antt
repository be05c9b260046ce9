-- Every outcome in the table of known plans is a right one of its text, on either side: one test that computes, over the reading of the text, every row of
-- times, and the chain.
use mathlib.Core.Path.{◌≡◌, refl}
use mathlib.Core.List.{List, Memᴰ}
use mathlib.Core.Bool.{Bool, true, false, ◌&&◌}
use Prim.Native.Nat.{ℕ}
use lib.Dec.{T, eqb, eqb→eq}
use mir.Facts.{and_yes}
use Rattle.meaning.specs.Plan.{Plan}
use Rattle.meaning.specs.Peak.{peaked}
use Rattle.meaning.specs.Reading.{Reading, plan, refused, read, split, digits_of, number_of, line_form, line_step}
use Rattle.meaning.specs.Outcome.{Outcome, solved, none, refusal, number, place, Right, Areas, long_enough, written, Promise}
use Rattle.meaning.specs.Known.{Known, bytes, table}
use Rattle.meaning.specs.Faultless.{WithoutFault}
use Rattle.scope.specs.declared.Side.{Side}
use Rattle.meaning.proofs.All.{both_sides, each_side, all, all_each}
use Rattle.meaning.proofs.ReadGood.{read_faultless}
use Rattle.meaning.proofs.EveryRow.{solved_test, solved_right}
use Rattle.meaning.proofs.ChainTest.{chain_test, chain_right}

abbrev right_test : Side → Reading → Outcome → Bool
right_test s (plan p) (solved ts ls) = solved_test s p ts ls
right_test s (plan p) (none cs) = chain_test p cs
right_test s (plan p) (refusal n l) = false
right_test s (refused m k) (solved ts ls) = false
right_test s (refused m k) (none cs) = false
right_test s (refused m k) (refusal n l) = eqb n m && eqb l k

is_right : (s : Side) (r : Reading) (o : Outcome) → ((p : Plan) → r ≡ plan p → WithoutFault p) → T (right_test s r o) → Right s r o
is_right s (plan p) (solved ts ls) f h = solved_right s p ts ls (f p refl) h
is_right s (plan p) (none cs) f h = chain_right p cs h
is_right s (plan p) (refusal n l) f h = h
is_right s (refused m k) (solved ts ls) f h = h
is_right s (refused m k) (none cs) f h = h
is_right s (refused m k) (refusal n l) f h = let b = and_yes (eqb n m) (eqb l k) h in (eqb→eq n m b.0, eqb→eq l k b.1)

-- so the promise holds of it, for all areas that are long enough
promised : (s : Side) (text : List ℕ) (o : Outcome) → Right s (read text) o → (a : Areas) → long_enough a ≡ true →
    Promise s text a (written o a) (number o) (place o)
promised s text o r a e = record { outcome = o; right = rw e r; numbered = refl; placed = refl; writes = refl }

pub record RightOutcome (s : Side) (text : List ℕ) (o : Outcome) : Type 0 where
  pub right : Right s (read text) o
  pub promise : (a : Areas) → long_enough a ≡ true → Promise s text a (written o a) (number o) (place o)

-- ---- the table

abbrev side_test : Known → Side → Bool
side_test k s = right_test s (read (bytes k.text)) (k.outcome s)

abbrev row_test : Known → Bool
row_test k = both_sides (side_test k)

row_right : (k : Known) → T (row_test k) → (s : Side) → RightOutcome s (bytes k.text) (k.outcome s)
row_right k h s =
    let text : List ℕ = bytes k.text in
    let r : Right s (read text) (k.outcome s) = is_right s (read text) (k.outcome s) (λ p e. read_faultless text e) (each_side (side_test k) h s) in
    record { right = r; promise = promised s text (k.outcome s) r }

-- every row passes
table_passes : T (all row_test table)
unfolding read split digits_of number_of line_form line_step peaked
table_passes = tt

pub known_right : (k : Known) → Memᴰ k table → (s : Side) → RightOutcome s (bytes k.text) (k.outcome s)
known_right k m = row_right k (all_each row_test table table_passes k m)
