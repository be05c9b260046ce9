-- One word alone asks for the earliest times: by whether it is the same, byte for byte.
use mathlib.Core.Path.{◌≡◌, refl, sym, ap, subst}
use mathlib.Core.Logic.{◌↔◌}
use mathlib.Core.Bool.{Bool, true, false, cond}
use mathlib.Core.List.{List}
use Prim.Native.Nat.{ℕ}
use native.Mathlib.Omega.{arith}
use lib.Dec.{T}
use Rattle.meaning.specs.Reading.{same}
use Rattle.meaning.proofs.All.{is_same}
use Rattle.scope.specs.declared.Side.TheVariants.{Latest, Earliest}
use Rattle.asked.specs.Asked.{earliest_word, side_of}

pub asks_earliest : (word : List ℕ) → (side_of word ≡ Earliest) ↔ (word ≡ earliest_word)
asks_earliest word = (λ e. only (same word earliest_word) refl e, λ e. ap side_of e)
  where
    only : (b : Bool) → same word earliest_word ≡ b → cond b Earliest Latest ≡ Earliest → word ≡ earliest_word
    only true s e = is_same word earliest_word (subst T (sym s) tt)
    only false s e = absurd (let z : ◌≡◌ {A = ℕ} 0 1 = cc in omega arith)
