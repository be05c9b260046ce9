-- Laws of lines: how many bytes one has at most, and the field that a walk over the numbers writes next.
use mathlib.Core.Path.{◌≡◌, refl, ap, ◌∙◌}
use mathlib.Core.List.{List, [], ◌∷◌, ◌++◌, append_assoc}
use Prim.Native.Nat.{ℕ, suc, ◌+◌, ◌*◌, ◌≤◌, ◌<◌}
use native.Mathlib.Omega.{arith}
use native.Mathlib.Numerals.{add-one}
use lib.IntN.{ℤ, pos, negsuc}
use lib.ListN.{length, length-append, drop, get_or}
use lib.Seq.{drop-cons, drop-length}
use mir.Syntax.{w64}
use mir.Val.{SFits}
use Rattle.meaning.specs.Reading.{tab_byte, line_feed}
use Rattle.print.specs.Written.{decimal_z}
use Rattle.print.specs.Lines.{fields, line}
use Rattle.print.proofs.Decimals.{decimal_most}

-- ---- how long a line can be

-- a number of 64 bits has at most 20 bytes
number_most : (z : ℤ) → SFits w64 z → length (decimal_z z) ≤ 20
number_most (pos n) h = let k = h.sfits in omega (arith, decimal_most 18 n (omega arith))
number_most (negsuc n) h = let k = h.sfits in omega (arith, decimal_most 18 (suc n) (omega arith))

abbrev pub AllFit : List ℤ → Type 0
AllFit [] = Unit {0}
AllFit (z ∷ zs) = SFits w64 z × AllFit zs

fields_most : (zs : List ℤ) → AllFit zs → length (fields zs) ≤ 21 * length zs
fields_most [] h = omega arith
fields_most (z ∷ zs) h = omega (arith, number_most z h.0, fields_most zs h.1, length-append (decimal_z z) (fields zs))

-- and so many its word, its numbers with their tabs, and the line feed
pub line_most : (word : List ℕ) (zs : List ℤ) → AllFit zs → length (line word zs) ≤ length word + (21 * length zs + 1)
unfolding line
line_most word zs h =
    omega (arith, length-append word (fields zs ++ (line_feed ∷ [])), length-append (fields zs) (line_feed ∷ []), fields_most zs h)

-- ---- the numbers from i on, and the line feed

abbrev pub rest_of : List ℤ → ℕ → List ℕ
rest_of zs i = fields (drop i zs) ++ (line_feed ∷ [])

-- a line is its word and these, from the first number on
pub line_rest : (word : List ℕ) (zs : List ℤ) → word ++ rest_of zs 0 ≡ line word zs
unfolding line
line_rest word zs = refl

pub rest_more : (zs : List ℤ) (i : ℕ) → i < length zs → rest_of zs i ≡ (tab_byte ∷ decimal_z (get_or zs i (pos 0))) ++ rest_of zs (i + 1)
rest_more zs i h =
    rw (add-one i)
    (ap (λ (l : List ℤ). fields l ++ (line_feed ∷ [])) (drop-cons zs i (pos 0) h)
    ∙ append_assoc (tab_byte ∷ decimal_z (get_or zs i (pos 0))) (fields (drop (suc i) zs)) (line_feed ∷ []))

pub rest_none : (zs : List ℤ) (i : ℕ) → i ≡ length zs → rest_of zs i ≡ line_feed ∷ []
rest_none zs i e = rw e (ap (λ (l : List ℤ). fields l ++ (line_feed ∷ [])) (drop-length zs))
