-- A text in pieces, as the walk meets them: the numbers of a line by the places of its tabs, and the lines by the places of their line
-- feeds. Each step is held to the definition.
use Prim.Native.Nat.{ℕ, ◌+◌, ◌≤◌, ◌<◌}
use mathlib.Core.Path.{◌≡◌, refl, sym, ap, ◌∙◌}
use mathlib.Core.Bool.{cond, ◌&&◌}
use mathlib.Core.Option.{Option, none, some}
use mathlib.Core.List.{List, [], ◌∷◌, ◌++◌, append_assoc, append-nil}
use native.Mathlib.Omega.{arith}
use lib.Dec.{eqb, ltb}
use lib.IntN.{ℤ}
use lib.ListN.{length, take, drop}
use lib.Seq.{take-length}
use Rattle.text.specs.Bytes.{until, after}
use Rattle.text.specs.Words.{word_of}
use Rattle.text.specs.declared.Word.{Word}
use Rattle.text.specs.declared.Word.TheVariants.{Events, Rule, Wish, Other}
use Rattle.text.proofs.Cuts.{after_step_lem, after_end, split_until}
use Rattle.text.proofs.Forms.{events_form_lem, rule_form_lem, wish_form_lem, other_form}
use Rattle.meaning.specs.Plan.{Plan}
use Rattle.meaning.specs.Reading.{tab_byte, line_feed, split, number_of, numbers, join, Form, wrong, form_of, line_form, line_step}
use Rattle.meaning.specs.Reading.{read_pieces, after_step, plan, refused}
use Rattle.meaning.specs.Numbers.{wrong_form_number}
use Rattle.line.specs.Lines.{word_form}
use Rattle.fields.specs.Fields.{first_field, field_end}
use Rattle.fields.proofs.Walks.{fields_step}

-- ---- the numbers seen so far, and those that are left

abbrev pub onto : List ℤ → Option (List ℤ) → Option (List ℤ)
onto ws none = none
onto ws (some vs) = some (ws ++ vs)

onto_join : (ws : List ℤ) (v : ℤ) (x : Option (List ℤ)) → onto ws (join (some v) x) ≡ onto (ws ++ (v ∷ [])) x
onto_join ws v none = refl
onto_join ws v (some vs) = ap some (sym (append_assoc ws (v ∷ []) vs))

module _ (s : List ℕ) (p : ℕ) (h : p < length s) (ws : List ℤ) (all : Option (List ℤ)) (seen : all ≡ onto ws (numbers (after tab_byte (drop p s)))) where
  pub scan_bad : number_of (first_field (drop (p + 1) s)) ≡ none → all ≡ none
  scan_bad d = seen ∙ rw (fields_step s p h, d)

  pub scan_good : (v : ℤ) → number_of (first_field (drop (p + 1) s)) ≡ some v
      → all ≡ onto (ws ++ (v ∷ [])) (numbers (after tab_byte (drop (field_end s p) s)))
  scan_good v d = seen ∙ rw (fields_step s p h, d) (onto_join ws v (numbers (after tab_byte (drop (field_end s p) s))))

pub scan_start : (x : Option (List ℤ)) → x ≡ onto [] x
scan_start none = refl
scan_start (some vs) = refl

pub scan_end : (s : List ℕ) (p : ℕ) → length s ≤ p → (ws : List ℤ) (all : Option (List ℤ)) → all ≡ onto ws (numbers (after tab_byte (drop p s)))
    → all ≡ some ws
scan_end s p q ws all seen = seen ∙ rw (after_end tab_byte s p q, append-nil)

-- ---- lines

-- the numbers of a line
abbrev pub numbers_in : List ℕ → Option (List ℤ)
numbers_in s = numbers (after tab_byte (drop (until tab_byte s) s))

abbrev fields_form : List (List ℕ) → Form
fields_form [] = wrong
fields_form (w ∷ fs) = form_of w (numbers fs)

pub form_cut : (s : List ℕ) → line_form s ≡ form_of (first_field s) (numbers_in s)
unfolding line_form
form_cut s = ap fields_form (split_until tab_byte s)

pub word_form_lem : (w : List ℕ) (vs : List ℤ) → form_of w (some vs) ≡ word_form (word_of w) vs
word_form_lem w vs = go (word_of w) refl
  where
    go : (x : Word) → word_of w ≡ x → form_of w (some vs) ≡ word_form x vs
    go Events e = events_form_lem w vs e
    go Rule e = rule_form_lem w vs e
    go Wish e = wish_form_lem w vs e
    go Other e = other_form w vs e

-- a line that another piece follows
more : (line : ℕ) (p : Plan) (l : List ℕ) (ps : List (List ℕ)) (b : ℕ) (xs : List ℕ) → ps ≡ split b xs
    → read_pieces (l ∷ ps) line p ≡ after_step line (λ (q : Plan). read_pieces ps (line + 1) q) (line_step line p (line_form l))
more line p l [] b xs e = absurd (omega (arith, ap length (e ∙ split_until b xs)))
more line p l (m ∷ ms) b xs e = refl

module _ (rest : List ℕ) (line : ℕ) (p : Plan) where
  -- a line, which ends at k
  pub pieces_step : (k : ℕ) → k ≡ until line_feed rest → k < length rest → read_pieces (split line_feed rest) line p
      ≡ after_step line (λ (r : Plan). read_pieces (split line_feed (drop (k + 1) rest)) (line + 1) r) (line_step line p (line_form (take k rest)))
  pieces_step k q h =
      rw (split_until line_feed rest, ← q, after_step_lem line_feed rest k h)
      (more line p (take k rest) (split line_feed (drop (k + 1) rest)) line_feed (drop (k + 1) rest) refl)

  -- what follows the last line feed
  pub pieces_last : until line_feed rest ≡ length rest
      → read_pieces (split line_feed rest) line p ≡ cond (eqb (length rest) 0 && ltb 1 line) (plan p) (refused wrong_form_number line)
  pieces_last q = rw (split_until line_feed rest, q, take-length, after_end line_feed rest (length rest) (omega arith))
