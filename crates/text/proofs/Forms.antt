-- The form of a line whose fields are numbers, by the word that its first field is.
use mathlib.Core.Path.{◌≡◌, refl, ap, ◌∙◌}
use mathlib.Core.Bool.{Bool, true, false, cond}
use mathlib.Core.List.{List}
use mathlib.Core.Option.{some}
use Prim.Native.Nat.{ℕ}
use lib.IntN.{ℤ}
use Rattle.meaning.specs.Reading.{same, events_word, rule_word, wish_word, Form, wrong, events_form, rule_form, wish_form, form_of}
use Rattle.text.specs.Words.{word_of}
use Rattle.text.specs.declared.Word.{Word}
use Rattle.text.specs.declared.Word.TheVariants.{Events, Rule, Wish, Other}

abbrev form_as : Word → List ℤ → Form
form_as Events vs = events_form vs
form_as Rule vs = rule_form vs
form_as Wish vs = wish_form vs
form_as Other vs = wrong

by_word : (f : List ℕ) (vs : List ℤ) → form_of f (some vs) ≡ form_as (word_of f) vs
unfolding word_of
by_word f vs = at (same f events_word) (same f rule_word) (same f wish_word)
  where
    at : (a b c : Bool)
        → cond a (events_form vs) (cond b (rule_form vs) (cond c (wish_form vs) wrong))
        ≡ form_as (cond a Events (cond b Rule (cond c Wish Other))) vs
    at true b c = refl
    at false true c = refl
    at false false true = refl
    at false false false = refl

module _ (f : List ℕ) (vs : List ℤ) where
  pub events_form_lem : word_of f ≡ Events → form_of f (some vs) ≡ events_form vs
  events_form_lem h = by_word f vs ∙ ap (λ (w : Word). form_as w vs) h

  pub rule_form_lem : word_of f ≡ Rule → form_of f (some vs) ≡ rule_form vs
  rule_form_lem h = by_word f vs ∙ ap (λ (w : Word). form_as w vs) h

  pub wish_form_lem : word_of f ≡ Wish → form_of f (some vs) ≡ wish_form vs
  wish_form_lem h = by_word f vs ∙ ap (λ (w : Word). form_as w vs) h

  pub other_form : word_of f ≡ Other → form_of f (some vs) ≡ wrong
  other_form h = by_word f vs ∙ ap (λ (w : Word). form_as w vs) h
