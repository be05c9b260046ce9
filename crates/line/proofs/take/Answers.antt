-- `line::take` meets its contract: by the word.
use mathlib.Core.Path.{◌≡◌, refl, sym, ap, subst, ◌∙◌}
use mathlib.Core.Bool.{false}
use mathlib.Core.List.{List}
use Prim.Native.Nat.{ℕ}
use native.Mathlib.Omega.{arith}
use lib.IntN.{ℤ}
use Rattle.std.specs.Prelude.{Result, Err}
use Rattle.scope.specs.declared.Fault.{Fault}
use Rattle.scope.specs.declared.Fault.TheVariants.{WrongForm}
use Rattle.text.specs.declared.Word.{Word}
use Rattle.text.specs.declared.Word.TheVariants.{Events, Rule, Wish, Other}
use Rattle.fields.specs.declared.Line.{Line}
use Rattle.faults.specs.declared.SoFar.{SoFar}
use Rattle.line.specs.declared.Effect.{Effect}
use Rattle.line.specs.Lines.{Says, Whole, word_form, is_wish_word}
use Rattle.line.proofs.Judges as J
use Rattle.line.proofs.Effects.{events_says, rule_says, wish_says}
use Rattle.line.proofs.take.Goals as goal

-- the numbers of the line, and the area when it began
module _ (l : Line) (s : SoFar) (area : List ℕ) (vs : List ℤ) (before : List ℕ) (w : Whole vs l s before area) where
  -- what the line gives if its word is x
  abbrev By : Word → List ℕ → Result Effect Fault → Type 0
  By x start e = Says l.number (word_form x vs) s.events s.records s.levels start area e

  by_word : (x : Word) (e : Result Effect Fault) → l.word ≡ x → By x before e → By l.word before e
  by_word x e q h = subst (λ (y : Word). By y before e) (sym q) h

  -- a line that is no wish stores nothing
  unstored : (x : Word) (e : Result Effect Fault) → l.word ≡ x → is_wish_word x ≡ false → By x area e → By l.word before e
  unstored x e q n h = by_word x e q (subst (λ (start : List ℕ). By x start e) (w.stored.other (ap is_wish_word q ∙ n)) h)

pub returns-in-Events : goal.returns-in-Events
returns-in-Events c = λ vs before w.
    let a = c.args in
    unstored a.line a.plan a.levels.now vs before w Events c.take_events.result c.in-Events.is refl
    (events_says a.line vs w.numbered a.plan a.levels.now c.take_events.result c.take_events.ensures)

pub returns-in-Rule : goal.returns-in-Rule
returns-in-Rule c = λ vs before w.
    let a = c.args in
    unstored a.line a.plan a.levels.now vs before w Rule c.take_rule.result c.in-Rule.is refl
    (rule_says a.line vs w.numbered a.plan c.requires.1 a.levels.now c.take_rule.result c.take_rule.ensures)

pub returns-in-Wish : goal.returns-in-Wish
returns-in-Wish c = λ vs before w.
    let a = c.args in
    by_word a.line a.plan a.levels.now vs before w Wish c.take_wish.result c.in-Wish.is
    (wish_says vs a.line w.numbered a.plan before a.levels.now w.stored (ap is_wish_word c.in-Wish.is) c.requires.2
    c.take_wish.result c.take_wish.ensures)

pub returns-in-Other : goal.returns-in-Other
returns-in-Other c = λ vs before w.
    let a = c.args in
    by_word a.line a.plan a.levels.now vs before w Other (Err WrongForm) c.in-Other.is
    (record { some = omega arith; step = λ p k. J.step_wrong a.line.number p; above = w.stored.above })
