-- Rows of replies: how two compare, and what one more question does. By the list, and by the two replies at its front.
use mathlib.Core.Path.{◌≡◌, refl, ap, sym}
use mathlib.Core.List.{List, [], ◌∷◌, ◌++◌, map}
use mathlib.Core.Bool.{Bool, true, false, true≢false}
use lib.Dec.{T}
use Rattle.meaning.specs.Ladder.{better}

-- the three ways in which two rows compare
pub data Compared (x y : List Bool) : Type 0 where
  ahead : T (better x y) → Compared x y
  same : x ≡ y → Compared x y
  behind : T (better y x) → Compared x y

both : (a b : Bool) {x y : List Bool} → Compared x y → Compared (a ∷ x) (b ∷ y)
both true true (ahead h) = ahead h
both true true (same e) = same (ap {B = List Bool} (λ z. true ∷ z) e)
both true true (behind h) = behind h
both true false c = ahead tt
both false true c = behind tt
both false false (ahead h) = ahead h
both false false (same e) = same (ap {B = List Bool} (λ z. false ∷ z) e)
both false false (behind h) = behind h

-- one of two rows with one more reply is better: it was so before, or they were the same and the last reply decides
pub data Last (x y : List Bool) (a b : Bool) : Type 0 where
  earlier : T (better x y) → Last x y a b
  final : x ≡ y → a ≡ true → b ≡ false → Last x y a b

behind_same : (c : Bool) {x y : List Bool} {a b : Bool} → Last x y a b → Last (c ∷ x) (c ∷ y) a b
behind_same true (earlier k) = earlier k
behind_same true (final e p q) = final (ap {B = List Bool} (λ z. true ∷ z) e) p q
behind_same false (earlier k) = earlier k
behind_same false (final e p q) = final (ap {B = List Bool} (λ z. false ∷ z) e) p q

cons_last : (c d : Bool) {x y : List Bool} (X Y : List Bool) {a b : Bool} → (T (better X Y) → Last x y a b) →
    T (better (c ∷ X) (d ∷ Y)) → Last (c ∷ x) (d ∷ y) a b
cons_last true true X Y f h = behind_same true (f h)
cons_last true false X Y f h = earlier tt
cons_last false true X Y f h = absurd h
cons_last false false X Y f h = behind_same false (f h)

last_one : (a b : Bool) → T (better (a ∷ []) (b ∷ [])) → Last [] [] a b
last_one true true h = absurd h
last_one true false h = final refl refl refl
last_one false true h = absurd h
last_one false false h = absurd h

-- each one of a list
abbrev pub All : {Q : Type 0} → (Q → Type 0) → List Q → Type 0
All C [] = Unit {0}
All C (q ∷ qs) = C q × All C qs

pub all_append : {Q : Type 0} (C : Q → Type 0) (s t : List Q) → All C s → All C t → All C (s ++ t)
all_append C [] t a b = b
all_append C (x ∷ s) t a b = (a.0, all_append C s t a.1 b)

module _ {Q : Type 0} (f g : Q → Bool) where
  pub compared : (qs : List Q) → Compared (map f qs) (map g qs)
  compared [] = same refl
  compared (q ∷ qs) = both (f q) (g q) (compared qs)

  pub at_last : (qs : List Q) (q : Q) → T (better (map f (qs ++ q ∷ [])) (map g (qs ++ q ∷ []))) → Last (map f qs) (map g qs) (f q) (g q)
  at_last [] q h = last_one (f q) (g q) h
  at_last (r ∷ qs) q h = cons_last (f r) (g r) (map f (qs ++ q ∷ [])) (map g (qs ++ q ∷ [])) (at_last qs q) h

  -- what is better stays better, whatever is asked afterwards
  pub still : (qs rs : List Q) → T (better (map f qs) (map g qs)) → T (better (map f (qs ++ rs)) (map g (qs ++ rs)))
  still [] rs h = absurd h
  still (q ∷ qs) rs h = go (f q) (g q) (map f qs) (map g qs) (map f (qs ++ rs)) (map g (qs ++ rs)) (still qs rs) h
    where
      go : (a b : Bool) (x y X Y : List Bool) → (T (better x y) → T (better X Y)) → T (better (a ∷ x) (b ∷ y)) → T (better (a ∷ X) (b ∷ Y))
      go true true x y X Y k h = k h
      go true false x y X Y k h = tt
      go false true x y X Y k h = h
      go false false x y X Y k h = k h

  -- the last reply decides
  pub decides : (qs : List Q) (q : Q) → map f qs ≡ map g qs → f q ≡ true → g q ≡ false → T (better (map f (qs ++ q ∷ [])) (map g (qs ++ q ∷ [])))
  decides [] q e p n = rw (p, n) tt
  decides (r ∷ qs) q e p n = go (f r) (g r) (map f (qs ++ q ∷ [])) (map g (qs ++ q ∷ [])) (decides qs q (cc) p n) (cc)
    where
      go : (a b : Bool) (x y : List Bool) → T (better x y) → a ≡ b → T (better (a ∷ x) (b ∷ y))
      go true true x y k h = k
      go true false x y k h = tt
      go false true x y k h = absurd (true≢false (sym h))
      go false false x y k h = k

  -- nothing is better than yes throughout
  pub no_better : {C : Q → Type 0} (qs : List Q) → All C qs → ((q : Q) → C q → g q ≡ true) → ¬ T (better (map f qs) (map g qs))
  no_better [] al y h = h
  no_better (q ∷ qs) al y h = go (f q) (g q) (y q al.0) (map f qs) (map g qs) (no_better qs al.1 y) h
    where
      go : (a b : Bool) → b ≡ true → (x z : List Bool) → ¬ T (better x z) → T (better (a ∷ x) (b ∷ z)) → ⊥
      go true true e x z n h = n h
      go false true e x z n h = h
      go a false e x z n h = true≢false (sym e)

  -- f says no and g yes, to one with C
  abbrev pub Against : (Q → Type 0) → Type 0
  Against C = (r : Q) × C r × (f r ≡ false) × (g r ≡ true)

  -- where f does not win, and f says yes and g no at q, f says no and g yes at one before
  pub before : {C : Q → Type 0} (P : List Q) (q : Q) (R : List Q) → All C P → ¬ T (better (map f (P ++ q ∷ R)) (map g (P ++ q ∷ R))) →
      f q ≡ true → g q ≡ false → Against C
  before [] q R al n p m = absurd (n (rw (p, m) tt))
  before {C} (r ∷ P) q R al n p m = go (f r) (g r) refl refl (map f (P ++ q ∷ R)) (map g (P ++ q ∷ R)) n (λ n'. before P q R al.1 n' p m)
    where
      go : (a b : Bool) → f r ≡ a → g r ≡ b → (x y : List Bool) → ¬ T (better (a ∷ x) (b ∷ y)) → (¬ T (better x y) → Against C) → Against C
      go true true e d x y n k = k n
      go true false e d x y n k = absurd (n tt)
      go false true e d x y n k = (r, al.0, e, d)
      go false false e d x y n k = k n

  -- equal rows, equal replies
  pub at : (P : List Q) (q : Q) (R : List Q) → map f (P ++ q ∷ R) ≡ map g (P ++ q ∷ R) → f q ≡ g q
  at [] q R e = cc
  at (r ∷ P) q R e = at P q R (cc)
