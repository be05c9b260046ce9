-- The area while a line is read, a number at a time: what `store_level` does keeps `Stored`.
use mathlib.Core.Path.{◌≡◌, refl, ◌∙◌}
use mathlib.Core.Bool.{Bool, true, false}
use mathlib.Core.List.{List, [], ◌∷◌, ◌++◌, map, map-append}
use Prim.Native.Nat.{ℕ, suc, ◌+◌, ◌-◌, ◌≤◌, ◌<◌}
use native.Mathlib.Omega.{arith}
use borrow.Author.Tests.{leb-true, leb-false, ltb-true, ltb-false}
use lib.Dec.{leb, ltb}
use lib.IntN.{ℤ}
use lib.ListN.{length, drop, set, length-set, length-append, length-map, length-drop, drop_of_length-le}
use lib.Seq.{sets, drop-append-le}
use Rattle.meaning.specs.Plan.{most_levels_together}
use Rattle.text.specs.declared.Word.{Word}
use Rattle.plan.proofs.Padded.{kept_above}
use Rattle.fields.specs.declared.Line.{Line}
use Rattle.fields.specs.Fields.{Numbered}
use Rattle.line.specs.Effects.{level_of}
use Rattle.line.specs.Lines.{is_wish_word, with_level, Stored}

-- one number more at the end of a run of stores
sets_more : (xs l : List ℕ) (i x : ℕ) → set (sets l i xs) (i + length xs) x ≡ sets l i (xs ++ (x ∷ []))
sets_more [] l i x = let q : i + 0 ≡ i = omega arith in rw q
sets_more (y ∷ xs) l i x =
    let q : i + suc (length xs) ≡ suc i + length xs = omega arith in
    rw q (sets_more xs (set l i y) (suc i) x)

-- ---- the area

-- before the first number
pub stored_none : (w : Word) (used : ℕ) (area : List ℕ) → Stored w [] used area area
stored_none w used area = record { long = refl; above = λ i _. refl; other = λ _. refl; levels = λ _ _. refl }

module _ {vs : List ℤ} {l : Line} {used : ℕ} {before after : List ℕ} (n : Numbered vs l) (s : Stored l.word vs used before after) (v : ℤ) where
  abbrev place : ℕ
  place = used + (l.count - 3)

  abbrev ls : List ℕ
  ls = map level_of (drop 3 vs)

  more : length (vs ++ (v ∷ [])) ≡ l.count + 1
  more = length-append vs (v ∷ []) ∙ omega (arith, n.count)

  ls_count : length ls ≡ l.count - 3
  ls_count = length-map (drop 3 vs) level_of ∙ rw n.count (length-drop 3 vs)

  -- the number is no level
  plain : is_wish_word l.word ≡ false → Stored l.word (vs ++ (v ∷ [])) used before after
  plain w = record { long = s.long; above = s.above; other = s.other; levels = λ q. let z : ◌≡◌ {A = ℕ} 0 1 = cc in absurd (omega arith) }

  early : l.count < 3 → Stored l.word (vs ++ (v ∷ [])) used before after
  early h = record {
    long = s.long;
    above = s.above;
    other = s.other;
    levels = λ q fits.
        let none = drop_of_length-le vs {i = 3} (omega (arith, n.count)) in
        rw (drop_of_length-le (vs ++ (v ∷ [])) {i = 3} (omega (arith, more))) (rw none at (s.levels q (omega (arith, fits, more, n.count))));
  }

  -- there is no room for it
  full : most_levels_together ≤ place → 3 ≤ l.count → Stored l.word (vs ++ (v ∷ [])) used before after
  full h three = record { long = s.long; above = s.above; other = s.other; levels = λ q fits. absurd (omega (arith, fits, more)) }

  -- it is stored behind the levels before it
  put : place < most_levels_together → 3 ≤ l.count → is_wish_word l.word ≡ true
      → Stored l.word (vs ++ (v ∷ [])) used before (set after place (level_of v))
  put h three w = record {
    long = length-set after place (level_of v) ∙ s.long;
    above = kept_above most_levels_together after before place (level_of v) h s.above;
    other = λ q. let z : ◌≡◌ {A = ℕ} 0 1 = cc in absurd (omega arith);
    levels = λ q fits.
        let so_far : after ≡ sets before used ls = s.levels q (omega (arith, n.count)) in
        let at : used + length ls ≡ place = omega (arith, ls_count) in
        let last = drop-append-le 3 vs (v ∷ []) (omega (arith, n.count)) in
        rw (last, map-append level_of (drop 3 vs) (v ∷ []), so_far, ← at) (sets_more ls before used (level_of v));
  }

  pub stored_more : Stored l.word (vs ++ (v ∷ [])) used before (with_level l used v after)
  stored_more = go (is_wish_word l.word) (leb 3 l.count) (ltb place most_levels_together) refl refl refl
    where
      go : (x y z : Bool) → is_wish_word l.word ≡ x → leb 3 l.count ≡ y → ltb place most_levels_together ≡ z
          → Stored l.word (vs ++ (v ∷ [])) used before (with_level l used v after)
      go false y z p q r = rw p (plain p)
      go true false z p q r = rw (p, q) (early (leb-false 3 l.count q))
      go true true false p q r = rw (p, q, r) (full (ltb-false place most_levels_together r) (leb-true 3 l.count q))
      go true true true p q r = rw (p, q, r) (put (ltb-true place most_levels_together r) (leb-true 3 l.count q) p)
