-- The lines that are left to print from a place on: the first of them, and the others behind it.
use mathlib.Core.Path.{◌≡◌, refl}
use mathlib.Core.List.{List, [], ◌∷◌, ◌++◌}
use Prim.Native.Nat.{ℕ, ◌+◌, ◌<◌}
use native.Mathlib.Omega.{arith}
use native.Mathlib.Numerals.{add-one}
use lib.IntN.{ℤ, pos}
use lib.ListN.{length, drop, get_or}
use lib.Seq.{drop-cons}
use Rattle.meaning.specs.Plan as M
use Rattle.meaning.specs.Plan.{Plan, rule, wish, nothing, wish_count}
use Rattle.meaning.specs.Known.{bytes}
use Rattle.meaning.specs.Faultless.{Levelled}
use Rattle.plan.specs.Held.{levels_in}
use Rattle.print.specs.Lines.{line}
use Rattle.forms.specs.Printed.{at_lines, level_lines, step_line, step_lines}
use Rattle.codes.specs.Codes.{named}

-- ---- times and steps

pub times_more : (ts : List ℤ) (e : ℕ) → e < length ts →
    at_lines e (drop e ts) ≡ line (bytes "at") (pos e ∷ get_or ts e (pos 0) ∷ []) ++ at_lines (e + 1) (drop (e + 1) ts)
times_more ts e h = rw (add-one e, drop-cons ts e (pos 0) h)

pub steps_more : (p : Plan) (cs : List ℕ) (i : ℕ) → i < length cs →
    step_lines p (drop i cs) ≡ step_line (named p (get_or cs i 0)) ++ step_lines p (drop (i + 1) cs)
steps_more p cs i h = rw (add-one i, drop-cons cs i 0 h)

-- ---- levels

module _ (ls : List ℕ) (k w : ℕ) (rs : List M.Record) (h : k < length rs) (f : Levelled (get_or rs k nothing)) where
  next : drop k rs ≡ get_or rs k nothing ∷ drop (k + 1) rs
  next = rw (add-one k) (drop-cons rs k nothing h)

  -- the next record has no levels, so it is a rule
  pub level_none : length (levels_in (get_or rs k nothing)) ≡ 0 →
      (level_lines k (drop k rs) (drop w ls) ≡ level_lines (k + 1) (drop (k + 1) rs) (drop w ls)) × (wish_count (drop k rs) ≡ wish_count (drop (k + 1) rs))
  level_none e = rw next (go (get_or rs k nothing) f e)
    where
      go : (r : M.Record) → Levelled r → length (levels_in r) ≡ 0 → let others = drop (k + 1) rs in
          (level_lines k (r ∷ others) (drop w ls) ≡ level_lines (k + 1) others (drop w ls)) × (wish_count (r ∷ others) ≡ wish_count others)
      go (rule a b lo hi) g e = (rw (add-one k), refl)
      go (wish a b lo vs) g e = absurd (omega (arith, g.some))

  -- it has some, so it is a wish, and has the next level
  pub level_more : (length (levels_in (get_or rs k nothing)) ≡ 0 → ⊥) → w + wish_count (drop k rs) ≡ length ls →
      (w < length ls)
      × (level_lines k (drop k rs) (drop w ls)
      ≡ line (bytes "level") (pos k ∷ pos (get_or ls w 0) ∷ []) ++ level_lines (k + 1) (drop (k + 1) rs) (drop (w + 1) ls))
      × (w + 1 + wish_count (drop (k + 1) rs) ≡ length ls)
  level_more n e = rw next (go (get_or rs k nothing) n (rw next at e))
    where
      go : (r : M.Record) → (length (levels_in r) ≡ 0 → ⊥) → let others = drop (k + 1) rs in w + wish_count (r ∷ others) ≡ length ls →
          (w < length ls)
          × (level_lines k (r ∷ others) (drop w ls)
          ≡ line (bytes "level") (pos k ∷ pos (get_or ls w 0) ∷ []) ++ level_lines (k + 1) others (drop (w + 1) ls))
          × (w + 1 + wish_count others ≡ length ls)
      go (rule a b lo hi) n e = absurd (n refl)
      go (wish a b lo vs) n e =
          let l : w < length ls = omega arith in
          (l, rw (add-one k, add-one w, drop-cons ls w 0 l), omega arith)
