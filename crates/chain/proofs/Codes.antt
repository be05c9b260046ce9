-- Writing the codes along the notes: under way the front of the area holds the codes passed, which with those to come are
-- the whole way.
use mathlib.Core.Path.{◌≡◌, sym, ap, ◌∙◌}
use mathlib.Core.List.{List, [], ◌∷◌, ◌++◌}
use Prim.Native.Nat.{ℕ, zero, suc, ◌+◌, ◌≤◌, ◌<◌}
use native.Mathlib.Omega.{arith}
use lib.ListN.{length, length-append, get_or, set, drop}
use lib.Seq.{append_snoc, drop-cons, set_at}
use Rattle.meaning.specs.Outcome.{over}
use Rattle.chain.specs.declared.Note.{Note}
use Rattle.chain.specs.Marks.{note_at, codes_from}

-- one more at the front
over_next : (xs old : List ℕ) (i v : ℕ) → length xs ≡ i → i < length old → set (over xs old) i v ≡ over (xs ++ (v ∷ [])) old
over_next xs old i v e h =
    let l : length xs < length old = omega arith in
    let n : suc (length xs) ≡ length (xs ++ (v ∷ [])) = simp length-append (omega arith) in
    ap (λ (r : List ℕ). set (xs ++ r) i v) (drop-cons old (length xs) 0 l)
    ∙ set_at xs (get_or old (length xs) 0) (drop (suc (length xs)) old) v i e
    ∙ sym (append_snoc xs v (drop (suc (length xs)) old))
    ∙ ap (λ (k : ℕ). (xs ++ (v ∷ [])) ++ drop k old) n

module _ (nx : List Note) (from c : ℕ) (before : List ℕ) where
  -- after i steps, at event e
  pub record Putting (i e : ℕ) (out : List ℕ) : Type 0 where
    pub done : List ℕ
    pub left : ℕ
    pub count : length done ≡ i
    pub sum : i + left ≡ c
    pub whole : done ++ codes_from nx e left ≡ codes_from nx from c
    pub holds : out ≡ over done before

  pub put_step : (i e : ℕ) (out : List ℕ) → i < c → c ≤ length before → Putting i e out → Putting (i + 1) (note_at nx e).next (set out i (note_at nx e).code)
  put_step i e out h r p = at p.left p.sum p.whole
    where
      at : (left : ℕ) → i + left ≡ c → p.done ++ codes_from nx e left ≡ codes_from nx from c
          → Putting (i + 1) (note_at nx e).next (set out i (note_at nx e).code)
      at zero s w = absurd (omega arith)
      at (suc left) s w = record {
        done = p.done ++ ((note_at nx e).code ∷ []);
        left = left;
        count = simp length-append (omega (arith, p.count));
        sum = omega arith;
        whole = append_snoc p.done (note_at nx e).code (codes_from nx (note_at nx e).next left) ∙ w;
        holds = ap (λ (l : List ℕ). set l i (note_at nx e).code) p.holds ∙ over_next p.done before i (note_at nx e).code p.count (omega arith);
      }
