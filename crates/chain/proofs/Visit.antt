-- Following the notes from b to a and putting each event into a set: under way the set is that of the events passed, which with those
-- to come are the events of the whole way.
use mathlib.Core.Path.{◌≡◌, refl, sym, ap, ◌∙◌, subst}
use mathlib.Core.Bool.{Bool, true, false}
use mathlib.Core.List.{List, [], ◌∷◌, ◌++◌, Memᴰ}
use Prim.Native.Nat.{ℕ, suc}
use native.Mathlib.Omega.{arith}
use native.Mathlib.Decide.{ℕ_discrete}
use lib.Dec.{T}
use lib.ListN.{length, length-map}
use lib.Seq.{append_snoc}
use lib.Count.{ones}
use Rattle.eventset.specs.Sets.{member, put_in}
use Rattle.eventset.proofs.Laws.{put_same, put_other, put_keeps, count_fresh, none_member, none_count}
use Rattle.eventset.proofs.Listed.{set_of, set_snoc}
use Rattle.meaning.specs.Bounds.{Bound, Leads, stop, step, distinct, ends}
use Rattle.meaning.proofs.Distinct.{distinct_head, distinct_tail, distinct_apart}
use Rattle.meaning.proofs.Chains.{last_entered}
use Rattle.chain.specs.declared.Note.{Note}
use Rattle.chain.specs.Marks.{note_at, Path, Events}
use Rattle.chain.proofs.Marks.{not_both}

-- ---- the set of a list's events

set_all : (xs : List ℕ) (e : ℕ) → Memᴰ e xs → member (set_of xs) e ≡ true
set_all [] e i = elim i [ ]
set_all (x ∷ xs) e (mathlib.Core.List.Memᴰ.head p) = ap (member (set_of (x ∷ xs))) p ∙ put_same (set_of xs) x
set_all (x ∷ xs) e (mathlib.Core.List.Memᴰ.tail i) = put_keeps (set_of xs) x e (set_all xs e i)

set_only : (xs : List ℕ) (e : ℕ) → member (set_of xs) e ≡ true → Memᴰ e xs
set_only [] e h = absurd (not_both h (none_member e))
set_only (x ∷ xs) e h = at (ℕ_discrete e x) (set_only xs e)
  where
    at : Dec (e ≡ x) → (member (set_of xs) e ≡ true → Memᴰ e xs) → Memᴰ e (x ∷ xs)
    at (yes p) rest = mathlib.Core.List.Memᴰ.head p
    at (no n) rest = mathlib.Core.List.Memᴰ.tail (rest (sym (put_other (set_of xs) x e n) ∙ h))

set_lacks : (xs : List ℕ) (e : ℕ) → (Memᴰ e xs → ⊥) → member (set_of xs) e ≡ false
set_lacks xs e n = at (member (set_of xs) e) refl
  where
    at : (t : Bool) → member (set_of xs) e ≡ t → t ≡ false
    at true p = absurd (n (set_only xs e p))
    at false p = refl

set_count : (xs : List ℕ) → T (distinct xs) → ones (set_of xs) ≡ length xs
set_count [] d = none_count
set_count (x ∷ xs) d = omega (arith, count_fresh (set_of xs) x (set_lacks xs x (distinct_head x xs d)), set_count xs (distinct_tail x xs d))

-- ---- the first bound of a way

leads_none : {e a : ℕ} → Leads e [] a → e ≡ a
leads_none stop = refl

leads_first : {e a : ℕ} {x : Bound} {xs : List Bound} → Leads e (x ∷ xs) a → (x.start ≡ e) × Leads x.end xs a
leads_first (step l) = (refl, l)

-- ---- under way

module _ (nx : List Note) (a b : ℕ) (steps : List Bound) where
  pub record Passing (s e : ℕ) : Type 0 where
    pub done : List ℕ
    pub rest : List Bound
    pub path : Path nx a e rest
    pub whole : done ++ (e ∷ ends rest) ≡ b ∷ ends steps
    pub simple : T (distinct (b ∷ ends steps))
    pub set : s ≡ set_of done

  pub record Next (s e : ℕ) : Type 0 where
    pub fresh : member s e ≡ false
    pub then : Passing (put_in s e) (note_at nx e).next

  pub pass_start : Path nx a b steps → Passing 0 b
  pass_start p = record { done = []; rest = steps; path = p; whole = refl; simple = p.simple; set = refl }

  pub pass : (s e : ℕ) → (e ≡ a → ⊥) → Passing s e → Next s e
  pass s e n p = at p.rest p.path p.whole
    where
      at : (rest : List Bound) → Path nx a e rest → p.done ++ (e ∷ ends rest) ≡ b ∷ ends steps → Next s e
      at [] q w = absurd (n (leads_none q.leads))
      at (x ∷ xs) q w =
          let f = leads_first q.leads in
          let is : (note_at nx e).next ≡ x.end = ap (λ (y : ℕ). (note_at nx y).next) (sym f.0) ∙ (q.noted x (mathlib.Core.List.Memᴰ.head refl)).to in
          let apart = subst (λ (l : List ℕ). T (distinct l)) (sym w) p.simple in
          let new : Memᴰ e p.done → ⊥ = λ i. distinct_apart p.done (e ∷ ends (x ∷ xs)) apart e i (mathlib.Core.List.Memᴰ.head refl) in
          record {
            fresh = ap (λ (y : ℕ). member y e) p.set ∙ set_lacks p.done e new;
            then =
                subst (λ (y : ℕ). Passing (put_in s e) y) (sym is)
                (record {
                  done = p.done ++ (e ∷ []);
                  rest = xs;
                  path = record { leads = f.1; noted = λ y i. q.noted y (mathlib.Core.List.Memᴰ.tail i); simple = distinct_tail e (ends (x ∷ xs)) q.simple };
                  whole = append_snoc p.done e (x.end ∷ ends xs) ∙ w;
                  simple = p.simple;
                  set = ap (λ (y : ℕ). put_in y e) p.set ∙ sym (set_snoc p.done e);
                });
          }

  pub passed : (s e : ℕ) → e ≡ a → Passing s e → Events b steps (put_in s e)
  passed s e h p = at p.rest p.path p.whole
    where
      at : (rest : List Bound) → Path nx a e rest → p.done ++ (e ∷ ends rest) ≡ b ∷ ends steps → Events b steps (put_in s e)
      at [] q w =
          let is : put_in s e ≡ set_of (b ∷ ends steps) = ap (λ (y : ℕ). put_in y e) p.set ∙ sym (set_snoc p.done e) ∙ ap set_of w in
          subst (λ (y : ℕ). Events b steps y) (sym is)
          (record {
            all = set_all (b ∷ ends steps);
            only = set_only (b ∷ ends steps);
            count = set_count (b ∷ ends steps) p.simple ∙ ap suc (length-map steps (λ x. x.end));
          })
      at (x ∷ xs) q w =
          let last = last_entered (leads_first q.leads).1 in
          absurd (distinct_head e (ends (x ∷ xs)) q.simple (subst (λ (y : ℕ). Memᴰ y (ends (x ∷ xs))) (sym h) last))
