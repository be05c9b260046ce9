-- Each marked event has its way to a by the notes: tight bounds all along, so that their weights sum to the distance, and no event
-- twice, since each was marked after those that follow it. By induction on how the marks came about.
use mathlib.Core.Path.{◌≡◌, sym, ap, ◌∙◌, subst, subst₂}
use mathlib.Core.Bool.{true, false}
use mathlib.Core.List.Memᴰ
use mathlib.Core.List.{List, [], ◌∷◌, Memᴰ}
use Prim.Native.Nat.{ℕ, ◌<◌}
use native.Mathlib.Decide.{ℕ_discrete}
use lib.Dec.{T}
use lib.ListN.{length}
use lib.IntN.{ℤ, pos, ◌+ℤ◌}
use Rattle.eventset.specs.Sets.{member, put_in}
use Rattle.eventset.proofs.Laws.{put_same, put_other, put_keeps, one_member, one_other}
use Rattle.meaning.specs.Bounds.{Bound, Leads, stop, step, total, distinct, ends}
use Rattle.meaning.proofs.Distinct.{distinct_cons}
use Rattle.distances.specs.Matrix.{at}
use Rattle.chain.specs.declared.Note.{Note}
use Rattle.chain.specs.Clash.{Tight}
use Rattle.chain.specs.Marks.{note, Noted, Marks, same, more}
use Rattle.chain.proofs.Marks.{not_both, marks_keep}
use Rattle.chain.proofs.Notes.{noted_other, noted_same}

module _ (bounds : List Bound) (d : List ℤ) (a : ℕ) where
  -- a bound on the way: one of the list, noted at its start, which is marked and not a
  pub record Passed (s : ℕ) (nx : List Note) (x : Bound) : Type 0 where
    pub given : Memᴰ x bounds
    pub noted : Noted nx x
    pub marked : member s x.start ≡ true
    pub apart : x.start ≡ a → ⊥

  pub record Trail (s : ℕ) (nx : List Note) (e : ℕ) : Type 0 where
    pub steps : List Bound
    pub leads : Leads e steps a
    pub sums : total steps ≡ at d e a
    pub simple : T (distinct (e ∷ ends steps))
    pub events : (v : ℕ) → Memᴰ v (e ∷ ends steps) → member s v ≡ true
    pub each : (x : Bound) → Memᴰ x steps → Passed s nx x

  -- more marks change none of it
  keep_passed : (s : ℕ) (nx : List Note) (β x : Bound) → member s β.start ≡ false → Passed s nx x
      → Passed (put_in s β.start) (note nx β) x
  keep_passed s nx β x z p = record {
    given = p.given;
    noted = noted_other nx β x (λ e. not_both p.marked (ap (member s) e ∙ z)) p.noted;
    marked = put_keeps s β.start x.start p.marked;
    apart = p.apart;
  }

  keep : (s : ℕ) (nx : List Note) (β : Bound) (e : ℕ) → member s β.start ≡ false → Trail s nx e → Trail (put_in s β.start) (note nx β) e
  keep s nx β e z t = record {
    steps = t.steps;
    leads = t.leads;
    sums = t.sums;
    simple = t.simple;
    events = λ f i. put_keeps s β.start f (t.events f i);
    each = λ x i. keep_passed s nx β x z (t.each x i);
  }

  -- a itself
  begin : (s : ℕ) (nx : List Note) → at d a a ≡ pos 0 → member s a ≡ true → Trail s nx a
  begin s nx z h = record {
    steps = [];
    leads = stop;
    sums = sym z;
    simple = tt;
    events = λ v i. only v i;
    each = λ x i. absurd (Memᴰ.not-nil i);
  }
    where
      only : (v : ℕ) → Memᴰ v (a ∷ []) → member s v ≡ true
      only v (Memᴰ.head e) = ap (member s) e ∙ h
      only v (Memᴰ.tail i) = absurd (Memᴰ.not-nil i)

  -- the event that the bound β marks
  extend : (s : ℕ) (nx : List Note) (β : Bound) → Memᴰ β bounds → β.start < length nx → member s β.start ≡ false → member s a ≡ true → Tight d a β
      → Trail s nx β.end → Trail (put_in s β.start) (note nx β) β.start
  extend s nx β l i z h g t = record {
    steps = β ∷ t.steps;
    leads = step t.leads;
    sums = ap (λ (y : ℤ). β.weight +ℤ y) t.sums ∙ sym g;
    simple = distinct_cons u (ends (β ∷ t.steps)) (λ j. not_both (t.events u j) z) t.simple;
    events = λ v j. marked v j;
    each = λ x j. passed x j;
  }
    where
      u : ℕ
      u = β.start

      marked : (v : ℕ) → Memᴰ v (u ∷ β.end ∷ ends t.steps) → member (put_in s u) v ≡ true
      marked v (Memᴰ.head e) = ap (member (put_in s u)) e ∙ put_same s u
      marked v (Memᴰ.tail j) = put_keeps s u v (t.events v j)

      passed : (x : Bound) → Memᴰ x (β ∷ t.steps) → Passed (put_in s u) (note nx β) x
      passed x (Memᴰ.head e) =
          subst (λ (y : Bound). Passed (put_in s u) (note nx β) y) (sym e)
          (record {
            given = l;
            noted = noted_same nx β i;
            marked = put_same s u;
            apart = λ q. not_both h (ap (member s) (sym q) ∙ z);
          })
      passed x (Memᴰ.tail j) = keep_passed s nx β x z (t.each x j)

  pub trail : {nx₀ : List Note} {s : ℕ} {nx : List Note} (e : ℕ) → at d a a ≡ pos 0 → Marks bounds d a (put_in 0 a) nx₀ s nx → member s e ≡ true
      → Trail s nx e
  trail {s} {nx = nx} e z (same p _) h = alone (ℕ_discrete e a)
    where
      alone : Dec (e ≡ a) → Trail s nx e
      alone (yes q) = subst (λ (y : ℕ). Trail s nx y) (sym q) (begin s nx z (ap (member s) (sym q) ∙ h))
      alone (no n) = absurd (not_both h (ap (λ (x : ℕ). member x e) p ∙ one_other a e n))
  trail e z (more s nx β t l i y o g p q) h =
      subst₂ (λ (x : ℕ) (n : List Note). Trail x n e) (sym p) (sym q)
      (found (ℕ_discrete e u) (λ f. trail f z t) (ap (λ (x : ℕ). member x e) (sym p) ∙ h))
    where
      u : ℕ
      u = β.start

      found : Dec (e ≡ u) → ((f : ℕ) → member s f ≡ true → Trail s nx f) → member (put_in s u) e ≡ true
          → Trail (put_in s u) (note nx β) e
      found (yes r) rest b =
          subst (λ (x : ℕ). Trail (put_in s u) (note nx β) x) (sym r)
          (extend s nx β l i y (marks_keep bounds d a a t (one_member a)) g (rest β.end o))
      found (no n) rest b = keep s nx β e y (rest e (sym (put_other s u e n) ∙ b))
