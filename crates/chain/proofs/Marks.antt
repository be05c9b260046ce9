-- Marking events from a backwards along tight bounds: marks stay, and of the notes only those of newly marked events change; and while
-- an event that has a tight way to a is unmarked, a scan marks one event more. By induction on how the marks came about.
use mathlib.Core.Path.{◌≡◌, refl, sym, ap, ◌∙◌, subst, subst₂}
use mathlib.Core.Logic.{◌⊎◌, inl, inr}
use mathlib.Core.Bool.{Bool, true, false}
use mathlib.Core.List.Memᴰ
use mathlib.Core.List.{List, [], ◌∷◌, Memᴰ}
use Prim.Native.Nat.{ℕ, ◌+◌, ◌^◌, ◌≤◌, ◌<◌}
use native.Mathlib.Numerals.{add-one}
use native.Mathlib.Omega.{arith}
use native.Mathlib.Decide.{ℕ_discrete}
use lib.ListN.{length, get_or}
use Rattle.std.proofs.lemmas.List.{take_all}
use lib.IntN.{ℤ}
use lib.Pow.{pow-lt}
use lib.Bits.{or_lt}
use lib.Count.{ones, ones-le}
use Rattle.eventset.specs.Sets.{member, put_in}
use Rattle.eventset.proofs.Laws.{put_same, put_other, put_keeps, count_fresh}
use Rattle.meaning.specs.Plan.{most_events}
use Rattle.meaning.specs.Bounds.{Bound}
use Rattle.chain.specs.declared.Bound.{Bound as Entry}
use Rattle.chain.specs.declared.Note.{Note}
use Rattle.chain.specs.Clash.{bound_of, bounds_of, listed, Tight, Lead, here, by}
use Rattle.chain.specs.Marks.{note_at, note, Notes, Look, kept, marked, Untouched, Marks, same, more, Scanned}
use Rattle.chain.proofs.Lists.{bounds_at, listed_next}
use Rattle.chain.proofs.Notes.{note_other, notes_note}

-- a test is not both
pub not_both : {t : Bool} → t ≡ true → t ≡ false → ⊥
not_both p q = let z : ◌≡◌ {A = ℕ} 0 1 = cc in omega arith

module _ (bounds : List Bound) (d : List ℤ) (a : ℕ) where
  -- ---- events marked one by one

  -- a marked event stays marked
  pub marks_keep : {s : ℕ} {nx : List Note} {r : ℕ} {nx' : List Note} (e : ℕ) → Marks bounds d a s nx r nx' → member s e ≡ true → member r e ≡ true
  marks_keep e (same p q) h = ap (λ (x : ℕ). member x e) p ∙ h
  marks_keep e (more t nt β g l i z o y p q) h = ap (λ (x : ℕ). member x e) p ∙ put_keeps t β.start e (marks_keep e g h)

  -- there are not fewer, and more where an event is newly marked
  marks_count : {s : ℕ} {nx : List Note} {r : ℕ} {nx' : List Note} → Marks bounds d a s nx r nx' → ones s ≤ ones r
  marks_count (same p q) = omega (arith, ap ones p)
  marks_count (more t nt β g l i z o y p q) = omega (arith, marks_count g, ap ones p, count_fresh t β.start z)

  marks_new : {s : ℕ} {nx : List Note} {r : ℕ} {nx' : List Note} (e : ℕ) → Marks bounds d a s nx r nx'
      → member s e ≡ false → member r e ≡ true → ones s < ones r
  marks_new e (same p q) h j = absurd (not_both j (ap (λ (x : ℕ). member x e) p ∙ h))
  marks_new e (more t nt β g l i z o y p q) h j = omega (arith, marks_count g, ap ones p, count_fresh t β.start z)

  -- there are no more than k where all events are below k
  marks_below : {s : ℕ} {nx : List Note} {r : ℕ} {nx' : List Note} (k : ℕ) → ((β : Bound) → Memᴰ β bounds → β.start < k) → Marks bounds d a s nx r nx'
      → s < 2 ^ k → r < 2 ^ k
  marks_below k f (same p q) h = rw p h
  marks_below k f (more t nt β g l i z o y p q) h = rw p (or_lt k t (2 ^ β.start) (marks_below k f g h) (pow-lt (f β l)))

  pub marks_few : {nx : List Note} {r : ℕ} {nx' : List Note} (k : ℕ) → a < k → ((β : Bound) → Memᴰ β bounds → β.start < k)
      → Marks bounds d a (put_in 0 a) nx r nx' → ones r ≤ k
  marks_few {r = r} k h f m = ones-le k r (marks_below k f m (pow-lt h))

  -- marked on from where it was left
  pub marks_then : {s : ℕ} {nx : List Note} {t : ℕ} {nt : List Note} {r : ℕ} {nx' : List Note}
      → Marks bounds d a s nx t nt → Marks bounds d a t nt r nx' → Marks bounds d a s nx r nx'
  marks_then {s} {nx = nx} f (same p q) = subst₂ (λ (x : ℕ) (y : List Note). Marks bounds d a s nx x y) (sym p) (sym q) f
  marks_then f (more t nt β g l i z o y p q) = more t nt β (marks_then f g) l i z o y p q

  -- all notes but those of newly marked events are as before: had the event of a new note been marked before, it would have stayed so
  pub marks_untouched : {s : ℕ} {nx : List Note} {r : ℕ} {nx' : List Note} → Marks bounds d a s nx r nx' → Untouched s nx r nx'
  marks_untouched (same p q) = record { entry = λ e h. ap (λ (x : List Note). note_at x e) q }
  marks_untouched {s} {nx = nx} (more t nt β g l j z o y p q) = record {
    entry = λ e h.
        ap (λ (x : List Note). note_at x e) q
        ∙ at e (ap (λ (x : ℕ). member x e) (sym p) ∙ h) (marks_untouched g) (ℕ_discrete e β.start);
  }
    where
      at : (e : ℕ) → member (put_in t β.start) e ≡ member s e → Untouched s nx t nt → Dec (e ≡ β.start) → note_at (note nt β) e ≡ note_at nx e
      at e h before (yes f) =
          absurd (not_both (marks_keep β.start g (ap (member s) (sym f) ∙ sym h ∙ ap (member (put_in t β.start)) f ∙ put_same t β.start)) z)
      at e h before (no n) = note_other nt β e n ∙ before.entry e (sym (put_other t β.start e n) ∙ h)

  -- ---- a scan marks an event more while one that has a tight way to a is unmarked

  pub progress : {s r : ℕ} {nx nx' : List Note} (u : ℕ) → Scanned bounds d a s nx r nx' → Lead bounds d a u
      → member s a ≡ true → member s u ≡ false → ones s < ones r
  progress {s} u c (here p) h z = absurd (not_both h (ap (member s) (sym p) ∙ z))
  progress {s} {r} u c (by β l p t w) h z = at (member s β.end) refl (λ q. progress β.end c w h q)
    where
      at : (b : Bool) → member s β.end ≡ b → (member s β.end ≡ false → ones s < ones r) → ones s < ones r
      at false e rest = rest e
      at true e rest = marks_new u c.marks z (ap (member r) p ∙ c.all β l t e)

-- ---- a scan under way, before bound i

module _ (list : List Entry) (d : List ℤ) (a : ℕ) where
  pub record Under (s : ℕ) (nx₀ : List Note) (i r : ℕ) (nx : List Note) : Type 0 where
    pub marks : Marks (bounds_of list) d a s nx₀ r nx
    pub notes : Notes nx
    pub part : (β : Bound) → Memᴰ β (listed list i) → Tight d a β → member s β.end ≡ true → member r β.start ≡ true

  pub under_start : (s : ℕ) (nx : List Note) → Notes nx → Under s nx 0 s nx
  under_start s nx t = record { marks = same refl refl; notes = t; part = λ β l. absurd (Memᴰ.not-nil l) }

  pub under_step : (s : ℕ) (nx₀ : List Note) (i r : ℕ) (nx : List Note) (z : Entry) (r' : ℕ) (nx' : List Note) → Under s nx₀ i r nx → i < length list
      → (get_or list i z).start < most_events → (get_or list i z).«end» < most_events → Look d a (bound_of (get_or list i z)) r nx r' nx'
      → Under s nx₀ (i + 1) r' nx'
  under_step s nx₀ i r nx z r' nx' c l f g look = record {
    marks = marks look;
    notes = notes look;
    part = λ x k t o. part look x (Memᴰ.append_cases (listed list i) (rw (add-one, listed_next list i z l) at k)) t o;
  }
    where
      β : Bound
      β = bound_of (get_or list i z)

      marks : Look d a β r nx r' nx' → Marks (bounds_of list) d a s nx₀ r' nx'
      marks (kept p q h) = subst₂ (λ (x : ℕ) (y : List Note). Marks (bounds_of list) d a s nx₀ x y) (sym p) (sym q) c.marks
      marks (marked u v t p q) = more r nx β c.marks (bounds_at list i z l) (omega (arith, c.notes.room)) u v t p q

      notes : Look d a β r nx r' nx' → Notes nx'
      notes (kept p q h) = subst Notes (sym q) c.notes
      notes (marked u v t p q) = subst Notes (sym q) (notes_note nx β f g c.notes)

      -- what was marked stays so, and this bound is done
      part : Look d a β r nx r' nx' → (x : Bound) → (Memᴰ x (listed list i) ⊎ Memᴰ x (β ∷ [])) → Tight d a x → member s x.end ≡ true → member r' x.start ≡ true
      part (kept p q h) x (inl k) t o = ap (λ (y : ℕ). member y x.start) p ∙ c.part x k t o
      part (kept p q h) x (inr k) t o =
          let e : x ≡ β = Memᴰ.eq_of_singleton k in
          ap (λ (y : ℕ). member y x.start) p
          ∙ ap (λ (y : Bound). member r y.start) e
          ∙ h (subst (Tight d a) e t) (ap (λ (y : Bound). member r y.end) (sym e) ∙ marks_keep (bounds_of list) d a x.end c.marks o)
      part (marked u v g p q) x (inl k) t o = ap (λ (y : ℕ). member y x.start) p ∙ put_keeps r β.start x.start (c.part x k t o)
      part (marked u v g p q) x (inr k) t o =
          ap (λ (y : ℕ). member y x.start) p ∙ ap (λ (y : Bound). member (put_in r β.start) y.start) (Memᴰ.eq_of_singleton k) ∙ put_same r β.start

  pub under_end : (s : ℕ) (nx₀ : List Note) (i r : ℕ) (nx : List Note) → Under s nx₀ i r nx → length list ≤ i → Scanned (bounds_of list) d a s nx₀ r nx
  under_end s nx₀ i r nx c l = record {
    marks = c.marks;
    notes = c.notes;
    untouched = marks_untouched (bounds_of list) d a c.marks;
    all = λ β k. c.part β (rw (take_all i list l) k);
  }
