-- The wishes among the rows of a plan in memory, which are those with levels: how many there are, and in which row each stands.
use mathlib.Core.Path.{◌≡◌, refl, sym, ap, subst⁻¹, ◌∙◌}
use mathlib.Core.Bool.{Bool, true, false, cond}
use mathlib.Core.List.{List, [], ◌∷◌, map}
use Prim.Native.Nat.{ℕ, zero, suc, ◌<◌}
use native.Mathlib.Nat.{not-suc-le-zero}
use native.Mathlib.Omega.{arith}
use lib.Dec.{ltb, eqb, ltb→lt}
use lib.ListN.{length, get_or, take}
use Rattle.std.specs.List.{filter, enumerate_from}
use Rattle.std.proofs.lemmas.List.{get_or-take, get_or_default, length-take-le, take-map}
use Rattle.std.proofs.lemmas.List.FromFn.{length-enumerate_from, get_or-enumerate_from}
use Rattle.std.proofs.lemmas.Bool.Decides.{nat_tests}
use Rattle.meaning.specs.Plan as M
use Rattle.meaning.specs.Plan.{record_at, wish_count, wishes}
use Rattle.meaning.specs.Climb.{number}
use Rattle.plan.specs.declared.Record.{Record}
use Rattle.plan.specs.declared.Plan.{Plan}
use Rattle.plan.specs.Held.{levels_at, record_of, blank, InMemory}
use Rattle.plan.proofs.Use.{row_at, RowHeld, row_held, recalled_is}
use Rattle.cut.specs.Cut.{Cutting}
use Rattle.cut.proofs.Cuts.{cutting}

abbrev pub is_wish : Record → Bool
is_wish x = ltb 0 x.count

abbrev pub rows : Plan → List Record
rows h = take h.count h.records

-- as many rows have levels as records made from them are wishes
wishes_counted : (held : List ℕ) (xs : List Record) → length (filter is_wish xs) ≡ wish_count (map (record_of held) xs)
wishes_counted held [] = refl
wishes_counted held (x ∷ xs) = go (ltb 0 x.count) (eqb x.count 0) refl refl (wishes_counted held xs)
  where
    go : (s t : Bool) → ltb 0 x.count ≡ s → eqb x.count 0 ≡ t →
        length (filter is_wish xs) ≡ wish_count (map (record_of held) xs) →
        length (cond s (x ∷ filter is_wish xs) (filter is_wish xs))
        ≡ wish_count (cond t (M.rule x.a x.b x.lo x.hi) (M.wish x.a x.b x.lo (levels_at x held)) ∷ map (record_of held) xs)
    go true true e f h = absurd (grind (arith, nat_tests))
    go true false e f h = ap suc h
    go false true e f h = h
    go false false e f h = absurd (grind (arith, nat_tests))

-- ---- where in a list the w-th stands that passes a test

module _ {X : Type 0} (z : X) (test : X → Bool) where
  record Kept (xs : List X) (w : ℕ) : Type 0 where
    place : ℕ
    inside : place < length xs
    there : get_or (filter test xs) w z ≡ get_or xs place z
    passes : test (get_or xs place z) ≡ true
    before : w ≡ length (filter test (take place xs))

  kept : (xs : List X) (w : ℕ) → w < length (filter test xs) → Kept xs w
  kept [] w l = absurd (not-suc-le-zero l)
  kept (x ∷ xs) w l = go (test x) refl (kept xs) w l
    where
      go : (s : Bool) → test x ≡ s → ((v : ℕ) → v < length (filter test xs) → Kept xs v) →
          (v : ℕ) → v < length (cond s (x ∷ filter test xs) (filter test xs)) → Kept (x ∷ xs) v
      go true e f zero l = record { place = 0; inside = omega arith; there = rw e refl; passes = e; before = refl }
      go true e f (suc v) l =
          let r = f v (omega arith) in
          record { place = suc r.place; inside = omega (arith, r.inside); there = rw e r.there; passes = r.passes; before = rw e (ap suc r.before) }
      go false e f v l =
          let r = f v l in
          record { place = suc r.place; inside = omega (arith, r.inside); there = rw e r.there; passes = r.passes; before = rw e r.before }

-- ---- the rows of a plan in memory

-- row x is wish number w
pub record Wish (p : M.Plan) (held : List ℕ) (w : ℕ) (x : Record) : Type 0 where
  pub place : ℕ
  pub inside : place < length p.records
  pub row : RowHeld x (record_at p place) held
  pub cutting : Cutting x held
  pub some : 0 < x.count
  pub number : w ≡ number p place

module _ {p : M.Plan} {h : Plan} {held : List ℕ} (o : InMemory p h held) where
  pub wishes_are : length (filter is_wish (rows h)) ≡ wishes p
  wishes_are = wishes_counted held (rows h) ∙ ap wishes (recalled_is o)

  long : length (rows h) ≡ length p.records
  long = length-take-le h.count h.records (omega (arith, o.holds.count, o.holds.size, o.faultless.few)) ∙ o.holds.count

  numbered : (k : ℕ) → length (filter is_wish (take k (rows h))) ≡ number p k
  numbered k =
      wishes_counted held (take k (rows h)) ∙ ap wish_count (sym (take-map (record_of held) k (rows h)))
      ∙ ap (λ (q : M.Plan). number q k) (recalled_is o)

  wish_at : (w : ℕ) (x : Record) → w < length (filter is_wish (rows h)) → x ≡ get_or (filter is_wish (rows h)) w x → Wish p held w x
  wish_at w x l e =
      let r = kept x is_wish (rows h) w l in
      let i : r.place < length p.records = omega (arith, r.inside, long) in
      let there : x ≡ row_at h r.place =
      e ∙ r.there ∙ get_or_default (rows h) r.place x blank r.inside ∙ get_or-take h.count h.records r.place blank (omega (arith, i, o.holds.count)) in
      record {
        place = r.place;
        inside = i;
        row = subst⁻¹ (λ (y : Record). RowHeld y (record_at p r.place) held) there (row_held o r.place i);
        cutting = subst⁻¹ (λ (y : Record). Cutting y held) there (cutting o r.place);
        some = ltb→lt 0 x.count (rw (ap is_wish (e ∙ r.there) ∙ r.passes) tt);
        number = r.before ∙ numbered r.place;
      }

  -- the n-th that the rows give, numbered, where those without levels are passed over
  pub wish_met : (n w : ℕ) (x : Record) → let all = enumerate_from 0 (filter is_wish (rows h)) in
      (n < length all) × ((w, x) ≡ get_or all n (w, x)) → (w ≡ n) × Wish p held n x
  wish_met n w x t =
      let l : n < length (filter is_wish (rows h)) = omega (arith, t.0, length-enumerate_from 0 (filter is_wish (rows h))) in
      let e = t.1 ∙ get_or-enumerate_from 0 (filter is_wish (rows h)) n (w, x) l in
      (omega (arith, ap (λ (q : ℕ × Record). q.0) e), wish_at n x l (ap (λ (q : ℕ × Record). q.1) e))
