-- The ladder climbed: when y grades are done and k wishes of the next, the grades reached say which things are left, and those are the best so far.
-- Start, yes, no and next grade are the steps of two nested loops; at the end the best are left and the grades reached are their levels.
use mathlib.Core.Path.{◌≡◌, sym, subst, subst⁻¹, ◌∙◌}
use mathlib.Core.Logic.{◌↔◌}
use mathlib.Core.List.{List, [], ◌∷◌, ◌++◌}
use mathlib.Core.Bool.{true}
use Prim.Native.Nat.{ℕ, zero, suc, ◌≤◌, ◌<◌, min, zero-le}
use native.Mathlib.Decide.{ℕ_discrete}
use native.Mathlib.Nat.{not-suc-le-zero}
use native.Mathlib.Omega.{arith}
use lib.ListN.{length, set, replicate, length-set, length-replicate, get_or-replicate}
use lib.Seq.{get_or-set_same, get_or-set_other, ext_get_or}
use borrow.Author.Tests.{leb-true, le-leb, lt-leb}
use Rattle.meaning.specs.Plan.{top_level}
use Rattle.meaning.specs.Ladder.{Question, questions, lv, reply, Best}
use Rattle.meaning.specs.Climb.{asked, Above, Reached}
use Rattle.meaning.proofs.Questions.{ask, Low, asked_more, asked_next, asked_all, asked_low}
use Rattle.meaning.proofs.Best.{all_best, shorter, kept_yes, kept_no}

module _ {A : Type 0} {S : A → Type 0} {lev : A → List ℕ} {w : ℕ} where
  -- all things have y grades, so after y grades all are left
  pub reached_start : (y : ℕ) → ((a : A) → S a → (j : ℕ) → j < w → y ≤ lv (lev a) j) → (a : A) → S a → Reached S lev w y 0 (replicate w y)
  reached_start y all a s = record {
    count = length-replicate w y;
    best = λ b. (λ h. all_best S lev (asked w y 0) (asked_low w y) says_yes h.member, λ h. every b h.member);
    some = a;
    left = every a s;
    done = λ b h j l. absurd (not-suc-le-zero l);
    waiting = λ b h j l m. omega (arith, get_or-replicate {A = ℕ} w j y 0 m, all b h.member j m);
  }
    where
      every : (a : A) → S a → Above S lev w (replicate w y) a
      every a s = record { member = s; at_least = λ j l. omega (arith, get_or-replicate {A = ℕ} w j y 0 l, all a s j l) }

      says_yes : (q : Question) → Low w y q → (b : A) → S b → reply (lev b) q ≡ true
      says_yes q l b m = le-leb q.grade (lv (lev b) q.wish) (omega (arith, l.grade, all b m q.wish l.wish))

  module _ {y k : ℕ} {g : List ℕ} (r : Reached S lev w y k g) (h : k < w) where
    -- a wish that failed at an earlier grade fails again
    pub fails_again : lv g k < y → (u : A) → Above S lev w g u → lv (lev u) k ≤ y
    fails_again f u a = omega (arith, r.waiting u a k (omega arith) h)

    here : lv (set g k (suc y)) k ≡ suc y
    here = get_or-set_same g k (suc y) 0 (omega (arith, r.count))

    -- those left that have the next grade are those at the grades raised by it
    pub raised : (a : A) → (Above S lev w g a × (suc y ≤ lv (lev a) k)) ↔ Above S lev w (set g k (suc y)) a
    raised a = (
      λ p. record { member = p.0.member; at_least = λ j l. up p j l (ℕ_discrete j k) },
      λ p. (record { member = p.member; at_least = λ j l. down p j l (ℕ_discrete j k) }, omega (arith, p.at_least k h, here)),
    )
      where
        up : (Above S lev w g a × (suc y ≤ lv (lev a) k)) → (j : ℕ) → j < w → Dec (j ≡ k) → lv (set g k (suc y)) j ≤ lv (lev a) j
        up p j l (yes e) = subst⁻¹ (λ (i : ℕ). lv (set g k (suc y)) i ≤ lv (lev a) i) e (omega (arith, here, p.1))
        up p j l (no n) = omega (arith, get_or-set_other g k j (suc y) 0 n, p.0.at_least j l)

        down : Above S lev w (set g k (suc y)) a → (j : ℕ) → j < w → Dec (j ≡ k) → lv g j ≤ lv (lev a) j
        down p j l (yes e) =
            subst⁻¹ (λ (i : ℕ). lv g i ≤ lv (lev a) i) e (omega (arith, here, p.at_least k h, r.waiting r.some r.left k (omega arith) h))
        down p j l (no n) = omega (arith, get_or-set_other g k j (suc y) 0 n, p.at_least j l)

    -- yes: one of those left has the next grade, and all that have it are left
    pub reached_yes : {u : A} → Above S lev w g u → suc y ≤ lv (lev u) k → Reached S lev w y (suc k) (set g k (suc y))
    reached_yes {u} a d = record {
      count = length-set g k (suc y) ∙ r.count;
      best = λ b. subst⁻¹ (λ qs. Above S lev w (set g k (suc y)) b ↔ Best S lev qs b) (asked_more w y k) (
        λ p. let q = (raised b).1 p in (kept b).0 ((r.best b).0 q.0, le-leb (suc y) (lv (lev b) k) q.1),
        λ p. let q = (kept b).1 p in (raised b).0 ((r.best b).1 q.0, leb-true (suc y) (lv (lev b) k) q.1),
      );
      some = u;
      left = (raised u).0 (a, d);
      done = λ b p j l. fresh b p j l (ℕ_discrete j k);
      waiting = λ b p j l m. omega (arith, get_or-set_other g k j (suc y) 0 (apart j l), r.waiting b ((raised b).1 p).0 j (omega arith) m);
    }
      where
        kept : (b : A) → (Best S lev (asked w y k) b × (reply (lev b) (ask (suc y) k) ≡ true)) ↔ Best S lev (asked w y k ++ ask (suc y) k ∷ []) b
        kept = kept_yes S lev (asked w y k) (ask (suc y) k) u ((r.best u).0 a) (le-leb (suc y) (lv (lev u) k) d)

        apart : (j : ℕ) → suc k ≤ j → ¬ (j ≡ k)
        apart j l e = omega arith

        fresh : (b : A) → Above S lev w (set g k (suc y)) b → (j : ℕ) → j < suc k → Dec (j ≡ k) → min (lv (lev b) j) (suc y) ≡ lv (set g k (suc y)) j
        fresh b p j l (yes e) = subst⁻¹ (λ (i : ℕ). min (lv (lev b) i) (suc y) ≡ lv (set g k (suc y)) i) e (omega (arith, here, p.at_least k h))
        fresh b p j l (no n) = omega (arith, get_or-set_other g k j (suc y) 0 n, r.done b ((raised b).1 p).0 j (omega arith))

    -- no: none of those left has the next grade, and all are left
    pub reached_no : ((u : A) → Above S lev w g u → lv (lev u) k ≤ y) → Reached S lev w y (suc k) g
    reached_no none = record {
      count = r.count;
      best = λ b. subst⁻¹ (λ qs. Above S lev w g b ↔ Best S lev qs b) (asked_more w y k) (λ p. (stay b).0 ((r.best b).0 p), λ p. (r.best b).1 ((stay b).1 p));
      some = r.some;
      left = r.left;
      done = λ b p j l. fresh b p j l (ℕ_discrete j k);
      waiting = λ b p j l m. r.waiting b p j (omega arith) m;
    }
      where
        less : (u : A) → Above S lev w g u → lv (lev u) k < suc y
        less u a = omega (arith, none u a)

        stay : (b : A) → Best S lev (asked w y k) b ↔ Best S lev (asked w y k ++ ask (suc y) k ∷ []) b
        stay b = kept_no S lev (asked w y k) (ask (suc y) k) (λ u p. lt-leb (suc y) (lv (lev u) k) (less u ((r.best u).1 p))) b

        fresh : (b : A) → Above S lev w g b → (j : ℕ) → j < suc k → Dec (j ≡ k) → min (lv (lev b) j) (suc y) ≡ lv g j
        fresh b p j l (yes e) = subst⁻¹ (λ (i : ℕ). min (lv (lev b) i) (suc y) ≡ lv g i) e (omega (arith, none b p, r.waiting b p k (omega arith) h))
        fresh b p j l (no n) = r.done b p j (omega arith)

  -- a grade is done
  pub reached_next : {y : ℕ} {g : List ℕ} → Reached S lev w y w g → Reached S lev w (suc y) 0 g
  reached_next {y} {g} r = record {
    count = r.count;
    best = λ b. subst⁻¹ (λ qs. Above S lev w g b ↔ Best S lev qs b) (asked_next w y) (r.best b);
    some = r.some;
    left = r.left;
    done = λ b p j l. absurd (not-suc-le-zero l);
    waiting = λ b p j l m. r.done b p j m;
  }

  -- the end: those left are the best
  pub reached_best : {g : List ℕ} → Reached S lev w top_level 0 g → (a : A) → Above S lev w g a ↔ Best S lev (questions w) a
  reached_best {g} r a = subst (λ qs. Above S lev w g a ↔ Best S lev qs a) (asked_all w) (r.best a)

  -- and the grades reached are their levels
  pub reached_levels : {g : List ℕ} → Reached S lev w top_level 0 g → {a : A} → length (lev a) ≡ w → ((j : ℕ) → lv (lev a) j ≤ top_level) →
      Above S lev w g a → lev a ≡ g
  reached_levels {g} r {a} n mild p = ext_get_or 0 (lev a) g (n ∙ sym r.count) (λ j h. omega (arith, r.waiting a p j (omega arith) (omega arith), mild j))

-- ---- a question answered no is answered no at every higher grade

module _ {A : Type 0} (S : A → Type 0) (lev : A → List ℕ) (w : ℕ) where
  module _ {a : A} where
    fewer_wishes : (y k j : ℕ) → k ≤ j → Best S lev (asked w y j) a → Best S lev (asked w y k) a
    fewer_wishes y k zero h p = subst (λ (i : ℕ). Best S lev (asked w y i) a) {x = 0} {y = k} (omega arith) p
    fewer_wishes y k (suc j) h p = go (ℕ_discrete (suc j) k) (fewer_wishes y k j)
      where
        go : Dec (suc j ≡ k) → (k ≤ j → Best S lev (asked w y j) a → Best S lev (asked w y k) a) → Best S lev (asked w y k) a
        go (yes e) f = subst (λ (i : ℕ). Best S lev (asked w y i) a) e p
        go (no n) f = f (omega arith) (shorter S lev (asked w y j) (ask (suc y) j ∷ []) (subst (λ qs. Best S lev qs a) (asked_more w y j) p))

    fewer_grades : (k : ℕ) → k ≤ w → (y z : ℕ) → y ≤ z → Best S lev (asked w z k) a → Best S lev (asked w y k) a
    fewer_grades k l y zero h p = subst (λ (i : ℕ). Best S lev (asked w i k) a) {x = 0} {y = y} (omega arith) p
    fewer_grades k l y (suc z) h p = go (ℕ_discrete (suc z) y) (fewer_grades k l y z)
      where
        go : Dec (suc z ≡ y) → (y ≤ z → Best S lev (asked w z k) a → Best S lev (asked w y k) a) → Best S lev (asked w y k) a
        go (yes e) f = subst (λ (i : ℕ). Best S lev (asked w i k) a) e p
        go (no n) f = f (omega arith) (fewer_wishes z k w l (subst (λ qs. Best S lev qs a) (asked_next w z) (fewer_wishes (suc z) 0 k zero-le p)))

  -- where none of those left has level y + 1 or more at wish k when that is asked, none of those left at a later grade has
  pub no_stays_no : {k y z : ℕ} → k < w → y ≤ z → ((u : A) → Best S lev (asked w y k) u → lv (lev u) k ≤ y) →
      (u : A) → Best S lev (asked w z k) u → lv (lev u) k ≤ y
  no_stays_no {k} {y} {z} l h none u p = none u (fewer_grades k (omega arith) y z h p)
