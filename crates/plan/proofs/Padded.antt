-- A row in memory that shows a list, and past the list's end one value over and over: what is stored right after the list's end
-- makes the list longer. `P` says at which places the row is looked at.
use mathlib.Core.Path.{◌≡◌, refl, sym, ◌∙◌}
use mathlib.Core.Bool.{Bool, true, false}
use mathlib.Core.List.{List, [], ◌∷◌, ◌++◌, append-nil, append_assoc}
use Prim.Native.Nat.{ℕ, zero, suc, ◌+◌, ◌≤◌, ◌<◌}
use native.Mathlib.Omega.{arith}
use borrow.Author.Tests.{eqb-true, eqb-false, ltb-true, ltb-false}
use lib.Dec.{eqb, ltb}
use lib.ListN.{length, get_or, set, replicate, length-set, length-append, get_or-eq_default, get_or-append}
use lib.Seq.{sets, get_or-set_same, get_or-set_other, get_or_at}

module _ {A : Type 0} (d : A) (P : ℕ → Type 0) where
  pub one_more : (xs ys : List A) (v : A) (n : ℕ) → n ≡ length ys → n < length xs → ((k : ℕ) → P k → get_or xs k d ≡ get_or ys k d)
      → (k : ℕ) → P k → get_or (set xs n v) k d ≡ get_or (ys ++ (v ∷ [])) k d
  one_more xs ys v n e h at k p = here (eqb k n) refl
    where
      l : length (ys ++ (v ∷ [])) ≡ length ys + 1
      l = length-append ys (v ∷ [])

      other : (k ≡ n → ⊥) → (b : Bool) → ltb k n ≡ b → get_or (set xs n v) k d ≡ get_or (ys ++ (v ∷ [])) k d
      other ne true q = get_or-set_other xs n k v d ne ∙ at k p ∙ sym (get_or-append ys (v ∷ []) d k (omega (arith, ltb-true k n q)))
      other ne false q =
          let far : length (ys ++ (v ∷ [])) ≤ k = omega (arith, l, ltb-false k n q, ne) in
          get_or-set_other xs n k v d ne ∙ at k p ∙ get_or-eq_default ys d (omega (arith, ltb-false k n q)) ∙ sym (get_or-eq_default (ys ++ (v ∷ [])) d far)

      here : (b : Bool) → eqb k n ≡ b → get_or (set xs n v) k d ≡ get_or (ys ++ (v ∷ [])) k d
      here true q =
          let kn : k ≡ n = eqb-true k n q in
          rw kn (get_or-set_same xs n v d h ∙ sym (get_or_at ys v [] d n (sym e)))
      here false q = other (eqb-false k n q) (ltb k n) refl

  pub all_more : (vs xs ys : List A) (n : ℕ) → n ≡ length ys → n + length vs ≤ length xs → ((k : ℕ) → P k → get_or xs k d ≡ get_or ys k d)
      → (k : ℕ) → P k → get_or (sets xs n vs) k d ≡ get_or (ys ++ vs) k d
  all_more [] xs ys n e h at k p = rw append-nil (at k p)
  all_more (v ∷ vs) xs ys n e h at k p =
      rw (append_assoc ys (v ∷ []) vs) at
      (all_more vs (set xs n v) (ys ++ (v ∷ [])) (suc n) (omega (arith, length-append ys (v ∷ []))) (omega (arith, length-set xs n v))
      (one_more xs ys v n e (omega arith) at) k p)

pub all_same : {A : Type 0} (d : A) (n k : ℕ) → get_or (replicate n d) k d ≡ d
all_same d zero k = refl
all_same d (suc n) zero = refl
all_same d (suc n) (suc k) = all_same d n k

-- places from N on are not touched by a store below N
pub kept_above : (N : ℕ) (xs ys : List ℕ) (n v : ℕ) → n < N → ((k : ℕ) → N ≤ k → get_or xs k 0 ≡ get_or ys k 0)
    → (k : ℕ) → N ≤ k → get_or (set xs n v) k 0 ≡ get_or ys k 0
kept_above N xs ys n v h at k p = get_or-set_other xs n k v 0 (λ e. omega arith) ∙ at k p

pub sets_above : (N : ℕ) (vs xs ys : List ℕ) (n : ℕ) → n + length vs ≤ N → ((k : ℕ) → N ≤ k → get_or xs k 0 ≡ get_or ys k 0)
    → (k : ℕ) → N ≤ k → get_or (sets xs n vs) k 0 ≡ get_or ys k 0
sets_above N [] xs ys n h at k p = at k p
sets_above N (v ∷ vs) xs ys n h at k p = sets_above N vs (set xs n v) ys (suc n) (omega arith) (kept_above N xs ys n v (omega arith) at) k p
