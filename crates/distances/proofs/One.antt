-- Any two results that satisfy a promise of `distances` are equal: what is returned is told by the entries before, and each entry of the lent
-- area is promised, as written or as kept.
use Prim.Native.Nat.{ℕ, ◌+◌, ◌-◌, ◌<◌}
use mathlib.Core.Path.{◌≡◌, refl, sym, ◌∙◌}
use mathlib.Core.Bool.{Bool, true, false}
use mathlib.Core.List.{List}
use native.Mathlib.Decide.{dec_lt}
use native.Mathlib.Omega.{arith}
use lib.ListN.{get_or}
use lib.Seq.{ext_get_or}
use lib.IntN.{ℤ}
use Rattle.distances.specs.Matrix.{Starting, Started, Beside, Adding, Added, Narrowing, Cut, Narrowed}
use Rattle.distances.specs.Sweep.{Swept}
use Rattle.distances.proofs.Rows.{one_result, one_matrix}

-- `start`
pub one_start : {n h : ℕ} {d x y : List ℤ} → Starting n h → Started n h x × Beside n d x → Started n h y × Beside n d y → x ≡ y
one_start asked u v = one_matrix (sym u.1.long ∙ u.0.size) asked.events u.1 v.1 (λ i j p q. u.0.start i j p q ∙ sym (v.0.start i j p q))

-- two answers that are the same are both yes or both no
alike : {x y : List ℤ} {q r : Bool} → q ≡ r → (q ≡ true → r ≡ true → x ≡ y) → (q ≡ false → r ≡ false → x ≡ y) → (q ≡ r) × (x ≡ y)
alike {q = true} e f g = (e, f refl (sym e))
alike {q = false} e f g = (e, g refl (sym e))

-- `add`: both took the bound, or both refused it
pub one_added : {n a b : ℕ} {w : ℤ} {d x y : List ℤ} {q r : Bool} → Adding n a b w d → Added n a b w d x q → Added n a b w d y r → (q ≡ r) × (x ≡ y)
one_added asked u v = alike (u.answer ∙ sym v.answer)
    (λ p q. one_result asked.net.size asked.net.events (u.taken p) (v.taken q))
    (λ p q. u.refused p ∙ sym (v.refused q))

-- the upper end of a run gives one matrix, so the lower end does
one_cut : {n a b : ℕ} {lo hi : ℤ} {d x y : List ℤ} → Narrowing n a b lo hi d → Cut n a b lo hi d x → Cut n a b lo hi d y → x ≡ y
one_cut asked u v =
    let net = asked.net in
    let e = one_result net.size net.events u.upper v.upper in
    one_result (v.upper.long ∙ net.size) net.events (rw e at u.lower) v.lower

-- `narrow`: both cut to the run, or both refused it
pub one_narrowed : {n a b : ℕ} {lo hi : ℤ} {d x y : List ℤ} {q r : Bool} → Narrowing n a b lo hi d →
    Narrowed n a b lo hi d x q → Narrowed n a b lo hi d y r → (q ≡ r) × (x ≡ y)
one_narrowed asked u v = alike (u.answer ∙ sym v.answer) (λ p q. one_cut asked (u.taken p) (v.taken q)) (λ p q. u.refused p ∙ sym (v.refused q))

-- `outermost`: the swept times, and those before and behind them
pub one_swept : {A : Type 0} {z : A} {d x y : List A} {b n : ℕ} {f : ℕ → A} → Swept z d x b n f → Swept z d y b n f → x ≡ y
one_swept {z = z} {d} {x} {y} {b} {n} {f} u v = ext_get_or z x y (u.long ∙ sym v.long) (λ k l. here k (dec_lt k b) (dec_lt k (b + n)))
  where
    here : (k : ℕ) → Dec (k < b) → Dec (k < b + n) → get_or x k z ≡ get_or y k z
    here k (yes p) q = u.below k p ∙ sym (v.below k p)
    here k (no p) (yes q) = let e : b + (k - b) ≡ k = omega arith in rw e at (u.done (k - b) (omega arith) ∙ sym (v.done (k - b) (omega arith)))
    here k (no p) (no q) = u.above k (omega arith) ∙ sym (v.above k (omega arith))
