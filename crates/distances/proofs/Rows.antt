-- Rows of stride entries in one list: an entry's place gives its row and column, and a row more is swept at a time.
use Prim.Native.Nat.{ℕ, ◌+◌, ◌*◌, ◌/◌, ◌%◌, ◌<◌, ◌≤◌}
use mathlib.Core.Path.{◌≡◌, refl, sym, ap, ap₂, ◌∙◌}
use mathlib.Core.Bool.{Bool, true, false}
use mathlib.Core.List.{List}
use native.Mathlib.Omega.{arith}
use native.Mathlib.Decide.{dec_lt}
use native.Mathlib.Nat.{not-suc-le-zero}
use lib.IntN.{ℤ, pos, ◌+ℤ◌}
use lib.ListN.{length, get_or}
use lib.Seq.{ext_get_or}
use lib.Signed.{◌≤ℤ◌, lt_z}
use borrow.Author.Count.{below_more}
use Rattle.ticks.specs.Min.{min_z}
use Rattle.ticks.proofs.Ticks.{ticks, lt_z_false}
use Rattle.meaning.specs.Distances.{added, Closed}
use Rattle.distances.specs.Matrix.{stride, entry_count, at, Changed, Beside, Narrowed}
use Rattle.distances.specs.Sweep.{Swept}
use Rattle.distances.specs.Rows.{lowered}
use Rattle.distances.proofs.Sweep.{swept_as}

-- row by row
pub rows_none : {d : List ℤ} {n : ℕ} {f : ℕ → ℕ → ℤ} → Changed 0 n d d f
rows_none =
    record {
      long = refl;
      done = λ i j l k. absurd (not-suc-le-zero l);
      beside = λ i j l k h. absurd (not-suc-le-zero l);
      rest = λ k l. refl;
    }

pub rows_more : {d d' d'' : List ℤ} {m n : ℕ} {f : ℕ → ℕ → ℤ} → n ≤ stride → Changed m n d d' f →
    Swept (pos 0) d' d'' (m * stride) n (f m) → Changed (m + 1) n d d'' f
rows_more {d} {d'} {d''} {m} {n} {f} le r s =
    record {
      long = s.long ∙ r.long;
      done = λ i j l k.
          below_more (λ i. at d'' i j ≡ f i j) m
          (λ i l. s.below (i * stride + j) (omega arith) ∙ r.done i j l k)
          (s.done j k) i l;
      beside = λ i j l k h.
          below_more (λ i. at d'' i j ≡ at d i j) m
          (λ i l. s.below (i * stride + j) (omega arith) ∙ r.beside i j l k h)
          (s.above (m * stride + j) (omega arith) ∙ r.rest (m * stride + j) (omega arith)) i l;
      rest = λ k l. s.above k (omega arith) ∙ r.rest k (omega arith);
    }

-- the row that comes next is still as it was
pub rows_next : {d d' : List ℤ} {m n : ℕ} {f : ℕ → ℕ → ℤ} → Changed m n d d' f → (j : ℕ) → at d' m j ≡ at d m j
rows_next {m = m} r j = r.rest (m * stride + j) (omega arith)

-- the bound from a to b of weight w is in the first i rows of d₀, and via is row b of d₀
pub record So-far (d₀ d via : List ℤ) (n a b i : ℕ) (w : ℤ) : Type 0 where
  pub most : i ≤ n
  pub rows : Changed i n d₀ d (added (at d₀) a b w)
  pub long : length via ≡ stride
  pub via_is : (j : ℕ) → j < n → get_or via j (pos 0) ≡ at d₀ b j

pub one_more : {d₀ d d' via : List ℤ} {n a b i : ℕ} {w : ℤ} → n ≤ stride → i < n → So-far d₀ d via n a b i w →
    Swept (pos 0) d d' (i * stride) n (lowered d i via (at d i a +ℤ w)) → So-far d₀ d' via n a b (i + 1) w
one_more {a = a} {w = w} few l h s =
    let row = rows_next h.rows in
    record {
      most = omega arith;
      rows = rows_more few h.rows (swept_as s (λ j k. ap₂ min_z (row j) (ap₂ ◌+ℤ◌ (ap (λ (x : ℤ). x +ℤ w) (row a)) (h.via_is j k))));
      long = h.long;
      via_is = h.via_is;
    }

-- x is at most y + v, and s is not below y: x is at most s + v
pub row_kept : (x y v s : ℤ) → x ≤ℤ (y +ℤ v) → lt_z s y ≡ false → x ≡ min_z x (s +ℤ v)
row_kept x y v s h t = omega ticks

-- a bound that a closed matrix keeps already changes nothing
pub kept_already : {n : ℕ} {d : List ℤ} (a b : ℕ) (w : ℤ) → Closed n (at d) → a < n → b < n → lt_z w (at d a b) ≡ false → Changed n n d d (added (at d) a b w)
kept_already {d = d} a b w c la lb e = record {
  long = refl;
  done = λ i j p q. omega (ticks, lt_z_false w (at d a b), c.tri p la lb, c.tri p lb q);
  beside = λ i j p q r. refl;
  rest = λ k l. refl;
}

-- a bound that is added to what was written is added to what stands there
pub changed_more : {n : ℕ} {d d₁ d₂ : List ℤ} {D : ℕ → ℕ → ℤ} (a b : ℕ) (w : ℤ) → Changed n n d d₁ D → a < n → b < n →
    Changed n n d₁ d₂ (added (at d₁) a b w) → Changed n n d d₂ (added D a b w)
changed_more a b w r la lb s = record {
  long = s.long ∙ r.long;
  done = λ i j p q. s.done i j p q ∙ ap₂ min_z (r.done i j p q) (ap₂ ◌+ℤ◌ (ap (λ (x : ℤ). x +ℤ w) (r.done i a p la)) (r.done b j lb q));
  beside = λ i j p q l. s.beside i j p q l ∙ r.beside i j p q l;
  rest = λ k l. s.rest k l ∙ r.rest k l;
}

-- an entry stands in a row and a column: two lists that are the same there are the same
pub same_rows : {x y : List ℤ} → length x ≡ length y → ((i j : ℕ) → j < stride → i * stride + j < length x → at x i j ≡ at y i j) → x ≡ y
same_rows {x} {y} long same = ext_get_or (pos 0) x y long (λ k l. rw (apart k) at (same (k / stride) (k % stride) (omega arith) (omega arith)))
  where
    apart : (k : ℕ) → k / stride * stride + k % stride ≡ k
    apart k = omega arith

-- what was written and what was kept leave one result only
pub one_result : {n : ℕ} {d d₁ d₂ : List ℤ} {f : ℕ → ℕ → ℤ} → length d ≡ entry_count → n ≤ stride → Changed n n d d₁ f → Changed n n d d₂ f → d₁ ≡ d₂
one_result {n} {d} {d₁} {d₂} size few r s = same_rows (r.long ∙ sym s.long) (λ i j l h. here i j l (dec_lt i n) (dec_lt j n))
  where
    here : (i j : ℕ) → j < stride → Dec (i < n) → Dec (j < n) → at d₁ i j ≡ at d₂ i j
    here i j l (yes p) (yes q) = r.done i j p q ∙ sym (s.done i j p q)
    here i j l (yes p) (no q) = r.beside i j p (omega arith) l ∙ sym (s.beside i j p (omega arith) l)
    here i j l (no p) q = r.rest (i * stride + j) (omega arith) ∙ sym (s.rest (i * stride + j) (omega arith))

-- ---- what stands beside the entries in use

pub beside_same : {n : ℕ} {d : List ℤ} → Beside n d d
beside_same = record { long = refl; beside = λ i j p q r. refl; rest = λ k l. refl }

pub beside_then : {n : ℕ} {d d₁ d₂ : List ℤ} → Beside n d d₁ → Beside n d₁ d₂ → Beside n d d₂
beside_then x y = record {
  long = y.long ∙ x.long;
  beside = λ i j p q r. y.beside i j p q r ∙ x.beside i j p q r;
  rest = λ k l. y.rest k l ∙ x.rest k l;
}

pub changed_beside : {n : ℕ} {d d' : List ℤ} {f : ℕ → ℕ → ℤ} → Changed n n d d' f → Beside n d d'
changed_beside r = record { long = r.long; beside = r.beside; rest = r.rest }

pub narrowed_beside : {n a b : ℕ} {lo hi : ℤ} {d d' : List ℤ} {r : Bool} → Narrowed n a b lo hi d d' r → Beside n d d'
narrowed_beside {n} {d = d} {d'} {r} h = go r refl
  where
    go : (s : Bool) → r ≡ s → Beside n d d'
    go true e = beside_then (changed_beside (h.taken e).upper) (changed_beside (h.taken e).lower)
    go false e = rw (h.refused e) beside_same

beside_changed : {n : ℕ} {d d' : List ℤ} (f : ℕ → ℕ → ℤ) → Beside n d d' → ((i j : ℕ) → i < n → j < n → at d' i j ≡ f i j) → Changed n n d d' f
beside_changed f x e = record { long = x.long; done = e; beside = x.beside; rest = x.rest }

-- two results that are the same where they are in use are the same
pub one_matrix : {n : ℕ} {d d₁ d₂ : List ℤ} → length d ≡ entry_count → n ≤ stride → Beside n d d₁ → Beside n d d₂ →
    ((i j : ℕ) → i < n → j < n → at d₁ i j ≡ at d₂ i j) → d₁ ≡ d₂
one_matrix {d₂ = d₂} size few x y e = one_result size few (beside_changed (at d₂) x e) (beside_changed (at d₂) y (λ i j p q. refl))
