-- A loop that writes one entry a turn, from b on: one turn more, and what it has written.
use Prim.Native.Nat.{ℕ, ◌+◌, ◌<◌, ◌≤◌}
use mathlib.Core.Path.{◌≡◌, refl, sym, ◌∙◌}
use mathlib.Core.List.{List}
use native.Mathlib.Omega.{arith}
use lib.ListN.{length, get_or, set, take, drop, length-set, length-drop, take-append-drop}
use lib.Seq.{get_or-set_same, get_or-set_other, get_or-take, get_or-drop, length-take-le, ext_get_or}
use borrow.Author.Count.{below_more}
use Rattle.meaning.specs.Outcome.{over}
use Rattle.distances.specs.Sweep.{Swept}

pub swept_more : {A : Type 0} {z : A} {d d' : List A} {b n : ℕ} {f : ℕ → A} (k : ℕ) (v : A)
    → Swept z d d' b n f → k ≡ b + n → k < length d → v ≡ f n → Swept z d (set d' k v) b (n + 1) f
swept_more {z = z} {d} {d'} {b} {n} {f} k v s here room val =
    let r : k < length d' = omega (arith, s.long) in
    record {
      long = length-set d' k v ∙ s.long;
      done =
          below_more (λ j. get_or (set d' k v) (b + j) z ≡ f j) n
          (λ j l. get_or-set_other d' k (b + j) v z (λ e. omega arith) ∙ s.done j l)
          (rw (← here) (get_or-set_same d' k v z r) ∙ val);
      below = λ j l. get_or-set_other d' k j v z (λ e. omega arith) ∙ s.below j l;
      above = λ j l. get_or-set_other d' k j v z (λ e. omega arith) ∙ s.above j (omega arith);
    }

-- the entry that comes next is still as it was
pub swept_next : {A : Type 0} {z : A} {d d' : List A} {b n : ℕ} {f : ℕ → A} → Swept z d d' b n f → get_or d' (b + n) z ≡ get_or d (b + n) z
swept_next {b = b} {n = n} s = s.above (b + n) (omega arith)

-- nothing was to be done
pub swept_same : {A : Type 0} {z : A} {d : List A} {b n : ℕ} {f : ℕ → A} → ((j : ℕ) → j < n → get_or d (b + j) z ≡ f j) → Swept z d d b n f
swept_same h = record { long = refl; done = h; below = λ k l. refl; above = λ k l. refl }

-- the same with other words for what was written
pub swept_as : {A : Type 0} {z : A} {d d' : List A} {b n : ℕ} {f g : ℕ → A} → Swept z d d' b n f → ((j : ℕ) → j < n → f j ≡ g j) → Swept z d d' b n g
swept_as s h = record { long = s.long; done = λ j l. s.done j l ∙ h j l; below = s.below; above = s.above }

-- a sweep from the front
pub swept_front : {A : Type 0} {z : A} {d d' : List A} {n : ℕ} {f : ℕ → A} → Swept z d d' 0 n f → (j : ℕ) → j < n → get_or d' j z ≡ f j
swept_front s j l = let e : 0 + j ≡ j = omega arith in rw e at (s.done j l)

-- what was written from the front, as a list
pub record Written {A : Type 0} (z : A) (d d' : List A) (n : ℕ) (f : ℕ → A) : Type 0 where
  pub front : List A
  pub count : length front ≡ n
  pub entries : (e : ℕ) → e < n → get_or front e z ≡ f e
  pub over_old : d' ≡ over front d

pub swept_written : {A : Type 0} {z : A} {d d' : List A} {n : ℕ} {f : ℕ → A} → Swept z d d' 0 n f → n ≤ length d → Written z d d' n f
swept_written {z = z} {d} {d'} {n} s room =
    let long : length (take n d') ≡ n = length-take-le n d' (omega (arith, s.long)) in
    let rest : drop n d' ≡ drop n d =
    ext_get_or z (drop n d') (drop n d) (simp (length-drop, s.long))
    (λ i l. get_or-drop n d' i z ∙ s.above (n + i) (omega arith) ∙ sym (get_or-drop n d i z)) in
    record {
      front = take n d';
      count = long;
      entries = λ e l. get_or-take n d' e z l ∙ swept_front s e l;
      over_old = rw (long, ← rest) (sym (take-append-drop n d'));
    }
