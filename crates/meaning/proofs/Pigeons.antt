-- Different numbers below n are at most n of them, and so are bounds to different events; `different` counts a list without repetition whole.
-- The first by taking the greatest out; the second since what stands again later is not counted.
use mathlib.Core.Path.{◌≡◌, refl, ap, sym, subst}
use mathlib.Core.List.Memᴰ
use mathlib.Core.List.{List, [], ◌∷◌, ◌++◌, Memᴰ}
use Prim.Native.Nat.{ℕ, zero, suc, ◌≤◌, ◌<◌, zero-le}
use native.Mathlib.Nat.{not-suc-le-zero}
use native.Mathlib.Decide.{ℕ_discrete}
use native.Mathlib.Omega.{arith}
use lib.Dec.{T, not_T}
use lib.ListN.{length, length-map}
use lib.Ieee.Bits.{is_true, is_false}
use mir.Facts.{and_yes}
use Rattle.meaning.specs.Bounds.{Bound, ends, absent, distinct, different}
use Rattle.meaning.proofs.Distinct.{absent_not, distinct_head, distinct_tail, distinct_cons}

-- a list with one x taken out
record Without (x : ℕ) (xs : List ℕ) : Type 0 where
  rest : List ℕ
  long : length xs ≤ suc (length rest)
  once : T (distinct rest)
  from : (v : ℕ) → Memᴰ v rest → Memᴰ v xs
  gone : Memᴰ x rest → ⊥

without : (x : ℕ) (xs : List ℕ) → T (distinct xs) → Without x xs
without x [] t = record { rest = []; long = zero-le; once = tt; from = λ v m. m; gone = Memᴰ.not-nil }
without x (y ∷ ys) t = go (ℕ_discrete x y) (without x ys (distinct_tail y ys t))
  where
    go : Dec (x ≡ y) → Without x ys → Without x (y ∷ ys)
    go (yes e) w = record {
      rest = ys;
      long = omega arith;
      once = distinct_tail y ys t;
      from = λ v m. Memᴰ.tail m;
      gone = λ m. distinct_head y ys t (Memᴰ.cast (sym e) m);
    }
    go (no n) w = record {
      rest = y ∷ w.rest;
      long = omega (arith, w.long);
      once = distinct_cons y w.rest (λ m. distinct_head y ys t (w.from y m)) w.once;
      from = λ v m. up v m;
      gone = λ m. out m;
    }
      where
        up : (v : ℕ) → Memᴰ v (y ∷ w.rest) → Memᴰ v (y ∷ ys)
        up v (Memᴰ.head e) = Memᴰ.head e
        up v (Memᴰ.tail m) = Memᴰ.tail (w.from v m)

        out : Memᴰ x (y ∷ w.rest) → ⊥
        out (Memᴰ.head e) = n e
        out (Memᴰ.tail m) = w.gone m

pub pigeons : (n : ℕ) (xs : List ℕ) → T (distinct xs) → ((v : ℕ) → Memᴰ v xs → v < n) → length xs ≤ n
pigeons zero [] t f = zero-le
pigeons zero (x ∷ xs) t f = absurd (not-suc-le-zero (f x (Memᴰ.head refl)))
pigeons (suc n) xs t f =
    let w : Without n xs = without n xs t in
    omega (arith, w.long, pigeons n w.rest w.once (λ v m. below v w m (ℕ_discrete v n)))
  where
    below : (v : ℕ) (w : Without n xs) → Memᴰ v w.rest → Dec (v ≡ n) → v < n
    below v w m (yes e) = absurd (w.gone (Memᴰ.cast (sym e) m))
    below v w m (no q) = omega (arith, f v (w.from v m))

-- bounds to events below n that enter none of them twice
pub steps_most : (n : ℕ) (bs : List Bound) → ((b : Bound) → Memᴰ b bs → b.end < n) → T (distinct (ends bs)) → length bs ≤ n
steps_most n bs low once = omega (arith, length-map bs (λ b. b.end), pigeons n (ends bs) once below)
  where
    below : (v : ℕ) → Memᴰ v (ends bs) → v < n
    below v i =
        let b = Memᴰ.of_map (λ b. b.end) bs i in
        subst (λ (x : ℕ). x < n) b.2 (low b.0 b.1)

-- ---- the number of different ones

pub different_all : (xs : List ℕ) → T (distinct xs) → different xs ≡ length xs
different_all [] d = refl
different_all (x ∷ xs) d = rw (is_true (absent x xs) (and_yes (absent x xs) (distinct xs) d).0) (ap suc (different_all xs (distinct_tail x xs d)))

-- numbers that stand again later count only there
pub different_again : (xs ys : List ℕ) → ((v : ℕ) → Memᴰ v xs → Memᴰ v ys) → different (xs ++ ys) ≡ different ys
different_again [] ys f = refl
different_again (x ∷ xs) ys f =
    rw (is_false (absent x (xs ++ ys)) (not_T (absent x (xs ++ ys)) (λ t. absent_not x (xs ++ ys) t (Memᴰ.append_right xs (f x (Memᴰ.head refl))))))
    (different_again xs ys (λ v m. f v (Memᴰ.tail m)))
