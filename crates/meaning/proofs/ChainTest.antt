-- A test of a chain that computes: the bounds are found by their codes, and each demand on a chain is tried. In a plan without fault a
-- list of codes passes it exactly if it is a chain: a code names one bound there, so that the bounds found are the chain's steps.
use mathlib.Core.Path.{◌≡◌, refl, sym, subst}
use mathlib.Core.List.Memᴰ
use mathlib.Core.List.{List, [], ◌∷◌, ◌++◌, map, Memᴰ}
use mathlib.Core.Bool.{Bool, true, false, cond, ◌&&◌, ◌||◌}
use Prim.Native.Nat.{ℕ, ◌<◌}
use native.Mathlib.Nat.{not-suc-le-zero}
use native.Mathlib.Omega.{arith}
use lib.Dec.{T, leb, eqb, leb→le, eqb→eq, eqb_refl}
use lib.ListN.{length}
use lib.IntN.{pos}
use lib.Signed.{◌<ℤ◌, lt_z, lt_z_yes}
use mir.Facts.{and_yes, yes_and, eqb_yes, yes_eqb, leb_yes, yes_leb}
use Rattle.ticks.proofs.Ticks.{ticks}
use Rattle.meaning.specs.Plan.{Plan}
use Rattle.meaning.specs.Bounds.{Bound, bounds, Leads, stop, step, total, distinct, different, starts, ends, Chain}
use Rattle.meaning.specs.Faultless.{WithoutFault}
use Rattle.meaning.proofs.All.{all, all_each, each_all}
use Rattle.meaning.proofs.Bounds.{Told, one_code}

-- ---- the bounds with these codes

-- what stands for a code that no bound has
abbrev no_bound : Bound
no_bound = record { start = 0; end = 0; weight = pos 0; code = 0 }

abbrev find : ℕ → List Bound → Bound
find c [] = no_bound
find c (b ∷ bs) = let r = find c bs in cond (eqb b.code c) b r

abbrev has : ℕ → List Bound → Bool
has c [] = false
has c (b ∷ bs) = let r = has c bs in eqb b.code c || r

found : (c : ℕ) (bs : List Bound) → T (has c bs) → Memᴰ (find c bs) bs × ((find c bs).code ≡ c)
found c [] h = absurd h
found c (b ∷ bs) h = go (eqb b.code c) (eqb→eq b.code c) h (found c bs)
  where
    go : (t : Bool) → (T t → b.code ≡ c) → T (t || has c bs) → (T (has c bs) → Memᴰ (find c bs) bs × ((find c bs).code ≡ c)) →
        Memᴰ (cond t b (find c bs)) (b ∷ bs) × ((cond t b (find c bs)).code ≡ c)
    go true e h f = (Memᴰ.head refl, e tt)
    go false e h f = (Memᴰ.tail (f h).0, (f h).1)

-- a member's code is found
has_code : (b : Bound) (bs : List Bound) → Memᴰ b bs → T (has b.code bs)
has_code b [] m = elim m [ ]
has_code b (x ∷ bs) m = go (eqb x.code b.code) m (λ e. yes_eqb (λ i. (sym e i).code)) (has_code b bs)
  where
    go : (t : Bool) → Memᴰ b (x ∷ bs) → (b ≡ x → T t) → (Memᴰ b bs → T (has b.code bs)) → T (t || has b.code bs)
    go true m f g = tt
    go false (Memᴰ.head e) f g = absurd (f e)
    go false (Memᴰ.tail m) f g = g m

abbrev find_all : List Bound → List ℕ → List Bound
find_all bs cs = map (λ c. find c bs) cs

abbrev has_all : List Bound → List ℕ → Bool
has_all bs cs = all (λ c. has c bs) cs

abbrev pub codes : List Bound → List ℕ
codes bs = map (λ b. b.code) bs

module _ (bs : List Bound) where
  coded : (cs : List ℕ) → T (has_all bs cs) → codes (find_all bs cs) ≡ cs
  coded [] h = refl
  coded (c ∷ cs) h = let k = and_yes (has c bs) (has_all bs cs) h in λ i. (found c bs k.0).1 i ∷ coded cs k.1 i

  given : (cs : List ℕ) → T (has_all bs cs) → (b : Bound) → Memᴰ b (find_all bs cs) → Memᴰ b bs
  given [] h b m = absurd (Memᴰ.not-nil m)
  given (c ∷ cs) h b (Memᴰ.head e) = Memᴰ.cast e (found c bs (and_yes (has c bs) (has_all bs cs) h).0).0
  given (c ∷ cs) h b (Memᴰ.tail m) = given cs (and_yes (has c bs) (has_all bs cs) h).1 b m

  has_codes : (xs : List Bound) → ((b : Bound) → Memᴰ b xs → Memᴰ b bs) → T (has_all bs (codes xs))
  has_codes [] f = tt
  has_codes (x ∷ xs) f = yes_and (has x.code bs) _ (has_code x bs (f x (Memᴰ.head refl))) (has_codes xs (λ b m. f b (Memᴰ.tail m)))

  -- where a code names one bound, the bounds with these codes are these bounds
  finds_all : ((b : Bound) → Memᴰ b bs → (c : Bound) → Memᴰ c bs → Told b c) →
      (xs : List Bound) → ((b : Bound) → Memᴰ b xs → Memᴰ b bs) → find_all bs (codes xs) ≡ xs
  finds_all one [] f = refl
  finds_all one (x ∷ xs) f = λ i. finds i ∷ finds_all one xs (λ b m. f b (Memᴰ.tail m)) i
    where
      finds : find x.code bs ≡ x
      finds = let m = f x (Memᴰ.head refl) in let g = found x.code bs (has_code x bs m) in one _ g.0 x m g.1

-- ---- where they lead

abbrev leads : ℕ → List Bound → ℕ → Bool
leads s [] z = eqb s z
leads s (b ∷ bs) z = let k = leads b.end bs z in eqb b.start s && k

is_led : (s : ℕ) (bs : List Bound) (z : ℕ) → T (leads s bs z) → Leads s bs z
is_led s [] z h = subst (λ (n : ℕ). Leads s [] n) (eqb→eq s z h) stop
is_led s (b ∷ bs) z h =
    let k = and_yes (eqb b.start s) (leads b.end bs z) h in
    subst (λ (n : ℕ). Leads n (b ∷ bs) z) (eqb→eq b.start s k.0) (step (is_led b.end bs z k.1))

led : {s z : ℕ} {bs : List Bound} → Leads s bs z → T (leads s bs z)
led {s} stop = eqb_refl s
led {z = z} (step {b = b} {bs = bs} l) = yes_and (eqb b.start b.start) (leads b.end bs z) (eqb_refl b.start) (led l)

abbrev first_start : List Bound → ℕ
first_start [] = 0
first_start (b ∷ bs) = b.start

-- they lead from where the first begins
first_start_lem : {s z : ℕ} {bs : List Bound} → Leads s bs z → 0 < length bs → first_start bs ≡ s
first_start_lem stop h = absurd (not-suc-le-zero h)
first_start_lem (step l) h = refl

abbrev least_of : ℕ → List Bound → Bool
least_of s bs = all (λ b. leb s b.start) bs

-- ---- the test

abbrev size_test : Plan → List Bound → Bool
size_test p bs = eqb (length bs) (different (starts bs ++ ends bs)) && (leb 2 (length bs) && leb (length bs) p.events)

-- the steps of a chain from event s
abbrev from_test : Plan → List Bound → ℕ → Bool
from_test p bs s = leads s bs s && (distinct (ends bs) && (lt_z (total bs) (pos 0) && (least_of s bs && size_test p bs)))

abbrev pub steps_test : Plan → List Bound → Bool
steps_test p bs = from_test p bs (first_start bs)

abbrev pub chain_test : Plan → List ℕ → Bool
chain_test p cs = has_all (bounds p) cs && steps_test p (find_all (bounds p) cs)

-- what passes the test is a chain
pub chain_right : (p : Plan) (cs : List ℕ) → T (chain_test p cs) → Chain p cs
chain_right p cs h =
    let bs : List Bound = find_all (bounds p) cs in
    let s : ℕ = first_start bs in
    let h1 = and_yes (has_all (bounds p) cs) _ h in
    let h2 = and_yes (leads s bs s) _ h1.1 in
    let h3 = and_yes (distinct (ends bs)) _ h2.1 in
    let h4 = and_yes (lt_z (total bs) (pos 0)) _ h3.1 in
    let sum : total bs <ℤ pos 0 = lt_z_yes h4.0 in
    let h5 = and_yes (least_of s bs) _ h4.1 in
    let h6 = and_yes (eqb (length bs) (different (starts bs ++ ends bs))) _ h5.1 in
    let h7 = and_yes (leb 2 (length bs)) _ h6.1 in
    record {
      steps = bs;
      coded = rw (coded (bounds p) cs h1.0);
      given = given (bounds p) cs h1.0;
      from = s;
      closed = is_led s bs s h2.0;
      once = h3.0;
      negative = omega ticks;
      counted = eqb_yes h6.0;
      two = leb_yes h7.0;
      most = leb_yes h7.1;
      least = λ b m. omega (arith, leb→le s b.start (all_each (λ x. leb s x.start) bs h5.0 b m));
    }

-- the steps of a chain pass it
pub chain_steps : {p : Plan} {cs : List ℕ} (c : Chain p cs) → T (steps_test p c.steps)
chain_steps {p} c =
    let bs : List Bound = c.steps in
    let s : ℕ = c.from in
    subst (λ (x : ℕ). T (from_test p bs x)) (sym (first_start_lem c.closed (omega (arith, c.two))))
    (yes_and (leads s bs s) _ (led c.closed)
    (yes_and (distinct (ends bs)) _ c.once
    (yes_and (lt_z (total bs) (pos 0)) _ c.negative.lt
    (yes_and (least_of s bs) _ (each_all (λ x. leb s x.start) bs (λ b m. yes_leb (c.least b m)))
    (yes_and (eqb (length bs) (different (starts bs ++ ends bs))) _ (yes_eqb c.counted)
    (yes_and (leb 2 (length bs)) _ (yes_leb c.two) (yes_leb c.most)))))))

-- a chain passes the test
pub chain_only : (p : Plan) → WithoutFault p → (cs : List ℕ) → Chain p cs → T (chain_test p cs)
chain_only p w cs c = subst (λ ds. T (chain_test p ds)) c.coded
    (yes_and (has_all (bounds p) (codes c.steps)) _ (has_codes (bounds p) c.steps c.given)
    (subst (λ bs. T (steps_test p bs)) (sym (finds_all (bounds p) (one_code p w) c.steps c.given)) (chain_steps c)))
