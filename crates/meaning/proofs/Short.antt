-- What the number of ticks by which a chain falls short means: it is one number, it is 1 or more exactly where there is a chain, and whatever the times,
-- they miss the bounds of the chain by that many ticks together at least. It is tried on case 7, and on lists of codes that are no chain.
use mathlib.Core.Path.{◌≡◌, refl, ap, sym, ◌∙◌}
use mathlib.Core.Logic.{◌↔◌}
use mathlib.Core.List.Memᴰ
use mathlib.Core.List.{List, [], ◌∷◌, map, Memᴰ}
use Prim.Native.Nat.{ℕ, zero, suc, ◌≤◌}
use native.Mathlib.Omega.{arith}
use lib.ListN.{length, get_or, drop}
use lib.IntN.{ℤ, pos, negsuc, neg_ℤ, ◌+ℤ◌, ◌-ℤ◌}
use lib.Signed.{◌≤ℤ◌}
use Rattle.ticks.proofs.Ticks.{ticks, sum, neg}
use Rattle.meaning.specs.Plan.{rule, Plan, record_at, Times, Timetable}
use Rattle.meaning.specs.Peak.{peaked}
use Rattle.meaning.specs.Bounds.{Bound, Holds, upper, lower, Leads, stop, step, total, shortfall, Chain}
use Rattle.meaning.specs.Short.{ShortBy, ShortIn, above, missed_by, missed_together}
use Rattle.meaning.specs.Reading.{Reading, plan, refused, read, split, digits_of, number_of, line_form, line_step}
use Rattle.meaning.specs.Known.{bytes, case_7_text}
use Rattle.meaning.specs.Demands.{Call, Kept, OnPlan, codes}
use Rattle.meaning.specs.Faultless.{WithoutFault}
use Rattle.meaning.proofs.Bounds.{Given, given_upper, given_lower, one_code}
use Rattle.meaning.proofs.Chains.{chain_excludes}
use Rattle.meaning.proofs.ReadGood.{read_faultless}
use Rattle.meaning.proofs.ChainTest.{chain_right}
use Rattle.meaning.proofs.WrongChains.{Wrong, wrongs, wrong_chains}
use Rattle.meaning.proofs.Demands.{none_call}

-- ---- the number

module _ {p : Plan} {codes : List ℕ} {s : ℕ} where
  -- a chain falls short by 1 or more
  pub chain_short : Chain p codes → ShortBy p codes s → 1 ≤ s
  chain_short c h = omega (ticks, c.negative, h.lacks c, neg (total c.steps))

  -- where it is 1 or more there is no timetable
  pub short_excludes : ShortBy p codes s → 1 ≤ s → {t : Times} → Timetable p t → ⊥
  short_excludes h l = chain_excludes (h.shown l)

-- there is one
pub one_short : {p : Plan} {codes : List ℕ} {s s' : ℕ} → ShortBy p codes s → ShortBy p codes s' → s ≡ s'
one_short {s = zero} {s' = zero} h k = refl
one_short {s = zero} {s' = suc n} h k = let c = k.shown (omega arith) in omega (ticks, h.lacks c, k.lacks c)
one_short {s = suc n} h k = let c = h.shown (omega arith) in omega (ticks, h.lacks c, k.lacks c)

pub one_short_in : (r : Reading) (codes : List ℕ) {s s' : ℕ} → ShortIn r codes s → ShortIn r codes s' → s ≡ s'
one_short_in (plan p) codes h k = one_short h k
one_short_in (refused m i) codes h k = h ∙ sym k

-- a call of the solver that finds no timetable
pub none_short : (c : Call) → Kept c → c.number ≡ 1 → (p : Plan) → OnPlan c p → {s : ℕ} → ShortBy p (codes c) s → 1 ≤ s
none_short c k e p o h = chain_short (none_call c p o k e) h

-- ---- what any times miss

-- none where they keep the bound
pub kept_none : (t : Times) (b : Bound) → Holds t b → missed_by t b ≡ 0
kept_none t b h =
    let d = t b.end -ℤ t b.start in
    none (d -ℤ b.weight) (omega (ticks, h, sum (t b.end) (neg_ℤ (t b.start)), neg (t b.start), sum d (neg_ℤ b.weight), neg b.weight))
  where
    none : (z : ℤ) → z ≤ℤ pos 0 → above z ≡ 0
    none (pos n) l = omega ticks
    none (negsuc n) l = refl

-- that much more weight, and they would keep it
missed_enough : (t : Times) (b : Bound) → t b.end ≤ℤ (t b.start +ℤ b.weight +ℤ pos (missed_by t b))
missed_enough t b =
    let d = t b.end -ℤ t b.start in
    omega (ticks, enough (d -ℤ b.weight), sum (t b.end) (neg_ℤ (t b.start)), neg (t b.start), sum d (neg_ℤ b.weight), neg b.weight)
  where
    enough : (z : ℤ) → z ≤ℤ pos (above z)
    enough (pos n) = omega ticks
    enough (negsuc n) = omega ticks

-- the same of the bounds on the way
pub telescope_missed : (t : Times) {i j : ℕ} {bs : List Bound} → Leads i bs j → t j ≤ℤ (t i +ℤ total bs +ℤ pos (missed_together t bs))
telescope_missed t {i} stop = omega ticks
telescope_missed t {j = j} (step {b = b} {bs = bs} l) =
    omega (ticks, missed_enough t b, telescope_missed t l, sum b.weight (total bs))

-- whatever the times, the bounds of a chain are missed by its shortfall together at least
pub missed : (t : Times) {p : Plan} {cs : List ℕ} {s : ℕ} → ShortBy p cs s → (c : Chain p cs) → s ≤ missed_together t c.steps
missed t h c = omega (ticks, h.lacks c, neg (total c.steps), telescope_missed t c.closed)

-- ---- one chain tells it, or none

-- where a code names one bound, two lists of bounds with the same codes are the same
same_bounds : {p : Plan} → WithoutFault p → (xs ys : List Bound) → ((b : Bound) → Memᴰ b xs → Given p b) → ((b : Bound) → Memᴰ b ys → Given p b) →
    map (λ b. b.code) xs ≡ map (λ b. b.code) ys → xs ≡ ys
same_bounds w [] [] f g e = refl
same_bounds w [] (y ∷ ys) f g e = absurd (omega (arith, ap length e))
same_bounds w (x ∷ xs) [] f g e = absurd (omega (arith, ap length e))
same_bounds {p} w (x ∷ xs) (y ∷ ys) f g e =
    let h : x ≡ y = one_code p w x (f x (Memᴰ.head refl)) y (g y (Memᴰ.head refl)) (ap (λ zs. get_or zs 0 0) e) in
    let k : xs ≡ ys = same_bounds w xs ys (λ b m. f b (Memᴰ.tail m)) (λ b m. g b (Memᴰ.tail m)) (ap (drop 1) e) in
    λ i. h i ∷ k i

-- so what one chain with these codes lacks is the number
pub one_chain : {p : Plan} → WithoutFault p → {codes : List ℕ} {s : ℕ} (c : Chain p codes) → shortfall c.steps ≡ pos s → ShortBy p codes s
one_chain w c e = record {
  shown = λ l. c;
  lacks = λ d. ap shortfall (same_bounds w d.steps c.steps d.given c.given (d.coded ∙ sym c.coded)) ∙ e;
}

-- and where there is none it is 0
pub zero_short : {p : Plan} {codes : List ℕ} → (Chain p codes → ⊥) → (s : ℕ) → ShortBy p codes s ↔ (s ≡ 0)
zero_short f zero = (λ h. refl, λ e. record { shown = λ l. absurd (omega arith); lacks = λ c. absurd (f c) })
zero_short f (suc n) = (λ h. absurd (f (h.shown (omega arith))), λ e. absurd (omega arith))

-- ---- tried: the chain of case 7 falls short by 1, neither by 0 nor by 2, and the wrong chains by 0 and by nothing else

abbrev case_7 : Plan
case_7 = record { events = 3; horizon = 10; records = rule 0 1 (pos 4) (pos 10) ∷ rule 1 2 (pos 4) (pos 10) ∷ rule 0 2 (pos 0) (pos 7) ∷ [] }

abbrev case_7_steps : List Bound
case_7_steps = upper 2 (record_at case_7 2) ∷ lower 1 (record_at case_7 1) ∷ lower 0 (record_at case_7 0) ∷ []

read_case_7 : read (bytes case_7_text) ≡ plan case_7
unfolding read split digits_of number_of line_form line_step peaked
read_case_7 = refl

one_plan : {r : Reading} {p q : Plan} → r ≡ plan p → r ≡ plan q → p ≡ q
one_plan e f = cc

case_7_given : (b : Bound) → Memᴰ b case_7_steps → Given case_7 b
case_7_given b (Memᴰ.head e) = Memᴰ.cast e (given_upper case_7 2 (omega arith))
case_7_given b (Memᴰ.tail (Memᴰ.head e)) = Memᴰ.cast e (given_lower case_7 1 (omega arith))
case_7_given b (Memᴰ.tail (Memᴰ.tail (Memᴰ.tail x12))) = elim x12 [ ]
case_7_given b (Memᴰ.tail (Memᴰ.tail (Memᴰ.head e))) = Memᴰ.cast e (given_lower case_7 0 (omega arith))

pub case_7_short : (p : Plan) → read (bytes case_7_text) ≡ plan p → ShortBy p (4 ∷ 3 ∷ 1 ∷ []) 1
case_7_short p e =
    let w = read_faultless (bytes case_7_text) read_case_7 in
    let c = chain_right case_7 (4 ∷ 3 ∷ 1 ∷ []) tt in
    rw (one_plan e read_case_7) (one_chain w c (ap shortfall (same_bounds w c.steps case_7_steps c.given case_7_given c.coded)))

pub case_7_not_0 : (p : Plan) → read (bytes case_7_text) ≡ plan p → ShortBy p (4 ∷ 3 ∷ 1 ∷ []) 0 → ⊥
case_7_not_0 p e h = let z = one_short h (case_7_short p e) in omega arith

pub case_7_not_2 : (p : Plan) → read (bytes case_7_text) ≡ plan p → ShortBy p (4 ∷ 3 ∷ 1 ∷ []) 2 → ⊥
case_7_not_2 p e h = let z = one_short h (case_7_short p e) in omega arith

pub wrong_short : (x : Wrong) → Memᴰ x wrongs → (p : Plan) → read (bytes x.text) ≡ plan p → (s : ℕ) → ShortBy p x.codes s ↔ (s ≡ 0)
wrong_short x m p e = let n = wrong_chains x m in rw (one_plan e n.1) (zero_short n.2)
