-- Codes that lead round and sum below zero are exactly the chains of document 01. Both ways go by one record: what a walk along bounds of the
-- plan needs to come back to where it began. `goes_on` gives it of the bounds that the codes name, and has it of the steps of a chain.
use mathlib.Core.Path.{◌≡◌, refl, sym, ap, subst, ◌∙◌}
use mathlib.Core.Logic.{⊎_elim}
use mathlib.Core.List.Memᴰ
use mathlib.Core.List.{List, [], ◌∷◌, map, Memᴰ}
use mathlib.Core.Bool.{true, false, true≢false}
use Prim.Native.Nat.{ℕ, ◌≤◌, ◌<◌}
use native.Mathlib.Omega.{arith}
use borrow.Author.Tests.{eqb-true, eq-eqb, leb-true, le-leb, not-true}
use lib.Dec.{T, eqb, leb}
use lib.ListN.{length, length-map}
use lib.IntN.{pos, neg_ℤ}
use lib.Signed.{◌≤ℤ◌, ◌<ℤ◌}
use Rattle.ticks.proofs.Ticks.{ticks, neg}
use Rattle.eventset.specs.Sets.{member, put_in}
use Rattle.eventset.proofs.Laws.{put_same, put_other, none_member}
use Rattle.meaning.specs.Plan.{Plan}
use Rattle.meaning.specs.Bounds.{Bound, Leads, stop, step, total, distinct, ends, Chain}
use Rattle.meaning.specs.Faultless.{WithoutFault}
use Rattle.meaning.specs.Short.{ShortBy}
use Rattle.meaning.proofs.Tests.{both}
use Rattle.meaning.proofs.Distinct.{distinct_head, distinct_tail, distinct_cons}
use Rattle.meaning.proofs.Bounds.{Given}
use Rattle.meaning.proofs.ChainTest.{codes}
use Rattle.meaning.proofs.Chains.{nowhere, loop_chain}
use Rattle.meaning.proofs.Short.{one_chain, zero_short}
use Rattle.codes.specs.Codes.{named, has_code}
use Rattle.codes.proofs.Names.{code_named, given_code, named_right}
use Rattle.shortfall.specs.Round.{may_step, goes_on, leads_round}

-- ---- an event that is not in a set with one more

not_put : (s e f : ℕ) → member (put_in s e) f ≡ false → f ≡ e → ⊥
not_put s e f h q = true≢false (sym (put_same s e) ∙ ap (member (put_in s e)) (sym q) ∙ h)

not_before : (s e f : ℕ) → member (put_in s e) f ≡ false → member s f ≡ false
not_before s e f h = sym (put_other s e f (not_put s e f h)) ∙ h

-- ---- where bounds lead, from the front

first_start_lem : {s z : ℕ} {b : Bound} {bs : List Bound} → Leads s (b ∷ bs) z → b.start ≡ s
first_start_lem (step l) = refl

past_first : {s z : ℕ} {b : Bound} {bs : List Bound} → Leads s (b ∷ bs) z → Leads b.end bs z
past_first (step l) = l

-- ---- what a walk needs that stands at `at`, has entered the events of `seen`, and comes back to `from` along these bounds

record Returns (p : Plan) (from at seen : ℕ) (bs : List Bound) : Type 0 where
  leads : Leads at bs from
  given : (b : Bound) → Memᴰ b bs → Given p b
  once : T (distinct (ends bs))
  fresh : (e : ℕ) → Memᴰ e (ends bs) → member seen e ≡ false
  least : (b : Bound) → Memᴰ b bs → from ≤ b.start

module _ {p : Plan} {from at seen : ℕ} {b : Bound} {bs : List Bound} where
  -- one step more in front
  after_step_lem : Given p b → may_step from at seen b ≡ true → Returns p from b.end (put_in seen b.end) bs → Returns p from at seen (b ∷ bs)
  after_step_lem g m r =
      let m1 = both (eqb b.start at) _ m in
      let m2 = both (leb from b.start) _ m1.1 in
      record {
        leads = subst (λ (n : ℕ). Leads n (b ∷ bs) from) (eqb-true b.start at m1.0) (step r.leads);
        given = λ x q. ⊎_elim (λ e. subst (Given p) (sym e) g) (r.given x) (Memᴰ.cases_cons q);
        once = distinct_cons b.end (ends bs) (λ q. not_put seen b.end b.end (r.fresh b.end q) refl) r.once;
        fresh = λ e q. ⊎_elim (λ i. ap (member seen) i ∙ not-true _ m2.1) (λ i. not_before seen b.end e (r.fresh e i)) (Memᴰ.cases_cons q);
        least = λ x q. ⊎_elim (λ e. rw e (leb-true from b.start m2.0)) (r.least x) (Memᴰ.cases_cons q);
      }

  -- the first step may be taken, and past it the rest is left
  first_step : Returns p from at seen (b ∷ bs) → may_step from at seen b ≡ true
  first_step r =
      let low = r.least b (Memᴰ.head refl) in
      let new = r.fresh b.end (Memᴰ.head refl) in
      rw (eq-eqb b.start at (first_start_lem r.leads), le-leb from b.start low, new)

  before_step : Returns p from at seen (b ∷ bs) → Returns p from b.end (put_in seen b.end) bs
  before_step r = record {
    leads = past_first r.leads;
    given = λ x q. r.given x (Memᴰ.tail q);
    once = distinct_tail b.end (ends bs) r.once;
    fresh = λ e q. put_other seen b.end e (λ i. distinct_head b.end (ends bs) r.once (Memᴰ.cast (sym i) q)) ∙ r.fresh e (Memᴰ.tail q);
    least = λ x q. r.least x (Memᴰ.tail q);
  }

-- ---- along codes, and along bounds of the plan

module _ {p : Plan} {from : ℕ} where
  goes_returns : (at seen : ℕ) (cs : List ℕ) → goes_on p from at seen cs ≡ true → Returns p from at seen (map (named p) cs) × (codes (map (named p) cs) ≡ cs)
  unfolding goes_on
  goes_returns at seen [] h = (
    record {
      leads = subst (λ (n : ℕ). Leads at [] n) (eqb-true at from h) stop;
      given = λ b m. absurd (Memᴰ.not-nil m);
      once = tt;
      fresh = λ e m. absurd (Memᴰ.not-nil m);
      least = λ b m. absurd (Memᴰ.not-nil m);
    },
    refl,
  )
  goes_returns at seen (c ∷ cs) h =
      let b : Bound = named p c in
      let h1 = both (has_code p c) _ h in
      let h2 = both (may_step from at seen b) _ h1.1 in
      let is = code_named p c h1.0 in
      let rest = goes_returns b.end (put_in seen b.end) cs h2.1 in
      (after_step_lem is.0 h2.0 rest.0, λ i. is.1 i ∷ rest.1 i)

  returns_goes : WithoutFault p → (at seen : ℕ) (bs : List Bound) → Returns p from at seen bs → goes_on p from at seen (codes bs) ≡ true
  unfolding goes_on
  returns_goes w at seen [] r = eq-eqb at from (nowhere r.leads)
  returns_goes w at seen (b ∷ bs) r =
      let g = r.given b (Memᴰ.head refl) in
      let rest = returns_goes w b.end (put_in seen b.end) bs (before_step r) in
      rw (given_code w b g, named_right w b g, first_step r, rest)

-- ---- codes that lead round and sum below zero are a chain, and a chain is no other

returns_round : {p : Plan} → WithoutFault p → (from : ℕ) (bs : List Bound) → Returns p from from 0 bs → leads_round p (codes bs) ≡ true
returns_round w from [] r = refl
returns_round {p} w from (b ∷ bs) r =
    let starts = sym (first_start_lem r.leads) ∙ ap (λ (x : Bound). x.start) (sym (named_right w b (r.given b (Memᴰ.head refl)))) in
    subst (λ (x : ℕ). goes_on p x x 0 (codes (b ∷ bs)) ≡ true) starts (returns_goes w from 0 (b ∷ bs) r)

codes_named : {p : Plan} → WithoutFault p → (bs : List Bound) → ((b : Bound) → Memᴰ b bs → Given p b) → map (named p) (codes bs) ≡ bs
codes_named w [] g = refl
codes_named w (b ∷ bs) g = λ i. named_right w b (g b (Memᴰ.head refl)) i ∷ codes_named w bs (λ x m. g x (Memᴰ.tail m)) i

pub chain_round : {p : Plan} → WithoutFault p → {cs : List ℕ} (c : Chain p cs) → (leads_round p cs ≡ true) × (map (named p) cs ≡ c.steps)
chain_round {p} w {cs} c = (
  subst (λ (ds : List ℕ). leads_round p ds ≡ true) c.coded (returns_round w c.from c.steps walk),
  ap (map (named p)) (sym c.coded) ∙ codes_named w c.steps c.given,
)
  where
    walk : Returns p c.from c.from 0 c.steps
    walk = record { leads = c.closed; given = c.given; once = c.once; fresh = λ e m. none_member e; least = c.least }

round : {p : Plan} → WithoutFault p → (cs : List ℕ) → leads_round p cs ≡ true → total (map (named p) cs) <ℤ pos 0 → Chain p cs
round w [] h m = absurd (omega ticks)
round {p} w (c ∷ cs) h m =
    let found = goes_returns (named p c).start 0 (c ∷ cs) h in
    let r = found.0 in
    subst (Chain p) found.1 (loop_chain w (record { closed = r.leads; given = r.given; once = r.once; negative = m }) r.least)

pub round_chain : {p : Plan} → WithoutFault p → (cs : List ℕ) → leads_round p cs ≡ true → total (map (named p) cs) <ℤ pos 0 →
    (c : Chain p cs) × (c.steps ≡ map (named p) cs)
round_chain w cs h m = let c = round w cs h m in (c, sym (chain_round w c).1)

-- ---- by how many ticks codes fall short

pub short_chain : {p : Plan} {cs : List ℕ} {s : ℕ} → WithoutFault p → leads_round p cs ≡ true → (total (map (named p) cs) ≡ neg_ℤ (pos s)) × (1 ≤ s) →
    ShortBy p cs s
short_chain {cs = cs} w h q =
    let found = round_chain w cs h (omega (ticks, q.0, q.1)) in
    one_chain w found.0 (omega (ticks, q.0, ap total found.1, neg (total found.0.steps)))

-- 0 where they are no chain
module _ {p : Plan} {cs : List ℕ} where
  pub short_none : (Chain p cs → ⊥) → ShortBy p cs 0
  short_none n = (zero_short n 0).1 refl

  -- as many codes as steps
  all_coded : (c : Chain p cs) → length cs ≡ length c.steps
  all_coded c = ap length (sym c.coded) ∙ length-map c.steps (λ b. b.code)

  pub none_long : p.events < length cs → Chain p cs → ⊥
  none_long l c = omega (arith, l, all_coded c, c.most)

  pub none_apart : WithoutFault p → leads_round p cs ≡ false → Chain p cs → ⊥
  none_apart w h c = true≢false (sym (chain_round w c).0 ∙ h)

  pub none_heavy : WithoutFault p → pos 0 ≤ℤ total (map (named p) cs) → Chain p cs → ⊥
  none_heavy w h c = omega (ticks, h, ap total (chain_round w c).1, c.negative)
