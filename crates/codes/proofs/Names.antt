-- The bound that a code names: what the rows of memory say of it, and that the bounds of a plan have names.
use mathlib.Core.Path.{◌≡◌, refl, sym, ◌∙◌, subst}
use mathlib.Core.Bool.{Bool, true, false, cond, not, ◌&&◌}
use Prim.Native.Nat.{ℕ, ◌+◌, ◌*◌, ◌-◌, ◌/◌, ◌%◌, ◌≤◌, ◌<◌}
use native.Mathlib.Omega.{arith}
use borrow.Author.Tests.{eq-eqb, ne_eqb, lt-ltb, le-ltb, eqb-true, eqb-false, ltb-true, ltb-false, not-true}
use lib.Dec.{eqb, ltb}
use lib.ListN.{length}
use Rattle.meaning.specs.Plan as M
use Rattle.meaning.specs.Plan.{most_records, record_at}
use Rattle.meaning.specs.Bounds.{Bound, horizon_codes, upper, lower, horizon_upper, horizon_lower}
use Rattle.meaning.specs.Faultless.{WithoutFault}
use Rattle.meaning.proofs.Tests.{both}
use Rattle.meaning.proofs.Bounds.{Given, each_bound, given_upper, given_lower, given_horizon_upper, given_horizon_lower}
use Rattle.codes.specs.Codes.{named, is_code, has_code, of_record, of_horizon}

-- ---- a code and the record or the event that it names

module _ (p : M.Plan) (c : ℕ) where
  pub name_record : c < horizon_codes → named p c ≡ of_record p c
  unfolding named
  name_record l = rw (lt-ltb c horizon_codes l)

  pub name_horizon : horizon_codes ≤ c → named p c ≡ of_horizon p c
  unfolding named
  name_horizon l = rw (le-ltb c horizon_codes l)

-- ---- the bounds of a plan have names

module _ (p : M.Plan) where
  abbrev Named : Bound → Type 0
  Named b = named p b.code ≡ b

  module _ (k : ℕ) where
    module _ (l : k < most_records) where
      upper_named : Named (upper k (record_at p k))
      upper_named =
          let q : (2 * k) / 2 ≡ k = omega arith in
          name_record p (2 * k) (omega arith) ∙ rw (eq-eqb ((2 * k) % 2) 0 (omega arith), q)

      lower_named : Named (lower k (record_at p k))
      lower_named =
          let q : (2 * k + 1) / 2 ≡ k = omega arith in
          name_record p (2 * k + 1) (omega arith) ∙ rw (ne_eqb ((2 * k + 1) % 2) 0 (λ e. omega arith), q)

    horizon_upper_named : Named (horizon_upper p.horizon k)
    horizon_upper_named =
        let q : (horizon_codes + 2 * k - horizon_codes) / 2 ≡ k = omega arith in
        name_horizon p (horizon_codes + 2 * k) (omega arith) ∙ rw (eq-eqb ((horizon_codes + 2 * k) % 2) 0 (omega arith), q)

    horizon_lower_named : Named (horizon_lower k)
    horizon_lower_named =
        let q : (horizon_codes + 2 * k + 1 - horizon_codes) / 2 ≡ k = omega arith in
        name_horizon p (horizon_codes + 2 * k + 1) (omega arith) ∙ rw (ne_eqb ((horizon_codes + 2 * k + 1) % 2) 0 (λ e. omega arith), q)

-- what is printed for a code of a chain is the bound that has the code
pub named_right : {p : M.Plan} → WithoutFault p → (b : Bound) → Given p b → named p b.code ≡ b
named_right {p} g =
    each_bound p (Named p) (λ k l. (upper_named p k (omega (arith, l, g.few)), lower_named p k (omega (arith, l, g.few))))
    (λ e some few. (horizon_upper_named p e, horizon_lower_named p e))

-- ---- the codes of the bounds of a plan: those of its records, and those of the horizon for its events other than 0

-- a bound of the plan with this code
abbrev Has : M.Plan → ℕ → Bound → Type 0
Has p c b = Given p b × (b.code ≡ c)

module _ (p : M.Plan) (c : ℕ) where
  record_has : c / 2 < length p.records → Has p c (of_record p c)
  record_has l = at (eqb (c % 2) 0) refl
    where
      at : (t : Bool) → eqb (c % 2) 0 ≡ t → Has p c (cond t (upper (c / 2) (record_at p (c / 2))) (lower (c / 2) (record_at p (c / 2))))
      at true q = (given_upper p (c / 2) l, omega (arith, eqb-true (c % 2) 0 q))
      at false q = (given_lower p (c / 2) l, omega (arith, eqb-false (c % 2) 0 q))

  horizon_has : horizon_codes ≤ c → let e = (c - horizon_codes) / 2 in 1 ≤ e → e < p.events → Has p c (of_horizon p c)
  horizon_has low some few = at (eqb (c % 2) 0) refl
    where
      at : (t : Bool) → eqb (c % 2) 0 ≡ t → let e = (c - horizon_codes) / 2 in Has p c (cond t (horizon_upper p.horizon e) (horizon_lower e))
      at true q = (given_horizon_upper p _ some few, omega (arith, low, eqb-true (c % 2) 0 q))
      at false q = (given_horizon_lower p _ some few, omega (arith, low, eqb-false (c % 2) 0 q))

  -- such a code names a bound of the plan
  pub code_named : has_code p c ≡ true → Has p c (named p c)
  unfolding is_code
  code_named h = at (ltb c horizon_codes) refl h
    where
      at : (t : Bool) → ltb c horizon_codes ≡ t →
          let e = (c - horizon_codes) / 2 in
          cond t (ltb (c / 2) (length p.records)) (not (eqb e 0) && ltb e p.events) ≡ true → Has p c (named p c)
      at true q m = subst (Has p c) (sym (name_record p c (ltb-true c horizon_codes q))) (record_has (ltb-true _ _ m))
      at false q m =
          let low = ltb-false c horizon_codes q in
          let parts = both _ _ m in
          let some = eqb-false ((c - horizon_codes) / 2) 0 (not-true _ parts.0) in
          subst (Has p c) (sym (name_horizon p c low)) (horizon_has low (omega (arith, some)) (ltb-true _ _ parts.1))

-- and each bound of the plan has one
pub given_code : {p : M.Plan} → WithoutFault p → (b : Bound) → Given p b → has_code p b.code ≡ true
unfolding is_code
given_code {p} g =
    each_bound p _ (λ k l. (of_record_lem (2 * k) k l (omega arith), of_record_lem (2 * k + 1) k l (omega arith)))
    (λ e some few. (
      of_horizon_lem (horizon_codes + 2 * e) e some few (omega arith) (omega arith),
      of_horizon_lem (horizon_codes + 2 * e + 1) e some few (omega arith) (omega arith),
    ))
  where
    of_record_lem : (c k : ℕ) → k < length p.records → c / 2 ≡ k → has_code p c ≡ true
    of_record_lem c k l q =
        let low : c < horizon_codes = omega (arith, g.few) in
        rw (lt-ltb c horizon_codes low, q, lt-ltb k (length p.records) l)

    of_horizon_lem : (c e : ℕ) → 1 ≤ e → e < p.events → horizon_codes ≤ c → (c - horizon_codes) / 2 ≡ e → has_code p c ≡ true
    of_horizon_lem c e some few low q = rw (le-ltb c horizon_codes low, q, ne_eqb e 0 (λ z. omega (arith, some, z)), lt-ltb e p.events few)
