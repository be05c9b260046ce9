-- In a plan without fault the weight of the bound that a code names lies within most_end of zero, whatever the code is: so the sum along as many codes
-- as a chain can have fits.
use mathlib.Core.Path.{◌≡◌, refl, subst}
use mathlib.Core.Bool.{Bool, true, false, cond}
use mathlib.Core.List.Memᴰ
use mathlib.Core.List.{List, [], ◌∷◌, map, map-append}
use Prim.Native.Nat.{ℕ, suc, ◌+◌, ◌*◌, ◌-◌, ◌/◌, ◌%◌, ◌≤◌, ◌<◌}
use native.Mathlib.Decide.{dec_lt}
use native.Mathlib.Numerals.{add-one}
use native.Mathlib.Omega.{arith}
use lib.Dec.{eqb, ltb}
use lib.IntN.{ℤ, pos, negsuc, neg_ℤ, nat_abs, ◌+ℤ◌, +ℤ_idr}
use lib.ListN.{length, length-map, length-take, get_or, take, get_or-eq_default}
use lib.Seq.{take-suc}
use lib.Signed.{◌<ℤ◌}
use mir.Syntax.{w64}
use mir.Val.{SFits}
use Rattle.ticks.proofs.Ticks.{ticks}
use Rattle.meaning.specs.Plan.{Plan, Within, nothing, record_at, most_events, most_end}
use Rattle.meaning.specs.Bounds.{Bound, horizon_codes, upper, lower, horizon_upper, horizon_lower, total}
use Rattle.meaning.specs.Faultless.{WithoutFault}
use Rattle.meaning.proofs.Bounds.{given_upper, given_lower}
use Rattle.meaning.proofs.Sums.{sums_within, bound_near, sum_fits}
use Rattle.meaning.proofs.Walks.{total_join}
use Rattle.codes.specs.Codes.{named}

abbrev Near : Bound → Type 0
Near b = Within (neg_ℤ (pos most_end)) b.weight (pos most_end)

module _ {p : Plan} (w : WithoutFault p) where
  -- past the last record stands one whose ends are 0
  record_near : (k : ℕ) → Near (upper k (record_at p k)) × Near (lower k (record_at p k))
  record_near k = at (dec_lt k (length p.records))
    where
      at : Dec (k < length p.records) → Near (upper k (record_at p k)) × Near (lower k (record_at p k))
      at (yes l) = (bound_near p w _ (given_upper p k l), bound_near p w _ (given_lower p k l))
      at (no n) =
          rw (get_or-eq_default p.records nothing {n = k} (omega (arith, n)))
          (record { above = omega ticks; below = omega ticks }, record { above = omega ticks; below = omega ticks })

  pub named_near : (c : ℕ) → Within (neg_ℤ (pos most_end)) (named p c).weight (pos most_end)
  unfolding named
  named_near c = at (ltb c horizon_codes) (eqb (c % 2) 0)
    where
      at : (t u : Bool) →
          let k = c / 2 in
          let e = (c - horizon_codes) / 2 in
          Near (cond t (cond u (upper k (record_at p k)) (lower k (record_at p k))) (cond u (horizon_upper p.horizon e) (horizon_lower e)))
      at true true = (record_near (c / 2)).0
      at true false = (record_near (c / 2)).1
      at false true = record { above = omega ticks; below = omega (ticks, w.near) }
      at false false = record { above = omega ticks; below = omega ticks }

  -- the sum along as many codes as a chain can have
  pub sum_near : (cs : List ℕ) → length cs ≤ most_events →
      Within (neg_ℤ (pos (most_events * most_end))) (total (map (named p) cs)) (pos (most_events * most_end))
  sum_near cs l =
      sums_within most_end most_events (map (named p) cs) (omega (arith, l, length-map cs (named p)))
      (λ b m. let o = Memᴰ.of_map (named p) cs m in subst Near o.2 (named_near o.0))

-- ---- the sum along the first i codes

abbrev pub along : Plan → List ℕ → ℕ → ℤ
along p cs i = total (map (named p) (take i cs))

pub along_fits : {p : Plan} → WithoutFault p → (cs : List ℕ) → length cs ≤ most_events → (i : ℕ) → SFits w64 (along p cs i)
along_fits {p} w cs l i =
    sum_fits w64 (omega arith) most_events (omega arith) (along p cs i) (sum_near w (take i cs) (omega (arith, l, length-take i cs)))

-- one more
pub along_more : (p : Plan) (cs : List ℕ) (i : ℕ) → i < length cs → along p cs (i + 1) ≡ along p cs i +ℤ (named p (get_or cs i 0)).weight
along_more p cs i l =
    rw (add-one i, take-suc cs i 0 l, map-append (named p) (take i cs) (get_or cs i 0 ∷ []), total_join, +ℤ_idr (named p (get_or cs i 0)).weight)

-- ---- what a sum below zero lacks

pub lack_is : (z : ℤ) → z <ℤ pos 0 → (s : ℕ) → s ≡ nat_abs z → (z ≡ neg_ℤ (pos s)) × (1 ≤ s)
lack_is (pos n) l s q = absurd (omega ticks)
lack_is (negsuc n) l s q = let e : s ≡ suc n = omega (arith, q) in rw e (refl, omega arith)
