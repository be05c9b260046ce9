-- Only the times of the plan's events count: two rows of times that agree on these are timetables together, with the same levels. By the list of records.
use mathlib.Core.Path.{◌≡◌, refl, subst⁻¹, ◌∙◌}
use mathlib.Core.List.{List, [], ◌∷◌}
use Prim.Native.Nat.{ℕ, suc, ◌≤◌, ◌<◌, suc-le-suc}
use native.Mathlib.Omega.{arith}
use lib.ListN.{length, get_or}
use lib.IntN.{pos, ◌-ℤ◌}
use Rattle.meaning.specs.Plan.{Record, rule, wish, nothing, Plan, record_at, Times, Within, level_at, Allows, Timetable, levels_of, levels, least_level}
use Rattle.meaning.specs.Faultless.{GoodRecord, WithoutFault}

module _ {p : Plan} (w : WithoutFault p) {t u : Times} (agree : (e : ℕ) → e < p.events → t e ≡ u e) where
  same_distance : {a b : ℕ} → a < p.events → b < p.events → t b -ℤ t a ≡ u b -ℤ u a
  same_distance {a} {b} la lb i = agree b lb i -ℤ agree a la i

  pub agree_levels : levels p t ≡ levels p u
  agree_levels = go p.records w.each
    where
      go : (rs : List Record) → ((k : ℕ) → k < length rs → GoodRecord p.events (get_or rs k nothing)) → levels_of rs t ≡ levels_of rs u
      go [] g = refl
      go (rule a b lo hi ∷ rs) g = go rs (λ k l. g (suc k) (suc-le-suc l))
      go (wish a b lo ls ∷ rs) g =
          let h = g 0 (omega arith) in
          λ i. level_at ls (same_distance h.starts h.ends i -ℤ lo) ∷ go rs (λ k l. g (suc k) (suc-le-suc l)) i

  same_allowed : (r : Record) → GoodRecord p.events r → Allows r u → Allows r t
  same_allowed (rule a b lo hi) g h = subst⁻¹ (λ z. Within lo z hi) (same_distance g.starts g.ends) h
  same_allowed (wish a b lo ls) g h = subst⁻¹ (λ z. least_level ≤ level_at ls (z -ℤ lo)) (same_distance g.starts g.ends) h

  pub agree_timetable : Timetable p u → Timetable p t
  agree_timetable h = record {
    origin = agree 0 w.some ∙ h.origin;
    within = λ e l. subst⁻¹ (λ z. Within (pos 0) z (pos p.horizon)) (agree e l) (h.within e l);
    keeps = λ k l. same_allowed (record_at p k) (w.each k l) (h.keeps k l);
  }
