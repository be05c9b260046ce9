-- The levels of a timetable: one for each wish, each 1 or more, and in a plan without fault none above the top level. By the list of records.
use mathlib.Core.Path.{◌≡◌, refl, ap}
use mathlib.Core.List.{List, [], ◌∷◌}
use mathlib.Core.Bool.{Bool, true, false, cond}
use Prim.Native.Nat.{ℕ, zero, suc, ◌≤◌, ◌<◌, suc-le-suc, zero-le}
use native.Mathlib.Nat.{le_of_suc-le-suc, not-suc-le-zero}
use lib.ListN.{length, get_or}
use lib.IntN.{◌-ℤ◌, nat_abs}
use lib.Signed.{non_neg}
use Rattle.meaning.specs.Plan.{Record, rule, wish, nothing, Plan, Times, Allows, Timetable, levels_of, levels, wish_count, wishes, top_level, least_level}
use Rattle.meaning.specs.Ladder.{lv}
use Rattle.meaning.specs.Faultless.{Levelled, WithoutFault}

-- as many levels as wishes
pub levels_count : (p : Plan) (t : Times) → length (levels p t) ≡ wishes p
levels_count p t = go p.records
  where
    go : (rs : List Record) → length (levels_of rs t) ≡ wish_count rs
    go [] = refl
    go (rule a b lo hi ∷ rs) = go rs
    go (wish a b lo ls ∷ rs) = ap suc (go rs)

-- a timetable has level 1 or more at each wish
pub levels_allowed : {p : Plan} {t : Times} → Timetable p t → (j : ℕ) → j < wishes p → least_level ≤ lv (levels p t) j
levels_allowed {p} {t} h = go p.records h.keeps
  where
    go : (rs : List Record) → ((k : ℕ) → k < length rs → Allows (get_or rs k nothing) t) → (j : ℕ) → j < wish_count rs →
        least_level ≤ lv (levels_of rs t) j
    go [] f j l = absurd (not-suc-le-zero l)
    go (rule a b lo hi ∷ rs) f j l = go rs (λ k h. f (suc k) (suc-le-suc h)) j l
    go (wish a b lo ls ∷ rs) f zero l = f 0 (suc-le-suc zero-le)
    go (wish a b lo ls ∷ rs) f (suc j) l = go rs (λ k h. f (suc k) (suc-le-suc h)) j (le_of_suc-le-suc l)

pub levels_mild : {p : Plan} → WithoutFault p → (t : Times) (j : ℕ) → lv (levels p t) j ≤ top_level
levels_mild {p} good t j = go p.records (λ k h. (good.each k h).levelled) j
  where
    one : (c : Bool) (n : ℕ) → n ≤ top_level → cond c n 0 ≤ top_level
    one true n h = h
    one false n h = zero-le

    go : (rs : List Record) → ((k : ℕ) → k < length rs → Levelled (get_or rs k nothing)) → (j : ℕ) → lv (levels_of rs t) j ≤ top_level
    go [] f j = zero-le
    go (rule a b lo hi ∷ rs) f j = go rs (λ k h. f (suc k) (suc-le-suc h)) j
    go (wish a b lo ls ∷ rs) f zero = let i = nat_abs (t b -ℤ t a -ℤ lo) in one (non_neg (t b -ℤ t a -ℤ lo)) (get_or ls i 0) ((f 0 (suc-le-suc zero-le)).mild i)
    go (wish a b lo ls ∷ rs) f (suc j) = go rs (λ k h. f (suc k) (suc-le-suc h)) j
