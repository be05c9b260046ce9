-- What a caller may count on for the known plans, and that the idle versions of document 01, section 9, and the errors of section 8 are excluded.
use mathlib.Core.Path.{◌≡◌, refl, sym, ap, ◌∙◌}
use mathlib.Core.Bool.{true}
use mathlib.Core.List.Memᴰ
use mathlib.Core.List.{List, [], ◌∷◌, Memᴰ}
use Prim.Native.Nat.{ℕ, zero, suc, ◌≤◌, ◌<◌}
use Prim.Native.String.{String}
use native.Mathlib.Omega.{arith}
use lib.ListN.{length, drop, length-map}
use lib.IntN.{ℤ, pos}
use Rattle.meaning.specs.Plan.{Times, Timetable}
use Rattle.meaning.specs.Outcome.{solved, number, place, long_enough, over, written}
use Rattle.meaning.specs.Known.{Known, bytes, case_5_text, case_5_raised_text, case_6_text, table}
use Rattle.meaning.specs.Demands.{Call, Kept, grades, codes, KnownPlans}
use Rattle.meaning.specs.Demands.{RefusesNoPlan, NoFixedReply, WritesSomething, ClimbsOn, ClimbsTogether, CountsSteps}
use Rattle.meaning.specs.Bounds.{Chain}
use Rattle.meaning.proofs.Chains.{chain_excludes}
use Rattle.meaning.proofs.KnownAlone.{known_alone}
use Rattle.meaning.proofs.Demands.{front, Result, with_times, with_chain, result, none_call}

-- ---- the known plans

pub known_plans : KnownPlans
known_plans k m c t l p =
    let e : p.outcome ≡ k.outcome c.side = known_alone k m c.side p.outcome (rw (l, t) at p.right) in
    record { numbered = p.numbered ∙ ap number e; placed = p.placed ∙ ap place e; writes = p.writes ∙ ap (λ o. written o c.before) e }

-- one that is solved with the same times on either side
abbrev pub row : String → List ℤ → List ℕ → Known
row t ts ls = record { text = t; outcome = λ s. solved ts ls }

-- the levels that it ends with
known_grades : (t : String) (ts : List ℤ) (ls : List ℕ) → Memᴰ (row t ts ls) table →
    (c : Call) → c.text ≡ bytes t → long_enough c.before ≡ true → Kept c → grades c ≡ ls
known_grades t ts ls m c e l k =
    let x = known_plans (row t ts ls) m c e l k in
    front ls c.before.levels c.place (ap (λ a. a.levels) x.writes) x.placed

-- ---- the idle versions

pub refuses_no_plan : RefusesNoPlan
refuses_no_plan c p h k = go (result c p h k)
  where
    go : Result c p → (c.number < 2) × ((t : Times) → Timetable p t → c.number ≡ 0)
    go (with_times ts ls x n l w) = (omega arith, λ t m. n)
    go (with_chain cs x n l w) = (omega arith, λ t m. absurd (chain_excludes x m))

-- a row behind the first n is a row
row_behind : (n : ℕ) (ks : List Known) {k : Known} → Memᴰ k (drop n ks) → Memᴰ k ks
row_behind zero ks m = m
row_behind (suc n) [] m = absurd (Memᴰ.not-nil m)
row_behind (suc n) (j ∷ ks) m = Memᴰ.tail (row_behind n ks m)

-- cases 5 and 6 have other times
pub case_5 : Memᴰ (row case_5_text (pos 0 ∷ pos 1 ∷ []) (1 ∷ 1 ∷ [])) table
case_5 = row_behind 6 table (Memᴰ.head refl)

pub case_5_raised : Memᴰ (row case_5_raised_text (pos 0 ∷ pos 1 ∷ []) (2 ∷ 2 ∷ [])) table
case_5_raised = row_behind 7 table (Memᴰ.head refl)

pub case_6 : Memᴰ (row case_6_text (pos 0 ∷ pos 0 ∷ pos 3 ∷ []) (1 ∷ 3 ∷ [])) table
case_6 = row_behind 8 table (Memᴰ.head refl)

pub no_fixed_reply : NoFixedReply
no_fixed_reply s before after l f = second_time before.times after.times (written_times case_5_text _ _ case_5) (written_times case_6_text _ _ case_6)
  where
    written_times : (t : String) (ts : List ℤ) (ls : List ℕ) → Memᴰ (row t ts ls) table → after.times ≡ over ts before.times
    written_times t ts ls m =
        let x = f (bytes t) in
        let c : Call = record { side = s; text = bytes t; before = before; after = after; number = x.0; place = x.1 } in
        ap (λ a. a.times) (known_plans (row t ts ls) m c refl l x.2).writes

    second_time : (x y : List ℤ) → y ≡ over (pos 0 ∷ pos 1 ∷ []) x → y ≡ over (pos 0 ∷ pos 0 ∷ pos 3 ∷ []) x → ⊥
    second_time x y d e = let z : ◌≡◌ {A = ℕ} 1 0 = cc in omega arith

pub writes_something : WritesSomething
writes_something s before = no_fixed_reply s before before

pub climbs_on : ClimbsOn
climbs_on c t l k e = let d = known_grades case_6_text _ _ case_6 c t l k in let z : ◌≡◌ {A = ℕ} 1 3 = cc in omega arith

pub climbs_together : ClimbsTogether
climbs_together = (
  λ c t l k e. let d = known_grades case_5_text _ _ case_5 c t l k in let z : ◌≡◌ {A = ℕ} 0 1 = cc in omega arith,
  λ c t l k e. let d = known_grades case_5_raised_text _ _ case_5_raised c t l k in let z : ◌≡◌ {A = ℕ} 1 2 = cc in omega arith,
)

pub counts_steps : CountsSteps
counts_steps c p h k o = go (result c p h k)
  where
    counted : (cs : List ℕ) (x : Chain p cs) → length cs ≡ length x.steps
    counted cs x = sym (ap length x.coded) ∙ length-map x.steps (λ b. b.code)

    go : Result c p → (2 ≤ c.place) × (c.place ≤ p.events) × Chain p (codes c)
    go (with_times ts ls x n l w) = absurd (omega arith)
    go (with_chain cs x n l w) = (omega (arith, l, counted cs x, x.two), omega (arith, l, counted cs x, x.most), none_call c p h k o)
