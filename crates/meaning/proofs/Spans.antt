-- What T-04 left as it was: where a plan has a timetable in the sense of T-04, the best ones in that sense and in the one before it are the same. By the first
-- grade: what is not beaten by levels of 1 or more has such levels itself.
use mathlib.Core.Path.{◌≡◌, refl, sym, subst, ◌∙◌}
use mathlib.Core.Logic.{◌↔◌}
use mathlib.Core.List.{List, [], ◌∷◌}
use mathlib.Core.Bool.{Bool, true, false, true≢false}
use Prim.Native.Nat.{ℕ, ◌≤◌, ◌<◌}
use native.Mathlib.Decide.{dec_le}
use native.Mathlib.Omega.{arith}
use borrow.Author.Tests.{le-leb, lt-leb}
use lib.Dec.{T}
use lib.ListN.{length}
use lib.IntN.{◌-ℤ◌}
use Rattle.meaning.specs.Plan.{Record, rule, wish, Plan, record_at, start, end, low, high, least_level}
use Rattle.meaning.specs.Plan.{Times, Within, Allows, Timetable, Spanned, levels, wishes}
use Rattle.meaning.specs.Ladder.{questions, lv, reply, replies, better, Best}
use Rattle.meaning.specs.Outcome.{BestTimes}
use Rattle.meaning.specs.Climb.{number}
use Rattle.meaning.proofs.Replies.{Against, before}
use Rattle.meaning.proofs.Questions.{ask, Low, Place, place}
use Rattle.meaning.proofs.Levels.{levels_allowed}
use Rattle.meaning.proofs.Wishes.{wish_level, wish_number}
use Rattle.meaning.proofs.Bounds.{allowed_spanned}

pub timetable_spanned : {p : Plan} {t : Times} → Timetable p t → Spanned p t
timetable_spanned {p} {t} h = record { origin = h.origin; within = h.within; keeps = λ k l. allowed_spanned (record_at p k) t (h.keeps k l) }

-- ---- a first grade that all wishes have

-- none of w levels is below the least
abbrev Full : ℕ → List ℕ → Type 0
Full w g = (j : ℕ) → j < w → least_level ≤ lv g j

full_timetable : {p : Plan} {t : Times} → Spanned p t → Full (wishes p) (levels p t) → Timetable p t
full_timetable {p} {t} s full = record { origin = s.origin; within = s.within; keeps = λ k l. allows k l (record_at p k) refl (s.keeps k l) }
  where
    allows : (k : ℕ) → k < length p.records → (r : Record) → record_at p k ≡ r → Within (low r) (t (end r) -ℤ t (start r)) (high r) → Allows r t
    allows k l (rule a b lo hi) e h = h
    allows k l (wish a b lo ls) e h =
        subst (λ (n : ℕ). least_level ≤ n) (wish_level t p.records k l e) (full (number p k) (wish_number p.records k l e))

-- not both of two rows are better
one_better : (x y : List Bool) → T (better x y) → T (better y x) → ⊥
one_better [] y h k = h
one_better (a ∷ x) [] h k = h
one_better (true ∷ x) (true ∷ y) h k = one_better x y h k
one_better (true ∷ x) (false ∷ y) h k = k
one_better (false ∷ x) (true ∷ y) h k = h
one_better (false ∷ x) (false ∷ y) h k = one_better x y h k

-- what full levels do not beat is full
full_too : (w : ℕ) (g h : List ℕ) → Full w g → ¬ T (better (replies (questions w) g) (replies (questions w) h)) → Full w h
full_too w g h full n j l = go (dec_le least_level (lv h j))
  where
    at : Place w least_level (ask least_level j) (questions w)
    at = place w least_level j (omega arith) (omega arith) l

    never : Against (λ r. reply g r) (λ r. reply h r) (Low w least_level) → ⊥
    never (r, low, no', yes') = true≢false (sym (le-leb r.grade (lv g r.wish) (omega (arith, low.grade, full r.wish low.wish))) ∙ no')

    go : Dec (least_level ≤ lv h j) → least_level ≤ lv h j
    go (yes k) = k
    go (no k) =
        absurd (never (before (λ r. reply g r) (λ r. reply h r) at.front (ask least_level j) at.back at.low
        (subst (λ qs. ¬ T (better (replies qs g) (replies qs h))) at.whole n)
        (le-leb least_level (lv g j) (full j l)) (lt-leb least_level (lv h j) (omega arith))))

-- ---- the best in both senses

pub same_best : {p : Plan} {t₀ : Times} → Timetable p t₀ → (t : Times) → Best (Spanned p) (levels p) (questions (wishes p)) t ↔ BestTimes p t
same_best {p} {t₀} h t = (
  λ b. record {
    member = full_timetable b.member (full_too _ (levels p t₀) (levels p t) (levels_allowed h) (b.unbeaten t₀ (timetable_spanned h)));
    unbeaten = λ u k. b.unbeaten u (timetable_spanned k);
  },
  λ b. record {
    member = timetable_spanned b.member;
    unbeaten = λ u k ahead.
        let x = replies (questions (wishes p)) (levels p u) in
        let y = replies (questions (wishes p)) (levels p t) in
        b.unbeaten u (full_timetable k (full_too _ (levels p t) (levels p u) (levels_allowed b.member) (λ behind. one_better x y ahead behind))) ahead;
  },
)
