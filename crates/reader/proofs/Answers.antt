-- The answer of the reader from what its parts answer: one law for each way out of `read`. And what it says to those who use it.
use mathlib.Core.Path.{◌≡◌, refl, ◌∙◌}
use mathlib.Core.List.{List}
use Prim.Native.Nat.{ℕ, ◌≤◌, ◌<◌}
use native.Mathlib.Omega.{arith}
use borrow.Author.Tests.{lt-ltb, le-ltb, le-leb}
use lib.ListN.{length}
use Rattle.std.specs.Prelude.{Result, Ok, Err}
use Rattle.meaning.specs.Plan.{most_bytes, most_levels_together}
use Rattle.meaning.specs.Reading as R
use Rattle.meaning.specs.Reading.{Reading, plan, refused, empty}
use Rattle.meaning.specs.Numbers.{too_many_number}
use Rattle.scope.specs.declared.Fault.TheVariants.{TooMany}
use Rattle.scope.specs.declared.Refusal.{Refusal}
use Rattle.scope.specs.Faults.{number}
use Rattle.plan.specs.declared.Plan.{Plan}
use Rattle.plan.specs.Held.{Holds, LevelsHeld}
use Rattle.reader.specs.Heard.{SameAbove, Told, Read, Walked, heard, plan_in}
use Rattle.reader.proofs.Steps.{lines}

-- ---- the reading

text_long : (text : List ℕ) → most_bytes < length text → R.read text ≡ refused too_many_number 0
unfolding R.read
text_long text h = rw (lt-ltb most_bytes (length text) h)

text_short : (text : List ℕ) → length text ≤ most_bytes → R.read text ≡ lines text
unfolding R.read
text_short text h = rw (le-ltb most_bytes (length text) h)

-- what the walk says
walked_plan : (x : Reading) (before : List ℕ) (h : Plan) (after : List ℕ) (u : Unit {0}) → Walked x before h after (Ok u)
    → (x ≡ plan (plan_in x)) × Holds (plan_in x) h × LevelsHeld (plan_in x) before after
walked_plan (plan p) before h after u w = (refl, w.0, w.1)
walked_plan (refused k line) before h after u w = absurd w

walked_fault : (x : Reading) (before : List ℕ) (h : Plan) (after : List ℕ) (r : Refusal) → Walked x before h after (Err r)
    → (x ≡ refused (number r.fault) r.line) × SameAbove before after
walked_fault (plan p) before h after r w = absurd w
walked_fault (refused k line) before h after r w = (rw (w.0, w.1), w.2)

-- ---- the answer, in an area long enough, which is cleared before the walk

module _ {text before cleared : List ℕ} (long : most_levels_together ≤ length before) (clean : LevelsHeld empty before cleared) where
  read_as : {after : List ℕ} {r : Result Plan Refusal} (x : Reading) → R.read text ≡ x → Told x r → LevelsHeld (plan_in x) before after
      → Read text before after r
  read_as x e t l =
      let known : heard before text ≡ x = rw (le-leb most_levels_together (length before) long) e in
      record { told = rw known t; short = λ s. absurd (omega arith); levels = λ _. rw known l }

  -- the text is too long
  pub read_long : most_bytes < length text → Read text before cleared (Err (record { fault = TooMany; line = 0 }))
  read_long h = read_as (refused too_many_number 0) (text_long text h) (refl, refl) clean

  module _ (small : length text ≤ most_bytes) (walked : List ℕ) (h : Plan) where
    -- the lines are a plan
    pub read_plan : (u : Unit {0}) → Walked (lines text) cleared h walked (Ok u) → Read text before walked (Ok h)
    read_plan u w =
        let s = walked_plan (lines text) cleared h walked u w in
        read_as (plan (plan_in (lines text))) (text_short text small ∙ s.0) s.1
        (record { long = s.2.long ∙ clean.long; done = s.2.done; rest = λ i l. s.2.rest i l ∙ clean.rest i l })

    -- a line has a fault, and the area is cleared again
    pub read_fault : (r : Refusal) {after : List ℕ} → Walked (lines text) cleared h walked (Err r) → length walked ≡ length cleared
        → LevelsHeld empty walked after → Read text before after (Err r)
    read_fault r w n again =
        let s = walked_fault (lines text) cleared h walked r w in
        read_as (refused (number r.fault) r.line) (text_short text small ∙ s.0) (refl, refl)
        (record { long = again.long ∙ n ∙ clean.long; done = again.done; rest = λ i l. again.rest i l ∙ s.1 i l ∙ clean.rest i l })

-- ---- what an answer says to those who use it: in an area long enough memory holds what the text is read as

told_plan : (x : Reading) (h : Plan) → Told x (Ok h) → (x ≡ plan (plan_in x)) × Holds (plan_in x) h
told_plan (plan p) h t = (refl, t)
told_plan (refused k line) h t = absurd t

told_fault : (x : Reading) (r : Refusal) → Told x (Err r) → x ≡ refused (number r.fault) r.line
told_fault (plan p) r t = absurd t
told_fault (refused k line) r t = rw (t.0, t.1)

all_heard : (text before : List ℕ) → most_levels_together ≤ length before → heard before text ≡ R.read text
all_heard text before long = rw (le-leb most_levels_together (length before) long)

module _ {text before after : List ℕ} where
  pub read_refused : {r : Refusal} → Read text before after (Err r) → most_levels_together ≤ length before → R.read text ≡ refused (number r.fault) r.line
  read_refused {r} s long = told_fault (R.read text) r (rw (all_heard text before long) at s.told)

  pub read_taken : {h : Plan} → Read text before after (Ok h) → most_levels_together ≤ length before → R.read text ≡ plan (plan_in (R.read text))
  read_taken {h} s long = (told_plan (R.read text) h (rw (all_heard text before long) at s.told)).0

  pub read_holds : {h : Plan} → Read text before after (Ok h) → most_levels_together ≤ length before → Holds (plan_in (R.read text)) h
  read_holds {h} s long = (told_plan (R.read text) h (rw (all_heard text before long) at s.told)).1

  pub read_held : {r : Result Plan Refusal} → Read text before after r → most_levels_together ≤ length before
      → LevelsHeld (plan_in (R.read text)) before after
  read_held s long = rw (all_heard text before long) at (s.levels long)
