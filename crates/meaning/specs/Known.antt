-- The known plans of document 01, section 7: case 2 and the starred ones, 11 and 12, as one table of texts and outcomes, as T-04 leaves them: cases 3 and 4
-- have no timetable, and with every level one higher they, and case 5, show what they showed before. The limit of T-10, from both sides. Since T-02 each
-- plan with times has the latest ones beside the earliest, and two have several best timetables.
use Rattle.std.specs.Prelude.{List, [], ◌∷◌, ℕ, zero, suc, ℤ, pos}
use Prim.Native.Char.{code}
use Prim.Native.String as S
use Prim.Native.String.{String}
use Rattle.meaning.specs.Outcome.{Outcome, solved, none, refusal}
use Rattle.scope.specs.declared.Side.{Side}
use Rattle.scope.specs.declared.Side.TheVariants.{Latest, Earliest}

-- the bytes of a text of ASCII characters
abbrev pub bytes : String → List ℕ
bytes S.[] = []
bytes (S.◌∷◌ c s) = code c ∷ bytes s

-- a text, and what it comes to on either side
pub record Known : Type 0 where
  pub text : String
  pub outcome : Side → Outcome

-- the same on either side; where it is solved, there is one best timetable
abbrev known : String → Outcome → Known
known t o = record { text = t; outcome = λ s. o }

-- several best timetables: the latest times, the earliest, and the levels of both
abbrev times_on : (latest earliest : List ℤ) → Side → List ℤ
times_on l e Latest = l
times_on l e Earliest = e

abbrev timed : String → (latest earliest : List ℤ) → List ℕ → Known
timed t l e ls = record { text = t; outcome = λ s. solved (times_on l e s) ls }

-- cases that other sections or the proofs speak of by name
abbrev pub case_5_text : String
case_5_text = "events\t2\t1\nwish\t0\t1\t0\t5\t1\nwish\t0\t1\t0\t0\t1\n"

-- the same with every level one higher
abbrev pub case_5_raised_text : String
case_5_raised_text = "events\t2\t1\nwish\t0\t1\t0\t6\t2\nwish\t0\t1\t0\t1\t2\n"

abbrev pub case_6_text : String
case_6_text = "events\t3\t10\nwish\t0\t1\t0\t1\nwish\t1\t2\t1\t1\t2\t3\n"

abbrev pub case_7_text : String
case_7_text = "events\t3\t10\nrule\t0\t1\t4\t10\nrule\t1\t2\t4\t10\nrule\t0\t2\t0\t7\n"

abbrev pub case_8_text : String
case_8_text = "events\t3\t10\nrule\t0\t1\t4\t10\nrule\t1\t2\t4\t10\nrule\t0\t2\t0\t8\n"

-- the time 0 for each of so many events
abbrev zeros : ℕ → List ℤ
zeros zero = []
zeros (suc n) = pos 0 ∷ zeros n

abbrev pub table : List Known
table =
    known "events\t1\t0\n" (solved (pos 0 ∷ []) [])
    ∷ known "events\t4\t20\nrule\t0\t1\t3\t3\nrule\t1\t2\t0\t20\nwish\t2\t3\t2\t0\t1\t3\t2\nwish\t0\t3\t4\t3\t3\t2\t2\t1\t0\n"
    (solved (pos 0 ∷ pos 3 ∷ pos 3 ∷ pos 7 ∷ []) (3 ∷ 2 ∷ []))
    ∷ known "events\t2\t1\nwish\t0\t1\t0\t0\t1\nwish\t0\t1\t0\t1\t0\n" (none (2 ∷ 1 ∷ []))
    ∷ known "events\t2\t1\nwish\t0\t1\t0\t1\t0\nwish\t0\t1\t0\t0\t1\n" (none (0 ∷ 3 ∷ []))
    ∷ known "events\t2\t1\nwish\t0\t1\t0\t1\t2\nwish\t0\t1\t0\t2\t1\n" (solved (pos 0 ∷ pos 1 ∷ []) (2 ∷ 1 ∷ []))
    ∷ known "events\t2\t1\nwish\t0\t1\t0\t2\t1\nwish\t0\t1\t0\t1\t2\n" (solved (pos 0 ∷ pos 0 ∷ []) (2 ∷ 1 ∷ []))
    ∷ known case_5_text (solved (pos 0 ∷ pos 1 ∷ []) (1 ∷ 1 ∷ []))
    ∷ known case_5_raised_text (solved (pos 0 ∷ pos 1 ∷ []) (2 ∷ 2 ∷ []))
    ∷ known case_6_text (solved (pos 0 ∷ pos 0 ∷ pos 3 ∷ []) (1 ∷ 3 ∷ []))
    ∷ known case_7_text (none (4 ∷ 3 ∷ 1 ∷ []))
    ∷ known case_8_text (solved (pos 0 ∷ pos 4 ∷ pos 8 ∷ []) [])
    ∷ known "events\t2\t3\nrule\t0\t1\t4\t10\n" (none (514 ∷ 1 ∷ []))
    ∷ known "events\t2\t4\nrule\t0\t1\t4\t10\n" (solved (pos 0 ∷ pos 4 ∷ []) [])
    ∷ timed "events\t2\t9\nrule\t0\t1\t2\t5\n" (pos 0 ∷ pos 5 ∷ []) (pos 0 ∷ pos 2 ∷ []) []
    -- the timetables with the greatest and the least times of all, 0, 3, 6 and 0, 0, 1, are not best: they have level 1
    ∷ timed "events\t3\t9\nwish\t0\t1\t0\t1\t2\t2\t1\nrule\t1\t2\t1\t3\n" (pos 0 ∷ pos 2 ∷ pos 5 ∷ []) (pos 0 ∷ pos 1 ∷ pos 2 ∷ []) (2 ∷ [])
    ∷ known "events\t2\t9\nwish\t0\t1\t0\t2\t1\t2\n" (refusal 6 2)
    ∷ known "events\t2\t9\nwish\t0\t1\t0\t0\t0\t0\n" (refusal 8 2)
    ∷ known "events\t2\t9\nwish\t1\t1\t0\t0\t0\t0\n" (refusal 5 2)
    ∷ known "events\t2\t9\nrule\t1\t1\t5\t4\n" (refusal 4 2)
    ∷ known "events\t2\t9\nrule\t1\t1\t4\t5\n" (refusal 5 2)
    ∷ known "events\t2\t9\nrule\t0\t1\t-0\t4\n" (refusal 2 2)
    ∷ known "events\t2\t9\nrule\t0\t1\t-100001\t4\n" (refusal 4 2)
    ∷ known "events\t128\t0\n" (solved (zeros 128) [])
    ∷ known "events\t129\t0\n" (refusal 4 1)
    ∷ known "" (refusal 2 1)
    ∷ []
