-- Case 2 of document 01, section 7, byte for byte: the printed form of the outcome in the table of known plans is the output that the document shows, by
-- computation; and since that outcome is the only right one, it is what `answer` leaves for this text in every area that is long enough.
use mathlib.Core.Path.{◌≡◌, refl, ap, ◌∙◌}
use mathlib.Core.List.{List, Memᴰ}
use Prim.Native.Nat.{ℕ, ◌≤◌}
use Prim.Native.String.{String}
use lib.ListN.{length, get_or}
use Rattle.meaning.specs.Peak.{peaked}
use Rattle.meaning.specs.Reading.{read, split, digits_of, number_of, line_form, line_step}
use Rattle.meaning.specs.Outcome.{refusal, over}
use Rattle.meaning.specs.Known.{Known, bytes, table}
use Rattle.meaning.proofs.KnownAlone.{known_alone}
use Rattle.scope.specs.declared.Side.{Side}
use Rattle.reader.specs.Heard.{plan_in}
use Rattle.print.specs.Written.{digits_within, decimal}
use Rattle.print.specs.Lines.{line}
use Rattle.forms.specs.Printed.{printed}
use Rattle.forms.specs.Put.{area_room}
use Rattle.report.specs.Answer.{Answered}

-- ---- known plans

-- the form of the outcome that the table has for a known plan on a side
abbrev pub known_form : Known → Side → List ℕ
known_form k s = printed (plan_in (read (bytes k.text))) (k.outcome s)

-- what `answer` leaves for a known plan is the form of the table's outcome, and its length is returned
pub known_answered : (k : Known) → Memᴰ k table → (s : Side) {before after : List ℕ} {r : ℕ} →
    Answered s (bytes k.text) before after r → area_room ≤ length before → (r ≡ length (known_form k s)) × (after ≡ over (known_form k s) before)
known_answered k m s {before} a l =
    let t = a.long l in
    let f = ap (printed (plan_in (read (bytes k.text)))) (known_alone k m s t.outcome t.right) in
    (t.count ∙ ap length f, t.written ∙ ap (λ (x : List ℕ). over x before) f)

-- ---- case 2

-- the second row of the table
abbrev pub case_two : Known
case_two = get_or table 1 (record { text = ""; outcome = λ s. refusal 2 1 })

-- it is there
case_two_known : Memᴰ case_two table
case_two_known = Memᴰ.tail (Memᴰ.head refl)

-- its whole output
abbrev pub known_output : String
known_output = "solved\t4\t2\nat\t0\t0\nat\t1\t3\nat\t2\t3\nat\t3\t7\nlevel\t2\t3\nlevel\t3\t2\n"

-- the table's outcome prints as the document shows it: it has one best timetable, so on either side
pub case_two_printed : (s : Side) → known_form case_two s ≡ bytes known_output
unfolding printed line digits_within decimal read split digits_of number_of line_form line_step peaked
case_two_printed s = refl

-- and so does what `answer` leaves: these bytes at the front, all else as before, and their number is returned
pub case_two_answered : (s : Side) {before after : List ℕ} {r : ℕ} → Answered s (bytes case_two.text) before after r → area_room ≤ length before →
    (r ≡ length (bytes known_output)) × (after ≡ over (bytes known_output) before)
case_two_answered s {before} a l =
    let f = known_answered case_two case_two_known s a l in
    (f.0 ∙ ap length (case_two_printed s), f.1 ∙ ap (λ (x : List ℕ). over x before) (case_two_printed s))
