-- The numbers of an outcome: document 01, section 3, and T-04.
use Rattle.std.specs.Prelude.{ℕ}

abbrev pub solved_number : ℕ
solved_number = 0

abbrev pub no_timetable_number : ℕ
no_timetable_number = 1

-- the text or a line has the wrong form
abbrev pub wrong_form_number : ℕ
wrong_form_number = 2

-- text length, number of records, levels in one wish or levels together above section 1
abbrev pub too_many_number : ℕ
too_many_number = 3

-- a number out of range, or lo > hi
abbrev pub out_of_range_number : ℕ
out_of_range_number = 4

-- a = b
abbrev pub same_event_number : ℕ
same_event_number = 5

-- levels not single-peaked
abbrev pub not_peaked_number : ℕ
not_peaked_number = 6

-- a result area too short
abbrev pub area_too_short_number : ℕ
area_too_short_number = 7

-- all levels of a wish are 0 (T-04)
abbrev pub nothing_allowed_number : ℕ
nothing_allowed_number = 8
