-- The plan text: document 01, sections 2 and 3. Its reading is a plan, or the number and the line of the first fault.
use Rattle.std.specs.Prelude.{ℕ, suc, ◌+◌, ◌-◌, ◌*◌, max, leb, ltb, eqb, ℤ, pos, neg_ℤ, nat_abs, ◌+ℤ◌}
use Rattle.std.specs.Prelude.{Bool, true, false, cond, ◌&&◌, not, List, [], ◌∷◌, ◌++◌, map, length, get_or, drop}
use Rattle.std.proofs.Math.Option.{Option, none, some}
use Rattle.std.specs.Int.Signed.{le_z, lt_z}
use Rattle.meaning.specs.Plan.{Record, rule, wish, Plan}
use Rattle.meaning.specs.Plan.{most_events, most_horizon, most_end, most_records, most_levels, most_levels_together, most_bytes, top_level}
use Rattle.meaning.specs.Peak.{peaked}
use Rattle.meaning.specs.Numbers.{wrong_form_number, too_many_number, out_of_range_number, same_event_number, not_peaked_number, nothing_allowed_number}

-- ---- bytes

abbrev pub tab_byte : ℕ
tab_byte = 9

abbrev pub line_feed : ℕ
line_feed = 10

abbrev pub events_word : List ℕ
events_word = 101 ∷ 118 ∷ 101 ∷ 110 ∷ 116 ∷ 115 ∷ []

abbrev pub rule_word : List ℕ
rule_word = 114 ∷ 117 ∷ 108 ∷ 101 ∷ []

abbrev pub wish_word : List ℕ
wish_word = 119 ∷ 105 ∷ 115 ∷ 104 ∷ []

-- two lists of bytes are the same
abbrev pub same : List ℕ → List ℕ → Bool
same [] [] = true
same [] (y ∷ ys) = false
same (x ∷ xs) [] = false
same (x ∷ xs) (y ∷ ys) = eqb x y && same xs ys

-- ---- lines and fields

-- x at the front of the first piece
abbrev pub grow : ℕ → List (List ℕ) → List (List ℕ)
grow x [] = (x ∷ []) ∷ []
grow x (p ∷ ps) = (x ∷ p) ∷ ps

-- the pieces that the byte b parts: always one more than there are b's
unfoldable pub split : ℕ → List ℕ → List (List ℕ)
split b [] = [] ∷ []
split b (x ∷ xs) = let r = split b xs in cond (eqb x b) ([] ∷ r) (grow x r)

-- ---- numbers: an optional minus (byte 45) and 1 to 7 decimal digits (48 to 57), no plus, no leading zero except in 0 itself, no −0

abbrev pub is_digit : ℕ → Bool
is_digit b = leb 48 b && leb b 57

-- v with one digit more for each byte; none where a byte is no digit
abbrev pub run_from : ℕ → List ℕ → Option ℕ
run_from v [] = some v
run_from v (x ∷ xs) = let r = run_from (v * 10 + (x - 48)) xs in cond (is_digit x) r none

-- a zero that another digit follows
abbrev pub leading_zero : List ℕ → Bool
leading_zero [] = false
leading_zero (x ∷ xs) = eqb x 48 && ltb 0 (length xs)

unfoldable pub digits_of : List ℕ → Option ℕ
digits_of f = cond (leb 1 (length f) && leb (length f) 7 && not (leading_zero f)) (run_from 0 f) none

abbrev pub minus : Option ℕ → Option ℤ
minus none = none
minus (some v) = cond (eqb v 0) none (some (neg_ℤ (pos v)))

abbrev pub plus : Option ℕ → Option ℤ
plus none = none
plus (some v) = some (pos v)

unfoldable pub number_of : List ℕ → Option ℤ
number_of [] = none
number_of (x ∷ xs) = cond (eqb x 45) (minus (digits_of xs)) (plus (digits_of (x ∷ xs)))

abbrev pub join : Option ℤ → Option (List ℤ) → Option (List ℤ)
join none vs = none
join (some v) none = none
join (some v) (some vs) = some (v ∷ vs)

-- fields that are all numbers
abbrev pub numbers : List (List ℕ) → Option (List ℤ)
numbers [] = some []
numbers (f ∷ fs) = join (number_of f) (numbers fs)

-- ---- the form of a line, without its line feed

pub data Form : Type 0 where
  events_line : (n h : ℤ) → Form
  rule_line : (a b lo hi : ℤ) → Form
  wish_line : (a b lo : ℤ) (levels : List ℤ) → Form
  wrong : Form

abbrev pub item : List ℤ → ℕ → ℤ
item vs k = get_or vs k (pos 0)

-- `events`, n, H
abbrev pub events_form : List ℤ → Form
events_form vs = cond (eqb (length vs) 2) (events_line (item vs 0) (item vs 1)) wrong

-- `rule`, a, b, lo, hi
abbrev pub rule_form : List ℤ → Form
rule_form vs = cond (eqb (length vs) 4) (rule_line (item vs 0) (item vs 1) (item vs 2) (item vs 3)) wrong

-- `wish`, a, b, lo and one or more levels
abbrev pub wish_form : List ℤ → Form
wish_form vs = cond (leb 4 (length vs)) (wish_line (item vs 0) (item vs 1) (item vs 2) (drop 3 vs)) wrong

-- the words are lower case and exact
abbrev pub form_of : List ℕ → Option (List ℤ) → Form
form_of word none = wrong
form_of word (some vs) =
    cond (same word events_word) (events_form vs) (cond (same word rule_word) (rule_form vs) (cond (same word wish_word) (wish_form vs) wrong))

unfoldable pub line_form : List ℕ → Form
line_form l = elim (split tab_byte l) [ [] ↦ wrong | w ∷ fs ↦ form_of w (numbers fs) ]

-- ---- what is in range

abbrev pub between : ℤ → ℤ → ℤ → Bool
between lo hi v = le_z lo v && le_z v hi

-- one of the events 0 to n − 1
abbrev pub is_event : ℕ → ℤ → Bool
is_event n v = le_z (pos 0) v && lt_z v (pos n)

abbrev pub is_end : ℤ → Bool
is_end v = between (neg_ℤ (pos most_end)) (pos most_end) v

abbrev pub is_level : ℤ → Bool
is_level v = between (pos 0) (pos top_level) v

abbrev pub all_levels : List ℤ → Bool
all_levels [] = true
all_levels (l ∷ ls) = is_level l && all_levels ls

-- the two events and the two ends of a record
abbrev pub in_range : ℕ → ℤ → ℤ → ℤ → ℤ → Bool
in_range n a b lo hi = is_event n a && (is_event n b && (is_end lo && is_end hi))

abbrev pub same_event : ℤ → ℤ → Bool
same_event a b = le_z a b && le_z b a

-- no distance of a wish is allowed
abbrev pub all_zero : List ℕ → Bool
all_zero [] = true
all_zero (l ∷ ls) = eqb l 0 && all_zero ls

-- the distance of a wish's last level
abbrev pub last_of : ℤ → List ℤ → ℤ
last_of lo ls = lo +ℤ pos (length ls - 1)

-- ---- what a line does to the plan read so far

-- levels in all wishes together
abbrev pub levels_together : List Record → ℕ
levels_together [] = 0
levels_together (rule a b lo hi ∷ rs) = levels_together rs
levels_together (wish a b lo ls ∷ rs) = length ls + levels_together rs

abbrev pub with_record : Plan → Record → Plan
with_record p r = record { events = p.events; horizon = p.horizon; records = p.records ++ (r ∷ []) }

pub data Step : Type 0 where
  taken : Plan → Step
  fault : (number : ℕ) → Step

-- where the test fails, that number
abbrev pub unless : Bool → ℕ → Step → Step
unless true k s = s
unless false k s = fault k

-- line 1 is `events`
abbrev pub first_line : Form → Step
first_line (events_line n h) =
    unless (between (pos 1) (pos most_events) n && between (pos 0) (pos most_horizon) h) out_of_range_number
    (taken (record { events = nat_abs n; horizon = nat_abs h; records = [] }))
first_line (rule_line a b lo hi) = fault wrong_form_number
first_line (wish_line a b lo ls) = fault wrong_form_number
first_line wrong = fault wrong_form_number

-- a later line is `rule` or `wish`; its first fault in the order 2, 3, 4, 5, 6, 8
abbrev pub later_line : Plan → Form → Step
later_line p (events_line n h) = fault wrong_form_number
later_line p (rule_line a b lo hi) =
    unless (ltb (length p.records) most_records) too_many_number
    (unless (in_range p.events a b lo hi && le_z lo hi) out_of_range_number
    (unless (not (same_event a b)) same_event_number
    (taken (with_record p (rule (nat_abs a) (nat_abs b) lo hi)))))
later_line p (wish_line a b lo ls) =
    unless (ltb (length p.records) most_records && leb (length ls) most_levels
    && leb (levels_together p.records + length ls) most_levels_together) too_many_number
    (unless (in_range p.events a b lo (last_of lo ls) && all_levels ls) out_of_range_number
    (unless (not (same_event a b)) same_event_number
    (unless (peaked (map nat_abs ls)) not_peaked_number
    (unless (not (all_zero (map nat_abs ls))) nothing_allowed_number
    (taken (with_record p (wish (nat_abs a) (nat_abs b) lo (map nat_abs ls))))))))
later_line p wrong = fault wrong_form_number

unfoldable pub line_step : ℕ → Plan → Form → Step
line_step line p f = cond (eqb line 1) (first_line f) (later_line p f)

-- ---- the lines from the top

pub data Reading : Type 0 where
  plan : Plan → Reading
  refused : (number line : ℕ) → Reading

-- the plan before its first line
abbrev pub empty : Plan
empty = record { events = 0; horizon = 0; records = [] }

abbrev pub after_step : ℕ → (Plan → Reading) → Step → Reading
after_step line k (taken q) = k q
after_step line k (fault n) = refused n line

-- the pieces that line feeds part, the first of them line number `line`. The last one is what follows the last line feed:
-- it has to be empty, and at least one line stands before it
abbrev pub read_pieces : List (List ℕ) → ℕ → Plan → Reading
read_pieces [] line p = refused wrong_form_number line
read_pieces (l ∷ []) line p = cond (eqb (length l) 0 && ltb 1 line) (plan p) (refused wrong_form_number line)
read_pieces (l ∷ m ∷ ms) line p = after_step line (λ (q : Plan). read_pieces (m ∷ ms) (line + 1) q) (line_step line p (line_form l))

-- 3 at place 0 for the text's length; then the lines from the top
unfoldable pub read : List ℕ → Reading
read text = cond (ltb most_bytes (length text)) (refused too_many_number 0) (read_pieces (split line_feed text) 1 empty)

-- how many lines a text has: what follows the last line feed is one unless it is empty, and the empty text has one
abbrev pub lines_in : List (List ℕ) → ℕ
lines_in [] = 1
lines_in (l ∷ []) = cond (eqb (length l) 0) 0 1
lines_in (l ∷ m ∷ ms) = suc (lines_in (m ∷ ms))

abbrev pub lines : List ℕ → ℕ
lines text = max 1 (lines_in (split line_feed text))
