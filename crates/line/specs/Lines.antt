-- What one line of a text gives: its numbers, and what it does to the plan read so far.
use Rattle.std.specs.Prelude.{◌≡◌, Bool, true, false, cond, ◌&&◌, List, [], map, ℕ, ◌+◌, ◌-◌, ◌≤◌, ◌<◌, leb, ltb, length, get_or, set, drop, ℤ, Result, Ok, Err}
use Rattle.std.proofs.lemmas.List.Edits.{sets}
use Rattle.scope.specs.declared.Fault.{Fault}
use Rattle.scope.specs.Faults.{number}
use Rattle.meaning.specs.Plan as M
use Rattle.meaning.specs.Plan.{most_events, most_records, most_levels_together}
use Rattle.meaning.specs.Reading.{Form, wrong, events_form, rule_form, wish_form, taken, fault, line_step, with_record, levels_together}
use Rattle.text.specs.declared.Word.{Word}
use Rattle.text.specs.declared.Word.TheVariants.{Events, Rule, Wish, Other}
use Rattle.plan.specs.Held.{levels_in, row_of}
use Rattle.plan.specs.declared.Record.{Record}
use Rattle.faults.specs.declared.SoFar.{SoFar}
use Rattle.fields.specs.declared.Line.{Line}
use Rattle.fields.specs.Fields.{Numbered}
use Rattle.line.specs.declared.Effect.{Effect}
use Rattle.line.specs.declared.Effect.TheVariants.{Head, Entry}
use Rattle.line.specs.Effects.{level_of}

-- ---- the form of a line by its first field and its numbers

abbrev pub word_form : Word → List ℤ → Form
word_form Events vs = events_form vs
word_form Rule vs = rule_form vs
word_form Wish vs = wish_form vs
word_form Other vs = wrong

-- ---- the levels of a wish, stored while its line is read

abbrev pub is_wish_word : Word → Bool
is_wish_word Events = false
is_wish_word Rule = false
is_wish_word Wish = true
is_wish_word Other = false

-- the next number of the line is a level: the fourth and each later one of a wish is
abbrev pub is_level_next : Line → Bool
is_level_next l = is_wish_word l.word && leb 3 l.count

-- the area after one number more, v: a level is stored behind the `used` ones before, as far as there is room
abbrev pub with_level : Line → ℕ → ℤ → List ℕ → List ℕ
with_level l used v area =
    let place = used + (l.count - 3) in
    cond (is_level_next l && ltb place most_levels_together) (set area place (level_of v)) area

-- a line with the word w and the numbers vs makes the area `after` of `before`: a wish for which there is room stores its levels, and a line that is no
-- wish stores nothing
pub record Stored (w : Word) (vs : List ℤ) (used : ℕ) (before after : List ℕ) : Type 0 where
  pub long : length after ≡ length before
  pub above : (i : ℕ) → most_levels_together ≤ i → get_or after i 0 ≡ get_or before i 0
  pub other : is_wish_word w ≡ false → after ≡ before
  pub levels : is_wish_word w ≡ true → used + (length vs - 3) ≤ most_levels_together → after ≡ sets before used (map level_of (drop 3 vs))

-- all numbers of the line are read: they are vs, and the area was `before` when it began
pub record Whole (vs : List ℤ) (l : Line) (s : SoFar) (before after : List ℕ) : Type 0 where
  pub numbered : Numbered vs l
  pub stored : Stored l.word vs s.levels before after

-- ---- what a line does

-- p has n events, and `count` records with `used` levels together
pub record Counts (p : M.Plan) (n count used : ℕ) : Type 0 where
  pub events : p.events ≡ n
  pub records : length p.records ≡ count
  pub levels : levels_together p.records ≡ used

-- a fault k; the area is kept past the place of the last possible level
pub record Faulted (line : ℕ) (f : Form) (n count used : ℕ) (before after : List ℕ) (k : ℕ) : Type 0 where
  pub some : 0 < k
  pub step : (p : M.Plan) → Counts p n count used → line_step line p f ≡ fault k
  pub above : (i : ℕ) → most_levels_together ≤ i → get_or after i 0 ≡ get_or before i 0

-- m events and the horizon h, from the first line
pub record Headed (line : ℕ) (f : Form) (before after : List ℕ) (m h : ℕ) : Type 0 where
  pub first : line ≡ 1
  pub most : m ≤ most_events
  pub step : (p : M.Plan) → line_step line p f ≡ taken (record { events = m; horizon = h; records = [] })
  pub kept : after ≡ before

-- one record more, its levels stored after those of the others
pub record Entered (line : ℕ) (f : Form) (n count used : ℕ) (before after : List ℕ) (r : Record) : Type 0 where
  pub entry : M.Record
  pub row : r ≡ row_of used entry
  pub few : count < most_records
  pub room : used + length (levels_in entry) ≤ most_levels_together
  pub step : (p : M.Plan) → Counts p n count used → line_step line p f ≡ taken (with_record p entry)
  pub stored : after ≡ sets before used (levels_in entry)

-- what the line gives, by the answer's case
abbrev pub Says : ℕ → Form → ℕ → ℕ → ℕ → List ℕ → List ℕ → Result Effect Fault → Type 0
Says line f n count used before after (Err e) = Faulted line f n count used before after (number e)
Says line f n count used before after (Ok (Head m h)) = Headed line f before after m h
Says line f n count used before after (Ok (Entry r)) = Entered line f n count used before after r

pub record Room (s : SoFar) : Type 0 where
  pub events : s.events ≤ most_events
  pub levels : s.levels ≤ most_levels_together

-- what a line gives that has the numbers vs
abbrev pub Gives : List ℤ → Line → SoFar → List ℕ → List ℕ → Result Effect Fault → Type 0
Gives vs l s before after r = Says l.number (word_form l.word vs) s.events s.records s.levels before after r

-- whatever its numbers are, and the area when it began
abbrev pub Judged : Line → SoFar → List ℕ → Result Effect Fault → Type 0
Judged l s area r = (vs : List ℤ) (before : List ℕ) → Whole vs l s before area → Gives vs l s before area r
