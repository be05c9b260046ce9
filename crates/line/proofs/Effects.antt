-- What `take` promises of a line `events`, `rule` or `wish`, from what its function answers.
use mathlib.Core.Path.{◌≡◌, refl, sym, ap, ◌∙◌}
use mathlib.Core.Bool.{Bool, true, false, not}
use mathlib.Core.List.{List, [], ◌∷◌, map}
use Prim.Native.Nat.{ℕ, ◌+◌, ◌-◌, ◌≤◌}
use native.Mathlib.Omega.{arith}
use borrow.Author.Tests.{eqb-true, leb-true}
use lib.Dec.{eqb, leb}
use lib.ListN.{length, drop, length-map, length-drop}
use lib.Seq.{slice, sets}
use lib.IntN.{ℤ, nat_abs}
use Rattle.std.specs.Prelude.{Result, Ok}
use Rattle.scope.specs.declared.Fault.{Fault}
use Rattle.meaning.specs.Plan as M
use Rattle.meaning.specs.Plan.{most_events, most_levels_together}
use Rattle.meaning.specs.Numbers.{wrong_form_number, too_many_number}
use Rattle.meaning.specs.Reading.{item, events_line, rule_line, wish_line, events_form, rule_form, wish_form, line_step, with_record}
use Rattle.meaning.proofs.Tests.{both, count_to}
use Rattle.fields.specs.declared.Line.{Line}
use Rattle.faults.specs.declared.SoFar.{SoFar}
use Rattle.faults.specs.declared.Span.{Span}
use Rattle.line.specs.declared.Effect.{Effect}
use Rattle.line.specs.declared.Effect.TheVariants.{Head, Entry}
use Rattle.fields.specs.Fields.{Numbered}
use Rattle.line.specs.Lines.{Says, Counts, Room, is_wish_word, Stored}
use Rattle.faults.specs.Faults.{no_fault, unless_met, first_fault, head_fault, has_room, record_fault, entry_fault}
use Rattle.line.specs.Effects.{level_of, span_of, wish_span, row_from}
use Rattle.line.specs.Effects.{is_head, is_rule, is_wish, Given, EventsEffect, RuleEffect, WishTaken}
use Rattle.faults.proofs.Firsts.{met, only, head_ranges, ranged, low_end, levelled, limits}
use Rattle.line.proofs.Wishes.{stored_slice, levels_as, levels_same, wish_row}
use Rattle.line.proofs.Judges as J

-- ---- `events`

module _ (l : Line) (vs : List ℤ) (n : Numbered vs l) where
  abbrev head_n : ℤ
  head_n = item l.fields 0

  abbrev head_h : ℤ
  head_h = item l.fields 1

  abbrev headed : M.Plan
  headed = record { events = nat_abs head_n; horizon = nat_abs head_h; records = [] }

  abbrev events_fault : ℕ
  events_fault = first_fault (unless_met (is_head l) wrong_form_number ∷ head_fault head_n head_h ∷ [])

  events_step : (p : M.Plan) → line_step l.number p (events_form vs) ≡ J.step_of events_fault headed
  events_step p =
      rw (← n.count, ← n.at 0 (omega arith), ← n.at 1 (omega arith))
      (J.first_step l.number (eqb l.count 2) p (events_line head_n head_h) (head_fault head_n head_h) headed refl
      (J.head_first head_n head_h))

  pub events_says : (s : SoFar) (area : List ℕ) (r : Result Effect Fault) → EventsEffect l r
      → Says l.number (events_form vs) s.events s.records s.levels area area r
  unfolding EventsEffect
  events_says s area =
      J.says_given l.number (events_form vs) s.events s.records s.levels area area events_fault (Head (nat_abs head_n) (nat_abs head_h)) (λ _. headed)
      (λ p _. events_step p) (λ i _. refl)
      (λ z.
      let t = met (is_head l) wrong_form_number (head_fault head_n head_h ∷ []) (omega arith) z in
      let ranges = head_ranges head_n head_h (sym (only (head_fault head_n head_h)) ∙ t.1) in
      record {
        first = eqb-true l.number 1 (both (eqb l.number 1) (eqb l.count 2) t.0).0;
        most = count_to most_events 1 head_n ranges.0;
        step = λ p. events_step p ∙ ap (λ (k : ℕ). J.step_of k headed) z;
        kept = refl;
      })

-- ---- `rule`

module _ (l : Line) (vs : List ℤ) (n : Numbered vs l) (s : SoFar) (room : Room s) where
  abbrev rule_entry : M.Record
  rule_entry = let r = span_of l.fields in M.rule (nat_abs r.a) (nat_abs r.b) r.lo r.hi

  abbrev rule_fault : ℕ
  rule_fault = first_fault (unless_met (is_rule l) wrong_form_number ∷ entry_fault s (span_of l.fields) [] ∷ [])

  rule_step : (p : M.Plan) → Counts p s.events s.records s.levels
      → line_step l.number p (rule_form vs) ≡ J.step_of rule_fault (with_record p rule_entry)
  rule_step p k =
      let r = span_of l.fields in
      rw (← n.count, ← n.at 0 (omega arith), ← n.at 1 (omega arith), ← n.at 2 (omega arith), ← n.at 3 (omega arith))
      (J.later_step l.number (eqb l.count 4) p (rule_line r.a r.b r.lo r.hi) (entry_fault s r []) (with_record p rule_entry) refl
      (λ _. J.rule_later p s k r room.levels))

  pub rule_says : (area : List ℕ) (r : Result Effect Fault) → RuleEffect l s r
      → Says l.number (rule_form vs) s.events s.records s.levels area area r
  unfolding RuleEffect
  rule_says area =
      J.says_given l.number (rule_form vs) s.events s.records s.levels area area rule_fault (Entry (row_from (span_of l.fields) s.levels 0))
      (λ p. with_record p rule_entry) rule_step (λ i _. refl)
      (λ z.
      let t = met (is_rule l) wrong_form_number (entry_fault s (span_of l.fields) [] ∷ []) (omega arith) z in
      let u = met (has_room s 0) too_many_number (record_fault s.events (span_of l.fields) [] ∷ []) (omega arith) (sym (only _) ∙ t.1) in
      record {
        entry = rule_entry;
        row = refl;
        few = (limits s 0 u.0).few;
        room = omega (arith, room.levels);
        step = λ p k. rule_step p k ∙ ap (λ (k : ℕ). J.step_of k (with_record p rule_entry)) z;
        stored = refl;
      })

-- ---- `wish`

module _ (vs : List ℤ) (l : Line) (n : Numbered vs l) (s : SoFar) (before after : List ℕ) (a : Stored l.word vs s.levels before after) where
  -- the numbers that are levels, and how they are stored
  abbrev ls : List ℤ
  ls = drop 3 vs

  abbrev levels : List ℕ
  levels = map level_of ls

  abbrev m : ℕ
  m = l.count - 3

  abbrev span : Span
  span = wish_span l.fields m

  abbrev wish_entry : M.Record
  wish_entry = M.wish (nat_abs (item l.fields 0)) (nat_abs (item l.fields 1)) (item l.fields 2) (map nat_abs ls)

  many : length ls ≡ m
  many = rw n.count (length-drop 3 vs)

  levels_many : length levels ≡ m
  levels_many = length-map ls level_of ∙ many

  abbrev Wish : Result Effect Fault → Type 0
  Wish r = Says l.number (wish_form vs) s.events s.records s.levels before after r

  -- the fault that is found in the area, and what an answer gives where the first fault is k
  abbrev found : ℕ
  found = record_fault s.events span (slice s.levels (s.levels + m) after)

  abbrev Answer : ℕ → Result Effect Fault → Type 0
  Answer k r = Given k (Entry (row_from span s.levels m)) r

  says : (k : ℕ) → ((p : M.Plan) → Counts p s.events s.records s.levels → line_step l.number p (wish_form vs) ≡ J.step_of k (with_record p wish_entry))
      → (k ≡ no_fault → Wish (Ok (Entry (row_from span s.levels m)))) → (r : Result Effect Fault) → Answer k r → Wish r
  says k step =
      J.says_given l.number (wish_form vs) s.events s.records s.levels before after k (Entry (row_from span s.levels m)) (λ p. with_record p wish_entry)
      step a.above

  wish_step : (p : M.Plan) → Counts p s.events s.records s.levels
      → line_step l.number p (wish_form vs)
      ≡ J.step_of (first_fault (unless_met (is_wish l) wrong_form_number ∷ entry_fault s span levels ∷ [])) (with_record p wish_entry)
  wish_step p k =
      let form = wish_line (item l.fields 0) (item l.fields 1) (item l.fields 2) ls in
      rw (← n.count, ← n.at 0 (omega arith), ← n.at 1 (omega arith), ← n.at 2 (omega arith))
      (J.later_step l.number (leb 4 l.count) p form (entry_fault s span levels) (with_record p wish_entry) refl
      (λ four. rw (← many) (J.wish_later p s k l.fields ls (omega (arith, many, leb-true 4 l.count four)))))

  module _ (formed : is_wish l ≡ true) (room : has_room s m ≡ true) (word : is_wish_word l.word ≡ true) where
    fits : s.levels + m ≤ most_levels_together
    fits = (limits s m room).together

    stored : after ≡ sets before s.levels levels
    stored = a.levels word (omega (arith, fits, n.count))

    tested : (p : M.Plan) → Counts p s.events s.records s.levels
        → line_step l.number p (wish_form vs) ≡ J.step_of (record_fault s.events span levels) (with_record p wish_entry)
    tested p k =
        let f = record_fault s.events span levels in
        wish_step p k ∙ rw (formed, levels_many, room, only f, only f)

    entered : record_fault s.events span levels ≡ no_fault → Wish (Ok (Entry (row_from span s.levels m)))
    entered z =
        let good = levels_same ls (sym (levels_as ls) ∙ levelled s.events span levels z) in
        let end = low_end s.events span (ranged s.events span levels z) in
        let four = leb-true 4 l.count (both (not (eqb l.number 1)) (leb 4 l.count) formed).1 in
        record {
          entry = wish_entry;
          row = wish_row l.fields ls s.levels m end many (omega arith);
          few = (limits s m room).few;
          room = omega (arith, length-map ls nat_abs, many, fits);
          step = λ p k. tested p k ∙ ap (λ (f : ℕ). J.step_of f (with_record p wish_entry)) z;
          stored = rw good at stored;
        }

    -- the levels that are tested are those of the line
    levels_says : most_levels_together ≤ length after → (r : Result Effect Fault) → Answer found r → Wish r
    levels_says long =
        let back = stored_slice before levels after s.levels m stored levels_many (omega (arith, fits, long, a.long)) in
        rw back (says (record_fault s.events span levels) tested entered)

  pub wish_says : is_wish_word l.word ≡ true → most_levels_together ≤ length after → (r : Result Effect Fault) → WishTaken l s after r → Wish r
  unfolding WishTaken
  wish_says word long r = go (is_wish l) (has_room s m) refl refl
    where
      go : (x y : Bool) → is_wish l ≡ x → has_room s m ≡ y
          → Answer (first_fault (unless_met x wrong_form_number ∷ unless_met y too_many_number ∷ found ∷ [])) r → Wish r
      go false y q t = says wrong_form_number (λ p k. wish_step p k ∙ rw q) (λ z. absurd (omega arith)) r
      go true false q t = says too_many_number (λ p k. wish_step p k ∙ rw (q, levels_many, t)) (λ z. absurd (omega arith)) r
      go true true q t = rw (only found) (levels_says q t word long r)
