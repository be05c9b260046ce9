-- What a line does to the plan read so far, from what its tests give: the faults by the tests in their order are those of `line_step`.
use mathlib.Core.Path.{◌≡◌, refl, ◌∙◌}
use mathlib.Core.Bool.{Bool, true, false, cond, ◌&&◌, not}
use mathlib.Core.List.{List, [], ◌∷◌, map}
use Prim.Native.Nat.{ℕ, zero, suc, ◌+◌, ◌≤◌}
use native.Mathlib.Omega.{arith}
use borrow.Author.Tests.{le-leb}
use lib.Dec.{eqb, ltb, leb}
use lib.ListN.{length, get_or, length-map}
use lib.IntN.{ℤ, pos, nat_abs}
use lib.Signed.{le_z}
use Rattle.std.specs.Prelude.{Result, Ok, Err}
use Rattle.scope.specs.declared.Fault.{Fault}
use Rattle.scope.specs.Faults.{number}
use Rattle.meaning.specs.Plan as M
use Rattle.meaning.specs.Plan.{most_events, most_horizon, most_records, most_levels, most_levels_together}
use Rattle.meaning.specs.Peak.{peaked}
use Rattle.meaning.specs.Reading.{item, Form, events_line, rule_line, wish_line, wrong, Step, taken, fault, unless, line_step, first_line, later_line}
use Rattle.meaning.specs.Reading.{with_record, between, in_range, same_event, all_levels, all_zero, last_of, levels_together}
use Rattle.meaning.specs.Numbers.{wrong_form_number, too_many_number, out_of_range_number, same_event_number, not_peaked_number, nothing_allowed_number}
use Rattle.faults.specs.declared.SoFar.{SoFar}
use Rattle.faults.specs.declared.Span.{Span}
use Rattle.line.specs.declared.Effect.{Effect}
use Rattle.line.specs.Lines.{Says, Counts}
use Rattle.faults.specs.Faults.{no_fault, unless_met, first_fault, head_fault, has_room, allows_any, record_fault, entry_fault}
use Rattle.line.specs.Effects.{level_of, wish_span, Given}
use Rattle.scope.proofs.Numbers.{not_zero}
use Rattle.faults.proofs.Firsts.{only, flat, six}
use Rattle.faults.proofs.Allowed.{allows_wish}
use Rattle.line.proofs.Wishes.{range_last, order_last, levels_as, levels_same}

pub step_wrong : (line : ℕ) (p : M.Plan) → line_step line p wrong ≡ fault wrong_form_number
unfolding line_step
step_wrong line p = go (eqb line 1)
  where
    go : (b : Bool) → cond b (first_line wrong) (later_line p wrong) ≡ fault wrong_form_number
    go true = refl
    go false = refl

-- ---- a fault as a step

-- the fault that was found in the numbers q is that of the numbers r which they are
pub found_in : (n : ℕ) (ls : List ℕ) {q r : Span} {k : ℕ} → q ≡ r → k ≡ record_fault n q ls → record_fault n r ls ≡ k
found_in n ls e f = cc

-- the plan q, unless there is a fault
abbrev pub step_of : ℕ → M.Plan → Step
step_of zero q = taken q
step_of (suc k) q = fault (suc k)

head_tests : (x y : Bool) (q : M.Plan)
    → unless (x && y) out_of_range_number (taken q) ≡ step_of (first_fault (unless_met x out_of_range_number ∷ unless_met y out_of_range_number ∷ [])) q
head_tests false y q = refl
head_tests true false q = refl
head_tests true true q = refl

pub head_first : (n h : ℤ) → first_line (events_line n h) ≡ step_of (head_fault n h) (record { events = nat_abs n; horizon = nat_abs h; records = [] })
unfolding head_fault
head_first n h =
    head_tests (between (pos 1) (pos most_events) n) (between (pos 0) (pos most_horizon) h) (record { events = nat_abs n; horizon = nat_abs h; records = [] })

-- the tests of one record more, each by its answer
abbrev tests : Bool → Bool → Bool → Bool → Bool → Bool → Bool → ℕ
tests r x y l s u w = first_fault (unless_met r too_many_number ∷ six x y l s u w ∷ [])

rule_tests : (r x y s : Bool) (q : M.Plan)
    → unless r too_many_number (unless (x && y) out_of_range_number (unless s same_event_number (taken q))) ≡ step_of (tests r x y true s true true) q
rule_tests false x y s q = refl
rule_tests true false y s q = refl
rule_tests true true false s q = refl
rule_tests true true true false q = refl
rule_tests true true true true q = refl

-- a wish by its levels as they are read and as they are stored: where a number is no level, the last two tests do not matter
module _ (read stored : List ℕ) (some : 1 ≤ length read) (q : M.Plan) where
  abbrev levels_step : Step
  levels_step = unless (peaked read) not_peaked_number (unless (not (all_zero read)) nothing_allowed_number (taken q))

  wish_tests : (r x l s : Bool) → (l ≡ true → stored ≡ read)
      → unless r too_many_number (unless (x && l) out_of_range_number (unless s same_event_number levels_step))
      ≡ step_of (tests r x true l s (peaked stored) (allows_any stored)) q
  wish_tests false x l s e = refl
  wish_tests true false l s e = refl
  wish_tests true true false s e = refl
  wish_tests true true true false e = refl
  wish_tests true true true true e = rw (e refl, allows_wish read some) (last (peaked read) (not (all_zero read)))
    where
      last : (u w : Bool) → unless u not_peaked_number (unless w nothing_allowed_number (taken q)) ≡ step_of (tests true true true true true u w) q
      last false w = refl
      last true false = refl
      last true true = refl

-- ---- a record, one more of the plan p

room_none : (s : SoFar) → s.levels ≤ most_levels_together → has_room s 0 ≡ ltb s.records most_records
room_none s h = rw (le-leb (s.levels + 0) most_levels_together (omega arith)) (go (ltb s.records most_records))
  where
    go : (b : Bool) → b && true && true ≡ b
    go true = refl
    go false = refl

module _ (p : M.Plan) (s : SoFar) (k : Counts p s.events s.records s.levels) where
  pub rule_later : (r : Span) → s.levels ≤ most_levels_together
      → later_line p (rule_line r.a r.b r.lo r.hi)
      ≡ step_of (entry_fault s r []) (with_record p (M.rule (nat_abs r.a) (nat_abs r.b) r.lo r.hi))
  unfolding record_fault
  rule_later r h =
      let ranged = in_range p.events r.a r.b r.lo r.hi in
      let next = with_record p (M.rule (nat_abs r.a) (nat_abs r.b) r.lo r.hi) in
      rw (room_none s h, flat, ← k.events, ← k.records)
      (rule_tests (ltb (length p.records) most_records) ranged (le_z r.lo r.hi) (not (same_event r.a r.b)) next)

  pub wish_later : (vs ls : List ℤ) → 1 ≤ length ls
      → later_line p (wish_line (item vs 0) (item vs 1) (item vs 2) ls)
      ≡ step_of (entry_fault s (wish_span vs (length ls)) (map level_of ls))
      (with_record p (M.wish (nat_abs (item vs 0)) (nat_abs (item vs 1)) (item vs 2) (map nat_abs ls)))
  unfolding record_fault
  wish_later vs ls some =
      let a = item vs 0 in
      let b = item vs 1 in
      let lo = item vs 2 in
      let m = length ls in
      let room = ltb (length p.records) most_records && leb m most_levels && leb (levels_together p.records + m) most_levels_together in
      let next = with_record p (M.wish (nat_abs a) (nat_abs b) lo (map nat_abs ls)) in
      rw (length-map ls level_of, range_last s.events a b lo m, order_last lo m, levels_as ls, ← k.events, ← k.records, ← k.levels)
      (wish_tests (map nat_abs ls) (map level_of ls) (rw (length-map ls nat_abs) some) next
      room (in_range p.events a b lo (last_of lo ls)) (all_levels ls) (not (same_event a b)) (levels_same ls))

-- ---- the form of a line: what its number and the count of its numbers say comes first

module _ (line : ℕ) (formed : Bool) (p : M.Plan) (f : Form) (k : ℕ) (q : M.Plan) where
  pub first_step : later_line p f ≡ fault wrong_form_number → first_line f ≡ step_of k q
      → line_step line p (cond formed f wrong) ≡ step_of (first_fault (unless_met (eqb line 1 && formed) wrong_form_number ∷ k ∷ [])) q
  unfolding line_step
  first_step n e = go (eqb line 1) formed
    where
      go : (x y : Bool)
          → cond x (first_line (cond y f wrong)) (later_line p (cond y f wrong)) ≡ step_of (first_fault (unless_met (x && y) wrong_form_number ∷ k ∷ [])) q
      go true true = rw (only k) e
      go true false = refl
      go false true = n
      go false false = refl

  pub later_step : first_line f ≡ fault wrong_form_number → (formed ≡ true → later_line p f ≡ step_of k q)
      → line_step line p (cond formed f wrong) ≡ step_of (first_fault (unless_met (not (eqb line 1) && formed) wrong_form_number ∷ k ∷ [])) q
  unfolding line_step
  later_step n e = go (eqb line 1) formed refl
    where
      go : (x y : Bool) → formed ≡ y
          → cond x (first_line (cond y f wrong)) (later_line p (cond y f wrong)) ≡ step_of (first_fault (unless_met (not x && y) wrong_form_number ∷ k ∷ [])) q
      go true true r = n
      go true false r = refl
      go false true r = rw (only k) (e r)
      go false false r = refl

-- ---- what the answer says: a fault, or else what the record or the first line is

fault_step : (f : Fault) (q : M.Plan) → step_of (number f) q ≡ fault (number f)
fault_step f q = rw (not_zero f).1

pub says_given : (line : ℕ) (f : Form) (n count used : ℕ) (before after : List ℕ) (k : ℕ) (e : Effect) (next : M.Plan → M.Plan)
    → ((p : M.Plan) → Counts p n count used → line_step line p f ≡ step_of k (next p))
    → ((i : ℕ) → most_levels_together ≤ i → get_or after i 0 ≡ get_or before i 0)
    → (k ≡ no_fault → Says line f n count used before after (Ok e))
    → (r : Result Effect Fault) → Given k e r → Says line f n count used before after r
says_given line f n count used before after k e next step above whole (Ok x) g = rw g.1 (whole g.0)
says_given line f n count used before after k e next step above whole (Err x) g =
    record { some = omega (arith, (not_zero x).1); step = λ p c. step p c ∙ rw g (fault_step x (next p)); above = above }
