-- Why a text is refused: the number is one of 2 to 6 or 8, for each test of a line has such a number, and the place is 0 for the text's length, or one of
-- the text's lines, which are at most one more than its bytes.
use mathlib.Core.Path.{◌≡◌, refl, subst}
use mathlib.Core.Logic.{◌⊎◌, inl, inr}
use mathlib.Core.List.{List, [], ◌∷◌, map}
use mathlib.Core.Bool.{Bool, true, false, not, cond, ◌&&◌, true≢false}
use Prim.Native.Nat.{ℕ, ◌+◌, ◌-◌, ◌≤◌, ◌<◌, max}
use native.Mathlib.Omega.{arith}
use borrow.Author.Tests.{ltb-true, ltb-false, eq-eqb}
use lib.Dec.{T, leb, ltb, eqb, leb→le}
use mir.Facts.{and_yes}
use lib.ListN.{length}
use lib.IntN.{pos, nat_abs}
use lib.Signed.{le_z}
use Rattle.meaning.specs.Plan.{Plan, most_records, most_levels, most_levels_together, most_horizon, most_events, most_bytes}
use Rattle.meaning.specs.Peak.{peaked}
use Rattle.meaning.specs.Reading.{Form, events_line, rule_line, wish_line, wrong, line_form, grow, split, line_feed}
use Rattle.meaning.specs.Reading.{between, all_levels, in_range, same_event, all_zero, last_of, levels_together, Step, taken, fault, unless}
use Rattle.meaning.specs.Reading.{first_line, later_line, line_step, plan, refused, empty, after_step, read_pieces, read, lines_in, lines}
use Rattle.meaning.specs.Numbers.{wrong_form_number, too_many_number, out_of_range_number, same_event_number}
use Rattle.meaning.specs.Numbers.{not_peaked_number, area_too_short_number, nothing_allowed_number}

-- ---- the number of a fault

record Numbered (m : ℕ) : Type 0 where
  low : 2 ≤ m
  high : m ≤ nothing_allowed_number
  other : m ≡ area_too_short_number → ⊥

-- the numbers that a test of a line may have
abbrev of_line : ℕ → Bool
of_line j = leb 2 j && (leb j nothing_allowed_number && not (eqb j area_too_short_number))

numbered : (j : ℕ) → T (of_line j) → Numbered j
numbered j t =
    let a = and_yes (leb 2 j) _ t in
    let b = and_yes (leb j nothing_allowed_number) _ a.1 in
    record {
      low = leb→le 2 j a.0;
      high = leb→le j nothing_allowed_number b.0;
      other = λ e. subst (λ t. T (not t)) (eq-eqb j area_too_short_number e) b.1;
    }

this_number : (j : ℕ) {m : ℕ} → T (of_line j) → fault j ≡ fault m → Numbered m
this_number j {m} t e = let d : j ≡ m = cc in subst Numbered d (numbered j t)

no_number : {p : Plan} {m : ℕ} {A : Type 0} → taken p ≡ fault m → A
no_number e = let z : ◌≡◌ {A = ℕ} 0 1 = cc in absurd (omega arith)

-- a test's own number, or that of a test behind it
test_number : (t : Bool) (j : ℕ) (s : Step) {m : ℕ} → T (of_line j) → (s ≡ fault m → Numbered m) → unless t j s ≡ fault m → Numbered m
test_number true j s l f e = f e
test_number false j s l f e = this_number j l e

first_number : (f : Form) {m : ℕ} → first_line f ≡ fault m → Numbered m
first_number (events_line n h) e =
    test_number (between (pos 1) (pos most_events) n && between (pos 0) (pos most_horizon) h) out_of_range_number _ tt (λ d. no_number d) e
first_number (rule_line a b lo hi) e = this_number wrong_form_number tt e
first_number (wish_line a b lo ls) e = this_number wrong_form_number tt e
first_number wrong e = this_number wrong_form_number tt e

later_number : (p : Plan) (f : Form) {m : ℕ} → later_line p f ≡ fault m → Numbered m
later_number p (events_line n h) e = this_number wrong_form_number tt e
later_number p (rule_line a b lo hi) e =
    test_number (ltb (length p.records) most_records) too_many_number _ tt
    (λ e. test_number (in_range p.events a b lo hi && le_z lo hi) out_of_range_number _ tt
    (λ e. test_number (not (same_event a b)) same_event_number _ tt (λ d. no_number d) e) e) e
later_number p (wish_line a b lo ls) e =
    let few = ltb (length p.records) most_records in
    let together = leb (levels_together p.records + length ls) most_levels_together in
    test_number (few && leb (length ls) most_levels && together) too_many_number _ tt
    (λ e. test_number (in_range p.events a b lo (last_of lo ls) && all_levels ls) out_of_range_number _ tt
    (λ e. test_number (not (same_event a b)) same_event_number _ tt
    (λ e. test_number (peaked (map nat_abs ls)) not_peaked_number _ tt
    (λ e. test_number (not (all_zero (map nat_abs ls))) nothing_allowed_number _ tt (λ d. no_number d) e) e) e) e) e
later_number p wrong e = this_number wrong_form_number tt e

step_number : (line : ℕ) (p : Plan) (f : Form) {m : ℕ} → line_step line p f ≡ fault m → Numbered m
unfolding line_step
step_number line p f {m} e = go (eqb line 1) e
  where
    go : (t : Bool) → cond t (first_line f) (later_line p f) ≡ fault m → Numbered m
    go true e = first_number f e
    go false e = later_number p f e

-- ---- the lines of a text

grown_most : (x : ℕ) (r : List (List ℕ)) (n : ℕ) → length r ≤ n + 1 → length (grow x r) ≤ n + 1
grown_most x [] n h = omega arith
grown_most x (p ∷ ps) n h = h

pieces_most : (b : ℕ) (xs : List ℕ) → length (split b xs) ≤ length xs + 1
unfolding split
pieces_most b [] = omega arith
pieces_most b (x ∷ xs) = go (eqb x b) (pieces_most b xs)
  where
    go : (t : Bool) → length (split b xs) ≤ length xs + 1 → length (cond t ([] ∷ split b xs) (grow x (split b xs))) ≤ length (x ∷ xs) + 1
    go true h = omega arith
    go false h = grown_most x (split b xs) (length (x ∷ xs)) (omega arith)

-- no more lines than pieces, but for no piece at all
lines_most : (ps : List (List ℕ)) → lines_in ps ≤ max 1 (length ps)
lines_most [] = omega arith
lines_most (l ∷ []) = go (eqb (length l) 0)
  where
    go : (t : Bool) → cond t 0 1 ≤ 1
    go true = omega arith
    go false = omega arith
lines_most (l ∷ m ∷ ms) = omega (arith, lines_most (m ∷ ms))

-- ---- the lines from the top

-- a refusal at one of these lines, the first of them line number `from`; a first line counts also where it is empty
record Among (from : ℕ) (ps : List (List ℕ)) (m k : ℕ) : Type 0 where
  number : Numbered m
  low : from ≤ k
  high : k < from + max (lines_in ps) (2 - from)

this_refusal : (j line : ℕ) (ps : List (List ℕ)) {m k : ℕ} → Numbered j → line < line + max (lines_in ps) (2 - line) →
    refused j line ≡ refused m k → Among line ps m k
this_refusal j line ps {m} {k} n h e =
    let d : j ≡ m = cc in
    let f : line ≡ k = cc in
    record { number = subst Numbered d n; low = omega arith; high = omega arith }

no_refusal : {p : Plan} {m k : ℕ} {A : Type 0} → plan p ≡ refused m k → A
no_refusal e = let z : ◌≡◌ {A = ℕ} 0 1 = cc in absurd (omega arith)

wrong_form : Numbered wrong_form_number
wrong_form = numbered wrong_form_number tt

-- what follows the last line feed is a line where it is refused
last_line : (line : ℕ) (l : List ℕ) (s t : Bool) → eqb (length l) 0 ≡ s → ltb 1 line ≡ t → (s && t) ≡ false → line < line + max (cond s 0 1) (2 - line)
last_line line l true true a b c = absurd (true≢false c)
last_line line l true false a b c = omega (arith, ltb-false 1 line b)
last_line line l false t a b c = omega arith

pieces_among : (ps : List (List ℕ)) (line : ℕ) (p : Plan) {m k : ℕ} → 1 ≤ line → read_pieces ps line p ≡ refused m k → Among line ps m k
pieces_among [] line p o e = this_refusal wrong_form_number line [] wrong_form (omega arith) e
pieces_among (l ∷ []) line p {m} {k} o e = go (eqb (length l) 0 && ltb 1 line) refl e
  where
    go : (t : Bool) → (eqb (length l) 0 && ltb 1 line) ≡ t → cond t (plan p) (refused wrong_form_number line) ≡ refused m k → Among line (l ∷ []) m k
    go true d e = no_refusal e
    go false d e = this_refusal wrong_form_number line (l ∷ []) wrong_form (last_line line l (eqb (length l) 0) (ltb 1 line) refl refl d) e
pieces_among (l ∷ q ∷ qs) line p {m} {k} o e = go (line_step line p (line_form l)) refl (λ r d. pieces_among (q ∷ qs) (line + 1) r (omega arith) d) e
  where
    go : (s : Step) → line_step line p (line_form l) ≡ s → ((r : Plan) → read_pieces (q ∷ qs) (line + 1) r ≡ refused m k → Among (line + 1) (q ∷ qs) m k) →
        after_step line (λ (r : Plan). read_pieces (q ∷ qs) (line + 1) r) s ≡ refused m k → Among line (l ∷ q ∷ qs) m k
    go (taken r) d f e = let a = f r e in record { number = a.number; low = omega (arith, a.low); high = omega (arith, a.high) }
    go (fault j) d f e = this_refusal j line (l ∷ q ∷ qs) (step_number line p (line_form l) d) (omega arith) e

-- the number of a refusal, and its place: 0 for a text that is too long, else one of the text's lines
pub record Refusal (text : List ℕ) (m k : ℕ) : Type 0 where
  pub low : 2 ≤ m
  pub high : m ≤ nothing_allowed_number
  pub other : m ≡ area_too_short_number → ⊥
  pub line : ((m ≡ 3) × (k ≡ 0) × (most_bytes < length text)) ⊎ ((1 ≤ k) × (k ≤ lines text) × (length text ≤ most_bytes))
  -- a text above the limit of its length is refused at place 0, so no line is above that limit either
  pub most : k ≤ most_bytes + 1

pub refused_number : (text : List ℕ) {m k : ℕ} → read text ≡ refused m k → Refusal text m k
unfolding read
refused_number text {m} {k} e = go (ltb most_bytes (length text)) refl e
  where
    go : (t : Bool) → ltb most_bytes (length text) ≡ t → cond t (refused too_many_number 0) (read_pieces (split line_feed text) 1 empty) ≡ refused m k
        → Refusal text m k
    go true d e =
        let f : 3 ≡ m = cc in
        let g : 0 ≡ k = cc in
        record {
          low = omega arith;
          high = omega arith;
          other = λ q. absurd (omega arith);
          line = inl (omega arith, omega arith, ltb-true most_bytes (length text) d);
          most = omega arith;
        }
    go false d e =
        let ps : List (List ℕ) = split line_feed text in
        let a = pieces_among ps 1 empty (omega arith) e in
        let few : length text ≤ most_bytes = ltb-false most_bytes (length text) d in
        record {
          low = a.number.low;
          high = a.number.high;
          other = a.number.other;
          line = inr (a.low, omega (arith, a.high), few);
          most = omega (arith, a.high, pieces_most line_feed text, lines_most ps);
        }
