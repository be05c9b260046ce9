-- The walk over the lines of a text, a line at a time: what holds before a line (`Walking`) holds after it, or the walk is left with
-- the text's reading. In a line, a field at a time: the numbers seen and those that are left are all its numbers, and its levels are stored
-- (`Scanning`).
use mathlib.Core.Path.{◌≡◌, refl, sym, ap, ◌∙◌, subst}
use mathlib.Core.Bool.{Bool, true, false, cond, ◌&&◌, and-false}
use mathlib.Core.List.{List, [], ◌∷◌, ◌++◌}
use Prim.Native.Nat.{ℕ, ◌+◌, ◌≤◌, ◌<◌}
use native.Mathlib.Omega.{arith}
use borrow.Author.Tests.{ne_eqb, eq-eqb, ltb-true, ltb-false, lt-ltb, le-ltb}
use lib.Dec.{eqb, ltb}
use lib.ListN.{length, get_or, set, take, drop, length-set, length-append, length-drop, get_or-append}
use lib.Seq.{get_or-set_other}
use lib.IntN.{ℤ, pos}
use Rattle.std.specs.Prelude.{Result, Ok, Err, Some, None}
use Rattle.text.specs.Bytes.{until, after}
use Rattle.text.proofs.Cuts.{until_le}
use Rattle.meaning.specs.Plan as M
use Rattle.meaning.specs.Plan.{most_bytes, most_levels_together}
use Rattle.meaning.specs.Reading.{tab_byte, line_feed, item, numbers, split, line_form, Step, taken, fault, line_step}
use Rattle.meaning.specs.Reading.{Reading, plan, refused, empty, read_pieces}
use Rattle.meaning.specs.Numbers.{wrong_form_number}
use Rattle.scope.specs.declared.Fault.{Fault}
use Rattle.scope.specs.declared.Fault.TheVariants.{WrongForm}
use Rattle.scope.specs.declared.Refusal.{Refusal}
use Rattle.scope.specs.Faults as F
use Rattle.plan.specs.declared.Plan.{Plan}
use Rattle.plan.specs.declared.Record.{Record}
use Rattle.plan.specs.Held.{levels_in, Holds, LevelsHeld}
use Rattle.plan.proofs.Growth.{with_row, holds_more, held_more}
use Rattle.plan.proofs.Padded.{all_same, one_more}
use Rattle.fields.specs.declared.Line.{Line}
use Rattle.fields.specs.Fields.{begun, first_field, with_number, FieldRead, Numbered}
use Rattle.fields.proofs.Walks as W
use Rattle.faults.specs.declared.SoFar.{SoFar}
use Rattle.line.specs.declared.Effect.{Effect}
use Rattle.line.specs.declared.Effect.TheVariants.{Head, Entry}
use Rattle.line.specs.Lines.{Counts, Stored, with_level, Whole, Gives, Judged, word_form}
use Rattle.line.proofs.Judges.{step_wrong}
use Rattle.line.proofs.Stores.{stored_none, stored_more}
use Rattle.reader.proofs.Pieces as P
use Rattle.reader.specs.Heard.{so_far, SameAbove, Standing, Stepped, Walked}

abbrev pub lines : List ℕ → Reading
lines text = read_pieces (split line_feed text) 1 empty

-- ---- over the lines

-- line `number` begins what is left, and p is the plan read so far
pub record Walking (text before levels : List ℕ) (h : Plan) (number : ℕ) (rest : List ℕ) : Type 0 where
  pub far : number + length rest ≤ length text + 1
  pub p : M.Plan
  pub standing : Standing number p h before levels
  pub same : read_pieces (split line_feed rest) number p ≡ lines text

pub begin : {text before : List ℕ} {h : Plan} → Holds empty h → LevelsHeld empty before before → Walking text before before h 1 text
begin {text} o l = record {
  far = omega arith;
  p = empty;
  standing = record {
    one = omega arith;
    holds = o;
    held = l;
    start = λ _. refl;
    room = record { events = omega (arith, o.events); levels = omega (arith, o.used) };
  };
  same = refl;
}

-- what a step says that has no fault, and one that has
stepped_ok : (s : Step) (number : ℕ) (before levels : List ℕ) (h : Plan) (u : Unit {0}) → Stepped s number before h levels (Ok u)
    → (q : M.Plan) × (s ≡ taken q) × Standing (number + 1) q h before levels
stepped_ok (taken q) number before levels h u d = (q, refl, d)
stepped_ok (fault k) number before levels h u d = absurd d

stepped_err : (s : Step) (number : ℕ) (before levels : List ℕ) (h : Plan) (f : Fault) → Stepped s number before h levels (Err f)
    → (s ≡ fault (F.number f)) × SameAbove before levels
stepped_err (taken q) number before levels h f d = absurd d
stepped_err (fault k) number before levels h f d = (ap fault (sym d.0), d.1)

walked_err : {x : Reading} (before levels : List ℕ) (h : Plan) (r : Refusal) → x ≡ refused (F.number r.fault) r.line → SameAbove before levels
    → Walked x before h levels (Err r)
walked_err before levels h r e s = rw e (refl, refl, s)

module _ {text before levels : List ℕ} {h : Plan} {number : ℕ} {rest : List ℕ} (w : Walking text before levels h number rest) where
  -- after line feed k of what is left
  module _ (k : ℕ) (e : k ≡ until line_feed rest) (l : k < length rest) (h' : Plan) (levels' : List ℕ) where
    pub walk_on : (u : Unit {0}) → Stepped (line_step number w.p (line_form (take k rest))) number before h' levels' (Ok u)
        → Walking text before levels' h' (number + 1) (drop (k + 1) rest)
    walk_on u d =
        let s = stepped_ok _ _ _ _ _ u d in
        record {
          far = omega (arith, w.far, length-drop (k + 1) rest);
          p = s.0;
          standing = s.2;
          same = sym (rw s.1 at (P.pieces_step rest number w.p k e l)) ∙ w.same;
        }

    pub walk_fault : (f : Fault) → Stepped (line_step number w.p (line_form (take k rest))) number before h' levels' (Err f)
        → Walked (lines text) before h' levels' (Err (record { fault = f; line = number }))
    walk_fault f d =
        let s = stepped_err _ _ _ _ _ f d in
        walked_err before levels' h' (record { fault = f; line = number }) (sym w.same ∙ P.pieces_step rest number w.p k e l ∙ rw s.0) s.1

  -- no line feed is left
  module _ (e : until line_feed rest ≡ length rest) where
    read_last : lines text ≡ cond (eqb (length rest) 0 && ltb 1 number) (plan w.p) (refused wrong_form_number number)
    read_last = sym w.same ∙ P.pieces_last rest number w.p e

    pub walk_end : (u : Unit {0}) → (number ≡ 1 → ⊥) → length rest ≡ 0 → Walked (lines text) before h levels (Ok u)
    walk_end u n z =
        let many = lt-ltb 1 number (omega (arith, w.standing.one)) in
        let whole = rw (eq-eqb (length rest) 0 z, many) at read_last in
        rw whole (w.standing.holds, w.standing.held)

    wrong_form : lines text ≡ refused wrong_form_number number → Walked (lines text) before h levels (Err (record { fault = WrongForm; line = number }))
    wrong_form f = walked_err before levels h (record { fault = WrongForm; line = number }) f w.standing.held.rest

    -- no line at all, or one that does not end
    pub walk_none : number ≡ 1 → Walked (lines text) before h levels (Err (record { fault = WrongForm; line = number }))
    walk_none n = wrong_form (read_last ∙ rw (le-ltb 1 number (omega arith), and-false))

    pub walk_unended : (length rest ≡ 0 → ⊥) → Walked (lines text) before h levels (Err (record { fault = WrongForm; line = number }))
    walk_unended n = wrong_form (read_last ∙ rw (ne_eqb (length rest) 0 n))

-- ---- in a line

-- a line with other numbers
abbrev read_on : Line → ℕ → List ℤ → Line
read_on l n fs = record { number = l.number; word = l.word; first = l.first; count = n; fields = fs }

-- the plan in memory after the first line
abbrev pub with_head : Plan → ℕ → ℕ → Plan
with_head h m z = record { events = m; horizon = z; count = h.count; used = h.used; records = h.records }

-- before the field at p of line s, with this area: the numbers seen, with those that are left, are all, and levels among those seen are stored
pub record Scanning (s : List ℕ) (number used : ℕ) (area : List ℕ) (line : Line) (levels : List ℕ) (p : ℕ) : Type 0 where
  pub kept : line ≡ read_on (begun s number) line.count line.fields
  pub inside : p ≤ length s
  pub few : line.count ≤ p
  pub seen : List ℤ
  pub numbered : Numbered seen line
  pub stored : Stored line.word seen used area levels
  pub rest : P.numbers_in s ≡ P.onto seen (numbers (after tab_byte (drop p s)))

numbered_none : (s : List ℕ) (number : ℕ) → Numbered [] (begun s number)
numbered_none s number = record { count = refl; size = refl; at = λ i _. all_same (pos 0) 4 i }

-- one number more: from the fifth on it is stored nowhere
numbered_more : {vs : List ℤ} {line : Line} → Numbered vs line → (v : ℤ) → Numbered (vs ++ (v ∷ [])) (with_number line v)
numbered_more {vs} {line} n v = record {
  count = omega (arith, n.count, length-append vs (v ∷ []));
  size = length-set line.fields line.count v ∙ n.size;
  at = λ k l. go k l (ltb line.count 4) refl;
}
  where
    go : (k : ℕ) → k < 4 → (b : Bool) → ltb line.count 4 ≡ b → get_or (set line.fields line.count v) k (pos 0) ≡ item (vs ++ (v ∷ [])) k
    go k l true t =
        let room : line.count < length line.fields = omega (arith, n.size, ltb-true line.count 4 t) in
        one_more (pos 0) (λ i. i < 4) line.fields vs v line.count n.count room n.at k l
    go k l false t =
        let far : 4 ≤ line.count = ltb-false line.count 4 t in
        get_or-set_other line.fields line.count k v (pos 0) (λ e. omega arith) ∙ n.at k l
        ∙ sym (get_or-append vs (v ∷ []) (pos 0) k (omega (arith, n.count)))

-- none of its fields is read
pub scan_begin : (s : List ℕ) (number used : ℕ) (area : List ℕ) → Scanning s number used area (begun s number) area (until tab_byte s)
scan_begin s number used area = record {
  kept = refl;
  inside = until_le tab_byte s;
  few = omega arith;
  seen = [];
  numbered = numbered_none s number;
  stored = stored_none (begun s number).word used area;
  rest = P.scan_start _;
}

module _ {s : List ℕ} {number used : ℕ} {area : List ℕ} {line : Line} {levels : List ℕ} {p : ℕ} (c : Scanning s number used area line levels p) where
  -- ---- a field
  module _ (more : p < length s) where
    field_in : (v : ℤ) (next : ℕ) → FieldRead s p (Some (v, next)) → (p < next) × (next ≤ length s)
    field_in v next f = let g = W.field_in s p more in (omega (arith, g.0, f.0), omega (arith, g.1, f.0))

    pub scan_more : (v : ℤ) (next : ℕ) → FieldRead s p (Some (v, next))
        → Scanning s number used area (with_number line v) (with_level line used v levels) next
    scan_more v next f =
        let g = field_in v next f in
        record {
          kept = ap (λ (l : Line). read_on l (line.count + 1) (set line.fields line.count v)) c.kept;
          inside = g.1;
          few = omega (arith, c.few, g.0);
          seen = c.seen ++ (v ∷ []);
          numbered = numbered_more c.numbered v;
          stored = stored_more c.numbered c.stored v;
          rest = rw f.0 (P.scan_good s p more c.seen _ c.rest v f.1);
        }

    unread_step : FieldRead s p None → (q : M.Plan) → line_step number q (line_form s) ≡ fault wrong_form_number
    unread_step f q = rw (P.form_cut s, P.scan_bad s p more c.seen _ c.rest f) (step_wrong number q)

    pub unread : FieldRead s p None → (q : M.Plan) (before : List ℕ) (h : Plan) → Standing number q h before area
        → Stepped (line_step number q (line_form s)) number before h levels (Err WrongForm)
    unread f q before h st = rw (unread_step f q) (refl, λ i k. c.stored.above i k ∙ st.held.rest i k)

-- ---- all fields are read

-- what the line gives, by the numbers of the plan that the code takes
pub judged_so_far : {line : Line} {t : SoFar} {levels : List ℕ} (h : Plan) (r : Result Effect Fault) → t ≡ so_far h → Judged line t levels r →
    Judged line (so_far h) levels r
judged_so_far {line} {levels = levels} h r e j = subst (λ t. Judged line t levels r) e j

module _ {s : List ℕ} {number : ℕ} {area : List ℕ} {line : Line} {levels : List ℕ} {p : ℕ} (h : Plan) (c : Scanning s number h.used area line levels p)
    (all : length s ≤ p) where
  pub whole : Whole c.seen line (so_far h) area levels
  whole = record { numbered = c.numbered; stored = c.stored }

  same_number : line.number ≡ number
  same_number = ap (λ (l : Line). l.number) c.kept

  form : line_form s ≡ word_form line.word c.seen
  form = P.form_cut s ∙ rw (P.scan_end s p all c.seen _ c.rest, c.kept) (P.word_form_lem (first_field s) c.seen)

  judged : (q : M.Plan) → line_step number q (line_form s) ≡ line_step line.number q (word_form line.word c.seen)
  judged q = rw (form, same_number)

  module _ (q : M.Plan) (before : List ℕ) (st : Standing number q h before area) where
    counts : Counts q h.events h.count h.used
    counts = record { events = sym st.holds.events; records = sym st.holds.count; levels = sym st.holds.used }

    pub faulted : (f : Fault) → Gives c.seen line (so_far h) area levels (Err f) → Stepped (line_step number q (line_form s)) number before h levels (Err f)
    faulted f g = rw (judged q, g.step q counts) (refl, λ i k. g.above i k ∙ st.held.rest i k)

    pub headed : (m z : ℕ) (u : Unit {0}) → Gives c.seen line (so_far h) area levels (Ok (Head m z))
        → Stepped (line_step number q (line_form s)) number before (with_head h m z) levels (Ok u)
    headed m z u g =
        let one : number ≡ 1 = sym same_number ∙ g.first in
        let e : q ≡ empty = st.start one in
        let o : Holds empty h = rw e at st.holds in
        let l : LevelsHeld empty before area = rw e at st.held in
        rw (judged q, g.step q)
        (record {
          one = omega arith;
          holds = record { events = refl; horizon = refl; count = o.count; used = o.used; size = o.size; rows = o.rows };
          held = rw g.kept (record { long = l.long; done = l.done; rest = l.rest });
          start = λ first. absurd (omega (arith, st.one));
          room = record { events = g.most; levels = st.room.levels };
        })

    pub entered : (r : Record) (n : ℕ) (u : Unit {0}) → most_levels_together ≤ length area → n ≡ r.count
        → Gives c.seen line (so_far h) area levels (Ok (Entry r)) → Stepped (line_step number q (line_form s)) number before (with_row h r n) levels (Ok u)
    entered r n u long e g =
        let k : n ≡ length (levels_in g.entry) = e ∙ ap (λ (x : Record). x.count) g.row in
        rw (judged q, g.step q counts)
        (record {
          one = omega arith;
          holds = rw (← g.row) at (holds_more q g.entry h n st.holds g.few k);
          held = rw g.stored (held_more q g.entry before area h.used st.held st.holds.used g.room (omega (arith, st.held.long)));
          start = λ first. absurd (omega (arith, st.one));
          room = record { events = st.room.events; levels = omega (arith, g.room, k) };
        })
