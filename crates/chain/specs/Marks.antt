-- What the functions within ask of one another: the marked events as a set s, and at each of them the end and the code of the bound by
-- which it was marked, its note, in a list nx.
use Rattle.std.specs.Prelude.{◌≡◌, Bool, true, false, ℕ, zero, suc, ◌≤◌, ◌<◌, T, length, get_or, set, replicate, ℤ}
use mathlib.Core.List.{List, [], ◌∷◌, Memᴰ}
use Rattle.std.specs.Int.Count.{ones}
use Rattle.eventset.specs.Sets.{member, put_in}
use Rattle.meaning.specs.Plan.{most_events}
use Rattle.meaning.specs.Bounds.{Bound, Leads, distinct, ends}
use Rattle.meaning.specs.Outcome.{over}
use Rattle.chain.specs.declared.Note.{Note}
use Rattle.chain.specs.Clash.{Fit, Given, Table, Tight, Lead}

-- ---- the notes

-- the note of no bound, and the notes before any
abbrev pub no_note : Note
no_note = record { next = 0; code = 0 }

abbrev pub no_notes : List Note
no_notes = replicate most_events no_note

-- the note at event e
abbrev pub note_at : List Note → ℕ → Note
note_at nx e = get_or nx e no_note

-- the note of a bound, and the notes with it at the bound's start
abbrev pub note_of : Bound → Note
note_of β = record { next = β.end; code = β.code }

abbrev pub note : List Note → Bound → List Note
note nx β = set nx β.start (note_of β)

-- notes that lead from event to event
pub record Notes (nx : List Note) : Type 0 where
  pub room : most_events ≤ length nx
  pub low : (e : ℕ) → (note_at nx e).next < most_events

-- the bound x is noted at its start
pub record Noted (nx : List Note) (x : Bound) : Type 0 where
  pub to : (note_at nx x.start).next ≡ x.end
  pub code : (note_at nx x.start).code ≡ x.code

-- ---- one bound

pub record Looking (d : List ℤ) (a : ℕ) (β : Bound) : Type 0 where
  pub n : ℕ
  pub table : Table d n
  pub fit : Fit n β
  pub to : a < n

pub record Decided (P : Type 0) (r : Bool) : Type 0 where
  pub taken : r ≡ true → P
  pub left : r ≡ false → P → ⊥

-- what a look at a bound does
pub data Look (d : List ℤ) (a : ℕ) (β : Bound) (s : ℕ) (nx : List Note) (r : ℕ) (nx' : List Note) : Type 0 where
  kept : r ≡ s → nx' ≡ nx → (Tight d a β → member s β.end ≡ true → member s β.start ≡ true) → Look d a β s nx r nx'
  marked : member s β.start ≡ false → member s β.end ≡ true → Tight d a β → r ≡ put_in s β.start → nx' ≡ note nx β
      → Look d a β s nx r nx'

-- ---- all bounds

-- a note is as before where its event is marked as before
pub record Untouched (s : ℕ) (nx : List Note) (r : ℕ) (nx' : List Note) : Type 0 where
  pub entry : (e : ℕ) → member r e ≡ member s e → note_at nx' e ≡ note_at nx e

module _ (bounds : List Bound) (d : List ℤ) (a : ℕ) where
  -- from the marked events s with the notes nx, events marked one by one: each the start of a tight bound to a marked event, noted there
  pub data Marks (s : ℕ) (nx : List Note) : ℕ → List Note → Type 0 where
    same : {r : ℕ} {nx' : List Note} → r ≡ s → nx' ≡ nx → Marks s nx r nx'
    more : {r : ℕ} {nx' : List Note} (t : ℕ) (nt : List Note) (β : Bound) → Marks s nx t nt → Memᴰ β bounds → β.start < length nt
        → member t β.start ≡ false → member t β.end ≡ true → Tight d a β → r ≡ put_in t β.start → nx' ≡ note nt β → Marks s nx r nx'

  -- what may be scanned, and what is true after it
  pub record Scanning (nx : List Note) : Type 0 where
    pub n : ℕ
    pub given : Given bounds n
    pub table : Table d n
    pub to : a < n
    pub notes : Notes nx

  pub record Scanned (s : ℕ) (nx : List Note) (r : ℕ) (nx' : List Note) : Type 0 where
    pub marks : Marks s nx r nx'
    pub notes : Notes nx'
    pub untouched : Untouched s nx r nx'
    pub all : (β : Bound) → Memᴰ β bounds → Tight d a β → member s β.end ≡ true → member r β.start ≡ true

  -- marking from a backwards until b is marked; none is so far
  pub record Marking (b s : ℕ) (nx : List Note) : Type 0 where
    pub unmarked : s ≡ 0
    pub blank : nx ≡ no_notes
    pub n : ℕ
    pub given : Given bounds n
    pub table : Table d n
    pub to : a < n
    pub from : b < n
    pub lead : Lead bounds d a b

  pub record Reached (b : ℕ) (r : ℕ) (nx : List Note) : Type 0 where
    pub marks : Marks (put_in 0 a) no_notes r nx
    pub notes : Notes nx
    pub untouched : Untouched (put_in 0 a) no_notes r nx
    pub reached : member r b ≡ true

-- ---- following the notes

-- the notes lead from b to a, by no event twice
pub record Path (nx : List Note) (a b : ℕ) (steps : List Bound) : Type 0 where
  pub leads : Leads b steps a
  pub noted : (x : Bound) → Memᴰ x steps → Noted nx x
  pub simple : T (distinct (b ∷ ends steps))

pub record Visiting (nx : List Note) (a b : ℕ) : Type 0 where
  pub notes : Notes nx
  pub from : b < most_events
  pub to : a < most_events
  pub steps : List Bound
  pub path : Path nx a b steps

-- r is the set of the events on the way, both ends with them
pub record Events (b : ℕ) (steps : List Bound) (r : ℕ) : Type 0 where
  pub all : (e : ℕ) → Memᴰ e (b ∷ ends steps) → member r e ≡ true
  pub only : (e : ℕ) → member r e ≡ true → Memᴰ e (b ∷ ends steps)
  pub count : ones r ≡ suc (length steps)

pub record Visited (nx : List Note) (a b r : ℕ) : Type 0 where
  pub events : (steps : List Bound) → Path nx a b steps → Events b steps r

-- the first c codes from e on by the notes
abbrev pub codes_from : List Note → ℕ → ℕ → List ℕ
codes_from nx e zero = []
codes_from nx e (suc c) = (note_at nx e).code ∷ codes_from nx (note_at nx e).next c

pub record Writing (nx : List Note) (e c : ℕ) (out : List ℕ) : Type 0 where
  pub notes : Notes nx
  pub from : e < most_events
  pub room : c ≤ length out

-- as many codes as there are visited events
pub record Written (nx : List Note) (e c : ℕ) (before : List ℕ) (r : ℕ) (after : List ℕ) : Type 0 where
  pub steps : r ≡ c
  pub codes : after ≡ over (codes_from nx e c) before
