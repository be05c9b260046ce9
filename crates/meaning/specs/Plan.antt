-- Plans and timetables: document 01, section 1, with T-04 (level 0 means not allowed), and the levels that a timetable gives to the wishes.
use Rattle.std.specs.Prelude.{◌≡◌, List, [], ◌∷◌, cond, ℕ, suc, ◌≤◌, ◌<◌, length, get_or, ℤ, pos, ◌+ℤ◌, ◌-ℤ◌, nat_abs, ◌≤ℤ◌}
use Rattle.std.specs.Int.Signed.{non_neg}

-- ---- what is allowed: the table of section 1. The ends lo and hi lie between −MOST-END and most_end

abbrev pub most_events : ℕ
most_events = 128

abbrev pub most_horizon : ℕ
most_horizon = 100000

abbrev pub most_end : ℕ
most_end = 100000

abbrev pub most_records : ℕ
most_records = 256

abbrev pub most_levels : ℕ
most_levels = 256

abbrev pub most_levels_together : ℕ
most_levels_together = 8192

abbrev pub most_bytes : ℕ
most_bytes = 60000

abbrev pub top_level : ℕ
top_level = 15

-- the least level of a distance that is allowed
abbrev pub least_level : ℕ
least_level = 1

-- ---- plans

-- a rule (a, b, lo, hi), or a wish (a, b, lo, levels)
pub data Record : Type 0 where
  rule : (a b : ℕ) (lo hi : ℤ) → Record
  wish : (a b : ℕ) (lo : ℤ) (levels : List ℕ) → Record

-- events 0 to n − 1, the horizon H, and the records, numbered from 0 in the order of their lines
pub record Plan : Type 0 where
  pub events : ℕ
  pub horizon : ℕ
  pub records : List Record

abbrev pub start : Record → ℕ
start (rule a b lo hi) = a
start (wish a b lo ls) = a

abbrev pub end : Record → ℕ
end (rule a b lo hi) = b
end (wish a b lo ls) = b

abbrev pub low : Record → ℤ
low (rule a b lo hi) = lo
low (wish a b lo ls) = lo

-- a wish's hi is lo + count − 1
abbrev pub high : Record → ℤ
high (rule a b lo hi) = hi
high (wish a b lo ls) = lo +ℤ pos (length ls) -ℤ pos 1

-- what stands past the last record
abbrev pub nothing : Record
nothing = rule 0 0 (pos 0) (pos 0)

-- record number k
abbrev pub record_at : Plan → ℕ → Record
record_at p k = get_or p.records k nothing

-- ---- timetables

-- a whole number for each event
abbrev pub Times : Type 0
Times = ℕ → ℤ

-- lo ≤ d ≤ hi
pub record Within (lo d hi : ℤ) : Type 0 where
  pub above : lo ≤ℤ d
  pub below : d ≤ℤ hi

-- the level at distance lo + i is entry i; any other distance has level 0
abbrev pub level_at : List ℕ → ℤ → ℕ
level_at ls i = cond (non_neg i) (get_or ls (nat_abs i) 0) 0

-- the record allows these times: a rule from lo to hi, a wish at level 1 or more
abbrev pub Allows : Record → Times → Type 0
Allows (rule a b lo hi) t = Within lo (t b -ℤ t a) hi
Allows (wish a b lo ls) t = least_level ≤ level_at ls (t b -ℤ t a -ℤ lo)

-- keeps the horizon and all rules, and has level 1 or more at each wish
pub record Timetable (p : Plan) (t : Times) : Type 0 where
  pub origin : t 0 ≡ pos 0
  pub within : (e : ℕ) → e < p.events → Within (pos 0) (t e) (pos p.horizon)
  pub keeps : (k : ℕ) → k < length p.records → Allows (record_at p k) t

-- what a timetable was before T-04: keeps the horizon, all rules and all wish spans. Only `proofs/Spans` speaks of it: where there is a timetable, the best
-- ones in the two senses are the same
pub record Spanned (p : Plan) (t : Times) : Type 0 where
  pub origin : t 0 ≡ pos 0
  pub within : (e : ℕ) → e < p.events → Within (pos 0) (t e) (pos p.horizon)
  pub keeps : (k : ℕ) → k < length p.records → let r = record_at p k in Within (low r) (t (end r) -ℤ t (start r)) (high r)

-- ---- levels

-- the levels of the wishes, in record order
abbrev pub levels_of : List Record → Times → List ℕ
levels_of [] t = []
levels_of (rule a b lo hi ∷ rs) t = levels_of rs t
levels_of (wish a b lo ls ∷ rs) t = level_at ls (t b -ℤ t a -ℤ lo) ∷ levels_of rs t

abbrev pub levels : Plan → Times → List ℕ
levels p t = levels_of p.records t

abbrev pub wish_count : List Record → ℕ
wish_count [] = 0
wish_count (rule a b lo hi ∷ rs) = wish_count rs
wish_count (wish a b lo ls ∷ rs) = suc (wish_count rs)

-- the count of wishes w
abbrev pub wishes : Plan → ℕ
wishes p = wish_count p.records
