-- The matrix in one list, and what the public functions ask and promise. An entry bounds t(j) − t(i) from above.
use Rattle.std.specs.Prelude.{ℕ, ◌+◌, ◌*◌, ◌≤◌, ◌<◌, ◌≡◌, Bool, true, false, ◌&&◌, List, length, get_or, replicate, ℤ, pos, neg_ℤ, ◌+ℤ◌, ◌≤ℤ◌}
use Rattle.std.specs.Int.Signed.{le_z}
use Rattle.meaning.specs.Plan.{Within, most_events, most_horizon, most_end}
use Rattle.meaning.specs.Distances.{Distances, Closed, Below, added, horizon_only}

-- entries from one row to the next; in code the constant of this name
abbrev pub stride : ℕ
stride = most_events

abbrev pub entry_count : ℕ
entry_count = stride * stride

-- the entry in row i and column j
abbrev pub at : List ℤ → ℕ → ℕ → ℤ
at d i j = get_or d (i * stride + j) (pos 0)

-- a closed matrix of n events, no entry above H
pub record Net (n H : ℕ) (d : List ℤ) : Type 0 where
  pub size : length d ≡ entry_count
  pub some : 0 < n
  pub events : n ≤ stride
  pub near : H ≤ most_horizon
  pub closed : Closed n (at d)
  pub below : Below n H (at d)

-- d' is d but for the first n columns of the first m rows, which hold f i j
pub record Changed (m n : ℕ) (d d' : List ℤ) (f : Distances) : Type 0 where
  pub long : length d' ≡ length d
  pub done : (i j : ℕ) → i < m → j < n → at d' i j ≡ f i j
  pub beside : (i j : ℕ) → i < m → n ≤ j → j < stride → at d' i j ≡ at d i j
  pub rest : (k : ℕ) → m * stride ≤ k → get_or d' k (pos 0) ≡ get_or d k (pos 0)

-- d' is d but for the first n columns of the first n rows, of which nothing is said
pub record Beside (n : ℕ) (d d' : List ℤ) : Type 0 where
  pub long : length d' ≡ length d
  pub beside : (i j : ℕ) → i < n → n ≤ j → j < stride → at d' i j ≡ at d i j
  pub rest : (k : ℕ) → n * stride ≤ k → get_or d' k (pos 0) ≡ get_or d k (pos 0)

-- ---- the start

-- the entries before anything is known
abbrev pub blank : List ℤ
blank = replicate entry_count (pos 0)

pub record Starting (n h : ℕ) : Type 0 where
  pub events : n ≤ stride
  pub near : h ≤ most_horizon

-- n events within the horizon h, and nothing else
pub record Started (n h : ℕ) (d' : List ℤ) : Type 0 where
  pub size : length d' ≡ entry_count
  pub start : (i j : ℕ) → i < n → j < n → at d' i j ≡ horizon_only h i j

-- ---- one more bound: t(b) − t(a) ≤ w

pub record Adding (n a b : ℕ) (w : ℤ) (d : List ℤ) : Type 0 where
  pub horizon : ℕ
  pub net : Net n horizon d
  pub from : a < n
  pub to : b < n
  pub weight : Within (neg_ℤ (pos most_end)) w (pos most_end)

-- the bound was added, or refused since it leaves no timetable
pub record Added (n a b : ℕ) (w : ℤ) (d d' : List ℤ) (r : Bool) : Type 0 where
  pub answer : r ≡ le_z (pos 0) (at d b a +ℤ w)
  pub taken : r ≡ true → Changed n n d d' (added (at d) a b w)
  pub refused : r ≡ false → d' ≡ d
  pub net : {H : ℕ} → Net n H d → Net n H d'

-- ---- a question of the ladder: lo ≤ t(b) − t(a) ≤ hi

-- the run is not empty and meets what D leaves between a and b, −D b a to D a b
abbrev pub meeting : Distances → ℕ → ℕ → ℤ → ℤ → Bool
meeting D a b lo hi = le_z lo hi && (le_z lo (D a b) && le_z (neg_ℤ (D b a)) hi)

pub record Narrowing (n a b : ℕ) (lo hi : ℤ) (d : List ℤ) : Type 0 where
  pub horizon : ℕ
  pub net : Net n horizon d
  pub from : a < n
  pub to : b < n
  pub low : neg_ℤ (pos most_end) ≤ℤ lo
  pub high : hi ≤ℤ pos most_end

-- the upper end of the run was added, then the lower one
pub record Cut (n a b : ℕ) (lo hi : ℤ) (d d' : List ℤ) : Type 0 where
  pub middle : List ℤ
  pub upper : Changed n n d middle (added (at d) a b hi)
  pub lower : Changed n n middle d' (added (at middle) b a (neg_ℤ lo))

pub record Narrowed (n a b : ℕ) (lo hi : ℤ) (d d' : List ℤ) (r : Bool) : Type 0 where
  pub answer : r ≡ meeting (at d) a b lo hi
  pub taken : r ≡ true → Cut n a b lo hi d d'
  pub refused : r ≡ false → d' ≡ d
  pub net : {H : ℕ} → Net n H d → Net n H d'

-- ---- the times on a side
pub record Timing (n : ℕ) (d times : List ℤ) : Type 0 where
  pub horizon : ℕ
  pub net : Net n horizon d
  pub room : n ≤ length times
