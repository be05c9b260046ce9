-- What a plan in memory gives to those who use it: each row of the struct is its record of the plan, and the record's levels stand in
-- the area where the row says.
use mathlib.Core.Path.{◌≡◌, refl, ap, ◌∙◌}
use mathlib.Core.Bool.{false}
use mathlib.Core.List.{List, [], ◌∷◌, map}
use Prim.Native.Nat.{ℕ, zero, suc, ◌+◌, ◌≤◌, ◌<◌}
use native.Mathlib.Decide.{dec_lt}
use native.Mathlib.Omega.{arith}
use borrow.Author.Tests.{ne_eqb}
use lib.Dec.{eqb}
use lib.ListN.{length, get_or, take, get_or-append, get_or-eq_default}
use Rattle.std.proofs.lemmas.List.{get_or-map, get_or-take, length-take-le, length-map}
use lib.Seq.{slice, length-slice, get_or-append-add, ext_get_or}
use Rattle.meaning.specs.Plan as M
use Rattle.meaning.specs.Plan.{most_levels_together, nothing, record_at}
use Rattle.meaning.specs.Reading.{levels_together}
use Rattle.meaning.proofs.Slices.{slice_at}
use Rattle.meaning.specs.Faultless.{Levelled}
use Rattle.plan.specs.declared.Record.{Record}
use Rattle.plan.specs.declared.Plan.{Plan}
use Rattle.plan.specs.Held.{levels_in, row_of, rows_of, levels_at, flat, blank, record_of, recalled, Holds, InMemory}
use Rattle.plan.proofs.Growth.{together_cons}

abbrev pub row_at : Plan → ℕ → Record
row_at h k = get_or h.records k blank

-- ---- row k is record k; past the last record both are blank

row_of_lem : (at : ℕ) (rs : List M.Record) (k : ℕ) → get_or (rows_of at rs) k blank ≡ row_of (get_or (rows_of at rs) k blank).first (get_or rs k nothing)
row_of_lem at [] k = refl
row_of_lem at (r ∷ rs) zero = refl
row_of_lem at (r ∷ rs) (suc k) = row_of_lem (at + length (levels_in r)) rs k

pub held_row : {p : M.Plan} {h : Plan} → Holds p h → (k : ℕ) → row_at h k ≡ row_of (row_at h k).first (record_at p k)
held_row {p} o k = rw (o.rows k) (row_of_lem 0 p.records k)

-- ---- the levels of record k

-- where they begin
abbrev place_of : List M.Record → ℕ → ℕ
place_of rs k = levels_together (take k rs)

abbrev own : List M.Record → ℕ → List ℕ
own rs k = levels_in (get_or rs k nothing)

first_is : (at : ℕ) (rs : List M.Record) (k : ℕ) → k < length rs → (get_or (rows_of at rs) k blank).first ≡ at + place_of rs k
first_is at [] k h = absurd (omega arith)
first_is at (r ∷ rs) zero h = omega arith
first_is at (r ∷ rs) (suc k) h = omega (arith, first_is (at + length (levels_in r)) rs k (omega arith), together_cons r (take k rs))

place_fits : (rs : List M.Record) (k : ℕ) → k < length rs → place_of rs k + length (own rs k) ≤ levels_together rs
place_fits [] k h = absurd (omega arith)
place_fits (r ∷ rs) zero h = omega (arith, together_cons r rs)
place_fits (r ∷ rs) (suc k) h = omega (arith, together_cons r rs, together_cons r (take k rs), place_fits rs k (omega arith))

level_at_lem : (rs : List M.Record) (k j : ℕ) → k < length rs → j < length (own rs k) → get_or (flat rs) (place_of rs k + j) 0 ≡ get_or (own rs k) j 0
level_at_lem [] k j h l = absurd (omega arith)
level_at_lem (r ∷ rs) zero j h l =
    let q : 0 + j ≡ j = omega arith in
    rw q (get_or-append (levels_in r) (flat rs) 0 j l)
level_at_lem (r ∷ rs) (suc k) j h l =
    let q : place_of (r ∷ rs) (suc k) + j ≡ length (levels_in r) + (place_of rs k + j) = omega (arith, together_cons r (take k rs)) in
    rw q (get_or-append-add (levels_in r) (flat rs) (place_of rs k + j) 0 ∙ level_at_lem rs k j (omega arith) l)

-- ---- a row and the area

-- record m stands in row x, its levels in the area
pub record RowHeld (x : Record) (m : M.Record) (area : List ℕ) : Type 0 where
  pub row : x ≡ row_of x.first m
  pub levels : levels_at x area ≡ levels_in m
  pub inside : x.first + x.count ≤ length area

again : (area : List ℕ) (n : ℕ) (m : M.Record) → Levelled m → levels_at (row_of n m) area ≡ levels_in m → record_of area (row_of n m) ≡ m
again area n (M.rule a b lo hi) g e = refl
again area n (M.wish a b lo ls) g e =
    let some : eqb (length ls) 0 ≡ false = ne_eqb (length ls) 0 (λ z. omega (arith, g.some)) in
    rw (some, e)

row_past : (at : ℕ) (rs : List M.Record) (k : ℕ) → length rs ≤ k → get_or (rows_of at rs) k blank ≡ blank
row_past at [] k h = refl
row_past at (r ∷ rs) zero h = absurd (omega arith)
row_past at (r ∷ rs) (suc k) h = row_past (at + length (levels_in r)) rs k (omega arith)

module _ {p : M.Plan} {h : Plan} {area : List ℕ} (o : InMemory p h area) (k : ℕ) where
  -- past the last record
  pub row_blank : length p.records ≤ k → row_at h k ≡ blank
  row_blank l = o.holds.rows k ∙ row_past 0 p.records k l

  pub row_held : k < length p.records → RowHeld (row_at h k) (record_at p k) area
  row_held l = record { row = row; levels = rw (count, place) same; inside = omega (arith, place, count, fits, o.room) }
    where
      n : ℕ
      n = place_of p.records k

      ls : List ℕ
      ls = levels_in (record_at p k)

      row : row_at h k ≡ row_of (row_at h k).first (record_at p k)
      row = held_row o.holds k

      count : (row_at h k).count ≡ length ls
      count = ap (λ (x : Record). x.count) row

      place : (row_at h k).first ≡ n
      place = ap (λ (x : Record). x.first) (o.holds.rows k) ∙ first_is 0 p.records k l ∙ omega arith

      fits : n + length ls ≤ most_levels_together
      fits = omega (arith, place_fits p.records k l, o.faultless.together)

      long : length (slice n (n + length ls) area) ≡ length ls
      long = length-slice n (n + length ls) area (omega (arith, fits, o.room)) ∙ omega arith

      same : slice n (n + length ls) area ≡ ls
      same = ext_get_or 0 _ ls long (λ i q. let j : i < length ls = omega (arith, long) in
          slice_at area n (n + length ls) i (omega arith) ∙ o.levels (n + i) (omega (arith, fits)) ∙ level_at_lem p.records k i l j)

  -- nothing of a record is lost in memory: it is made again from its row, and past the last one nothing is
  pub record_at_lem : record_of area (row_at h k) ≡ record_at p k
  record_at_lem = go (dec_lt k (length p.records))
    where
      go : Dec (k < length p.records) → record_of area (row_at h k) ≡ record_at p k
      go (yes l) =
          let x = row_held l in
          rw x.row (again area (row_at h k).first (record_at p k) (o.faultless.each k l).levelled (rw x.row at x.levels))
      go (no n) = rw (row_blank (omega arith), get_or-eq_default p.records nothing {n = k} (omega arith))

-- ---- the whole plan is made again, and is a plan in memory as it was

module _ {p : M.Plan} {h : Plan} {area : List ℕ} (o : InMemory p h area) where
  records_again : map (record_of area) (take h.count h.records) ≡ p.records
  records_again =
      let count : h.count ≤ length h.records = omega (arith, o.holds.count, o.holds.size, o.faultless.few) in
      let first : length (take h.count h.records) ≡ length p.records = length-take-le h.count h.records count ∙ o.holds.count in
      ext_get_or nothing _ p.records (length-map (take h.count h.records) (record_of area) ∙ first) (λ i l.
      let k : i < length (take h.count h.records) = omega (arith, l, length-map (take h.count h.records) (record_of area)) in
      get_or-map (record_of area) (take h.count h.records) i blank nothing k
      ∙ ap (record_of area) (get_or-take h.count h.records i blank (omega (arith, k, first, o.holds.count)))
      ∙ record_at_lem o i)

  pub recalled_is : recalled h area ≡ p
  recalled_is = rw (o.holds.events, o.holds.horizon, records_again) refl

  pub loaded : InMemory (recalled h area) h area
  loaded = rw recalled_is o
