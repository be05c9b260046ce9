-- The cut of a row: its distances fit a number, a row of a plan in memory can be cut, and the distances that it allows are those of its record.
use mathlib.Core.Path.{◌≡◌, refl, sym, ap, ◌∙◌}
use mathlib.Core.Bool.{Bool, true, false, cond}
use mathlib.Core.List.{List}
use Prim.Native.Nat.{ℕ, ◌+◌, ◌-◌, ◌≤◌, ◌<◌, zero-le}
use native.Mathlib.Omega.{arith}
use native.Mathlib.Decide.{dec_lt}
use lib.Dec.{eqb}
use lib.ListN.{length, take, drop}
use lib.Seq.{slice, length-slice}
use lib.IntN.{ℤ, pos, neg_ℤ, ◌+ℤ◌, ◌-ℤ◌}
use mir.Syntax.{w32}
use mir.Val.{SFits}
use Rattle.std.proofs.lemmas.List.{drop-take}
use Rattle.ticks.proofs.Ticks.{ticks, sum}
use Rattle.meaning.specs.Plan as M
use Rattle.meaning.specs.Plan.{record_at, Within, most_end, most_levels, least_level}
use Rattle.meaning.specs.Run.{run_first, run_past}
use Rattle.meaning.specs.Faultless.{Levelled, GoodRecord}
use Rattle.meaning.proofs.Runs.{first_most, past_most}
use Rattle.plan.specs.declared.Record.{Record}
use Rattle.plan.specs.declared.Plan.{Plan}
use Rattle.plan.specs.Held.{levels_in, levels_at, record_of, InMemory}
use Rattle.plan.proofs.Use.{row_at, RowHeld, row_blank, row_held, record_at_lem}
use Rattle.cut.specs.Cut.{Reach, Cutting, allowed, run_of, ends_of}

-- ---- a distance within a wish's levels fits, and so does the one before it

pub reach_fits : {lo : ℤ} {k : ℕ} → Reach lo k → SFits w32 (lo +ℤ pos k)
reach_fits r = omega (ticks, r.ends.above, r.ends.below, r.few)

pub before_fits : {lo : ℤ} {k : ℕ} → Reach lo k → SFits w32 ((lo +ℤ pos k) -ℤ pos 1)
before_fits {lo} {k} r = omega (ticks, r.ends.above, r.ends.below, r.few, sum lo (pos k))

module _ {x : Record} {held : List ℕ} (c : Cutting x held) where
  pub lo_fits : SFits w32 x.lo
  lo_fits = let r = c.reach in omega (ticks, r.ends.above, r.ends.below)

  -- both ends of a run are within the row's levels
  long : length (levels_at x held) ≡ x.count
  long = length-slice x.first (x.first + x.count) held c.inside ∙ omega arith

  pub first_reach : (y : ℕ) → Reach x.lo (run_first y (levels_at x held))
  first_reach y = record { ends = c.reach.ends; few = omega (arith, c.reach.few, long, first_most y (levels_at x held)) }

  pub past_reach : (y : ℕ) → Reach x.lo (run_past y (levels_at x held))
  past_reach y = record { ends = c.reach.ends; few = omega (arith, c.reach.few, long, past_most y (levels_at x held)) }

-- what the code takes from place `at` on, n levels long, as the definitions say it
pub slice_here : (at n : ℕ) (held : List ℕ) → take (at + n - at) (drop at held) ≡ slice at (at + n) held
slice_here at n held = let m : at + n - at ≡ n = omega arith in rw m (sym (drop-take at n held))

-- so the levels of a row
pub levels_here : (x : Record) (held : List ℕ) {at n : ℕ} → at ≡ x.first → n ≡ x.count → take (at + n - at) (drop at held) ≡ levels_at x held
levels_here x held {at} {n} p q = rw (← p, ← q) (slice_here at n held)

-- ---- a plan in memory

-- a record without fault in a row
good_cutting : {n : ℕ} {x : Record} {held : List ℕ} (m : M.Record) → GoodRecord n m → RowHeld x m held → Cutting x held
good_cutting {x = x} m g r = record { reach = record { ends = ends; few = rw count (few m g.levelled) }; inside = r.inside }
  where
    count : x.count ≡ length (levels_in m)
    count = ap (λ (y : Record). y.count) r.row

    ends : Within (neg_ℤ (pos most_end)) x.lo (pos most_end)
    ends = rw (ap (λ (y : Record). y.lo) r.row) (record { above = g.lowest; below = omega (ticks, g.ordered, g.highest) })

    few : (m : M.Record) → Levelled m → length (levels_in m) ≤ most_levels
    few (M.rule a b lo hi) q = zero-le
    few (M.wish a b lo ls) q = q.few

-- what a row allows is what its record, made again, allows
ends_again : (x : Record) (held : List ℕ) → ends_of x held ≡ allowed (record_of held x)
ends_again x held = go (eqb x.count 0)
  where
    go : (b : Bool) → cond b (record { lo = x.lo; hi = x.hi }) (run_of x held least_level)
        ≡ allowed (cond b (M.rule x.a x.b x.lo x.hi) (M.wish x.a x.b x.lo (levels_at x held)))
    go true = refl
    go false = refl

module _ {p : M.Plan} {h : Plan} {held : List ℕ} (o : InMemory p h held) (k : ℕ) where
  -- each row can be cut, also past the last record
  pub cutting : Cutting (row_at h k) held
  cutting = go (dec_lt k (length p.records))
    where
      go : Dec (k < length p.records) → Cutting (row_at h k) held
      go (yes l) = good_cutting (record_at p k) (o.faultless.each k l) (row_held o k l)
      go (no n) = rw (row_blank o k (omega arith))
          (record { reach = record { ends = record { above = omega ticks; below = omega ticks }; few = zero-le }; inside = zero-le })

  -- and what it allows is what its record allows
  pub ends_are : ends_of (row_at h k) held ≡ allowed (record_at p k)
  ends_are = ends_again (row_at h k) held ∙ ap allowed (record_at_lem o k)
