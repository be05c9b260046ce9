-- A plan in memory with one record more: its row stands after the others, its levels stand after theirs.
use mathlib.Core.Path.{◌≡◌, refl, sym, ap, ◌∙◌}
use mathlib.Core.List.{List, [], ◌∷◌, ◌++◌, append_assoc, append-nil}
use Prim.Native.Nat.{ℕ, suc, ◌+◌, ◌≤◌, ◌<◌}
use native.Mathlib.Omega.{arith}
use lib.ListN.{length, get_or, set, replicate, length-set, length-append}
use lib.Seq.{sets, length-sets}
use Rattle.meaning.specs.Plan as M
use Rattle.meaning.specs.Plan.{most_records, most_levels_together}
use Rattle.meaning.specs.Reading.{levels_together, with_record, empty}
use Rattle.plan.specs.declared.Record.{Record}
use Rattle.plan.specs.declared.Plan.{Plan}
use Rattle.plan.specs.Held.{levels_in, row_of, rows_of, flat, blank, Holds, LevelsHeld}
use Rattle.plan.proofs.Padded.{one_more, all_more, all_same, sets_above}

pub together_cons : (r : M.Record) (rs : List M.Record) → levels_together (r ∷ rs) ≡ length (levels_in r) + levels_together rs
together_cons (M.rule a b lo hi) rs = omega arith
together_cons (M.wish a b lo ls) rs = refl

pub length_rows : (at : ℕ) (rs : List M.Record) → length (rows_of at rs) ≡ length rs
length_rows at [] = refl
length_rows at (r ∷ rs) = ap suc (length_rows (at + length (levels_in r)) rs)

pub length_flat : (rs : List M.Record) → length (flat rs) ≡ levels_together rs
length_flat [] = refl
length_flat (r ∷ rs) = length-append (levels_in r) (flat rs) ∙ ap (λ (n : ℕ). length (levels_in r) + n) (length_flat rs) ∙ sym (together_cons r rs)

rows_more : (at n : ℕ) (rs : List M.Record) (r : M.Record) → n ≡ at + levels_together rs → rows_of at (rs ++ (r ∷ [])) ≡ rows_of at rs ++ (row_of n r ∷ [])
rows_more at n [] r e = let q : at ≡ n = omega arith in rw q
rows_more at n (x ∷ rs) r e = ap (λ (l : List Record). row_of at x ∷ l) (rows_more (at + length (levels_in x)) n rs r (omega (arith, together_cons x rs)))

flat_more : (rs : List M.Record) (r : M.Record) → flat (rs ++ (r ∷ [])) ≡ flat rs ++ levels_in r
flat_more [] r = append-nil (levels_in r)
flat_more (x ∷ rs) r = ap (λ (l : List ℕ). levels_in x ++ l) (flat_more rs r) ∙ sym (append_assoc (levels_in x) (flat rs) (levels_in r))

pub together_more : (rs : List M.Record) (r : M.Record) → levels_together (rs ++ (r ∷ [])) ≡ levels_together rs + length (levels_in r)
together_more [] r = omega (arith, together_cons r [])
together_more (x ∷ rs) r = omega (arith, together_cons x (rs ++ (r ∷ [])), together_cons x rs, together_more rs r)

-- the struct that the code makes: one row more, with n levels
abbrev pub with_row : Plan → Record → ℕ → Plan
with_row h r n = record { events = h.events; horizon = h.horizon; count = h.count + 1; used = h.used + n; records = set h.records h.count r }

module _ (p : M.Plan) (m : M.Record) where
  pub holds_more : (h : Plan) (n : ℕ) → Holds p h → h.count < most_records → n ≡ length (levels_in m)
      → Holds (with_record p m) (with_row h (row_of h.used m) n)
  holds_more h n o few e = record {
    events = o.events;
    horizon = o.horizon;
    count = omega (arith, o.count, length-append p.records (m ∷ []));
    used = omega (arith, o.used, together_more p.records m);
    size = length-set h.records h.count (row_of h.used m) ∙ o.size;
    rows = λ k.
        rw (rows_more 0 h.used p.records m (omega (arith, o.used)))
        (one_more blank (λ _. Unit {0}) h.records (rows_of 0 p.records) (row_of h.used m) h.count
        (o.count ∙ sym (length_rows 0 p.records)) (omega (arith, o.size)) (λ i _. o.rows i) k tt);
  }

  pub held_more : (before after : List ℕ) (used : ℕ) → LevelsHeld p before after → used ≡ levels_together p.records
      → used + length (levels_in m) ≤ most_levels_together → most_levels_together ≤ length before
      → LevelsHeld (with_record p m) before (sets after used (levels_in m))
  held_more before after used o e fits long = record {
    long = length-sets after used (levels_in m) ∙ o.long;
    done = λ i h.
        rw (flat_more p.records m)
        (all_more 0 (λ k. k < most_levels_together) (levels_in m) after (flat p.records) used
        (e ∙ sym (length_flat p.records)) (omega (arith, o.long)) o.done i h);
    rest = sets_above most_levels_together (levels_in m) after before used fits o.rest;
  }

-- ---- the plan before its first line

-- `rs` is the row of blank records
pub holds_empty : (rs : List Record) → rs ≡ replicate most_records blank → length rs ≡ most_records
    → Holds empty (record { events = 0; horizon = 0; count = 0; used = 0; records = rs })
holds_empty rs e n = record {
  events = refl;
  horizon = refl;
  count = refl;
  used = refl;
  size = n;
  rows = λ k. ap (λ (l : List Record). get_or l k blank) e ∙ all_same blank most_records k;
}
