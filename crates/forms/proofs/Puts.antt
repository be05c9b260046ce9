-- Bytes put one after the other, of which there are at most so many: a line, and lines that are put one by one.
use mathlib.Core.Path.{◌≡◌, ap, ◌∙◌}
use mathlib.Core.List.{List, ◌++◌}
use Prim.Native.Nat.{ℕ, ◌+◌, ◌*◌, ◌≤◌}
use native.Mathlib.Omega.{arith}
use lib.IntN.{ℤ}
use lib.ListN.{length, drop}
use lib.Seq.{sets-eq}
use Rattle.ticks.proofs.Shown.{Shows, none, more, shows_same}
use Rattle.meaning.specs.Outcome.{over}
use Rattle.print.specs.Sheets.{Puts}
use Rattle.print.specs.declared.Sheet.{Sheet}
use Rattle.print.specs.Lines.{line}
use Rattle.print.proofs.Lines.{AllFit, line_most}
use Rattle.print.proofs.Writes.{Going, going_then, wrote_then, wrote_as, wrote_long}
use Rattle.forms.specs.Put.{Put, Adds}

-- ---- bytes that were put

module _ {s u : Sheet} {a : ℕ} {x : List ℕ} (p : Adds s u a x) where
  pub adds_long : length u.out.now ≡ length s.out.now
  adds_long = wrote_long p.puts.wrote

  -- the one after the other
  pub adds_then : {v : Sheet} {b : ℕ} {y : List ℕ} → Adds u v b y → Adds s v (a + b) (x ++ y)
  adds_then q = record {
    puts = record { wrote = wrote_then p.puts.wrote q.puts.wrote; same = q.puts.same ∙ p.puts.same };
    few = omega (arith, p.few, q.few);
  }

  -- the same bytes under another name
  pub adds_as : {y : List ℕ} → x ≡ y → Adds s u a y
  adds_as e = record { puts = record { wrote = wrote_as e p.puts.wrote; same = p.puts.same }; few = p.few }

  pub adds_most : (b : ℕ) → a ≤ b → Adds s u b x
  adds_most b h = record { puts = p.puts; few = omega (arith, p.few) }

-- what was put at the front stands over what was there
pub put_front : {s u x : List ℕ} {r m : ℕ} → Put s u 0 r m x → (r ≡ length x) × (u ≡ over x s)
put_front {s} {u} {x} {r} p =
    let e : 0 + length x ≡ length x = omega arith in
    (omega (arith, p.wrote.ends), p.wrote.holds ∙ sets-eq x s 0 p.wrote.room ∙ ap (λ (k : ℕ). x ++ drop k s) e)

-- ---- a line

shows_fit : {xs zs : List ℤ} → Shows xs zs → AllFit zs
shows_fit none = tt
shows_fit (more e f s) = (f, shows_fit s)

-- so many bytes have room for the word, the numbers with their tabs, and the line feed
module _ (word : List ℕ) {xs zs : List ℤ} (s : Shows xs zs) (room : ℕ) (enough : length word + (21 * length zs + 1) ≤ room) where
  pub line_fits : (at long : ℕ) → at + room ≤ long → at + length (line word xs) ≤ long
  line_fits at long l = omega (arith, ap (λ (l : List ℤ). length (line word l)) (shows_same s), line_most word zs (shows_fit s), enough)

  pub line_adds : {a b : Sheet} → Puts a b (line word xs) → Adds a b room (line word zs)
  line_adds p =
      let q = wrote_as (ap (line word) (shows_same s)) p.wrote in
      record { puts = record { wrote = q; same = p.same }; few = omega (arith, q.ends, line_most word zs (shows_fit s), enough) }

-- ---- lines one by one

-- what was put with the rest behind it is the whole, and the area is the one that was lent
pub record Printing (before now : Sheet) (most : ℕ) (whole rest : List ℕ) : Type 0 where
  pub going : Going before.out.now now.out.now before.at now.at whole rest
  pub few : now.at ≤ before.at + most
  pub same : now.out.ghost_name ≡ before.out.ghost_name

module _ {s u : Sheet} {a : ℕ} {whole rest : List ℕ} (p : Printing s u a whole rest) where
  pub printing_then : {v : Sheet} {b : ℕ} {x y : List ℕ} (c : ℕ) → a + b ≤ c → rest ≡ x ++ y → Adds u v b x → Printing s v c whole y
  printing_then c h e q = record { going = going_then p.going e q.puts.wrote; few = omega (arith, p.few, q.few); same = q.puts.same ∙ p.same }

  -- nothing is put, and the rest under another name
  pub printing_past : {y : List ℕ} (c : ℕ) → a ≤ c → rest ≡ y → Printing s u c whole y
  printing_past c h e = record { going = rw e at p.going; few = omega (arith, p.few); same = p.same }
