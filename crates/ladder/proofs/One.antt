-- One result only: two climbs from one matrix and one area of levels end alike. The levels are those of a best timetable; the matrix is closed and stands for
-- the best timetables, so its entries in use are known, and beside them nothing changed.
use mathlib.Core.Path.{◌≡◌, sym, ap, ◌∙◌}
use mathlib.Core.List.{List}
use Prim.Native.Nat.{ℕ, ◌<◌}
use lib.IntN.{ℤ}
use Rattle.meaning.specs.Plan as M
use Rattle.meaning.specs.Outcome.{over}
use Rattle.meaning.proofs.Distances.{same_matrix}
use Rattle.distances.specs.Matrix.{at}
use Rattle.distances.proofs.Rows.{one_matrix}
use Rattle.ladder.specs.Climbed.{Climbed}

module _ {p : M.Plan} {d x y : List ℤ} {before u v : List ℕ} {q r : ℕ} (c : Climbed p d x before u q) (e : Climbed p d y before v r) where
  -- a best timetable has one row of levels
  one_grades : c.grades ≡ e.grades
  one_grades = sym (c.levelled c.some c.best) ∙ e.levelled c.some c.best

  -- both matrices stand for the best timetables
  one_entry : (i j : ℕ) → i < p.events → j < p.events → at x i j ≡ at y i j
  one_entry i j = same_matrix c.stands.closed e.stands.closed c.net.some
      (λ t k. e.stands.into (c.stands.from k)) (λ t k. c.stands.into (e.stands.from k))

  pub one_climb : (q ≡ r) × (x ≡ y) × (u ≡ v)
  one_climb = (
    c.count ∙ sym e.count,
    one_matrix (sym c.beside.long ∙ c.net.size) c.net.events c.beside e.beside one_entry,
    c.written ∙ ap (λ g. over g before) one_grades ∙ sym e.written,
  )
