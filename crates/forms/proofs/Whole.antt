-- The form of an outcome is its first line and the lines behind it, and an area has room for it.
use mathlib.Core.Path.{◌≡◌, refl, sym, ap₂, ◌∙◌}
use mathlib.Core.List.{List, [], ◌∷◌, ◌++◌}
use Prim.Native.Nat.{ℕ, ◌+◌, ◌*◌, ◌≤◌}
use native.Mathlib.Omega.{arith}
use lib.ListN.{length, take}
use lib.Seq.{length-take-le}
use lib.IntN.{ℤ, pos}
use Rattle.meaning.specs.Plan.{Plan, most_events, most_records, wishes}
use Rattle.meaning.specs.Known.{bytes}
use Rattle.meaning.specs.Outcome.{solved, none, refusal}
use Rattle.plan.specs.declared.Plan.{Plan as Held}
use Rattle.print.specs.Lines.{line}
use Rattle.print.specs.declared.Sheet.{Sheet}
use Rattle.forms.specs.Printed.{at_lines, level_lines, step_lines, printed}
use Rattle.forms.specs.Put.{line_room, step_room, area_room, Free, Adds}
use Rattle.forms.specs.Timed.{Timed}
use Rattle.forms.proofs.Puts.{adds_long, adds_then, adds_as, adds_most}

pub refused_form : (p : Plan) (m k : ℕ) → line (bytes "refused") (pos m ∷ pos k ∷ []) ≡ printed p (refusal m k)
unfolding printed
refused_form p m k = refl

none_form : (p : Plan) (cs : List ℕ) → line (bytes "none") (pos (length cs) ∷ []) ++ step_lines p cs ≡ printed p (none cs)
unfolding printed
none_form p cs = refl

solved_form : (p : Plan) (ts : List ℤ) (ls : List ℕ) →
    line (bytes "solved") (pos (length ts) ∷ pos (length ls) ∷ []) ++ (at_lines 0 ts ++ level_lines 0 p.records ls) ≡ printed p (solved ts ls)
unfolding printed
solved_form p ts ls = refl

pub none_adds : (p : Plan) {s u v : Sheet} (cs : List ℕ) → length cs ≤ most_events →
    Adds s u line_room (line (bytes "none") (pos (length cs) ∷ [])) → Adds u v (step_room * length cs) (step_lines p cs) →
    Adds s v area_room (printed p (none cs))
none_adds p cs f a b = adds_most (adds_as (adds_then a b) (none_form p cs)) area_room (omega arith)

pub solved_adds : (p : Plan) {s u v x : Sheet} (ts : List ℤ) (ls : List ℕ) → length ts ≤ most_events →
    Adds s u line_room (line (bytes "solved") (pos (length ts) ∷ pos (length ls) ∷ [])) → Adds u v (line_room * length ts) (at_lines 0 ts) →
    Adds v x (line_room * most_records) (level_lines 0 p.records ls) → Adds s x area_room (printed p (solved ts ls))
solved_adds p ts ls f a b d = adds_most (adds_as (adds_then a (adds_then b d)) (solved_form p ts ls)) area_room (omega arith)

-- the times and the levels stand in front of their areas
pub timed_adds : {p : Plan} {h : Held} {n : ℕ} {times : List ℤ} {levels : List ℕ} {s u v x : Sheet} → Timed p h n times levels →
    Adds s u line_room (line (bytes "solved") (pos h.events ∷ pos n ∷ [])) →
    Adds u v (line_room * length (take h.events times)) (at_lines 0 (take h.events times)) →
    Adds v x (line_room * most_records) (level_lines 0 p.records (take n levels)) →
    Adds s x area_room (printed p (solved (take p.events times) (take (wishes p) levels)))
timed_adds {p} {times = times} {levels = levels} t a b d =
    let e = length-take-le p.events times t.long in
    let f = length-take-le (wishes p) levels t.room in
    let head = adds_as a (ap₂ (λ (i j : ℕ). line (bytes "solved") (pos i ∷ pos j ∷ [])) (t.holds.events ∙ sym e) (t.count ∙ sym f)) in
    solved_adds p (take p.events times) (take (wishes p) levels) (omega (arith, e, t.faultless.most)) head (rw t.holds.events at b) (rw t.count at d)

-- the area has room for the lines of so many times behind the first line, and for those of the levels behind them
module _ {s u : Sheet} {x : List ℕ} (ts : List ℤ) (h : s.at + area_room ≤ length s.out.now) (a : Adds s u line_room x) (f : length ts ≤ most_events) where
  pub times_room : Free u (line_room * length ts) × (length ts ≤ most_events)
  times_room = (omega (arith, a.few, adds_long a, h, f), f)

  pub levels_room : {v : Sheet} {y : List ℕ} → Adds u v (line_room * length ts) y → Free v (line_room * most_records)
  levels_room b = omega (arith, a.few, adds_long a, b.few, adds_long b, h, f)
