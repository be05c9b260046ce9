-- Written over the front of an area: what stands in front, what stands behind it, and how long the whole is.
use mathlib.Core.Path.{◌≡◌, sym, ap, ◌∙◌}
use mathlib.Core.List.{List, ◌++◌}
use Prim.Native.Nat.{ℕ, ◌+◌, ◌-◌, ◌≤◌, ◌<◌}
use native.Mathlib.Omega.{arith}
use lib.ListN.{length, take, drop, get_or, set, length-append, length-drop, length-set, get_or-append}
use lib.Seq.{take_at, drop_at, get_or-append-add, get_or-drop, set-append_left}
use Rattle.meaning.specs.Outcome.{over}

module _ {A : Type 0} (new old : List A) where
  -- as long as before, where there is room
  pub over_long : length new ≤ length old → length (over new old) ≡ length old
  over_long few = simp (length-append, length-drop) (omega arith)

  pub over_room : length new ≤ length (over new old)
  over_room = simp length-append (omega arith)

  -- the first k entries, and those behind them
  pub over_front : (k : ℕ) → k ≡ length new → take k (over new old) ≡ new
  over_front k e = take_at new (drop (length new) old) k (sym e)

  pub over_behind : (k : ℕ) → k ≡ length new → drop k (over new old) ≡ drop k old
  over_behind k e = drop_at new (drop (length new) old) k (sym e) ∙ ap (λ (n : ℕ). drop n old) (sym e)

  -- the same entry by entry
  pub over_at : (z : A) (k : ℕ) → k < length new → get_or (over new old) k z ≡ get_or new k z
  over_at z k l = get_or-append new _ z k l

  pub over_rest : (z : A) (k : ℕ) → length new ≤ k → get_or (over new old) k z ≡ get_or old k z
  over_rest z k l =
      let n : ℕ = length new in
      let e : n + (k - n) ≡ k = omega arith in
      rw e at (get_or-append-add new (drop n old) (k - n) z ∙ get_or-drop n old (k - n) z)

  -- one entry in front is written anew
  pub over_set : (k : ℕ) (v : A) → k < length new → set (over new old) k v ≡ over (set new k v) old
  over_set k v l = set-append_left new _ k v l ∙ ap (λ n. set new k v ++ drop n old) (sym (length-set new k v))
