-- Any two results that satisfy a promise of `bounds` are equal: every entry of the list is promised, and the bounds that were added and the
-- first that could not be are told by the matrix before.
use Rattle.std.specs.Prelude.{⊤, Result, Ok, Err}
use mathlib.Core.Path.{◌≡◌, refl, sym, ap, ◌∙◌}
use mathlib.Core.List.{List, [], ◌∷◌, map}
use Prim.Native.Nat.{ℕ, ◌<◌}
use native.Mathlib.Decide.{dec_lt}
use native.Mathlib.Omega.{arith}
use lib.ListN.{length, get_or}
use lib.Seq.{ext_get_or, get_or-take}
use lib.IntN.{ℤ}
use Rattle.ticks.proofs.Ticks.{ticks}
use Rattle.meaning.specs.Plan as M
use Rattle.meaning.specs.Bounds.{Bound}
use Rattle.distances.proofs.Rows.{one_result}
use Rattle.chain.specs.declared.Bound.{Bound as Entry}
use Rattle.chain.specs.Clash.{bounds_of}
use Rattle.bounds.specs.declared.Bounds.{Bounds}
use Rattle.bounds.specs.Entries.{none, held, Front}
use Rattle.bounds.specs.Listed.{Listed}
use Rattle.bounds.specs.Tried.{Trying, Entered, Stopped, Tried}

-- ---- `none`, `list_of`

-- an entry is told by its bound
abbrev entry_of : Bound → Entry
entry_of b = record { start = b.start; «end» = b.end; code = b.code; weight = b.weight }

entries_of : (list : List Entry) → map entry_of (bounds_of list) ≡ list
entries_of [] = refl
entries_of (b ∷ bs) = ap (λ (l : List Entry). b ∷ l) (entries_of bs)

one_held : {bs : List Bound} {x y : Bounds} → Front x bs → Front y bs → held x ≡ held y
one_held {x = x} {y} u v = sym (entries_of (held x)) ∙ ap (map entry_of) (u.bounds ∙ sym v.bounds) ∙ entries_of (held y)

-- a list is told by its bounds and the number of the horizon's
pub one_front : {bs : List Bound} {x y : Bounds} → Front x bs → Front y bs → x.horizon ≡ y.horizon → x ≡ y
one_front {x = x} {y} u v h = same x y all h (u.count ∙ sym v.count)
  where
    same : (x y : Bounds) → x.all ≡ y.all → x.horizon ≡ y.horizon → x.count ≡ y.count → x ≡ y
    same x y e f g =
        ap (λ (l : List Entry). record { all = l; horizon = x.horizon; count = x.count }) e
        ∙ ap (λ (h : ℕ). record { all = y.all; horizon = h; count = x.count }) f
        ∙ ap (λ (c : ℕ). record { all = y.all; horizon = y.horizon; count = c }) g

    here : (k : ℕ) → Dec (k < x.count) → get_or x.all k none ≡ get_or y.all k none
    here k (yes h) =
        let l : k < y.count = omega (arith, u.count, v.count) in
        sym (get_or-take x.count x.all k none h) ∙ ap (λ (l : List Entry). get_or l k none) (one_held u v) ∙ get_or-take y.count y.all k none l
    here k (no h) = u.rest k (omega arith) ∙ sym (v.rest k (omega (arith, u.count, v.count)))

    all : x.all ≡ y.all
    all = ext_get_or none x.all y.all (u.long ∙ sym v.long) (λ k l. here k (dec_lt k x.count))

pub one_list : {p : M.Plan} {x y : Bounds} → Listed p x → Listed p y → x ≡ y
one_list u v = one_front u.front v.front (u.horizon ∙ sym v.horizon)

-- ---- `try_all`

-- where one could not be added, the other did not get further
no_further : {list : List Entry} {from n r s : ℕ} {d x y : List ℤ} → Stopped list from n d x r → Entered list from n d y s → r < s → ⊥
no_further {r = r} u v h = omega (ticks, u.clash, v.met r u.entered.low h)

pub one_tried : {list : List Entry} {from n : ℕ} {r s : Result ⊤ ℕ} {d x y : List ℤ} → Trying list from n d → Tried list from n d x r →
    Tried list from n d y s → (r ≡ s) × (x ≡ y)
one_tried {list} {from} {n} {r} {s} {d} {x} {y} asked u v = go r s u v
  where
    one : (k : ℕ) → Entered list from n d x k → Entered list from n d y k → x ≡ y
    one k f g = one_result asked.net.size asked.net.events f.changed g.changed

    go : (r s : Result ⊤ ℕ) → Tried list from n d x r → Tried list from n d y s → (r ≡ s) × (x ≡ y)
    go (Ok a) (Ok b) f g = (refl, one (length list) f g)
    go (Ok a) (Err k) f g = absurd (no_further g f g.inside)
    go (Err k) (Ok b) f g = absurd (no_further f g f.inside)
    go (Err k) (Err l) f g =
        let p : k < l → ⊥ = no_further f g.entered in
        let q : l < k → ⊥ = no_further g f.entered in
        let e : k ≡ l = omega arith in
        (ap {B = Result ⊤ ℕ} (λ (i : ℕ). Err i) e, one l (rw e at f.entered) g.entered)
