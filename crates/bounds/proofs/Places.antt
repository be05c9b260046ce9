-- The bounds in the list are those of the plan, and the horizon's stand first.
use mathlib.Core.Path.{◌≡◌, refl, ap, sym, ◌∙◌}
use mathlib.Core.Logic.{⊎_elim}
use mathlib.Core.List.Memᴰ
use mathlib.Core.List.{List, [], ◌∷◌, ◌++◌, Memᴰ}
use Prim.Native.Nat.{ℕ, zero, suc, ◌-◌, ◌<◌}
use native.Mathlib.Omega.{arith}
use lib.ListN.{length, take, length-map}
use lib.Seq.{take_at}
use Rattle.std.proofs.lemmas.List.{take-map}
use Rattle.meaning.specs.Plan as M
use Rattle.meaning.specs.Bounds.{Bound, record_bounds, horizon_bounds}
use Rattle.meaning.proofs.Bounds as B
use Rattle.meaning.proofs.Bounds.{bound_placed}
use Rattle.meaning.proofs.Sums.{bound_near}
use Rattle.meaning.specs.Faultless.{WithoutFault}
use Rattle.chain.specs.declared.Bound.{Bound as Entry}
use Rattle.chain.specs.Clash.{bound_of, bounds_of, listed, Given}
use Rattle.bounds.specs.declared.Bounds.{Bounds}
use Rattle.bounds.specs.Entries.{bound_at, held}
use Rattle.bounds.specs.Listed.{Listed, in_order, horizon_count, bound_count}
use Rattle.bounds.proofs.Lists.{length_horizon}

-- ---- the places of a list

-- a bound of a list stands at a place
pub place_of : (list : List Entry) (b : Bound) → Memᴰ b (bounds_of list) → (k : ℕ) × (k < length list) × (bound_at list k ≡ b)
place_of [] b i = absurd (Memᴰ.not-nil i)
place_of (x ∷ xs) b (Memᴰ.head e) = (0, omega arith, sym e)
place_of (x ∷ xs) b (Memᴰ.tail i) =
    let q = place_of xs b i in
    (suc q.0, omega (arith, q.1), q.2)

-- the bounds up to one of them are some of them
pub upto_all : (list : List Entry) (r : ℕ) → r < length list → (x : Bound) → Memᴰ x (listed list r ++ (bound_at list r ∷ [])) → Memᴰ x (bounds_of list)
upto_all [] r h x i = absurd (omega arith)
upto_all (b ∷ bs) zero h x i = Memᴰ.append_left (bounds_of bs) i
upto_all (b ∷ bs) (suc r) h x (Memᴰ.head e) = Memᴰ.head e
upto_all (b ∷ bs) (suc r) h x (Memᴰ.tail i) = Memᴰ.tail (upto_all bs r (omega arith) x i)

pub given_upto : (list : List Entry) {n r : ℕ} → Given (bounds_of list) n → r < length list → Given (listed list r ++ (bound_at list r ∷ [])) n
given_upto list {r = r} g h = record { fit = λ x i. g.fit x (upto_all list r h x i) }

-- a bound before place m is one of the first m
pub listed_at : (list : List Entry) (m k : ℕ) → k < m → k < length list → Memᴰ (bound_at list k) (listed list m)
listed_at [] m k l h = absurd (omega arith)
listed_at (b ∷ bs) zero k l h = absurd (omega arith)
listed_at (b ∷ bs) (suc m) zero l h = Memᴰ.head refl
listed_at (b ∷ bs) (suc m) (suc k) l h = Memᴰ.tail (listed_at bs m k (omega arith) (omega arith))

-- ---- the plan's bounds, with the horizon's first

module _ (p : M.Plan) where
  pub in_order_given : (b : Bound) → Memᴰ b (in_order p) → B.Given p b
  in_order_given b m =
      let hs = horizon_bounds p.horizon 1 (p.events - 1) in
      let rs = record_bounds 0 p.records in
      ⊎_elim (λ q. Memᴰ.append_right rs q) (λ q. Memᴰ.append_left hs q) (Memᴰ.append_cases hs m)

  pub given_in_order : (b : Bound) → B.Given p b → Memᴰ b (in_order p)
  given_in_order b m =
      let hs = horizon_bounds p.horizon 1 (p.events - 1) in
      let rs = record_bounds 0 p.records in
      ⊎_elim (λ q. Memᴰ.append_right hs q) (λ q. Memᴰ.append_left rs q) (Memᴰ.append_cases rs m)

-- ---- the list of a plan

module _ {p : M.Plan} {b : Bounds} (s : Listed p b) where
  pub length_held : length (held b) ≡ bound_count p
  length_held = sym (length-map (held b) bound_of) ∙ ap length s.front.bounds ∙ sym s.front.count ∙ s.count

  -- the horizon's bounds stand first
  pub listed_horizon : listed (held b) (horizon_count p) ≡ horizon_bounds p.horizon 1 (p.events - 1)
  listed_horizon =
      sym (take-map bound_of (horizon_count p) (held b))
      ∙ ap (λ l. take (horizon_count p) l) s.front.bounds
      ∙ take_at (horizon_bounds p.horizon 1 (p.events - 1)) (record_bounds 0 p.records) (horizon_count p) (length_horizon p.horizon 1 (p.events - 1))

  -- each of the bounds is one of the plan, and each bound of the plan stands there
  pub held_given : (β : Bound) → Memᴰ β (bounds_of (held b)) → B.Given p β
  held_given β i = in_order_given p β (rw s.front.bounds at i)

  pub given_held : (β : Bound) → B.Given p β → Memᴰ β (bounds_of (held b))
  given_held β g = rw s.front.bounds (given_in_order p β g)

  pub held_fit : WithoutFault p → Given (bounds_of (held b)) p.events
  held_fit w = record {
    fit = λ β i.
        let g = held_given β i in
        let l = bound_placed p w β g in
        record { start = l.starts; end = l.ends; weight = bound_near p w β g };
  }
