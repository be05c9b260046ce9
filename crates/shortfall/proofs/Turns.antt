-- The turns of a walk along codes, one law for each way that a turn ends: before each, what is left of the codes decides as all of them do.
-- Where a code is one of the plan its bound ends at an event that a set can have.
use mathlib.Core.Path.{◌≡◌}
use mathlib.Core.Bool.{true, false}
use mathlib.Core.List.{List, ◌∷◌}
use Prim.Native.Nat.{ℕ, ◌+◌, ◌≤◌, ◌<◌}
use native.Mathlib.Numerals.{add-one}
use native.Mathlib.Omega.{arith}
use lib.Dec.{eqb}
use lib.ListN.{length, get_or, drop, drop_of_length-le}
use lib.Seq.{drop-cons}
use Rattle.eventset.specs.Sets.{set_width, put_in}
use Rattle.meaning.specs.Plan.{Plan}
use Rattle.meaning.specs.Bounds.{Bound}
use Rattle.meaning.specs.Faultless.{WithoutFault}
use Rattle.meaning.proofs.Bounds.{bound_placed}
use Rattle.codes.specs.Codes.{named, has_code}
use Rattle.codes.proofs.Names.{code_named}
use Rattle.shortfall.specs.Round.{may_step, goes_on, leads_round}

pub code_inside : {p : Plan} → WithoutFault p → (c : ℕ) → has_code p c ≡ true → (named p c).end < set_width
code_inside {p} w c h = omega (arith, (bound_placed p w (named p c) (code_named p c h).0).ends, w.most)

-- the codes before number i are passed: from `at`, with the events of `seen` entered, those that are left decide as all of them do
pub record Passed (p : Plan) (cs : List ℕ) (from at seen i : ℕ) : Type 0 where
  pub same : goes_on p from at seen (drop i cs) ≡ leads_round p cs

module _ {p : Plan} {cs : List ℕ} {from at seen i : ℕ} (w : Passed p cs from at seen i) where
  -- none is left
  pub pass_end : length cs ≤ i → eqb at from ≡ leads_round p cs
  unfolding goes_on
  pass_end l = rw (drop_of_length-le cs {i = i} l) at w.same

  module _ (l : i < length cs) where
    next : drop i cs ≡ get_or cs i 0 ∷ drop (i + 1) cs
    next = rw (add-one i) (drop-cons cs i 0 l)

    -- the next is no code of the plan
    pub pass_unknown : has_code p (get_or cs i 0) ≡ false → false ≡ leads_round p cs
    unfolding goes_on
    pass_unknown e = rw (next, e) at w.same

    module _ (e : has_code p (get_or cs i 0) ≡ true) {b : Bound} (f : b ≡ named p (get_or cs i 0)) where
      -- it is one, and its step may not be taken
      pub pass_barred : may_step from at seen b ≡ false → false ≡ leads_round p cs
      unfolding goes_on
      pass_barred g = rw (next, e, ← f, g) at w.same

      -- it is taken
      pub pass_next : may_step from at seen b ≡ true → Passed p cs from b.end (put_in seen b.end) (i + 1)
      unfolding goes_on
      pass_next g = record { same = rw (next, e, ← f, g) at w.same }
