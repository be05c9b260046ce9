-- What `Found` leaves free is the chain, and nothing else: past its codes the area is as before, and it is as long as before, since the
-- codes fit; so two results over one area differ in the codes of their chains only.
use mathlib.Core.Path.{◌≡◌, sym, ap, ◌∙◌}
use mathlib.Core.List.{List, [], ◌∷◌, ◌++◌, map}
use Prim.Native.Nat.{ℕ, ◌≤◌}
use native.Mathlib.Omega.{arith}
use lib.ListN.{length, get_or, length-map}
use lib.IntN.{ℤ}
use Rattle.meaning.specs.Plan.{most_events}
use Rattle.meaning.specs.Bounds.{Bound}
use Rattle.meaning.specs.Outcome.{over}
use Rattle.meaning.proofs.Over.{over_long, over_rest}
use Rattle.chain.specs.Clash.{Given, Broken, Found}
use Rattle.chain.proofs.Limits.{few}

-- ---- one result

module _ {bounds : List Bound} {before : List ℕ} where
  -- the codes of the chain
  abbrev pub codes : {r : ℕ} {after : List ℕ} → Found bounds before r after → List ℕ
  codes f = map (λ b. b.code) f.steps

  pub found_count : {r : ℕ} {after : List ℕ} (f : Found bounds before r after) → r ≡ length (codes f)
  found_count f = f.counted ∙ sym (length-map f.steps (λ b. b.code))

  -- past the codes the area is as before
  pub found_rest : {r : ℕ} {after : List ℕ} → Found bounds before r after → (k : ℕ) → r ≤ k → get_or after k 0 ≡ get_or before k 0
  found_rest f k l = ap (λ (x : List ℕ). get_or x k 0) f.written ∙ over_rest (codes f) before 0 k (omega (arith, found_count f))

  -- and it is as long, where they fit
  pub found_long : {r : ℕ} {after : List ℕ} → Found bounds before r after → r ≤ length before → length after ≡ length before
  found_long f l = ap length f.written ∙ over_long (codes f) before (omega (arith, found_count f))

  -- two results are the same past the codes of both, and everywhere where the codes are the same
  pub record OneFound {q r : ℕ} {x y : List ℕ} (f : Found bounds before q x) (g : Found bounds before r y) : Type 0 where
    pub rest : (k : ℕ) → q ≤ k → r ≤ k → get_or x k 0 ≡ get_or y k 0
    pub long : length x ≡ length y
    pub one : codes f ≡ codes g → (q ≡ r) × (x ≡ y)

  pub one_found : {q r : ℕ} {x y : List ℕ} (f : Found bounds before q x) (g : Found bounds before r y) → q ≤ length before → r ≤ length before → OneFound f g
  one_found f g l h = record {
    rest = λ k a b. found_rest f k a ∙ sym (found_rest g k b);
    long = found_long f l ∙ sym (found_long g h);
    one = λ e. (found_count f ∙ ap length e ∙ sym (found_count g), f.written ∙ ap (λ (x : List ℕ). over x before) e ∙ sym g.written);
  }

-- ---- the codes fit: no event is entered twice, and there are n

pub found_most : {bounds : List Bound} {n r : ℕ} {before after : List ℕ} → Given bounds n → Found bounds before r after → r ≤ n
found_most given f = omega (arith, f.counted, few given f.steps f.given f.once)

-- what `chain_of` asks for is enough
pub one_chain : {kept : List Bound} {last : Bound} {d : List ℤ} {n q r : ℕ} {before x y : List ℕ} → Broken kept last d n → most_events ≤ length before
    → (f : Found (kept ++ (last ∷ [])) before q x) (g : Found (kept ++ (last ∷ [])) before r y) → OneFound f g
one_chain broken room f g =
    one_found f g
    (omega (arith, found_most broken.given f, broken.table.events))
    (omega (arith, found_most broken.given g, broken.table.events))
