-- What a caller needs: distances that are the weights of walks along the bounds give the tight way that `chain_of` asks for,
-- since such a walk is tight at every step; and what it finds is a chain of the plan, of 2 to n steps.
use mathlib.Core.Path.{◌≡◌, refl, sym, ap, ◌∙◌}
use mathlib.Core.List.Memᴰ
use mathlib.Core.List.{List, [], ◌∷◌, ◌++◌, map, Memᴰ}
use Prim.Native.Nat.{ℕ, ◌≤◌, ◌<◌}
use native.Mathlib.Omega.{arith}
use lib.ListN.{length, length-map}
use lib.IntN.{ℤ}
use Rattle.meaning.specs.Plan.{Plan}
use Rattle.meaning.specs.Bounds.{Bound, Leads, stop, step, Chain}
use Rattle.meaning.specs.Distances.{Closed, Clashes}
use Rattle.meaning.specs.Faultless.{WithoutFault}
use Rattle.meaning.proofs.Bounds as B
use Rattle.meaning.proofs.Walks.{Walk, Walks, step_tight}
use Rattle.meaning.proofs.Chains.{loop_chain}
use Rattle.distances.specs.Matrix.{at, Net}
use Rattle.distances.proofs.Range.{net_near}
use Rattle.chain.specs.Clash.{Tight, Given, Lead, here, by, Broken, Found}

module _ (bounds : List Bound) (d : List ℤ) (a : ℕ) where
  -- a way along tight ones of the bounds
  along : {u : ℕ} {bs : List Bound} → Leads u bs a → ((x : Bound) → Memᴰ x bs → Memᴰ x bounds) → ((x : Bound) → Memᴰ x bs → Tight d a x) → Lead bounds d a u
  along stop f g = here refl
  along (step {b = b} l) f g = by b (f b (Memᴰ.head refl)) refl (g b (Memᴰ.head refl)) (along l (λ x i. f x (Memᴰ.tail i)) (λ x i. g x (Memᴰ.tail i)))

  pub walk_lead : {n b : ℕ} → Closed n (at d) → b < n → a < n → Walk n (λ x. Memᴰ x bounds) (at d) b a (at d b a) → Lead bounds d a b
  walk_lead c hb ha w = along w.leads (λ x i. (w.known x i).given) (step_tight c hb ha w.leads w.sums w.known)

pub broken : {before : List Bound} {last : Bound} {n H : ℕ} {d : List ℤ} → Net n H d → Given (before ++ (last ∷ [])) n → Walks n (λ x. Memᴰ x before) (at d)
    → Clashes last (at d) → Broken before last d n
broken {before} {last} {d = d} net given walks clash =
    let f = given.fit last (Memᴰ.append_right before (Memᴰ.head refl)) in
    record {
      given = given;
      table = record { events = net.events; near = net_near net };
      self = net.closed.diag f.start;
      lead = walk_lead before d last.start net.closed f.end f.start (walks.walk f.end f.start);
      below = clash;
    }

pub found_chain : {p : Plan} → WithoutFault p → {bounds : List Bound} {before : List ℕ} {r : ℕ} {after : List ℕ}
    → ((x : Bound) → Memᴰ x bounds → B.Given p x) → (f : Found bounds before r after) → Chain p (map (λ b. b.code) f.steps)
found_chain w h f =
    loop_chain w (record { closed = f.closed; given = λ x i. h x (f.given x i); once = f.once; negative = f.negative }) f.least

-- the number of steps is 2 to n
pub found_steps : {p : Plan} → WithoutFault p → {bounds : List Bound} {before : List ℕ} {r : ℕ} {after : List ℕ}
    → ((x : Bound) → Memᴰ x bounds → B.Given p x) → Found bounds before r after → (2 ≤ r) × (r ≤ p.events)
found_steps w h f =
    let c = found_chain w h f in
    let e : length c.steps ≡ length f.steps = sym (length-map c.steps (λ b. b.code)) ∙ ap length c.coded ∙ length-map f.steps (λ b. b.code) in
    (omega (arith, e, c.two, f.counted), omega (arith, e, c.most, f.counted))
