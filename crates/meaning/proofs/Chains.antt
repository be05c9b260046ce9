-- A closed round of bounds of negative weight is a chain once it begins at its least event; a bound that cannot be added to the
-- matrix closes such a round; and a chain excludes every timetable, since a timetable's times would sum up to less round it.
use mathlib.Core.Path.{◌≡◌, refl, ap, sym, subst, ◌∙◌}
use mathlib.Core.Logic.{⊎_elim}
use mathlib.Core.List.Memᴰ
use mathlib.Core.List.{List, [], ◌∷◌, ◌++◌, map, map-append, Memᴰ}
use Prim.Native.Nat.{ℕ, ◌≤◌, ◌<◌}
use native.Mathlib.Nat.{le_refl}
use native.Mathlib.Decide.{dec_le}
use native.Mathlib.Omega.{arith}
use lib.Dec.{T}
use lib.ListN.{length, length-map}
use lib.IntN.{pos, ◌+ℤ◌}
use lib.Signed.{◌≤ℤ◌, ◌<ℤ◌}
use Rattle.ticks.proofs.Ticks.{ticks, sum}
use Rattle.meaning.specs.Plan.{Plan, Times, Timetable}
use Rattle.meaning.specs.Bounds.{Bound, Leads, stop, step, total, distinct, different, starts, ends, Chain, Holds}
use Rattle.meaning.specs.Faultless.{WithoutFault}
use Rattle.meaning.specs.Distances.{Distances, Clashes}
use Rattle.meaning.proofs.Distinct.{distinct_turn}
use Rattle.meaning.proofs.Pigeons.{steps_most, different_all, different_again}
use Rattle.meaning.proofs.Bounds.{Given, bound_placed, timetable_holds}
use Rattle.meaning.proofs.Walks.{leads_join, total_join, Parted, Walk, Walks}

-- ---- a chain excludes every timetable

-- the bounds on the way, held one after the other
pub telescope : (t : Times) {i j : ℕ} {bs : List Bound} → Leads i bs j → ((b : Bound) → Memᴰ b bs → Holds t b) → t j ≤ℤ (t i +ℤ total bs)
telescope t {i} stop f = omega ticks
telescope t {j = j} (step {b = b} {bs = bs} l) f =
    omega (ticks, f b (Memᴰ.head refl), telescope t l (λ c m. f c (Memᴰ.tail m)), sum b.weight (total bs))

pub chain_excludes : {p : Plan} {codes : List ℕ} → Chain p codes → {t : Times} → Timetable p t → ⊥
chain_excludes c {t} h = omega (ticks, telescope t c.closed (λ b m. timetable_holds h b (c.given b m)), c.negative)

-- ---- rounds

-- a closed round of negative weight that enters no event twice
pub record Loop (G : Bound → Type 0) (from : ℕ) (steps : List Bound) : Type 0 where
  pub closed : Leads from steps from
  pub given : (b : Bound) → Memᴰ b steps → G b
  pub once : T (distinct (ends steps))
  pub negative : total steps <ℤ pos 0

-- a step of a round begun elsewhere is one of the round
pub turned_back : {i v j : ℕ} {bs : List Bound} (p : Parted i v j bs) {b : Bound} → Memᴰ b (p.back ++ p.front) → Memᴰ b bs
turned_back p {b} m = subst (λ (x : List Bound). Memᴰ b x) (sym p.whole)
    (⊎_elim (λ q. Memᴰ.append_right p.front q) (λ q. Memᴰ.append_left p.back q) (Memᴰ.append_cases p.back m))

-- the same begun at another of its events
pub loop_turn : {G : Bound → Type 0} {i v : ℕ} {bs : List Bound} → Loop G i bs → (p : Parted i v i bs) → Loop G v (p.back ++ p.front)
loop_turn {G} {bs = bs} l p = record {
  closed = leads_join p.goes p.comes;
  given = λ b m. l.given b (turned_back p m);
  once = rw map-append (distinct_turn (ends p.front) (ends p.back) (subst (λ (x : List ℕ). T (distinct x)) cut l.once));
  negative = omega (ticks, l.negative, ap total p.whole, total_join p.front p.back, total_join p.back p.front);
}
  where
    cut : ends bs ≡ ends p.front ++ ends p.back
    cut = ap ends p.whole ∙ map-append (λ b. b.end) p.front p.back

-- where no step leaves a lesser event
pub record Least (i j : ℕ) (bs : List Bound) : Type 0 where
  pub event : ℕ
  pub parted : Parted i event j bs
  pub least : (b : Bound) → Memᴰ b bs → event ≤ b.start

pub least_of_lem : {i j : ℕ} {bs : List Bound} → Leads i bs j → Least i j bs
least_of_lem {i} stop = record {
  event = i;
  parted = record { front = []; back = []; whole = refl; comes = stop; goes = stop };
  least = λ b m. absurd (Memᴰ.not-nil m);
}
least_of_lem {j = j} (step {b = b} {bs = bs} l) = go (least_of_lem l) (dec_le b.start (least_of_lem l).event)
  where
    go : (m : Least b.end j bs) → Dec (b.start ≤ m.event) → Least b.start j (b ∷ bs)
    go m (yes h) = record {
      event = b.start;
      parted = record { front = []; back = b ∷ bs; whole = refl; comes = stop; goes = step l };
      least = λ x q. ⊎_elim (λ e. rw e (le_refl b.start)) (λ r. omega (arith, m.least x r)) (Memᴰ.cases_cons q);
    }
    go m (no h) =
        let p = m.parted in
        record {
          event = m.event;
          parted = record {
            front = b ∷ p.front;
            back = p.back;
            whole = ap {B = List Bound} (λ z. b ∷ z) p.whole;
            comes = step p.comes;
            goes = p.goes;
          };
          least = λ x q. ⊎_elim (λ e. rw e (omega arith)) (λ r. m.least x r) (Memᴰ.cases_cons q);
        }

-- ---- the events of a round: each that a step leaves, another enters

pub starts_on_way : {i j : ℕ} {bs : List Bound} → Leads i bs j → (v : ℕ) → Memᴰ v (starts bs) → Memᴰ v (i ∷ ends bs)
starts_on_way (stop {s = s}) v x5 = elim x5 [ ]
starts_on_way (step l) v (Memᴰ.head e) = Memᴰ.head e
starts_on_way (step l) v (Memᴰ.tail m) = Memᴰ.tail (starts_on_way l v m)

pub last_entered : {i j : ℕ} {bs : List Bound} → Leads i bs j → Memᴰ j (i ∷ ends bs)
last_entered stop = Memᴰ.head refl
last_entered (step l) = Memᴰ.tail (last_entered l)

pub starts_entered : {i j : ℕ} {bs : List Bound} → Leads i bs j → i ≡ j → (v : ℕ) → Memᴰ v (starts bs) → Memᴰ v (ends bs)
starts_entered stop q v m = m
starts_entered (step {b = b} l) q v m = ⊎_elim (λ e. Memᴰ.cast (e ∙ q) (last_entered l)) (λ k. k) (Memᴰ.cases_cons (starts_on_way (step {b = b} l) v m))

pub nowhere : {i j : ℕ} → Leads i [] j → i ≡ j
nowhere stop = refl

-- it has two steps: none is lighter than nothing, and no bound starts where it ends
two_steps : {i j : ℕ} {bs : List Bound} → Leads i bs j → i ≡ j → ((b : Bound) → Memᴰ b bs → b.start ≡ b.end → ⊥) → total bs <ℤ pos 0 → 2 ≤ length bs
two_steps stop e f m = absurd (omega ticks)
two_steps {j = j} (step {b = b} {bs = bs} l) e f m = go bs l
  where
    go : (xs : List Bound) → Leads b.end xs j → 2 ≤ length (b ∷ xs)
    go [] k = absurd (f b (Memᴰ.head refl) (e ∙ sym (nowhere k)))
    go (x ∷ xs) k = omega arith

-- ---- a round that begins at its least event is a chain

module _ {p : Plan} (w : WithoutFault p) {from : ℕ} {steps : List Bound} (l : Loop (Given p) from steps) where
  pub loop_counted : length steps ≡ different (starts steps ++ ends steps)
  loop_counted =
      let again = different_again (starts steps) (ends steps) (starts_entered l.closed refl) in
      sym (again ∙ different_all (ends steps) l.once ∙ length-map steps (λ b. b.end))

  pub loop_two : 2 ≤ length steps
  loop_two = two_steps l.closed refl (λ b m. (bound_placed p w b (l.given b m)).apart) l.negative

  pub loop_most : length steps ≤ p.events
  loop_most = steps_most p.events steps (λ b m. (bound_placed p w b (l.given b m)).ends) l.once

  pub loop_chain : ((b : Bound) → Memᴰ b steps → from ≤ b.start) → Chain p (map (λ b. b.code) steps)
  loop_chain h = record {
    steps = steps;
    coded = refl;
    given = l.given;
    from = from;
    closed = l.closed;
    once = l.once;
    negative = l.negative;
    counted = loop_counted;
    two = loop_two;
    most = loop_most;
    least = λ b m. omega (arith, h b m);
  }

-- begun at its least event
pub some_chain : {p : Plan} → WithoutFault p → {i : ℕ} {bs : List Bound} → Loop (Given p) i bs → (codes : List ℕ) × Chain p codes
some_chain w l =
    let m = least_of_lem l.closed in
    let q = m.parted in
    (_, loop_chain w (loop_turn l q) (λ b k. m.least b (turned_back q k)))

-- ---- a bound that cannot be added closes a round with the walk from its end to its start
module _ {n : ℕ} {G : Bound → Type 0} {D : Distances} {β : Bound} (W : Walks n G D) (ha : β.start < n) (hb : β.end < n) (g : G β) (m : Clashes β D) where
  back : Walk n G D β.end β.start (D β.end β.start)
  back = W.walk hb ha

  pub clash_loop : (bs : List Bound) × Loop G β.start (β ∷ bs)
  clash_loop = (
    back.steps,
    record {
      closed = step back.leads;
      given = λ b q. ⊎_elim (λ e. subst G (sym e) g) (λ k. (back.known b k).given) (Memᴰ.cases_cons q);
      once = back.simple;
      negative = omega (ticks, m, back.sums, sum β.weight (total back.steps));
    },
  )
