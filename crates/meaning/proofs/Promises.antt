-- For every text and all areas there is an outcome that the promise allows, and any two promises of the same text and areas agree in
-- number and levels, and in chain and place too unless the number is 1: a plan has many chains. Where both ask for the same side they agree in the times.
use mathlib.Core.Path.{◌≡◌, refl, ap, sym, subst, ◌∙◌}
use mathlib.Core.Logic.{inl, inr, ⊎_elim}
use mathlib.Core.List.{List}
use mathlib.Core.Bool.{Bool, true, false, cond}
use Prim.Native.Nat.{ℕ, ◌<◌}
use native.Mathlib.Decide.{dec_lt}
use native.Mathlib.Omega.{arith}
use lib.Seq.{ext_get_or}
use lib.IntN.{ℤ, pos}
use lib.Signed.{◌≤ℤ◌}
use Rattle.ticks.proofs.Ticks.{ticks}
use Rattle.meaning.specs.Plan.{Plan}
use Rattle.meaning.specs.Bounds.{Chain}
use Rattle.meaning.specs.Reading.{Reading, plan, refused, read}
use Rattle.meaning.specs.Outcome.{Outcome, solved, none, refusal, number, place, at, AsFar, Solved, Right}
use Rattle.meaning.specs.Outcome.{Areas, long_enough, heard, over, written, Promise}
use Rattle.meaning.specs.Demands.{ButTimes, Agree, SidesAgree}
use Rattle.meaning.specs.Faultless.{WithoutFault}
use Rattle.meaning.proofs.Over.{over_at, over_rest}
use Rattle.meaning.proofs.ReadGood.{read_faultless}
use Rattle.meaning.proofs.Fair.{best_levels}
use Rattle.meaning.proofs.Chains.{chain_excludes}
use Rattle.meaning.proofs.Exists.{plan_held}
use Rattle.meaning.proofs.Solve.{plan_solved}
use Rattle.meaning.specs.Numbers.{area_too_short_number}
use Rattle.scope.specs.declared.Side.{Side}
use Rattle.scope.specs.declared.Side.TheVariants.{Latest, Earliest}

-- ---- of a plan

-- two times that are each as far out as the other are the same
both_as_far : (s : Side) {x y : ℤ} → AsFar s x y → AsFar s y x → x ≡ y
both_as_far Latest h k = omega ticks
both_as_far Earliest h k = omega ticks

pub one_times : {s : Side} {p : Plan} {ts us : List ℤ} {ls ms : List ℕ} → Solved s p ts ls → Solved s p us ms → ts ≡ us
one_times {s} {p} {ts} {us} a b = ext_get_or (pos 0) ts us (a.count ∙ sym b.count) (λ e h. same e (omega (arith, a.count)))
  where
    same : (e : ℕ) → e < p.events → at ts e ≡ at us e
    same e h = both_as_far s (a.furthest (at us) b.best e h) (b.furthest (at ts) a.best e h)

-- on either side
pub one_levels : {s u : Side} {p : Plan} → WithoutFault p → {ts us : List ℤ} {ls ms : List ℕ} → Solved s p ts ls → Solved u p us ms → ls ≡ ms
one_levels w a b = a.levelled ∙ best_levels w a.best b.best ∙ sym b.levelled

pub never_both : {s : Side} {p : Plan} {ts : List ℤ} {ls codes : List ℕ} → Solved s p ts ls → Chain p codes → ⊥
never_both a c = chain_excludes c a.best.member

pub plan_outcome : (s : Side) {p : Plan} → WithoutFault p → (o : Outcome) × Right s (plan p) o
plan_outcome s w = ⊎_elim (λ x. let r = plan_solved w s x.1.stands in (solved r.0 r.1, r.2)) (λ c. (none c.0, c.1)) (plan_held w)

-- ---- of a text

-- a plan that was read is without fault
pub record Faultless (r : Reading) : Type 0 where
  pub faultless : (p : Plan) → r ≡ plan p → WithoutFault p

pub heard_faultless : (a : Areas) (text : List ℕ) → Faultless (heard a text)
heard_faultless a text = go (long_enough a)
  where
    never : (p : Plan) → refused area_too_short_number 0 ≡ plan p → WithoutFault p
    never p e = absurd (let z : ◌≡◌ {A = ℕ} 0 1 = cc in omega arith)

    go : (b : Bool) → Faultless (cond b (read text) (refused area_too_short_number 0))
    go true = record { faultless = λ p e. read_faultless text e }
    go false = record { faultless = never }

some_right : (s : Side) (r : Reading) → Faultless r → (o : Outcome) × Right s r o
some_right s (plan p) f = plan_outcome s (f.faultless p refl)
some_right s (refused m k) f = (refusal m k, (refl, refl))

pub some_outcome : (s : Side) (a : Areas) (text : List ℕ) → (o : Outcome) × Right s (heard a text) o
some_outcome s a text = some_right s (heard a text) (heard_faultless a text)

-- ---- two outcomes of one text, on whatever sides

-- equal but for the times, or both chains
data Alike : Outcome → Outcome → Type 0 where
  both_solved : {ts us : List ℤ} {ls : List ℕ} → Alike (solved ts ls) (solved us ls)
  both_none : {cs ds : List ℕ} → Alike (none cs) (none ds)
  both_refused : {n l : ℕ} → Alike (refusal n l) (refusal n l)

alike_if : {ts us : List ℤ} {ls ms : List ℕ} → ls ≡ ms → Alike (solved ts ls) (solved us ms)
alike_if {ts} {us} {ls} e = subst (λ z. Alike (solved ts ls) (solved us z)) e both_solved

refused_if : {n l n' l' : ℕ} → n ≡ n' → l ≡ l' → Alike (refusal n l) (refusal n' l')
refused_if {n} {l} d e = rw (← d, ← e) both_refused

alike : (s u : Side) (r : Reading) → Faultless r → (o q : Outcome) → Right s r o → Right u r q → Alike o q
alike s u (plan p) f (solved ts ls) (solved us ms) a b = alike_if (one_levels (f.faultless p refl) a b)
alike s u (plan p) f (solved ts ls) (none ds) a b = absurd (never_both a b)
alike s u (plan p) f (solved ts ls) (refusal n l) a b = absurd b
alike s u (plan p) f (none cs) (solved us ms) a b = absurd (never_both b a)
alike s u (plan p) f (none cs) (none ds) a b = both_none
alike s u (plan p) f (none cs) (refusal n l) a b = absurd b
alike s u (plan p) f (refusal n l) q a b = absurd a
alike s u (refused m k) f (solved ts ls) q a b = absurd a
alike s u (refused m k) f (none cs) q a b = absurd a
alike s u (refused m k) f (refusal n l) (solved us ms) a b = absurd b
alike s u (refused m k) f (refusal n l) (none ds) a b = absurd b
alike s u (refused m k) f (refusal n l) (refusal n' l') a b = refused_if (a.0 ∙ sym b.0) (a.1 ∙ sym b.1)

-- ---- on one side

-- equal, or both chains
pub data Same : Outcome → Outcome → Type 0 where
  equal : {o : Outcome} → Same o o
  chains : {cs ds : List ℕ} → Same (none cs) (none ds)

pub one_outcome : (s : Side) (r : Reading) → Faultless r → (o q : Outcome) → Right s r o → Right s r q → Same o q
one_outcome s r f o q a b = go (alike s s r f o q a b) a b
  where
    -- only a plan has times
    right_times : (r : Reading) (ts us : List ℤ) (ls : List ℕ) → Right s r (solved ts ls) → Right s r (solved us ls) → ts ≡ us
    right_times (plan p) ts us ls a b = one_times a b
    right_times (refused m k) ts us ls a b = absurd a

    go : {o q : Outcome} → Alike o q → Right s r o → Right s r q → Same o q
    go (both_solved {ts} {us} {ls}) a b = subst (λ z. Same (solved ts ls) (solved z ls)) (right_times r ts us ls a b) equal
    go both_none a b = chains
    go both_refused a b = equal

-- ---- two calls on the same areas

module _ {s u : Side} {text : List ℕ} {before x y : Areas} {no mo at bt : ℕ} (a : Promise s text before x no at) (b : Promise u text before y mo bt) where
  pub but_times : ButTimes x y no mo at bt
  but_times =
      go (alike s u (heard before text) (heard_faultless before text) a.outcome b.outcome a.right b.right)
      a.numbered b.numbered a.placed b.placed a.writes b.writes
    where
      go : {o q : Outcome} → Alike o q → no ≡ number o → mo ≡ number q → at ≡ place o → bt ≡ place q → x ≡ written o before → y ≡ written q before →
          ButTimes x y no mo at bt
      go both_solved n m c d e h = record {
        numbers = n ∙ sym m;
        levels = ap (λ z. z.levels) e ∙ sym (ap (λ z. z.levels) h);
        rest = inr (c ∙ sym d, ap (λ z. z.chain) e ∙ sym (ap (λ z. z.chain) h));
      }
      go both_none n m c d e h = record { numbers = n ∙ sym m; levels = ap (λ z. z.levels) e ∙ sym (ap (λ z. z.levels) h); rest = inl n }
      go both_refused n m c d e h =
          let one = e ∙ sym h in
          record { numbers = n ∙ sym m; levels = ap (λ z. z.levels) one; rest = inr (c ∙ sym d, ap (λ z. z.chain) one) }

pub one_promise : {s : Side} {text : List ℕ} {before x y : Areas} {no mo at bt : ℕ} → Promise s text before x no at → Promise s text before y mo bt →
    Agree x y no mo at bt
one_promise {s} {text} {before} {x} {y} a b = record {
  others = but_times a b;
  times = go (one_outcome s (heard before text) (heard_faultless before text) a.outcome b.outcome a.right b.right) a.writes b.writes;
}
  where
    go : {o q : Outcome} → Same o q → x ≡ written o before → y ≡ written q before → x.times ≡ y.times
    go equal e h = ap (λ z. z.times) (e ∙ sym h)
    go chains e h = ap (λ z. z.times) e ∙ sym (ap (λ z. z.times) h)

-- ---- two calls for the two sides

-- no entry of the earliest times is greater than that of the latest, whatever they are written over
none_greater : {p : Plan} {ts us : List ℤ} {ls : List ℕ} (old : List ℤ) → Solved Latest p ts ls → Solved Earliest p us ls →
    (e : ℕ) → at (over us old) e ≤ℤ at (over ts old) e
none_greater {p} {ts} {us} old a b e = go (dec_lt e p.events)
  where
    go : Dec (e < p.events) → at (over us old) e ≤ℤ at (over ts old) e
    go (yes l) =
        rw (over_at us old (pos 0) e (omega (arith, b.count)), over_at ts old (pos 0) e (omega (arith, a.count))) (b.furthest (at ts) a.best e l)
    go (no l) = rw (over_rest us old (pos 0) e (omega (arith, b.count)), over_rest ts old (pos 0) e (omega (arith, a.count))) (omega ticks)

pub sides_agree : SidesAgree
sides_agree text before x y n m i j a b = (but_times a b, none_later)
  where
    go : (r : Reading) {o q : Outcome} → Alike o q → Right Latest r o → Right Earliest r q → x ≡ written o before → y ≡ written q before →
        (e : ℕ) → at y.times e ≤ℤ at x.times e
    go (plan p) both_solved f g d h e = rw (d, h) (none_greater before.times f g e)
    go (refused k l) both_solved f g d h e = absurd f
    go r both_none f g d h e = rw (d, h) (omega ticks)
    go r both_refused f g d h e = rw (d, h) (omega ticks)

    none_later : (e : ℕ) → at y.times e ≤ℤ at x.times e
    none_later =
        let r : Reading = heard before text in
        let same = alike Latest Earliest r (heard_faultless before text) a.outcome b.outcome a.right b.right in
        go r same a.right b.right a.writes b.writes
