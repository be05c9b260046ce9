-- Reads one after the other, and what they come to.
use mathlib.Core.Path.{◌≡◌, refl, ◌∙◌, subst}
use mathlib.Core.List.{List}
use Prim.Native.Nat.{ℕ, ◌≤◌}
use native.Mathlib.Omega.{arith}
use lib.ListN.{length}
use Rattle.std.specs.Prelude.{Result, Ok, Err}
use Rattle.std.specs.declared.io.Error.{Error}
use Rattle.std.specs.declared.ops.ControlFlow.TheVariants.{Break}
use Rattle.intake.specs.Gathered.{Came, Reads, none, more, Gathered}

-- ---- reads one after the other

pub reads_long : {first area : List ℕ} {n : ℕ} → Reads first n area → length area ≡ length first
reads_long none = refl
reads_long (more r p) = p.long ∙ reads_long r

pub reads_room : {first area : List ℕ} {n : ℕ} → Reads first n area → n ≤ length area
reads_room none = omega arith
reads_room (more r p) = omega (arith, p.room, p.long)

-- ---- the text

pub gathered_whole : {first after : List ℕ} {n : ℕ} → Reads first n after → Gathered first after (Ok n)
gathered_whole {first} {after} {n} r = record { long = reads_long r; whole = λ m e. let d : n ≡ m = cc in subst (λ (k : ℕ). Reads first k after) d r }

-- the last read, after which there is no other
pub gathered_last : {first before after : List ℕ} {n : ℕ} (r : Result ℕ Error) → Reads first n before → Came n before after (Break r) → Gathered first after r
gathered_last (Ok m) s u = gathered_whole (rw u.0 (more s u.1))
gathered_last (Err e) s u = record { long = u ∙ reads_long s; whole = λ n q. cc }

-- its bytes are bytes of the area
pub whole_within : {first after : List ℕ} {r : Result ℕ Error} {n : ℕ} → Gathered first after r → r ≡ Ok n → n ≤ length after
whole_within {n = n} g e = reads_room (g.whole n e)
