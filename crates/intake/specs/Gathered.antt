-- A text that reads gather in a lent area: each puts its bytes behind those of the reads before it, which stay as they are. Which bytes a read takes
-- from the world, and whether the input ends, no contract can say (`Read::read` promises a count that fits, and no more): what is done after each
-- answer is therefore said exactly, by `next_of`.
use Rattle.std.specs.Prelude.{◌≡◌, cond, List, ℕ, zero, suc, ◌+◌, ◌≤◌, length, take, Result, Ok, Err}
use Rattle.std.specs.declared.io.Error.{Error}
use Rattle.std.specs.IoError.{error_kind}
use Rattle.std.specs.declared.ops.ControlFlow.{ControlFlow}
use Rattle.std.specs.declared.ops.ControlFlow.TheVariants.{Continue, Break}
use Rattle.intake.specs.Kinds.{interrupts}

-- the bytes that an answer counts
abbrev pub gives : Result ℕ Error → ℕ
gives (Ok k) = k
gives (Err e) = 0

-- go on with so many bytes, or stop, with the bytes of the whole text or a failure
abbrev pub Next : Type 0
Next = ControlFlow (Result ℕ Error) ℕ

-- what is done after an answer, n bytes being there: 0 is the end of the input, a count goes on behind it, and a failure ends all but where a signal
-- came first
abbrev pub next_of : ℕ → Result ℕ Error → Next
next_of n (Ok zero) = Break (Ok n)
next_of n (Ok (suc k)) = Continue (n + suc k)
next_of n (Err e) = cond (interrupts (error_kind e)) (Continue n) (Break (Err e))

-- m bytes are there, of which the first n are as they were
pub record Put (n m : ℕ) (before after : List ℕ) : Type 0 where
  pub low : n ≤ m
  pub room : m ≤ length before
  pub long : length after ≡ length before
  pub kept : take n after ≡ take n before

-- what one read left. After a failed one nothing is said of the area but its length, so that no text can be handed on
abbrev pub Came : ℕ → List ℕ → List ℕ → Next → Type 0
Came n before after (Continue m) = Put n m before after
Came n before after (Break (Ok m)) = (m ≡ n) × Put n n before after
Came n before after (Break (Err e)) = length after ≡ length before

-- reads one after the other, from the area as it was before the first: n bytes are there
pub data Reads (first : List ℕ) : ℕ → List ℕ → Type 0 where
  none : Reads first 0 first
  more : {n m : ℕ} {before after : List ℕ} → Reads first n before → Put n m before after → Reads first m after

-- the text is what the reads left; after a failure nothing is said of the bytes
pub record Gathered (before after : List ℕ) (r : Result ℕ Error) : Type 0 where
  pub long : length after ≡ length before
  pub whole : (n : ℕ) → r ≡ Ok n → Reads before n after
