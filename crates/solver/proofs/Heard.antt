-- From what the reader said and the outcome of its plan to the promise.
use mathlib.Core.Path.{◌≡◌, refl}
use mathlib.Core.Bool.{true, false}
use mathlib.Core.List.{List}
use Prim.Native.Nat.{ℕ, ◌≤◌}
use native.Mathlib.Omega.{arith}
use lib.ListN.{length}
use Rattle.std.specs.Prelude.{Result, Ok, Err}
use Rattle.meaning.specs.Plan as M
use Rattle.meaning.specs.Reading.{plan, refused, read}
use Rattle.meaning.specs.Short.{ShortBy, ShortIn}
use Rattle.meaning.specs.Outcome as O
use Rattle.meaning.specs.Outcome.{Areas, long_enough, heard}
use Rattle.meaning.proofs.ReadGood.{read_faultless}
use Rattle.scope.specs.declared.Fault.TheVariants.{AreaTooShort}
use Rattle.scope.specs.declared.Refusal.{Refusal}
use Rattle.scope.specs.declared.Side.{Side}
use Rattle.scope.specs.Faults.{number}
use Rattle.plan.specs.declared.Plan.{Plan}
use Rattle.plan.specs.Held.{recalled, InMemory}
use Rattle.plan.proofs.Use.{recalled_is, loaded}
use Rattle.reader.specs.Heard.{Read, plan_in}
use Rattle.reader.proofs.Answers.{read_refused, read_taken, read_holds, read_held}
use Rattle.settle.specs.Settled.{Settled}
use Rattle.settle.specs.declared.Outcome.{Outcome}
use Rattle.settle.proofs.One.{answer_named}
use Rattle.solver.specs.Solves.{ReadInto, Solves}

module _ {s : Side} (text : List ℕ) (a : Areas) where
  refused_solves : (r : Refusal) → heard a text ≡ refused (number r.fault) r.line → Solves s text a a (Err r)
  refused_solves r e = record {
    promise = record { outcome = O.refusal (number r.fault) r.line; right = rw e (refl, refl); numbered = refl; placed = refl; writes = refl };
    variant = answer_named (Err r);
  }

  -- an area is too short
  pub short_solves : long_enough a ≡ false → Solves s text a a (Err (record { fault = AreaTooShort; line = 0 }))
  short_solves e = refused_solves _ (rw e)

  -- the first fault of the text
  pub fault_solves : (r : Refusal) → long_enough a ≡ true → read text ≡ refused (number r.fault) r.line → Solves s text a a (Err r)
  fault_solves r l e = refused_solves r (rw (l, e))

  pub settled_solves : long_enough a ≡ true → {p : M.Plan} {after : Areas} {r : Outcome} → read text ≡ plan p → Settled s p a after r →
      Solves s text a after (Ok r)
  settled_solves l e d = record {
    promise = record { outcome = d.outcome; right = rw (l, e) d.right; numbered = d.numbered; placed = d.placed; writes = d.writes };
    variant = d.variant;
  }

-- ---- what the reader leaves

-- in an area that has room for all levels
pub read_into : {text before held : List ℕ} {said : Result Plan Refusal} → Read text before held said → M.most_levels_together ≤ length before →
    ReadInto text held said
read_into {before = before} r room = record { before = before; room = room; read = r }

pub read_fault : {text held : List ℕ} {f : Refusal} → ReadInto text held (Err f) → read text ≡ refused (number f.fault) f.line
read_fault r = read_refused r.read r.room

module _ {text held : List ℕ} {h : Plan} (r : ReadInto text held (Ok h)) where
  pub read_plan : read text ≡ plan (plan_in (read text))
  read_plan = read_taken r.read r.room

  -- a text that is a plan stands in memory, and is made again from there
  read_memory : InMemory (plan_in (read text)) h held
  read_memory =
      let v = read_held r.read r.room in
      record { holds = read_holds r.read r.room; faultless = read_faultless text read_plan; room = omega (arith, v.long, r.room); levels = v.done }

  pub read_loaded : InMemory (recalled h held) h held
  read_loaded = loaded read_memory

  pub read_recalled : read text ≡ plan (recalled h held)
  read_recalled = rw (recalled_is read_memory) read_plan

-- ---- by how many ticks codes fall short in the text

pub plan_short : (text : List ℕ) {codes : List ℕ} {p : M.Plan} {s : ℕ} → read text ≡ plan p → ShortBy p codes s → ShortIn (read text) codes s
plan_short text e h = rw e h
