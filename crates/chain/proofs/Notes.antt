-- A note stored at an event: it is read back there, all other events keep theirs, and the notes still lead from event to event.
use mathlib.Core.Path.{◌≡◌, refl, ap, ◌∙◌}
use mathlib.Core.List.{List}
use Prim.Native.Nat.{ℕ, zero, suc, ◌<◌}
use native.Mathlib.Omega.{arith}
use native.Mathlib.Decide.{ℕ_discrete}
use lib.ListN.{length, replicate, length-set}
use lib.Seq.{get_or-set_same, get_or-set_other}
use Rattle.meaning.specs.Plan.{most_events}
use Rattle.meaning.specs.Bounds.{Bound}
use Rattle.chain.specs.declared.Note.{Note}
use Rattle.chain.specs.Marks.{no_note, no_notes, note_at, note_of, note, Notes, Noted}

module _ (nx : List Note) (β : Bound) where
  pub length_note : length (note nx β) ≡ length nx
  length_note = length-set nx β.start (note_of β)

  note_same : β.start < length nx → note_at (note nx β) β.start ≡ note_of β
  note_same l = get_or-set_same nx β.start (note_of β) no_note l

  pub note_other : (e : ℕ) → (e ≡ β.start → ⊥) → note_at (note nx β) e ≡ note_at nx e
  note_other e n = get_or-set_other nx β.start e (note_of β) no_note n

  -- a bound noted at another event stays noted
  pub noted_other : (x : Bound) → (x.start ≡ β.start → ⊥) → Noted nx x → Noted (note nx β) x
  noted_other x n h =
      let e = note_other x.start n in
      record { to = ap (λ (y : Note). y.next) e ∙ h.to; code = ap (λ (y : Note). y.code) e ∙ h.code }

  pub noted_same : β.start < length nx → Noted (note nx β) β
  noted_same l =
      let e = note_same l in
      record { to = ap (λ (y : Note). y.next) e; code = ap (λ (y : Note). y.code) e }

  pub notes_note : β.start < most_events → β.end < most_events → Notes nx → Notes (note nx β)
  notes_note h k t = record { room = omega (arith, length_note, t.room); low = λ e. at e (ℕ_discrete e β.start) }
    where
      at : (e : ℕ) → Dec (e ≡ β.start) → (note_at (note nx β) e).next < most_events
      at e (yes p) = rw (p, note_same (omega (arith, t.room))) k
      at e (no n) = rw (note_other e n) (t.low e)

-- before any bound is noted
pub notes_none : Notes no_notes
notes_none = record { room = omega arith; low = λ e. rw (blank most_events e) (omega arith) }
  where
    blank : (n e : ℕ) → note_at (replicate n no_note) e ≡ no_note
    blank zero e = refl
    blank (suc n) zero = refl
    blank (suc n) (suc e) = blank n e
