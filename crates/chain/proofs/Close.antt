-- The way from b to a by the notes, and the last bound from a to b, closed to a chain that begins at its least event: the way is parted there,
-- and the bound joins its back to its front.
use mathlib.Core.Path.{◌≡◌, refl, sym, ap, ap₂, ◌∙◌, subst}
use mathlib.Core.Bool.{true}
use mathlib.Core.Logic.{⊎_elim}
use mathlib.Core.List.Memᴰ
use mathlib.Core.List.{List, [], ◌∷◌, ◌++◌, map, Memᴰ}
use Prim.Native.Nat.{ℕ, ◌≤◌, ◌<◌}
use native.Mathlib.Omega.{arith}
use lib.ListN.{length, length-append}
use lib.IntN.{ℤ}
use lib.Count.{ones, count_trailing_zeros}
use Rattle.ticks.proofs.Ticks.{ticks, sum}
use Rattle.eventset.specs.Sets.{set_width, member}
use Rattle.eventset.proofs.Laws.{lowest_member, lowest_least}
use Rattle.meaning.specs.Plan.{most_events}
use Rattle.meaning.specs.Bounds.{Bound, Leads, stop, step, total}
use Rattle.meaning.specs.Outcome.{over}
use Rattle.meaning.proofs.Walks.{Parted, part}
use Rattle.meaning.proofs.Chains.{Loop, loop_turn, turned_back, starts_on_way, last_entered}
use Rattle.chain.specs.declared.Note.{Note}
use Rattle.chain.specs.Clash.{Fit, Broken, Found}
use Rattle.chain.specs.Marks.{no_notes, note, Notes, Noted, Marking, Reached, Path, Visiting, Events, codes_from, Writing}
use Rattle.chain.proofs.Notes.{noted_other, noted_same, notes_note}
use Rattle.chain.proofs.Trail.{Trail, trail}
use Rattle.chain.proofs.Limits.{low, fits, few}

-- along a way whose bounds are noted at their starts the notes have its codes
codes_are : (nx : List Note) {e a : ℕ} {bs : List Bound} → Leads e bs a → ((x : Bound) → Memᴰ x bs → Noted nx x)
    → codes_from nx e (length bs) ≡ map (λ b. b.code) bs
codes_are nx stop f = refl
codes_are nx (step {b = b} {bs = bs} l) f =
    let h = f b (Memᴰ.head refl) in
    ap₂ (λ (c e : ℕ). c ∷ codes_from nx e (length bs)) h.code h.to
    ∙ ap {B = List ℕ} (λ r. b.code ∷ r) (codes_are nx l (λ x i. f x (Memᴰ.tail i)))

module _ (bounds : List Bound) (β : Bound) (d : List ℤ) (n : ℕ) (broken : Broken bounds β d n) where
  fit_before : (x : Bound) → Memᴰ x bounds → Fit n x
  fit_before x i = broken.given.fit x (Memᴰ.append_left (β ∷ []) i)

  fit_last : Fit n β
  fit_last = broken.given.fit β (Memᴰ.append_right bounds (Memᴰ.head refl))

  pub marking : {s : ℕ} {nx : List Note} → s ≡ 0 → nx ≡ no_notes → Marking bounds d β.start β.end s nx
  marking e f = record {
    unmarked = e;
    blank = f;
    n = n;
    given = record { fit = fit_before };
    table = broken.table;
    to = fit_last.start;
    from = fit_last.end;
    lead = broken.lead;
  }

  -- its ends are events
  pub start_low : β.start < most_events
  start_low = low broken.table fit_last.start

  end_low : β.end < most_events
  end_low = low broken.table fit_last.end

  module _ (s : ℕ) (nx : List Note) (marked : Reached bounds d β.start β.end s nx) where
    -- the notes with the last bound at its start
    abbrev pub closed : List Note
    closed = note nx β

    pub start_inside : β.start < length nx
    start_inside = omega (arith, start_low, marked.notes.room)

    pub way_back : Trail bounds d β.start s nx β.end
    way_back = trail bounds d β.start β.end broken.self marked.marks marked.reached

    pub closed_notes : Notes closed
    closed_notes = notes_note nx β start_low end_low marked.notes

    pub closed_path : Path closed β.start β.end way_back.steps
    closed_path = record {
      leads = way_back.leads;
      noted = λ x i.
          let p = way_back.each x i in
          noted_other nx β x p.apart p.noted;
      simple = way_back.simple;
    }

    pub visiting : Visiting closed β.start β.end
    visiting = record {
      notes = closed_notes;
      from = end_low;
      to = start_low;
      steps = way_back.steps;
      path = closed_path;
    }

    module _ (r : ℕ) (events : Events β.end way_back.steps r) where
      abbrev first : ℕ
      first = count_trailing_zeros set_width r

      abbrev round : List Bound
      round = β ∷ way_back.steps

      -- each bound of the round is given and noted at its start, and its start visited
      known : (x : Bound) → Memᴰ x round → Memᴰ x (bounds ++ (β ∷ []))
      known x i = ⊎_elim (λ p. Memᴰ.append_right bounds (Memᴰ.head p)) (λ j. Memᴰ.append_left (β ∷ []) (way_back.each x j).given) (Memᴰ.cases_cons i)

      noted : (x : Bound) → Memᴰ x round → Noted closed x
      noted x i = ⊎_elim (λ p. subst (Noted closed) (sym p) (noted_same nx β start_inside)) (closed_path.noted x) (Memᴰ.cases_cons i)

      visited : (x : Bound) → Memᴰ x round → member r x.start ≡ true
      visited x i = events.all x.start (⊎_elim (λ p. Memᴰ.cast (ap (λ (y : Bound). y.start) p) (last_entered way_back.leads))
          (λ j. starts_on_way way_back.leads x.start (Memᴰ.map (λ y. y.start) j)) (Memᴰ.cases_cons i))

      loop : Loop (λ x. Memᴰ x (bounds ++ (β ∷ []))) β.start round
      loop = record {
        closed = step way_back.leads;
        given = known;
        once = way_back.simple;
        negative = omega (ticks, way_back.sums, broken.below, sum β.weight (total way_back.steps));
      }

      end_visited : member r β.end ≡ true
      end_visited = events.all β.end (Memᴰ.head refl)

      -- the visited events are the round's, so that they are no more than there are events
      pub writing : (from : ℕ) (out : List ℕ) → from ≡ first → most_events ≤ length out → Writing closed from (ones r) out
      writing from out e room = record {
        notes = closed_notes;
        from = omega (arith, e, end_low, lowest_least set_width r β.end end_visited (fits end_low));
        room = omega (arith, events.count, few broken.given round loop.given loop.once, broken.table.events);
      }

      parted : Parted β.start first β.start round
      parted = part loop.closed first
          (Memᴰ.tail (events.only first (lowest_member set_width r β.end end_visited (fits end_low))))

      abbrev chain : List Bound
      chain = parted.back ++ parted.front

      counted : ones r ≡ length chain
      counted =
          let f = parted.front in
          let b = parted.back in
          omega (arith, events.count, ap length parted.whole, length-append f b, length-append b f)

      -- what was written by the notes from the least event on is the chain
      pub found : (from : ℕ) (before after : List ℕ) → from ≡ first → after ≡ over (codes_from closed from (ones r)) before
          → Found (bounds ++ (β ∷ [])) before (ones r) after
      found from before after e w =
          let turned = loop_turn loop parted in
          let codes = codes_are closed turned.closed (λ x i. noted x (turned_back parted i)) in
          record {
            steps = chain;
            from = first;
            given = turned.given;
            closed = turned.closed;
            once = turned.once;
            negative = turned.negative;
            least = λ x i.
                let j = turned_back parted i in
                lowest_least set_width r x.start (visited x j) (fits (low broken.table (broken.given.fit x (known x j)).start));
            counted = counted;
            written = w ∙ ap (λ (l : List ℕ). over l before) (ap₂ (codes_from closed) e counted ∙ codes);
          }
