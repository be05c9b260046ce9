-- Codes that lead round: what `leads_round` decides of a row of codes, from the front. `proofs/Rounds` shows that those whose weights sum below zero
-- are the chains of document 01.
use Rattle.std.specs.Prelude.{Bool, true, ◌&&◌, not, List, [], ◌∷◌, ℕ, eqb, leb}
use Rattle.eventset.specs.Sets.{member, put_in}
use Rattle.meaning.specs.Plan.{Plan}
use Rattle.meaning.specs.Bounds.{Bound}
use Rattle.codes.specs.Codes.{named, has_code}

-- a walk that began at `from`, stands at `at` and has entered the events of `seen` may take the step b
abbrev pub may_step : ℕ → ℕ → ℕ → Bound → Bool
may_step from at seen b = eqb b.start at && (leb from b.start && not (member seen b.end))

-- and from there it goes on along the codes and back to `from`
unfoldable pub goes_on : Plan → ℕ → ℕ → ℕ → List ℕ → Bool
goes_on p from at seen [] = eqb at from
goes_on p from at seen (c ∷ cs) =
    let b = named p c in
    has_code p c && (may_step from at seen b && goes_on p from b.end (put_in seen b.end) cs)

-- from where the first code begins; no codes lead nowhere, and so round
abbrev pub leads_round : Plan → List ℕ → Bool
leads_round p [] = true
leads_round p (c ∷ cs) = let from = (named p c).start in goes_on p from from 0 (c ∷ cs)
