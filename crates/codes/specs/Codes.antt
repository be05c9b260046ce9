-- The bound that a code names: document 01, section 5; and which codes are those of a plan's bounds.
use Rattle.std.specs.Prelude.{◌≡◌, ℕ, ◌-◌, ◌/◌, ◌%◌, ◌≤◌, ◌<◌, Bool, cond, ◌&&◌, not, eqb, ltb, length}
use Rattle.meaning.specs.Plan.{Plan, record_at}
use Rattle.meaning.specs.Bounds.{Bound, horizon_codes, upper, lower, horizon_upper, horizon_lower}
use Rattle.codes.specs.declared.Owner.{Owner}
use Rattle.codes.specs.declared.Owner.TheVariants.{Record, Event}
use Rattle.codes.specs.declared.Step.{Step}

-- 2k and 2k + 1 of record k, from horizon_codes on two for each event
abbrev pub of_record : Plan → ℕ → Bound
of_record p c = cond (eqb (c % 2) 0) (upper (c / 2) (record_at p (c / 2))) (lower (c / 2) (record_at p (c / 2)))

abbrev pub of_horizon : Plan → ℕ → Bound
of_horizon p c = cond (eqb (c % 2) 0) (horizon_upper p.horizon ((c - horizon_codes) / 2)) (horizon_lower ((c - horizon_codes) / 2))

unfoldable pub named : Plan → ℕ → Bound
named p c = cond (ltb c horizon_codes) (of_record p c) (of_horizon p c)

-- the record or the event whose bound has the code
abbrev pub Owns : ℕ → Owner → Type 0
Owns c (Record k) = (c < horizon_codes) × (k ≡ c / 2)
Owns c (Event e) = (horizon_codes ≤ c) × (e ≡ (c - horizon_codes) / 2)

-- whether a plan of so many events and records has a bound with this code
unfoldable pub is_code : ℕ → ℕ → ℕ → Bool
is_code events records c =
    let e = (c - horizon_codes) / 2 in
    cond (ltb c horizon_codes) (ltb (c / 2) records) (not (eqb e 0) && ltb e events)

abbrev pub has_code : Plan → ℕ → Bool
has_code p c = is_code p.events (length p.records) c

-- the bound that the struct holds
abbrev pub as_bound : Step → Bound
as_bound s = record { start = s.from; end = s.to; weight = s.weight; code = s.code }
