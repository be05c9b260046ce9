-- `fields::field_end` meets its contract: where the search finds no tab the end serves, which is where `until` stops.
use native.Mathlib.Omega.{arith}
use mathlib.Core.Path.{◌≡◌}
use Rattle.meaning.specs.Reading.{tab_byte}
use Rattle.text.specs.Bytes.{until}
use Rattle.text.proofs.Cuts.{found_or_end, until_le}
use Rattle.fields.proofs.field_end.Goals as goal

pub returns : goal.returns
returns c =
    let e = found_or_end tab_byte c.args.line.now in
    let first : c.unwrap_or.result ≡ until tab_byte c.args.line.now = cc in
    record { first = first; inside = omega (arith, until_le tab_byte c.args.line.now) }
