-- `EventSet::count` meets its contract: the ones of the two words add, and they are few.
use native.Mathlib.Omega.{arith}
use Prim.Native.Nat.{◌^◌, ◌<◌}
use lib.Count.{ones_cat}
use Rattle.eventset.specs.Sets.{word_width, bits_of}
use Rattle.eventset.proofs.EventSet.count.Goals as goal

pub returns : goal.returns
unfolding bits_of
returns c =
    let s = c.args.self in
    let l : s.low < 2 ^ word_width = omega arith in
    omega (arith, ones_cat word_width s.high s.low l)
