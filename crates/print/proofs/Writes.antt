-- Bytes written one after the other are written at once; and a walk that writes a whole, part by part.
use mathlib.Core.Path.{◌≡◌, refl, sym, ap, ◌∙◌, subst}
use mathlib.Core.List.{List, [], ◌∷◌, ◌++◌, append_assoc}
use Prim.Native.Nat.{ℕ, suc, ◌+◌, ◌≤◌}
use native.Mathlib.Omega.{arith}
use borrow.Rule.Slice.PartMut.{post_of, put_mid}
use lib.ListN.{length, length-append, set, take, drop}
use lib.Seq.{sets, length-sets, sets-eq, drop-drop}
use Rattle.print.specs.Written.{Wrote}

sets_join : (s : List ℕ) (at k : ℕ) (x y : List ℕ) → k ≡ at + length x → sets (sets s at x) k y ≡ sets s at (x ++ y)
sets_join s at k [] y e = let q : k ≡ at = omega arith in ap (λ (i : ℕ). sets s i y) q
sets_join s at k (a ∷ x) y e = sets_join (set s at a) (suc at) k x y (omega arith)

module _ {s u : List ℕ} {at m : ℕ} {x : List ℕ} (p : Wrote s u at m x) where
  pub wrote_long : length u ≡ length s
  wrote_long = ap length p.holds ∙ length-sets s at x

  -- the one after the other
  pub wrote_then : {v : List ℕ} {r : ℕ} {y : List ℕ} → Wrote u v m r y → Wrote s v at r (x ++ y)
  wrote_then {v} {r} {y} q = record {
    ends = omega (arith, p.ends, q.ends, length-append x y);
    room = omega (arith, p.ends, q.room, wrote_long, length-append x y);
    holds = q.holds ∙ ap (λ (l : List ℕ). sets l m y) p.holds ∙ sets_join s at m x y p.ends;
  }

-- the same bytes under another name
pub wrote_as : {s u : List ℕ} {at r : ℕ} {x y : List ℕ} → x ≡ y → Wrote s u at r x → Wrote s u at r y
wrote_as {s} {u} {at} {r} e p = subst (λ (l : List ℕ). Wrote s u at r l) e p

-- a word copied over a part that is as long
pub wrote_copied : (s part w : List ℕ) (at k : ℕ) → at + length w ≤ length s → k ≡ length w → part ≡ w → Wrote s (put_mid at k s part) at (at + length w) w
wrote_copied s part w at k h e f =
    let behind : post_of at (length w) s ≡ drop (at + length w) s = drop-drop (length w) at s in
    record { ends = refl; room = h; holds = rw (f, e, behind) (sym (append_assoc (take at s) w _) ∙ sym (sets-eq w s at h)) }

-- ---- a whole that is written part by part

-- what is written with the rest put behind it is the whole
pub record Going (s u : List ℕ) (at next : ℕ) (whole rest : List ℕ) : Type 0 where
  pub joined : sets u next rest ≡ sets s at whole
  pub ends : next + length rest ≡ at + length whole
  pub long : length u ≡ length s

module _ {s u : List ℕ} {at m : ℕ} {whole rest : List ℕ} (g : Going s u at m whole rest) where
  -- one part more
  pub going_then : {v : List ℕ} {r : ℕ} {x y : List ℕ} → rest ≡ x ++ y → Wrote u v m r x → Going s v at r whole y
  going_then {v} {r} {x} {y} e p = record {
    joined = ap (λ (l : List ℕ). sets l r y) p.holds ∙ sets_join u m r x y p.ends ∙ ap (sets u m) (sym e) ∙ g.joined;
    ends = omega (arith, p.ends, g.ends, ap length e, length-append x y);
    long = wrote_long p ∙ g.long;
  }

  -- there is room for what is left
  pub going_room : at + length whole ≤ length s → m + length rest ≤ length u
  going_room h = omega (arith, g.ends, g.long)

  -- the last part
  pub going_end : {v : List ℕ} {r : ℕ} → at + length whole ≤ length s → Wrote u v m r rest → Wrote s v at r whole
  going_end h p = record { ends = p.ends ∙ g.ends; room = h; holds = p.holds ∙ g.joined }
