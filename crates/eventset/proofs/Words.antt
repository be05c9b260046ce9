-- Two words, the low one of k digits, as one number: a place below k is one of the low word, from k on one of the high word.
use mathlib.Core.Path.{◌≡◌, refl, sym, ap, ap₂, ◌∙◌}
use Prim.Native.Nat.{ℕ, zero, suc, ◌+◌, ◌-◌, ◌*◌, ◌/◌, ◌%◌, ◌^◌, ◌≤◌, ◌<◌}
use native.Mathlib.Omega.{arith}
use native.Mathlib.Nat.{suc-add}
use lib.Pow.{pow-add, pow-lt, pow_pos}
use lib.Bits.{bit_or, block_half, block_odd, or_block, or_zero_r}
use lib.Dec.{eqb}
use lib.Count.{ones, ones_cat, ones-le, count_trailing_zeros, under}
use Rattle.eventset.specs.declared.EventSet.{EventSet}
use Rattle.eventset.specs.Sets.{word_width, set_width, bits_of, digit, member, put_in}

-- ---- who is in

digit_low : (k lo hi e : ℕ) → e < k → digit (hi * 2 ^ k + lo) e ≡ digit lo e
unfolding digit
digit_low zero lo hi e h = omega arith
digit_low (suc k) lo hi zero h = block_odd hi k lo
digit_low (suc k) lo hi (suc e) h = rw block_half (digit_low k (lo / 2) hi e (omega arith))

digit_high : (k lo hi e : ℕ) → lo < 2 ^ k → digit (hi * 2 ^ k + lo) (k + e) ≡ digit hi e
unfolding digit
digit_high zero lo hi e l =
    let p : hi * 1 + lo ≡ hi = omega arith in
    let q : 0 + e ≡ e = omega arith in
    cc
digit_high (suc k) lo hi e l =
    ap (digit (hi * 2 ^ suc k + lo)) (suc-add k e) ∙ ap (λ (x : ℕ). digit x (k + e)) (block_half hi k lo) ∙ digit_high k (lo / 2) hi e (omega arith)

pub member_low : (k lo hi e : ℕ) → e < k → member (hi * 2 ^ k + lo) e ≡ member lo e
member_low k lo hi e h = ap (λ (d : ℕ). eqb d 1) (digit_low k lo hi e h)

pub member_high : (k lo hi e : ℕ) → lo < 2 ^ k → k ≤ e → member (hi * 2 ^ k + lo) e ≡ member hi (e - k)
member_high k lo hi e l h =
    let q : k + (e - k) ≡ e = omega arith in
    ap (member (hi * 2 ^ k + lo)) (sym q) ∙ ap (λ (d : ℕ). eqb d 1) (digit_high k lo hi (e - k) l)

-- ---- one more

pub put_low : (k lo hi e : ℕ) → lo < 2 ^ k → e < k → put_in (hi * 2 ^ k + lo) e ≡ hi * 2 ^ k + put_in lo e
put_low k lo hi e l h =
    let q : 2 ^ e ≡ 0 * 2 ^ k + 2 ^ e = omega arith in
    ap (bit_or (hi * 2 ^ k + lo)) q ∙ or_block k hi 0 lo (2 ^ e) l (pow-lt h) ∙ ap (λ (x : ℕ). x * 2 ^ k + put_in lo e) (or_zero_r hi)

pub put_high : (k lo hi e : ℕ) → lo < 2 ^ k → k ≤ e → put_in (hi * 2 ^ k + lo) e ≡ put_in hi (e - k) * 2 ^ k + lo
put_high k lo hi e l h =
    let r : k + (e - k) ≡ e = omega arith in
    let p : 2 ^ e ≡ 2 ^ k * 2 ^ (e - k) = ap (λ (x : ℕ). 2 ^ x) (sym r) ∙ pow-add 2 k (e - k) in
    let q : 2 ^ e ≡ 2 ^ (e - k) * 2 ^ k + 0 = omega (arith, p) in
    ap (bit_or (hi * 2 ^ k + lo)) q ∙ or_block k hi (2 ^ (e - k)) lo 0 l (pow_pos k) ∙ ap (λ (x : ℕ). put_in hi (e - k) * 2 ^ k + x) (or_zero_r lo)

-- ---- the least: that of the low word, or where it has none that of the high one

under_low : (d x y k : ℕ) → (x < k → y ≡ x) → under d x < suc k → under d y ≡ under d x
under_low zero x y k same h = ap suc (same (omega arith))
under_low (suc d) x y k same h = refl

pub least_low : (k j lo hi : ℕ) → count_trailing_zeros k lo < k → count_trailing_zeros (k + j) (hi * 2 ^ k + lo) ≡ count_trailing_zeros k lo
unfolding count_trailing_zeros
least_low zero j lo hi h = omega arith
least_low (suc k) j lo hi h =
    ap (λ (x : ℕ). count_trailing_zeros x (hi * 2 ^ suc k + lo)) (suc-add k j)
    ∙ ap₂ (λ (d x : ℕ). under d (count_trailing_zeros (k + j) x)) (block_odd hi k lo) (block_half hi k lo)
    ∙ under_low (lo % 2) (count_trailing_zeros k (lo / 2)) (count_trailing_zeros (k + j) (hi * 2 ^ k + lo / 2)) k (least_low k j (lo / 2) hi) h

under_high : (d x y k z : ℕ) → (k ≤ x → y ≡ k + z) → suc k ≤ under d x → under d y ≡ suc k + z
under_high zero x y k z same h = ap suc (same (omega arith)) ∙ sym (suc-add k z)
under_high (suc d) x y k z same h = omega arith

pub least_high : (k j lo hi : ℕ) → lo < 2 ^ k → k ≤ count_trailing_zeros k lo → count_trailing_zeros (k + j) (hi * 2 ^ k + lo) ≡ k + count_trailing_zeros j hi
unfolding count_trailing_zeros
least_high zero j lo hi l h =
    let p : hi * 1 + lo ≡ hi = omega arith in
    let q : 0 + j ≡ j = omega arith in
    let r : 0 + count_trailing_zeros j hi ≡ count_trailing_zeros j hi = omega arith in
    cc
least_high (suc k) j lo hi l h =
    ap (λ (x : ℕ). count_trailing_zeros x (hi * 2 ^ suc k + lo)) (suc-add k j)
    ∙ ap₂ (λ (d x : ℕ). under d (count_trailing_zeros (k + j) x)) (block_odd hi k lo) (block_half hi k lo)
    ∙ under_high (lo % 2) (count_trailing_zeros k (lo / 2)) (count_trailing_zeros (k + j) (hi * 2 ^ k + lo / 2)) k (count_trailing_zeros j hi)
    (least_high k j (lo / 2) hi (omega arith)) h

-- ---- how many: of a set in memory, at most its width

pub at_most : (s : EventSet) → s.low < 2 ^ word_width → s.high < 2 ^ word_width → ones (bits_of s) ≤ set_width
unfolding bits_of
at_most s l h = omega (arith, ones_cat word_width s.high s.low l, ones-le word_width s.low l, ones-le word_width s.high h)

-- ---- the number says which set it is

halves : (k lo hi lo' hi' : ℕ) → lo < 2 ^ k → lo' < 2 ^ k → hi * 2 ^ k + lo ≡ hi' * 2 ^ k + lo' → (lo ≡ lo') × (hi ≡ hi')
halves zero lo hi lo' hi' l l' p = (omega arith, omega arith)
halves (suc k) lo hi lo' hi' l l' p =
    let odd : lo % 2 ≡ lo' % 2 = sym (block_odd hi k lo) ∙ ap (λ (x : ℕ). x % 2) p ∙ block_odd hi' k lo' in
    let half = sym (block_half hi k lo) ∙ ap (λ (x : ℕ). x / 2) p ∙ block_half hi' k lo' in
    let rest = halves k (lo / 2) hi (lo' / 2) hi' (omega arith) (omega arith) half in
    (omega (arith, odd, rest.0), rest.1)

pub same_set : (s t : EventSet) → s.low < 2 ^ word_width → t.low < 2 ^ word_width → bits_of s ≡ bits_of t → s ≡ t
unfolding bits_of
same_set s t l l' p =
    let q = halves word_width s.low s.high t.low t.high l l' p in
    ap₂ (λ (x y : ℕ). record { low = x; high = y }) q.0 q.1
