-- Rows of pixels by their planes: blank, with a colour set, their palette, and their digits by the bytes of the planes.
use Rattle.std.proofs.Common.{◌≡◌, ◌≢◌, ℕ, zero, suc, ◌+◌, ◌-◌, ◌*◌, ◌/◌, ◌%◌, ◌^◌, ◌<◌, ◌==◌, List, get_or, set, refl, sym, ap, ◌∙◌, arith}
use Rattle.std.proofs.Common.{lit<, bit_and}
use Rattle.std.specs.Prelude.{sum, replicate, slice_index, if◌then◌else◌}
use Rattle.std.specs.Int.{bit_at, byte_at, bytes_low_first, to_le_bytes, w128}
use Rattle.std.proofs.Math.Nat.{pow-suc}
use Rattle.std.proofs.lemmas.Nat.{shr-shr, and_mask, pow-add}
use Rattle.std.proofs.lemmas.Nat.Bits.{bit_at-zero, bit_at-lt, bit_at_and, bit_at_ones}
use Rattle.std.proofs.lemmas.Bool.Decides.{nat_tests}
use Rattle.video.specs.Planes.{plane_of, colour_in, colours_of, colours_of-at}
use Rattle.video.specs.ScreenState.{palette_in, in_each_row}
use Rattle.video.proofs.IndexedLists.{map-constant, map-same, set-made}

-- where no bit is set each colour is 0
pub colours_of-zero : colours_of 0 0 ≡ replicate 128 0
unfolding colours_of
colours_of-zero =
    map-same (colour_in 0 0) (λ x. 0) 128 0 (λ x h. let none : bit_at 0 x ≡ 0 = bit_at-zero x in omega arith) ∙ map-constant 0 0 128

-- a colour is set by the bits of two planes, of which the others stay
pub colours_of-set : (low high low' high' x colour : ℕ) → x < 128 → colour ≡ colour_in low' high' x →
    ((k : ℕ) → k < 128 → k ≢ x → bit_at low' k ≡ bit_at low k) → ((k : ℕ) → k < 128 → k ≢ x → bit_at high' k ≡ bit_at high k) →
    set (colours_of low high) x colour ≡ colours_of low' high'
unfolding colours_of
colours_of-set low high low' high' x colour inside here lows highs =
    set-made (colour_in low high) (colour_in low' high') 128 x colour inside (sym here)
    (λ k h differs. let l : bit_at low' k ≡ bit_at low k = lows k h differs in let u : bit_at high' k ≡ bit_at high k = highs k h differs in omega arith)

-- a colour by the tests of its two bits
pub colour_of_tests : (colour low high : ℕ) → colour < 4 → low ≡ (if colour % 2 == 1 then 1 else 0) → high ≡ (if colour / 2 == 1 then 1 else 0) →
    colour ≡ low + 2 * high
colour_of_tests colour low high small low_told high_told = grind (nat_tests, arith)

-- the bits 125 and 126 of the plane of the high bit are the palette
pub palette_of_high : (low high : ℕ) → high / 2 ^ 125 % 4 ≡ palette_in (in_each_row (colours_of low high)) 0
palette_of_high low high =
    let first : slice_index (colours_of low high) 125 ≡ colour_in low high 125 = colours_of-at low high 125 (lit< tt) in
    let second : slice_index (colours_of low high) 126 ≡ colour_in low high 126 = colours_of-at low high 126 (lit< tt) in
    let next : high / 2 ^ 125 / 2 ^ 1 ≡ high / 2 ^ 126 = shr-shr high 125 1 in
    omega arith

-- ---- the bytes of a plane

byte_of : (a k n i : ℕ) → i < k → get_or (bytes_low_first a k n) i 0 ≡ byte_at (a + i) n
byte_of a zero n i inside = absurd (omega arith)
byte_of a (suc k) n zero inside = let place : a ≡ a + 0 = omega arith in ap (λ j. byte_at j n) place
byte_of a (suc k) n (suc i) inside =
    let rest : i < k = omega arith in
    let place : suc a + i ≡ a + suc i = omega arith in
    byte_of (suc a) k n i rest ∙ ap (λ j. byte_at j n) place

power_of_256 : (i : ℕ) → 256 ^ i ≡ 2 ^ (8 * i)
power_of_256 zero = refl
power_of_256 (suc i) =
    let next : 8 * i + 8 ≡ 8 * suc i = omega arith in
    pow-suc 256 i ∙ ap (λ p. p * 256) (power_of_256 i) ∙ sym (pow-add 2 (8 * i) 8) ∙ ap (λ k. 2 ^ k) next

byte_shifted : (i n : ℕ) → byte_at i n ≡ n / 2 ^ (8 * i) % 256
byte_shifted zero n = omega arith
byte_shifted (suc i) n = ap (λ p. n / p % 256) (power_of_256 (suc i))

bit_of_low_byte : (m k : ℕ) → k < 8 → bit_at (m % 256) k ≡ bit_at m k
bit_of_low_byte m k inside =
    let masked : bit_and m (2 ^ 8 - 1) ≡ m % 2 ^ 8 = and_mask m 8 in
    let ones : bit_at (2 ^ 8 - 1) k ≡ 1 = bit_at_ones 8 k inside in
    let small : bit_at m k < 2 = bit_at-lt m k in
    ap (λ b. bit_at b k) (sym masked) ∙ bit_at_and m (2 ^ 8 - 1) k ∙ omega arith

-- each byte has eight bits of the plane, from the lowest on
bit_of_byte : (bytes : List ℕ) (n i k : ℕ) → bytes ≡ to_le_bytes w128 n → i < 16 → k < 8 → bit_at (get_or bytes i 0) k ≡ bit_at n (8 * i + k)
bit_of_byte bytes n i k are inside below =
    let from : 0 + i ≡ i = omega arith in
    ap (λ bs. bit_at (get_or bs i 0) k) are
    ∙ ap (λ b. bit_at b k) (byte_of 0 16 n i inside ∙ ap (λ j. byte_at j n) from ∙ byte_shifted i n)
    ∙ bit_of_low_byte (n / 2 ^ (8 * i)) k below ∙ ap (λ m. m % 2) (shr-shr n (8 * i) k)

-- a digit by the bytes of both planes
pub digit_of_bytes : (lows highs : List ℕ) (low high i k : ℕ) → lows ≡ to_le_bytes w128 low → highs ≡ to_le_bytes w128 high → i < 16 → k < 8 →
    48 + bit_at (get_or lows i 0) k + 2 * bit_at (get_or highs i 0) k ≡ 48 + get_or (colours_of low high) (8 * i + k) 0
digit_of_bytes lows highs low high i k lows_are highs_are inside below =
    let first : bit_at (get_or lows i 0) k ≡ bit_at low (8 * i + k) = bit_of_byte lows low i k lows_are inside below in
    let second : bit_at (get_or highs i 0) k ≡ bit_at high (8 * i + k) = bit_of_byte highs high i k highs_are inside below in
    let place : 8 * i + k < 128 = omega arith in
    let shown : get_or (colours_of low high) (8 * i + k) 0 ≡ colour_in low high (8 * i + k) = colours_of-at low high (8 * i + k) place in
    omega arith

-- ---- the plane of a bit

pub plane_of-same : (p q : ℕ → ℕ) (bit : ℕ) → ((x : ℕ) → x < 128 → p x ≡ q x) → plane_of p bit ≡ plane_of q bit
unfolding plane_of
plane_of-same p q bit same =
    ap sum (map-same (λ x. bit_at (p x) bit * 2 ^ x) (λ x. bit_at (q x) bit * 2 ^ x) 128 0 (λ x h. ap (λ c. bit_at c bit * 2 ^ x) (same x h)))
