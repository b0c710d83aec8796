-- The bit planes of a row of pixels: numbers of which bit x is one of the bits of the colour at x. The colours give the planes back, on which
-- the model of a row rests.
use Rattle.std.specs.Prelude.{ℕ, zero, suc, ◌≡◌, ◌+◌, ◌*◌, ◌/◌, ◌%◌, ◌^◌, ◌<◌, List, map, sum, slice_index}
use Rattle.std.proofs.Common.{sym, ap, ◌∙◌, arith}
use Rattle.std.specs.List.{range_with_len}
use Rattle.std.specs.Int.{bit_at}
use Rattle.std.proofs.Math.Nat.{mod-eq_of_lt}
use Rattle.std.proofs.lemmas.Nat.{mod-pow-add}
use Rattle.std.proofs.lemmas.List.FromFn.{get_or-map-range_with_len, map-range_with_len_more}
use Rattle.std.proofs.lemmas.List.Sums.{sum_by_push}

-- the plane of a bit, by the colours from x 0 to 127
unfoldable pub plane_of : (ℕ → ℕ) → ℕ → ℕ
plane_of colour_at bit = sum (map (λ x. bit_at (colour_at x) bit * 2 ^ x) (range_with_len 0 128))

-- the colour at x, by the planes of the low and the high bit
abbrev pub colour_in : (low high : ℕ) → ℕ → ℕ
colour_in low high x = bit_at low x + 2 * bit_at high x

-- the colours from x 0 to 127
unfoldable pub colours_of : (low high : ℕ) → List ℕ
colours_of low high = map (colour_in low high) (range_with_len 0 128)

pub colours_of-at : (low high x : ℕ) → x < 128 → slice_index (colours_of low high) x ≡ colour_in low high x
unfolding colours_of
colours_of-at low high x inside = get_or-map-range_with_len (colour_in low high) 0 128 x x 0 inside (omega arith)

-- ---- the colours give the planes back

one_bit_more : (n k : ℕ) (power : ℕ → ℕ) → sum (map power (range_with_len 0 k)) ≡ n % 2 ^ k → power k ≡ bit_at n k * 2 ^ k →
    sum (map power (range_with_len 0 (k + 1))) ≡ n % 2 ^ (k + 1)
one_bit_more n k power so_far here =
    let order : 1 + k ≡ k + 1 = omega arith in
    let split : n % 2 ^ (1 + k) ≡ bit_at n k * 2 ^ k + n % 2 ^ k = mod-pow-add n 1 k in
    let both : n % 2 ^ k + bit_at n k * 2 ^ k ≡ bit_at n k * 2 ^ k + n % 2 ^ k = omega arith in
    ap sum (map-range_with_len_more power 0 k k (omega arith)) ∙ sum_by_push (λ x. x) (map power (range_with_len 0 k)) (power k)
    ∙ ap (λ s. s + power k) so_far ∙ ap (λ p. n % 2 ^ k + p) here ∙ both ∙ sym split ∙ ap (λ m. n % 2 ^ m) order

-- a number below 2 ^ k is the sum of its bits
sum_of_bits : (n : ℕ) (power : ℕ → ℕ) (k : ℕ) → ((x : ℕ) → x < k → power x ≡ bit_at n x * 2 ^ x) → sum (map power (range_with_len 0 k)) ≡ n % 2 ^ k
sum_of_bits n power zero each = omega arith
sum_of_bits n power (suc k) each =
    let more : k + 1 ≡ suc k = omega arith in
    let last : k < suc k = omega arith in
    ap (λ m. sum (map power (range_with_len 0 m))) (sym more)
    ∙ one_bit_more n k power (sum_of_bits n power k (λ x h. let below : x < suc k = omega arith in each x below)) (each k last)
    ∙ ap (λ m. n % 2 ^ m) more

-- the plane whose bits the colours have
plane_back : (low high plane bit : ℕ) → plane < 2 ^ 128 → ((x : ℕ) → bit_at (colour_in low high x) bit ≡ bit_at plane x) →
    plane_of (slice_index (colours_of low high)) bit ≡ plane
unfolding plane_of
plane_back low high plane bit fits same =
    sum_of_bits plane (λ x. bit_at (slice_index (colours_of low high) x) bit * 2 ^ x) 128
    (λ x h. ap (λ c. bit_at c bit * 2 ^ x) (colours_of-at low high x h) ∙ ap (λ b. b * 2 ^ x) (same x))
    ∙ mod-eq_of_lt fits

low_bit : (a b : ℕ) → (a % 2 + 2 * (b % 2)) / 1 % 2 ≡ a % 2
low_bit a b = omega arith

high_bit : (a b : ℕ) → (a % 2 + 2 * (b % 2)) / 2 % 2 ≡ b % 2
high_bit a b = omega arith

pub low_back : (low high : ℕ) → low < 2 ^ 128 → plane_of (slice_index (colours_of low high)) 0 ≡ low
low_back low high fits = plane_back low high low 0 fits (λ x. low_bit (low / 2 ^ x) (high / 2 ^ x))

pub high_back : (low high : ℕ) → high < 2 ^ 128 → plane_of (slice_index (colours_of low high)) 1 ≡ high
high_back low high fits = plane_back low high high 1 fits (λ x. high_bit (low / 2 ^ x) (high / 2 ^ x))
