-- What is read of a line is within its range: bytes, octal digits and addresses, and so many bytes as are asked for.
use Rattle.std.proofs.Common.{◌≡◌, ℕ, zero, suc, ◌+◌, ◌*◌, ◌<◌, Bool, true, false, List, [], ◌∷◌, length, refl, ap, arith}
use Rattle.std.specs.Prelude.{Option, Some, None, codes, cond, nat_lt}
use Rattle.std.specs.Option.{ForSome}
use Rattle.std.specs.Char.{digit_value}
use Rattle.std.proofs.lemmas.Bool.Decides.{nat_tests}
use Rattle.certificate.specs.Parts.{behind, digit_in, digit_at, byte_at, address_at, known_or}
use Rattle.certificate.specs.Parts.{known_byte_at, known_address_at, known_octal_at, bytes_at, values_at}
use Rattle.certificate.proofs.PartsAgain.{AreKnownBytes}
use Rattle.certificate.proofs.Within.{only_within, none_within, all_within, map_within, then_within}

-- ---- digits, bytes and addresses

small_by : (test : Bool) (value radix : ℕ) → (test ≡ true → value < radix) → ForSome (cond test (Some value) None) (λ d. d < radix)
small_by true value radix small = only_within value (λ d. d < radix) (small refl)
small_by false value radix small = none_within (λ d. d < radix)

digit_in_range : (radix b : ℕ) → ForSome (digit_in radix b) (λ d. d < radix)
unfolding digit_in
digit_in_range radix b = small_by (nat_lt (digit_value b) radix) (digit_value b) radix (λ less. grind (arith, nat_tests))

pub digit_range : (radix : ℕ) (text : List ℕ) → ForSome (digit_at radix text) (λ x. x.0 < radix)
unfolding digit_at
digit_range radix [] = none_within (λ (x : ℕ × List ℕ). x.0 < radix)
digit_range radix (b ∷ text) =
    map_within (λ d. d < radix) (λ (x : ℕ × List ℕ). x.0 < radix) (digit_in radix b) (λ digit. (digit, text)) (digit_in_range radix b) (λ d less. less)

abbrev IsBelow : ℕ → ℕ × List ℕ → Type 0
IsBelow limit x = x.0 < limit

pub byte_range : (text : List ℕ) → ForSome (byte_at text) (λ x. x.0 < 256)
unfolding byte_at
byte_range text =
    then_within (IsBelow 16) (IsBelow 256) (digit_at 16 text) _ (digit_range 16 text) (λ high small.
    then_within (IsBelow 16) (IsBelow 256) (digit_at 16 high.1) _ (digit_range 16 high.1) (λ low less.
    only_within (high.0 * 16 + low.0, low.1) (IsBelow 256) (omega arith)))

pub address_range : (text : List ℕ) → ForSome (address_at text) (λ x. x.0 < 65536)
unfolding address_at
address_range text =
    then_within (IsBelow 256) (IsBelow 65536) (byte_at text) _ (byte_range text) (λ high small.
    then_within (IsBelow 256) (IsBelow 65536) (byte_at high.1) _ (byte_range high.1) (λ low less.
    only_within (high.0 * 256 + low.0, low.1) (IsBelow 65536) (omega arith)))

-- ---- parts that may be unknown

abbrev pub IsKnownBelow : ℕ → Option ℕ × List ℕ → Type 0
IsKnownBelow limit x = ForSome x.0 (λ n. n < limit)

known_range : (limit : ℕ) (dashes : Option (List ℕ)) (known : Option (ℕ × List ℕ)) → ForSome known (IsBelow limit) →
    ForSome (known_or dashes known) (IsKnownBelow limit)
known_range limit (Some rest) known small = only_within (None, rest) (IsKnownBelow limit) (none_within (λ n. n < limit))
known_range limit None known small =
    map_within (IsBelow limit) (IsKnownBelow limit) known (λ x. (Some x.0, x.1)) small (λ x less. only_within x.0 (λ n. n < limit) less)

pub known_byte_range : (text : List ℕ) → ForSome (known_byte_at text) (IsKnownBelow 256)
unfolding known_byte_at
known_byte_range text = known_range 256 (behind (codes "--") text) (byte_at text) (byte_range text)

pub known_address_range : (text : List ℕ) → ForSome (known_address_at text) (IsKnownBelow 65536)
unfolding known_address_at
known_address_range text = known_range 65536 (behind (codes "----") text) (address_at text) (address_range text)

pub known_octal_range : (text : List ℕ) → ForSome (known_octal_at text) (IsKnownBelow 8)
unfolding known_octal_at
known_octal_range text = known_range 8 (behind (codes "-") text) (digit_at 8 text) (digit_range 8 text)

-- ---- lists of bytes

pub record AreBytes (count : ℕ) (bytes : List (Option ℕ)) : Type 0 where
  pub counted : length bytes ≡ count
  pub known : AreKnownBytes bytes

abbrev AreFirst : ℕ → List (Option ℕ) × List ℕ → Type 0
AreFirst count x = AreBytes count x.0

one_more : (byte : Option ℕ) (bytes : List (Option ℕ)) (n : ℕ) → ForSome byte (λ b. b < 256) → AreBytes n bytes → AreBytes (suc n) (byte ∷ bytes)
one_more byte bytes n small others = record { counted = ap suc others.counted; known = (small, others.known) }

pub bytes_range : (mark : List ℕ) (n : ℕ) (text : List ℕ) → ForSome (bytes_at mark n text) (λ x. AreBytes n x.0)
unfolding bytes_at
bytes_range mark zero text = only_within ([], text) (AreFirst 0) (record { counted = refl; known = tt })
bytes_range mark (suc n) text =
    then_within (λ _. Unit {0}) (AreFirst (suc n)) (behind mark text) _ (all_within (behind mark text)) (λ rest any.
    then_within (IsKnownBelow 256) (AreFirst (suc n)) (known_byte_at rest) _ (known_byte_range rest) (λ first small.
    then_within (AreFirst n) (AreFirst (suc n)) (bytes_at mark n first.1) _ (bytes_range mark n first.1) (λ others known.
    only_within (first.0 ∷ others.0, others.1) (AreFirst (suc n)) (one_more first.0 others.0 n small known))))

pub values_range : (n : ℕ) (text : List ℕ) → ForSome (values_at n text) (λ x. AreBytes n x.0)
unfolding values_at
values_range zero text =
    map_within (λ _. Unit {0}) (AreFirst 0) (behind (codes ".") text) (λ rest. ([], rest)) (all_within (behind (codes ".") text))
    (λ rest any. record { counted = refl; known = tt })
values_range (suc n) text =
    then_within (IsKnownBelow 256) (AreFirst (suc n)) (known_byte_at text) _ (known_byte_range text) (λ first small.
    then_within (AreFirst n) (AreFirst (suc n)) (bytes_at (codes ",") n first.1) _ (bytes_range (codes ",") n first.1) (λ others known.
    only_within (first.0 ∷ others.0, others.1) (AreFirst (suc n)) (one_more first.0 others.0 n small known)))
