-- A part of a line that is written is read as it was.
use Rattle.std.proofs.Common.{◌≡◌, ℕ, ◌+◌, ◌*◌, ◌/◌, ◌%◌, ◌<◌, Bool, true, false, ◌==◌, List, [], ◌∷◌, ◌++◌}
use Rattle.std.proofs.Common.{length, refl, arith, append_assoc}
use Rattle.std.specs.Prelude.{Option, Some, None, codes}
use Rattle.std.specs.Option.{ForSome}
use Rattle.std.proofs.lemmas.Bool.Decides.{nat_tests}
use Rattle.f8_spec.specs.Spelling.{hex_digit, hex2, hex4}
use Rattle.certificate.specs.Parts.{behind, digit_in, digit_at, byte_at, address_at, bit_at, known_byte_at, known_address_at}
use Rattle.certificate.specs.Parts.{known_octal_at}
use Rattle.certificate.specs.Parts.{known_bit_at, bytes_at, values_at, bit_text, known_byte_text, known_address_text, known_octal_text}
use Rattle.certificate.specs.Parts.{known_bit_text}
use Rattle.certificate.specs.Parts.{bytes_text, values_text}
pub use Rattle.certificate.specs.CertificateLaws.{AreKnownBytes}
use Rattle.certificate.proofs.Marks.{behind_again}

-- ---- digits

hex_again : (d : ℕ) → d < 16 → digit_in 16 (hex_digit d) ≡ Some d
unfolding digit_in
hex_again d small = grind (arith, nat_tests)

hex_no_dash : (d : ℕ) → d < 16 → (hex_digit d == 45) ≡ false
hex_no_dash d small = grind (arith, nat_tests)

octal_again : (d : ℕ) → d < 8 → digit_in 8 (48 + d) ≡ Some d
unfolding digit_in
octal_again d small = grind (arith, nat_tests)

octal_no_dash : (d : ℕ) → d < 8 → ((48 + d) == 45) ≡ false
octal_no_dash d small = grind (arith, nat_tests)

-- ---- bytes, addresses and bits

hex_at : (d : ℕ) (more : List ℕ) → d < 16 → digit_at 16 (hex_digit d ∷ more) ≡ Some (d, more)
unfolding digit_at
hex_at d more small = rw (hex_again d small) refl

byte_again : (n : ℕ) (more : List ℕ) → n < 256 → byte_at (hex2 n ++ more) ≡ Some (n, more)
unfolding byte_at
byte_again n more small =
    let high : n / 16 < 16 = omega arith in
    let low : n % 16 < 16 = omega arith in
    let whole : n / 16 * 16 + n % 16 ≡ n = omega arith in
    rw (hex_at (n / 16) (hex_digit (n % 16) ∷ more) high, hex_at (n % 16) more low, whole) refl

module _ (rest : List ℕ) where
  pub address_again : (n : ℕ) → n < 65536 → address_at (hex4 n ++ rest) ≡ Some (n, rest)
  unfolding address_at
  address_again n small =
      let high : n / 256 < 256 = omega arith in
      let low : n % 256 < 256 = omega arith in
      let whole : n / 256 * 256 + n % 256 ≡ n = omega arith in
      rw (byte_again (n / 256) (hex2 (n % 256) ++ rest) high, byte_again (n % 256) rest low, whole) refl

  pub bit_again : (bit : Bool) → bit_at (bit_text bit ++ rest) ≡ Some (bit, rest)
  unfolding digit_in digit_at bit_at
  bit_again true = refl
  bit_again false = refl

  pub known_bit_again : (bit : Option Bool) → known_bit_at (known_bit_text bit ++ rest) ≡ Some (bit, rest)
  unfolding behind digit_in digit_at bit_at known_bit_at
  known_bit_again None = refl
  known_bit_again (Some true) = refl
  known_bit_again (Some false) = refl

  pub known_octal_again : (digit : Option ℕ) → ForSome digit (λ d. d < 8) → known_octal_at (known_octal_text digit ++ rest) ≡ Some (digit, rest)
  unfolding behind digit_at known_octal_at
  known_octal_again None small = refl
  known_octal_again (Some d) small = rw (octal_no_dash d (small d refl), octal_again d (small d refl)) refl

  pub known_byte_again : (byte : Option ℕ) → ForSome byte (λ b. b < 256) → known_byte_at (known_byte_text byte ++ rest) ≡ Some (byte, rest)
  unfolding behind known_byte_at
  known_byte_again None small = refl
  known_byte_again (Some b) small =
      let fits = small b refl in
      let high : b / 16 < 16 = omega arith in
      rw (hex_no_dash (b / 16) high, byte_again b rest fits) refl

  pub known_address_again : (at : Option ℕ) → ForSome at (λ a. a < 65536) → known_address_at (known_address_text at ++ rest) ≡ Some (at, rest)
  unfolding behind known_address_at
  known_address_again None small = refl
  known_address_again (Some a) small =
      let fits = small a refl in
      let high : a / 256 / 16 < 16 = omega arith in
      rw (hex_no_dash (a / 256 / 16) high, address_again a fits) refl

-- ---- lists of bytes

pub bytes_again : (mark : List ℕ) (bytes : List (Option ℕ)) (rest : List ℕ) → AreKnownBytes bytes →
    bytes_at mark (length bytes) (bytes_text mark bytes ++ rest) ≡ Some (bytes, rest)
unfolding bytes_at
bytes_again mark [] rest small = refl
bytes_again mark (byte ∷ bytes) rest small =
    let more : List ℕ = bytes_text mark bytes ++ rest in
    let apart : ((mark ++ known_byte_text byte) ++ bytes_text mark bytes) ++ rest ≡ mark ++ (known_byte_text byte ++ more) =
    simp append_assoc in
    rw (apart, behind_again mark (known_byte_text byte ++ more), known_byte_again more byte small.0, bytes_again mark bytes rest small.1) refl

pub values_again : (values : List (Option ℕ)) (rest : List ℕ) → AreKnownBytes values →
    values_at (length values) (values_text values ++ rest) ≡ Some (values, rest)
unfolding behind values_at
values_again [] rest small = refl
values_again (value ∷ values) rest small =
    rw (
      append_assoc (known_byte_text value) (bytes_text (codes ",") values) rest,
      known_byte_again (bytes_text (codes ",") values ++ rest) value small.0,
      bytes_again (codes ",") values rest small.1,
    ) refl
