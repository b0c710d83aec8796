-- Certificates worked out by hand, computed from the definitions.
use Rattle.std.proofs.Common.{◌≡◌, ℕ, true, false, List, [], ◌∷◌, ◌++◌, replicate, refl}
use Rattle.std.specs.Prelude.{codes, Some, None, Result, Ok, Err}
use Rattle.std.specs.Fmt.{digits}
use Rattle.abs_domain.specs.AbstractState.{AbstractState}
use Rattle.abs_domain.specs.declared.points.Point.{Point}
use Rattle.abs_step.specs.Successors.{start_point, start_state}
use Rattle.line_words.specs.Numbers.{decimal_on}
use Rattle.certificate.specs.Parts.{behind, digit_in, digit_at, byte_at, address_at, bit_at, known_byte_at, known_address_at}
use Rattle.certificate.specs.Parts.{known_octal_at}
use Rattle.certificate.specs.Parts.{known_bit_at, bytes_at, values_at}
use Rattle.certificate.specs.Entries.{point_at, isar_at, status_at, counters_at, entry_of, point_text, status_text, counters_text}
use Rattle.certificate.specs.Entries.{entry_text}
use Rattle.certificate.specs.CertificateText.{first_line, count_of, header_at, entry_in, entries_at, certificate_of, header_text}
use Rattle.certificate.specs.CertificateText.{certificate_text}
use Rattle.certificate.specs.declared.answers.CertFault.{CertFault}
use Rattle.certificate.specs.declared.answers.CertCause.{CertCause}
use Rattle.certificate.specs.declared.answers.CertCause.TheVariants.{Header, Count, Field, Order, End, SplitField}

-- ---- `LIS 1`, `NOP`, `BR` to the `NOP`: nothing is known at the start, and 1 in A behind it

abbrev one_known : AbstractState
one_known = record start_state { registers = record start_state.registers { accumulator = Some 1 } }

abbrev at : ℕ → Point
at address = record start_point { at = address }

abbrev pub notes : List (Point × AbstractState)
notes = (at 0, start_state) ∷ (at 1, one_known) ∷ (at 2, one_known) ∷ []

abbrev line : List ℕ → List ℕ
line front = front ++ codes " -- 00000 0000 0000 ---- 0000 " ++ replicate 128 45 ++ codes "\n"

abbrev lines : List ℕ
lines = line (codes "0000 ---- . --") ++ line (codes "0001 ---- . 01") ++ line (codes "0002 ---- . 01")

abbrev pub certificate : List ℕ
certificate = codes "F8CERT 1 3\n" ++ lines

written : certificate_text [] notes ≡ certificate
unfolding digits point_text status_text counters_text entry_text header_text certificate_text
written = refl

pub read : certificate_of [] certificate ≡ Ok notes
unfolding behind digit_in digit_at byte_at address_at bit_at known_byte_at known_address_at known_octal_at known_bit_at bytes_at values_at
    point_at isar_at status_at counters_at entry_of first_line decimal_on count_of header_at entry_in entries_at certificate_of
read = refl

-- ---- faults

abbrev fault : ℕ → CertCause → Result (List (Point × AbstractState)) CertFault
fault number cause = Err (record { line = number; cause = cause })

abbrev Refuses : List ℕ → ℕ → CertCause → Type 0
Refuses text number cause = certificate_of [] text ≡ fault number cause

abbrev first : List ℕ
first = line (codes "0000 ---- . --")

abbrev second : List ℕ
second = line (codes "0001 ---- . 01")

first_line_faults :
    Refuses [] 1 End
    × Refuses (codes "F8CERT 1 3") 1 End
    × Refuses (codes "F8CERT 2 3\n" ++ lines) 1 Header
    × Refuses (codes "F8CERT 1 3" ++ 13 ∷ 10 ∷ lines) 1 Header
    × Refuses (codes "F8CERT 1 0\n" ++ lines) 1 Count
    × Refuses (codes "F8CERT 1 65537\n" ++ lines) 1 Count
unfolding behind digit_in first_line decimal_on count_of header_at certificate_of
first_line_faults = (refl, refl, refl, refl, refl, refl)

-- a line that stands twice, one that is missing, one that is over, and half a byte
other_faults :
    Refuses (codes "F8CERT 1 3\n" ++ first ++ second ++ second) 4 Order
    × Refuses (codes "F8CERT 1 3\n" ++ first ++ second) 4 End
    × Refuses (codes "F8CERT 1 0000002\n" ++ lines) 4 End
    × Refuses (codes "F8CERT 1 1\n" ++ line (codes "0000 ---- . 0-")) 2 Field
unfolding behind digit_in digit_at byte_at address_at bit_at known_byte_at known_address_at known_octal_at known_bit_at bytes_at values_at
    point_at isar_at status_at counters_at entry_of first_line decimal_on count_of header_at entry_in entries_at certificate_of
other_faults = (refl, refl, refl, refl)

-- ---- with tracked registers: the bytes of 1 and 0

abbrev tracked_line : List ℕ → List ℕ
tracked_line values =
    codes "ffFE 00aB " ++ values ++ codes " -- 7- 10-01 ---- FFFF 0000 1010 " ++ codes "7F--" ++ replicate 124 45 ++ codes "\n"

abbrev tracked_state : AbstractState
tracked_state = record {
  registers = record {
    accumulator = None;
    high = Some 7;
    low = None;
    status = record { sign = Some true; carry = Some false; zero = None; overflow = Some false; icb = Some true };
    scratchpad = Some 127 ∷ replicate 63 None;
  };
  counters = record { d0 = None; d1 = Some 65535; c = Some 0; s0 = true; s1 = false; p0 = true; p1 = false };
}

abbrev tracked_point : Point
tracked_point = record { at = 65534; ret = Some 171; split = None ∷ Some 127 ∷ replicate 6 None }

tracked_registers : certificate_of (1 ∷ 0 ∷ []) (codes "F8CERT 1 1\n" ++ tracked_line (codes "--,7f")) ≡ Ok ((tracked_point, tracked_state) ∷ [])
unfolding behind digit_in digit_at byte_at address_at bit_at known_byte_at known_address_at known_octal_at known_bit_at bytes_at values_at
    point_at isar_at status_at counters_at entry_of first_line decimal_on count_of header_at entry_in entries_at certificate_of
tracked_registers = refl

another_byte : certificate_of (1 ∷ 0 ∷ []) (codes "F8CERT 1 1\n" ++ tracked_line (codes "--,7E")) ≡ fault 2 SplitField
unfolding behind digit_in digit_at byte_at address_at bit_at known_byte_at known_address_at known_octal_at known_bit_at bytes_at values_at
    point_at isar_at status_at counters_at entry_of first_line decimal_on count_of header_at entry_in entries_at certificate_of
another_byte = refl
