-- How many bytes the text of an invariant map has at most: 15 of its first line, and 195 of each point.
use Rattle.std.proofs.Common.{ℕ, ◌+◌, ◌*◌, ◌≤◌, Bool, true, false, List, [], ◌∷◌, ◌++◌, length, take, arith, length-append}
use Rattle.std.specs.Prelude.{Option, Some, None, codes, decimal}
use Rattle.std.specs.List.{AllByRecursion}
use Rattle.std.proofs.lemmas.Fmt.{length-decimal-le}
use Rattle.std.proofs.lemmas.List.{length-take}
use Rattle.abs_domain.specs.AbstractState.{KnownStatus, KnownCounters, AbstractState, HasScratchpad}
use Rattle.abs_domain.specs.declared.points.Point.{Point}
use Rattle.f8_spec.specs.Spelling.{hex4}
use Rattle.certificate.specs.Parts.{bit_text, known_byte_text, known_address_text, known_octal_text, known_bit_text, bytes_text}
use Rattle.certificate.specs.Parts.{values_text}
use Rattle.certificate.specs.Entries.{point_text, status_text, counters_text, entry_text}
use Rattle.certificate.specs.CertificateText.{header_text, entries_text, certificate_text}
use Rattle.certificate.specs.CertificateLaws.{AllFit, AllInRange}

-- ---- parts

-- a text of so many bytes at most
record AtMost (most : ℕ) (text : List ℕ) : Type 0 where
  within : length text ≤ most

ahead : {a b : ℕ} {xs ys : List ℕ} → AtMost a xs → AtMost b ys → AtMost (a + b) (xs ++ ys)
ahead {a = a} {b = b} {xs = xs} {ys = ys} first second =
    record { within = omega (arith, length-append xs ys, first.within, second.within) }

blank : AtMost 1 (codes " ")
blank = record { within = omega arith }

byte_size : (byte : Option ℕ) → AtMost 2 (known_byte_text byte)
byte_size None = record { within = omega arith }
byte_size (Some b) = record { within = omega arith }

address_size : (at : Option ℕ) → AtMost 4 (known_address_text at)
address_size None = record { within = omega arith }
address_size (Some at) = record { within = omega arith }

octal_size : (digit : Option ℕ) → AtMost 1 (known_octal_text digit)
octal_size None = record { within = omega arith }
octal_size (Some digit) = record { within = omega arith }

bit_size : (bit : Bool) → AtMost 1 (bit_text bit)
bit_size true = record { within = omega arith }
bit_size false = record { within = omega arith }

known_bit_size : (bit : Option Bool) → AtMost 1 (known_bit_text bit)
known_bit_size None = record { within = omega arith }
known_bit_size (Some bit) = bit_size bit

-- bytes one behind another, and with commas between
digits_size : (bytes : List (Option ℕ)) → AtMost (2 * length bytes) (bytes_text (codes "") bytes)
digits_size [] = record { within = omega arith }
digits_size (byte ∷ bytes) =
    let both : AtMost (2 + 2 * length bytes) (bytes_text (codes "") (byte ∷ bytes)) = ahead (byte_size byte) (digits_size bytes) in
    record { within = omega (arith, both.within) }

commas_size : (bytes : List (Option ℕ)) → AtMost (3 * length bytes) (bytes_text (codes ",") bytes)
commas_size [] = record { within = omega arith }
commas_size (byte ∷ bytes) =
    let comma : AtMost 1 (codes ",") = record { within = omega arith } in
    let both : AtMost (3 + 3 * length bytes) (bytes_text (codes ",") (byte ∷ bytes)) =
    ahead (ahead comma (byte_size byte)) (commas_size bytes) in
    record { within = omega (arith, both.within) }

values_size : (values : List (Option ℕ)) → length values ≤ 8 → AtMost 23 (values_text values)
values_size [] few = record { within = omega arith }
values_size (value ∷ values) few =
    let both = ahead (byte_size value) (commas_size values) in record { within = omega (arith, both.within, few) }

-- ---- a line

point_size : (tracked : ℕ) (p : Point) → tracked ≤ 8 → AtMost 33 (point_text tracked p)
unfolding point_text
point_size tracked p few =
    let address : AtMost 4 (hex4 p.at) = record { within = omega arith } in
    let shown : length (take tracked p.split) ≤ 8 = omega (arith, length-take tracked p.split, few) in
    ahead address (ahead blank (ahead (address_size p.ret) (ahead blank (values_size (take tracked p.split) shown))))

status_size : (w : KnownStatus) → AtMost 5 (status_text w)
unfolding status_text
status_size w =
    ahead (known_bit_size w.sign) (ahead (known_bit_size w.carry) (ahead (known_bit_size w.zero)
    (ahead (known_bit_size w.overflow) (known_bit_size w.icb))))

counters_size : (k : KnownCounters) → AtMost 19 (counters_text k)
unfolding counters_text
counters_size k =
    ahead (address_size k.d0) (ahead blank (ahead (address_size k.d1) (ahead blank (ahead (address_size k.c) (ahead blank
    (ahead (bit_size k.s0) (ahead (bit_size k.s1) (ahead (bit_size k.p0) (bit_size k.p1)))))))))

entry_size : (tracked : ℕ) (e : Point × AbstractState) → tracked ≤ 8 → HasScratchpad e.1 → AtMost 194 (entry_text tracked e)
unfolding entry_text
entry_size tracked e few whole =
    let known = e.1.registers in
    let scratchpad : AtMost 128 (bytes_text (codes "") known.scratchpad) =
    record { within = omega (arith, (digits_size known.scratchpad).within, whole) } in
    ahead (point_size tracked e.0 few) (ahead blank (ahead (byte_size known.accumulator) (ahead blank
    (ahead (octal_size known.high) (ahead (octal_size known.low) (ahead blank (ahead (status_size known.status) (ahead blank
    (ahead (counters_size e.1.counters) (ahead blank scratchpad))))))))))

-- ---- the text

abbrev pub HaveScratchpads : List (Point × AbstractState) → Type 0
HaveScratchpads notes = AllByRecursion (λ e. HasScratchpad e.1) notes

pub whole_in_range : (notes : List (Point × AbstractState)) → AllInRange notes → HaveScratchpads notes
whole_in_range [] ranges = tt
whole_in_range (e ∷ es) ranges = (ranges.0.scratchpad, whole_in_range es ranges.1)

pub whole_where_fit : (tracked : List ℕ) (notes : List (Point × AbstractState)) → AllFit tracked notes → HaveScratchpads notes
whole_where_fit tracked [] fit = tt
whole_where_fit tracked (e ∷ es) fit = (fit.0.scratchpad, whole_where_fit tracked es fit.1)

lines_size : (tracked : ℕ) (notes : List (Point × AbstractState)) → tracked ≤ 8 → HaveScratchpads notes →
    AtMost (195 * length notes) (entries_text tracked notes)
lines_size tracked [] few whole = record { within = omega arith }
lines_size tracked (e ∷ es) few whole =
    let feed : AtMost 1 (codes "\n") = record { within = omega arith } in
    let both = ahead (ahead (entry_size tracked e few whole.0) feed) (lines_size tracked es few whole.1) in
    record { within = omega (arith, both.within) }

pub text_size : (tracked : List ℕ) (notes : List (Point × AbstractState)) → length tracked ≤ 8 → length notes ≤ 65536 →
    HaveScratchpads notes → length (certificate_text tracked notes) ≤ 15 + 195 * length notes
unfolding certificate_text header_text
text_size tracked notes few most whole =
    let count : ℕ = length notes in
    let mark : AtMost 9 (codes "F8CERT 1 ") = record { within = omega arith } in
    let digits : AtMost 5 (decimal count) = record { within = length-decimal-le 5 count (omega arith) (omega arith) (omega arith) } in
    let feed : AtMost 1 (codes "\n") = record { within = omega arith } in
    (ahead (ahead (ahead mark digits) feed) (lines_size (length tracked) notes few whole)).within
