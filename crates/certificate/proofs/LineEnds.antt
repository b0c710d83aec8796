-- No line that is written has a line feed in it, so that it is the first line of what is written with it.
use Rattle.std.proofs.Common.{◌≡◌, ℕ, ◌+◌, ◌/◌, ◌%◌, ◌^◌, ◌<◌, Bool, true, false, ◌==◌, ◌&&◌, List, [], ◌∷◌, ◌++◌}
use Rattle.std.proofs.Common.{length, take, refl, arith, append_assoc, length-append}
use Rattle.std.specs.Prelude.{Option, Some, None, codes, not, nat_lt, decimal}
use Rattle.std.specs.List.{list_all, prefix_len}
use Rattle.std.specs.Str.Parse.{AllDigits}
use Rattle.std.proofs.lemmas.Bool.Decides.{nat_tests}
use Rattle.std.proofs.Math.Seq.{take-append_seam, drop-append-add}
use Rattle.std.proofs.lemmas.List.Folds.{list_all-append}
use Rattle.std.proofs.lemmas.Fmt.{decimal_is_IsNumeral}
use Rattle.std.proofs.lemmas.Str.Parse.{digit_from_value}
use Rattle.f8_spec.specs.Spelling.{hex_digit, hex2, hex4}
use Rattle.abs_domain.specs.AbstractState.{KnownStatus, KnownCounters, AbstractState}
use Rattle.abs_domain.specs.declared.points.Point.{Point}
use Rattle.certificate.specs.Parts.{bit_text, known_byte_text, known_address_text, known_octal_text, known_bit_text, bytes_text}
use Rattle.certificate.specs.Parts.{values_text}
use Rattle.certificate.specs.Entries.{point_text, status_text, counters_text, entry_text}
use Rattle.certificate.specs.CertificateText.{first_line, line_text, header_text}

-- ---- texts without a line feed

abbrev is_inside : ℕ → Bool
is_inside b = not (b == 10)

pub record NoFeed (text : List ℕ) : Type 0 where
  pub none : list_all (λ b. not (b == 10)) text ≡ true

first_true : (a b : Bool) → (a && b) ≡ true → a ≡ true
first_true true b e = refl
first_true false b e = e

second_true : (a b : Bool) → (a && b) ≡ true → b ≡ true
second_true true b e = e
second_true false b e = absurd (cc)

pub joined : {xs ys : List ℕ} → NoFeed xs → NoFeed ys → NoFeed (xs ++ ys)
joined {xs} {ys} first second = record { none = rw (list_all-append is_inside xs ys, first.none, second.none) refl }

-- ---- the first line

stops : (line rest : List ℕ) → list_all is_inside line ≡ true → prefix_len is_inside (line ++ (10 ∷ rest)) ≡ length line
stops [] rest none = refl
stops (b ∷ line) rest none =
    let here : is_inside b ≡ true = first_true (is_inside b) (list_all is_inside line) none in
    let later : prefix_len is_inside (line ++ (10 ∷ rest)) ≡ length line = stops line rest (second_true (is_inside b) (list_all is_inside line) none) in
    rw (here, later) (omega arith)

pub first_again : (line rest : List ℕ) → NoFeed line → first_line (line_text line ++ rest) ≡ Some (line, rest)
unfolding first_line
first_again line rest none =
    let text : List ℕ = line ++ (10 ∷ rest) in
    let regroup : line_text line ++ rest ≡ text = append_assoc line (codes "\n") rest in
    let at : prefix_len is_inside text ≡ length line = stops line rest none.none in
    let within : nat_lt (length line) (length text) ≡ true = grind (arith, nat_tests, length-append line (10 ∷ rest)) in
    rw (regroup, at, within, take-append_seam line (10 ∷ rest), drop-append-add line (10 ∷ rest) 1) refl

-- ---- the parts of a line

one_byte : (b : ℕ) (rest : List ℕ) → (b == 10) ≡ false → NoFeed rest → NoFeed (b ∷ rest)
one_byte b rest other more = record { none = rw (other, more.none) refl }

nothing : NoFeed []
nothing = record { none = refl }

blank : NoFeed (codes " ")
blank = record { none = refl }

hex_digit_inside : (d : ℕ) → (hex_digit d == 10) ≡ false
hex_digit_inside d = grind (arith, nat_tests)

hex2_inside : (n : ℕ) → NoFeed (hex2 n)
hex2_inside n = one_byte _ _ (hex_digit_inside (n / 16)) (one_byte _ _ (hex_digit_inside (n % 16)) nothing)

hex4_inside : (n : ℕ) → NoFeed (hex4 n)
hex4_inside n = joined (hex2_inside (n / 256)) (hex2_inside (n % 256))

bit_inside : (bit : Bool) → NoFeed (bit_text bit)
bit_inside true = record { none = refl }
bit_inside false = record { none = refl }

byte_inside : (byte : Option ℕ) → NoFeed (known_byte_text byte)
byte_inside None = record { none = refl }
byte_inside (Some b) = hex2_inside b

address_inside : (at : Option ℕ) → NoFeed (known_address_text at)
address_inside None = record { none = refl }
address_inside (Some a) = hex4_inside a

octal_inside : (digit : Option ℕ) → NoFeed (known_octal_text digit)
octal_inside None = record { none = refl }
octal_inside (Some d) = let other : ((48 + d) == 10) ≡ false = grind (arith, nat_tests) in one_byte (48 + d) [] other nothing

known_bit_inside : (bit : Option Bool) → NoFeed (known_bit_text bit)
known_bit_inside None = record { none = refl }
known_bit_inside (Some b) = bit_inside b

bytes_inside : (mark : List ℕ) (bytes : List (Option ℕ)) → NoFeed mark → NoFeed (bytes_text mark bytes)
bytes_inside mark [] none = nothing
bytes_inside mark (byte ∷ bytes) none = joined (joined none (byte_inside byte)) (bytes_inside mark bytes none)

values_inside : (values : List (Option ℕ)) → NoFeed (values_text values)
values_inside [] = record { none = refl }
values_inside (value ∷ values) = joined (byte_inside value) (bytes_inside (codes ",") values (record { none = refl }))

-- ---- the lines

point_inside : (tracked : ℕ) (p : Point) → NoFeed (point_text tracked p)
unfolding point_text
point_inside tracked p =
    joined (hex4_inside p.at) (joined blank (joined (address_inside p.ret) (joined blank (values_inside (take tracked p.split)))))

status_inside : (status : KnownStatus) → NoFeed (status_text status)
unfolding status_text
status_inside status =
    joined (known_bit_inside status.sign) (joined (known_bit_inside status.carry) (joined (known_bit_inside status.zero)
    (joined (known_bit_inside status.overflow) (known_bit_inside status.icb))))

counters_inside : (k : KnownCounters) → NoFeed (counters_text k)
unfolding counters_text
counters_inside k =
    joined (address_inside k.d0) (joined blank (joined (address_inside k.d1) (joined blank (joined (address_inside k.c) (joined blank
    (joined (bit_inside k.s0) (joined (bit_inside k.s1) (joined (bit_inside k.p0) (bit_inside k.p1)))))))))

pub entry_inside : (tracked : ℕ) (p : Point) (s : AbstractState) → NoFeed (entry_text tracked (p, s))
unfolding entry_text
entry_inside tracked p s =
    let known = s.registers in
    joined (point_inside tracked p) (joined blank (joined (byte_inside known.accumulator) (joined blank
    (joined (octal_inside known.high) (joined (octal_inside known.low) (joined blank (joined (status_inside known.status) (joined blank
    (joined (counters_inside s.counters) (joined blank (bytes_inside (codes "") known.scratchpad nothing)))))))))))

digits_inside : (ds : List ℕ) → AllDigits 10 ds → NoFeed ds
digits_inside [] all = nothing
digits_inside (c ∷ cs) all =
    let range = digit_from_value c all.0 in
    let other : (c == 10) ≡ false = grind (arith, nat_tests) in
    one_byte c cs other (digits_inside cs all.1)

pub header_inside : (count : ℕ) → count < 2 ^ 64 → NoFeed (header_text count)
unfolding header_text
header_inside count small =
    joined {xs = codes "F8CERT 1 "} (record { none = refl }) (digits_inside (decimal count) (decimal_is_IsNumeral count small).0.1)
