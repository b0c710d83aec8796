-- Points and states that are read fit each other, and all that they know is within its range.
use Rattle.std.proofs.Common.{◌≡◌, ℕ, zero, suc, ◌+◌, ◌-◌, ◌<◌, ◌≤◌, Bool, true, false, cond, ◌&&◌, List, [], ◌∷◌, ◌++◌}
use Rattle.std.proofs.Common.{length, map, replicate, get_or, refl, sym, ap, ◌∙◌, subst, arith, zero-add}
use Rattle.std.specs.Prelude.{Option, Some, None, Result, Ok, Err, codes, nat_eq, slice_index_or}
use Rattle.std.specs.List.{AllByRecursion, list_all, range_with_len}
use Rattle.std.specs.Option.{ForSome, option_eq}
use Rattle.std.proofs.lemmas.Bool.Decides.{nat_tests}
use Rattle.std.proofs.lemmas.List.FromFn.{fill_by_all}
use Rattle.abs_domain.specs.AbstractState.{KnownCounters, AbstractState, HasScratchpad}
use Rattle.abs_domain.specs.declared.points.Point.{Point}
use Rattle.abs_step.specs.Successors.{tracked_byte, tracked_bytes}
use Rattle.abs_step.specs.CartridgeAnalysis.{IsWithinRange, FitsPoint}
use Rattle.certificate.specs.declared.answers.CertFault.{CertFault}
use Rattle.certificate.specs.Parts.{behind, address_at, known_byte_at, known_address_at, known_octal_at, bit_at, bytes_at, values_at}
use Rattle.certificate.specs.Entries.{field, point_at, isar_at, status_at, counters_at, entry_of}
use Rattle.text_lines.specs.Steps.{◌>>=◌ as ◌>>!◌}
use Rattle.certificate.specs.CertificateText.{line_at, at_line, header_at, end_at, has_place, has_split, entry_in, entries_at}
use Rattle.certificate.specs.CertificateText.{certificate_of}
use Rattle.certificate.specs.CertificateLaws.{AllFit}
use Rattle.certificate.proofs.Within.{only_within, none_within, all_within, then_within}
use Rattle.certificate.proofs.PartRanges.{AreBytes, IsKnownBelow, address_range, known_byte_range, known_address_range, known_octal_range}
use Rattle.certificate.proofs.PartRanges.{bytes_range, values_range}
use Rattle.certificate.proofs.EntriesAgain.{tracked_padded}
use Rattle.certificate.proofs.EntriesRead.{is_read, at_line_of}

-- ---- the fields of a line

-- what holds of a field behind a blank
field_range : {A : Type 0} (Q : A → Type 0) (read : List ℕ → Option A) (text : List ℕ) → ((rest : List ℕ) → ForSome (read rest) Q) →
    ForSome (field read text) Q
field_range Q read text each = then_within (λ _. Unit {0}) Q (behind (codes " ") text) read (all_within (behind (codes " ") text)) (λ rest any. each rest)

record IsPoint (tracked : ℕ) (p : Point) : Type 0 where
  at : p.at < 65536
  ret : ForSome p.ret (λ at. at < 65536)
  values : List (Option ℕ)
  counted : length values ≡ tracked
  split : p.split ≡ values ++ replicate (8 - tracked) None

abbrev IsAtPoint : ℕ → Point × List ℕ → Type 0
IsAtPoint tracked x = IsPoint tracked x.0

point_range : (tracked : ℕ) (text : List ℕ) → ForSome (point_at tracked text) (IsAtPoint tracked)
unfolding point_at
point_range tracked text =
    then_within (λ (x : ℕ × List ℕ). x.0 < 65536) (IsAtPoint tracked) (address_at text) _ (address_range text) (λ at small.
    then_within (IsKnownBelow 65536) (IsAtPoint tracked) (field known_address_at at.1) _
    (field_range (IsKnownBelow 65536) known_address_at at.1 known_address_range) (λ ret less.
    then_within (λ (x : List (Option ℕ) × List ℕ). AreBytes tracked x.0) (IsAtPoint tracked) (field (values_at tracked) ret.1) _
    (field_range (λ (x : List (Option ℕ) × List ℕ). AreBytes tracked x.0) (values_at tracked) ret.1 (values_range tracked)) (λ values known.
    only_within (record { at = at.0; ret = ret.0; split = values.0 ++ replicate (8 - tracked) None }, values.1) (IsAtPoint tracked)
    (record { at = small; ret = less; values = values.0; counted = known.counted; split = refl }))))

record AreOctal (digits : Option ℕ × Option ℕ) : Type 0 where
  high : ForSome digits.0 (λ d. d < 8)
  low : ForSome digits.1 (λ d. d < 8)

abbrev AreAtOctal : (Option ℕ × Option ℕ) × List ℕ → Type 0
AreAtOctal x = AreOctal x.0

isar_range : (text : List ℕ) → ForSome (isar_at text) AreAtOctal
unfolding isar_at
isar_range text =
    then_within (IsKnownBelow 8) AreAtOctal (known_octal_at text) _ (known_octal_range text) (λ high small.
    then_within (IsKnownBelow 8) AreAtOctal (known_octal_at high.1) _ (known_octal_range high.1) (λ low less.
    only_within ((high.0, low.0), low.1) AreAtOctal (record { high = small; low = less })))

record AreAddresses (k : KnownCounters) : Type 0 where
  d0 : ForSome k.d0 (λ at. at < 65536)
  d1 : ForSome k.d1 (λ at. at < 65536)
  c : ForSome k.c (λ at. at < 65536)

abbrev AreAtAddresses : KnownCounters × List ℕ → Type 0
AreAtAddresses x = AreAddresses x.0

counters_range : (text : List ℕ) → ForSome (counters_at text) AreAtAddresses
unfolding counters_at
counters_range text =
    let any = all_within {A = Bool × List ℕ} in
    then_within (IsKnownBelow 65536) AreAtAddresses (known_address_at text) _ (known_address_range text) (λ d0 first.
    then_within (IsKnownBelow 65536) AreAtAddresses (field known_address_at d0.1) _
    (field_range (IsKnownBelow 65536) known_address_at d0.1 known_address_range) (λ d1 second.
    then_within (IsKnownBelow 65536) AreAtAddresses (field known_address_at d1.1) _
    (field_range (IsKnownBelow 65536) known_address_at d1.1 known_address_range) (λ c third.
    then_within (λ _. Unit {0}) AreAtAddresses (field bit_at c.1) _ (any (field bit_at c.1)) (λ s0 a.
    then_within (λ _. Unit {0}) AreAtAddresses (bit_at s0.1) _ (any (bit_at s0.1)) (λ s1 b.
    then_within (λ _. Unit {0}) AreAtAddresses (bit_at s1.1) _ (any (bit_at s1.1)) (λ p0 d.
    then_within (λ _. Unit {0}) AreAtAddresses (bit_at p0.1) _ (any (bit_at p0.1)) (λ p1 e.
    only_within (record { d0 = d0.0; d1 = d1.0; c = c.0; s0 = s0.0; s1 = s1.0; p0 = p0.0; p1 = p1.0 }, p1.1) AreAtAddresses
    (record { d0 = first; d1 = second; c = third }))))))))

-- ---- a line

known_at : (P : ℕ → Type 0) (xs : List (Option ℕ)) → AllByRecursion (λ x. ForSome x P) xs → (k : ℕ) → ForSome (slice_index_or xs k None) P
known_at P [] all k = none_within P
known_at P (x ∷ xs) all zero = all.0
known_at P (x ∷ xs) all (suc k) = known_at P xs all.1 k

record IsEntry (tracked : ℕ) (e : Point × AbstractState) : Type 0 where
  point : IsPoint tracked e.0
  scratchpad : HasScratchpad e.1
  range : IsWithinRange e.1

ended_by : (last : Bool) (tracked : ℕ) (e : Point × AbstractState) → IsEntry tracked e → ForSome (cond last (Some e) None) (IsEntry tracked)
ended_by true tracked e held = only_within e (IsEntry tracked) held
ended_by false tracked e held = none_within (IsEntry tracked)

entry_range : (tracked : ℕ) (line : List ℕ) → ForSome (entry_of tracked line) (IsEntry tracked)
unfolding entry_of
entry_range tracked line =
    then_within (IsAtPoint tracked) (IsEntry tracked) (point_at tracked line) _ (point_range tracked line) (λ point here.
    then_within (IsKnownBelow 256) (IsEntry tracked) (field known_byte_at point.1) _
    (field_range (IsKnownBelow 256) known_byte_at point.1 known_byte_range) (λ a small.
    then_within AreAtOctal (IsEntry tracked) (field isar_at a.1) _ (field_range AreAtOctal isar_at a.1 isar_range) (λ isar octal.
    then_within (λ _. Unit {0}) (IsEntry tracked) (field status_at isar.1) _ (all_within (field status_at isar.1)) (λ status any.
    then_within AreAtAddresses (IsEntry tracked) (field counters_at status.1) _
    (field_range AreAtAddresses counters_at status.1 counters_range) (λ counters less.
    then_within (λ (x : List (Option ℕ) × List ℕ). AreBytes 64 x.0) (IsEntry tracked) (field (bytes_at (codes "") 64) counters.1) _
    (field_range (λ (x : List (Option ℕ) × List ℕ). AreBytes 64 x.0) (bytes_at (codes "") 64) counters.1 (bytes_range (codes "") 64)) (λ pad bytes.
    ended_by _ tracked _ (record {
      point = here;
      scratchpad = bytes.counted;
      range = record {
        accumulator = small;
        high = octal.high;
        low = octal.low;
        scratchpad = known_at (λ b. b < 256) pad.0 bytes.known;
        d0 = less.d0;
        d1 = less.d1;
        c = less.c;
      };
    })))))))

-- ---- the bytes of tracked registers

both_true : (x y : Bool) → (x && y) ≡ true → (x ≡ true) × (y ≡ true)
both_true true y e = (refl, e)
both_true false y e = absurd (cc)

passes_at : (test : ℕ → Bool) (a n k : ℕ) → list_all test (range_with_len a n) ≡ true → k < n → test (a + k) ≡ true
passes_at test a zero k all below = absurd (omega arith)
passes_at test a (suc n) zero all below =
    let here : a + zero ≡ a = omega arith in
    rw here (both_true (test a) (list_all test (range_with_len (a + 1) n)) all).0
passes_at test a (suc n) (suc k) all below =
    let there : a + suc k ≡ a + 1 + k = omega arith in
    rw there (passes_at test (a + 1) n k (both_true (test a) (list_all test (range_with_len (a + 1) n)) all).1 (omega arith))

option_same : (x y : Option ℕ) → option_eq nat_eq x y ≡ true → x ≡ y
option_same None None e = refl
option_same None (Some y) e = absurd (cc)
option_same (Some x) None e = absurd (cc)
option_same (Some x) (Some y) e = let same : x ≡ y = grind (arith, nat_tests) in ap Some same

front_at : (xs ys : List (Option ℕ)) (k : ℕ) → k < length xs → slice_index_or (xs ++ ys) k None ≡ get_or xs k None
front_at [] ys k below = absurd (omega arith)
front_at (x ∷ xs) ys zero below = refl
front_at (x ∷ xs) ys (suc k) below = front_at xs ys k (omega arith)

split_fits : (tracked : List ℕ) (p : Point) (s : AbstractState) → length tracked ≤ 8 → IsPoint (length tracked) p → has_split tracked (p, s) ≡ true →
    p.split ≡ tracked_bytes tracked s.registers
split_fits tracked p s few point same =
    let byte = tracked_byte tracked s.registers in
    let values : List (Option ℕ) = point.values in
    let tail : List (Option ℕ) = replicate (8 - length tracked) None in
    let passes : (k : ℕ) → k < length tracked → has_place tracked (p, s) k ≡ true = λ k below.
    rw zero-add at (passes_at (has_place tracked (p, s)) 0 (length tracked) k same below) in
    let each : (k : ℕ) → k < length tracked → get_or values k None ≡ byte k = λ k below.
    sym (front_at values tail k (omega (arith, point.counted)))
    ∙ sym (ap (λ (xs : List (Option ℕ)). slice_index_or xs k None) point.split)
    ∙ sym (option_same (byte k) (slice_index_or p.split k None) (passes k below)) in
    let shown : values ≡ map byte (range_with_len 0 (length tracked)) = fill_by_all byte values (length tracked) None point.counted each in
    point.split ∙ ap (λ (xs : List (Option ℕ)). xs ++ tail) shown ∙ sym (tracked_padded tracked s.registers few)

entry_fits : (tracked : List ℕ) (p : Point) (s : AbstractState) → length tracked ≤ 8 → IsEntry (length tracked) (p, s) → has_split tracked (p, s) ≡ true →
    FitsPoint tracked p s
entry_fits tracked p s few entry same = record {
  split = split_fits tracked p s few entry.point same;
  scratchpad = entry.scratchpad;
  range = entry.range;
  at = entry.point.at;
  ret = entry.point.ret;
}

-- ---- all lines

module _ {A B : Type 0} where
  step_of : (r : Result A CertFault) (f : A → Result B CertFault) (y : B) → (r >>! f) ≡ Ok y → (x : A) × (r ≡ Ok x) × (f x ≡ Ok y)
  step_of (Ok x) f y e = (x, refl, e)
  step_of (Err fault) f y e = absurd (cc)

entries_fit : (tracked : List ℕ) → length tracked ≤ 8 → (n number : ℕ) (before : Option Point) (text : List ℕ) (notes : List (Point × AbstractState)) →
    entries_at tracked n number before text ≡ Ok notes → AllFit tracked notes
unfolding entries_at
entries_fit tracked few zero number before text notes e =
    let last = step_of (end_at number text) _ notes e in
    let none : [] ≡ notes = cc (last.2) in
    subst (AllFit tracked) none tt
entries_fit tracked few (suc n) number before text notes e =
    let line = step_of (line_at number text) _ notes e in
    let first = step_of (at_line number (entry_in tracked before line.0.0)) _ notes line.2 in
    let others = step_of (entries_at tracked n (number + 1) (Some first.0.0) line.0.1) _ notes first.2 in
    let read = is_read tracked before line.0.0 first.0 (at_line_of number (entry_in tracked before line.0.0) first.0 first.1) in
    let fits : FitsPoint tracked first.0.0 first.0.1 =
    entry_fits tracked first.0.0 first.0.1 few (entry_range (length tracked) line.0.0 first.0 read.read) read.split in
    let all : first.0 ∷ others.0 ≡ notes = cc (others.2) in
    subst (AllFit tracked) all (fits, entries_fit tracked few n (number + 1) (Some first.0.0) line.0.1 others.0 others.1)

pub certificate_fits : (tracked text : List ℕ) (notes : List (Point × AbstractState)) → length tracked ≤ 8 → certificate_of tracked text ≡ Ok notes →
    AllFit tracked notes
unfolding certificate_of
certificate_fits tracked text notes few e =
    let header = step_of (header_at text) _ notes e in
    entries_fit tracked few header.0.0 2 None header.0.1 notes header.2
