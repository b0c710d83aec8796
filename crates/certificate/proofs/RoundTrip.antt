-- What is read of the text of an invariant map is the map.
use Rattle.std.proofs.Common.{◌≡◌, ℕ, zero, suc, ◌+◌, ◌-◌, ◌*◌, ◌<◌, ◌≤◌, true, List, [], ◌∷◌}
use Rattle.std.proofs.Common.{length, map, refl, ap, ◌∙◌, arith}
use Rattle.std.specs.Prelude.{Option, Some, None, Ok, codes, decimal, nat_eq, nat_le, slice_index_or}
use Rattle.std.specs.List.{AllByRecursion, list_all, range_with_len}
use Rattle.std.specs.List.Sorted.{IsStrictlySortedBy}
use Rattle.std.specs.Map.{keys_of}
use Rattle.std.specs.Option.{option_eq}
use Rattle.std.specs.Char.{digit_value, is_ascii_digit}
use Rattle.std.specs.Str.Parse.{AllDigits, digits_value_after}
use Rattle.std.specs.declared.cmp.Ordering.TheVariants.{Less}
use Rattle.std.proofs.lemmas.Bool.Decides.{nat_tests}
use Rattle.std.proofs.lemmas.Str.{digit_value_digit}
use Rattle.std.proofs.lemmas.Str.Parse.{digit_from_value}
use Rattle.std.proofs.lemmas.Fmt.{decimal_is_IsNumeral, length-decimal-le}
use Rattle.abs_domain.specs.AbstractState.{AbstractState}
use Rattle.abs_domain.specs.PointOrder.{point_cmp}
use Rattle.abs_domain.specs.declared.points.Point.{Point}
use Rattle.abs_step.specs.Successors.{tracked_byte, tracked_bytes}
use Rattle.line_words.specs.Numbers.{decimal_on}
use Rattle.certificate.specs.Entries.{entry_text}
use Rattle.certificate.specs.CertificateText.{count_of, header_at, has_split, is_behind, entry_in, entries_at, certificate_of}
use Rattle.certificate.specs.CertificateText.{header_text, entries_text, certificate_text}
use Rattle.certificate.specs.CertificateLaws.{HaveSplit, AllFit, AllInRange, RoundTripLaw}
use Rattle.certificate.proofs.Marks.{behind_again}
use Rattle.certificate.proofs.EntriesAgain.{entry_again}
use Rattle.certificate.proofs.LineEnds.{first_again, entry_inside, header_inside}

-- ---- the first line

value_again : (n : ℕ) (ds : List ℕ) → AllDigits 10 ds → decimal_on n ds ≡ Some (digits_value_after 10 n ds)
unfolding decimal_on
value_again n [] all = refl
value_again n (c ∷ cs) all =
    let range = digit_from_value c all.0 in
    let digit : is_ascii_digit c ≡ true = grind (arith, nat_tests, range) in
    let value = digit_value_digit c range in
    let same : 10 * n + (c - 48) ≡ n * 10 + digit_value c = omega (arith, value) in
    rw (digit, same) (value_again (n * 10 + digit_value c) cs all.1)

number_again : (n : ℕ) → n ≤ 65536 → decimal_on 0 (decimal n) ≡ Some n
number_again n few =
    let numeral = decimal_is_IsNumeral n (omega arith) in
    value_again 0 (decimal n) numeral.0.1 ∙ ap Some numeral.1

count_again : (n : ℕ) → 1 ≤ n → n ≤ 65536 → count_of (header_text n) ≡ Ok n
unfolding count_of header_text
count_again n some few =
    let numeral = decimal_is_IsNumeral n (omega arith) in
    let long : nat_le 1 (length (decimal n)) ≡ true = grind (arith, nat_tests, numeral.0.0) in
    let most = length-decimal-le 7 n (omega arith) (omega arith) (omega arith) in
    let short : nat_le (length (decimal n)) 7 ≡ true = grind (arith, nat_tests, most) in
    let least : nat_le 1 n ≡ true = grind (arith, nat_tests) in
    let within : nat_le n 65536 ≡ true = grind (arith, nat_tests) in
    rw (behind_again (codes "F8CERT 1 ") (decimal n), long, short, number_again n few, least, within) refl

-- ---- the bytes of tracked registers

same_byte : (o : Option ℕ) → option_eq nat_eq o o ≡ true
same_byte None = refl
same_byte (Some x) = let same : nat_eq x x ≡ true = grind (arith, nat_tests) in same

-- where the places of a point have what a function gives, each of the first ones passes
module _ (f : ℕ → Option ℕ) where
  place_at : (a n k : ℕ) → k < n → slice_index_or (map f (range_with_len a n)) k None ≡ f (a + k)
  place_at a zero k below = absurd (omega arith)
  place_at a (suc n) zero below = ap f (omega arith)
  place_at a (suc n) (suc k) below = let e : a + 1 + k ≡ a + suc k = omega arith in place_at (a + 1) n k (omega arith) ∙ ap f e

  all_same : (split : List (Option ℕ)) (a n : ℕ) → ((k : ℕ) → k < a + n → slice_index_or split k None ≡ f k) →
      list_all (λ place. option_eq nat_eq (f place) (slice_index_or split place None)) (range_with_len a n) ≡ true
  all_same split a zero same = refl
  all_same split a (suc n) same =
      rw (same a (omega arith), same_byte (f a), all_same split (a + 1) n (λ k below. same k (omega arith))) refl

pub has_split_again : (tracked : List ℕ) (p : Point) (s : AbstractState) → length tracked ≤ 8 → p.split ≡ tracked_bytes tracked s.registers →
    has_split tracked (p, s) ≡ true
has_split_again tracked p s few fits =
    all_same (tracked_byte tracked s.registers) p.split 0 (length tracked)
    (λ k below. ap (λ (xs : List (Option ℕ)). slice_index_or xs k None) fits ∙ place_at (tracked_byte tracked s.registers) 0 8 k (omega arith)
    ∙ ap (tracked_byte tracked s.registers) (omega arith))

-- ---- the lines of points

-- a point is below those of a list, if there is one
abbrev IsAhead : Option Point → List (Point × AbstractState) → Type 0
IsAhead None notes = Unit {0}
IsAhead (Some q) notes = AllByRecursion (λ p. point_cmp q p ≡ Less) (keys_of notes)

behind_it : (before : Option Point) (e : Point × AbstractState) (notes : List (Point × AbstractState)) → IsAhead before (e ∷ notes) →
    is_behind before e.0 ≡ true
behind_it None e notes ahead = refl
behind_it (Some q) e notes ahead = rw ahead.0 refl

lines_again : (tracked : List ℕ) (notes : List (Point × AbstractState)) (number : ℕ) (before : Option Point) → length tracked ≤ 8 →
    IsStrictlySortedBy point_cmp (keys_of notes) → IsAhead before notes → AllFit tracked notes →
    entries_at tracked (length notes) number before (entries_text (length tracked) notes) ≡ Ok notes
unfolding entries_at entry_in IsStrictlySortedBy
lines_again tracked [] number before few ascends ahead fits = refl
lines_again tracked (e ∷ notes) number before few ascends ahead fits =
    let n : ℕ = length tracked in
    let line : List ℕ = entry_text n e in
    let rest : List ℕ = entries_text n notes in
    rw (
      first_again line rest (entry_inside n e.0 e.1),
      entry_again tracked e.0 e.1 few fits.0,
      has_split_again tracked e.0 e.1 few fits.0.split,
      behind_it before e notes ahead,
      lines_again tracked notes (number + 1) (Some e.0) few ascends.1 ascends.0 fits.1,
    ) refl

-- ---- the text

pub again : (tracked : List ℕ) (notes : List (Point × AbstractState)) → length tracked ≤ 8 → 1 ≤ length notes → length notes ≤ 65536 →
    IsStrictlySortedBy point_cmp (keys_of notes) → AllFit tracked notes → certificate_of tracked (certificate_text tracked notes) ≡ Ok notes
unfolding header_at certificate_of certificate_text
again tracked notes few some most ascends fits =
    let count : ℕ = length notes in
    rw (first_again (header_text count) (entries_text (length tracked) notes) (header_inside count (omega arith)), count_again count some most)
    (lines_again tracked notes 2 None few ascends tt fits)

pub fitting : (tracked : List ℕ) (notes : List (Point × AbstractState)) → HaveSplit tracked notes → AllInRange notes → AllFit tracked notes
fitting tracked [] split ranges = tt
fitting tracked (e ∷ es) split ranges = (
  record { split = split.0; scratchpad = ranges.0.scratchpad; range = ranges.0.state; at = ranges.0.at; ret = ranges.0.ret },
  fitting tracked es split.1 ranges.1,
)

-- the same of a map as the program holds it, all of which is within its range
pub again_in_range : (tracked : List ℕ) (notes : List (Point × AbstractState)) → length tracked ≤ 8 → length notes ≤ 65536 →
    IsStrictlySortedBy point_cmp (keys_of notes) → AllInRange notes → HaveSplit tracked notes → 1 ≤ length notes →
    certificate_of tracked (certificate_text tracked notes) ≡ Ok notes
again_in_range tracked notes few most ascends ranges split some =
    again tracked notes few some most ascends (fitting tracked notes split ranges)

pub round_trip : RoundTripLaw
round_trip = record { again = again }
