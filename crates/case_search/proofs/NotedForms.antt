-- What is known at points is entries in form, where each state fits its point.
use Rattle.std.proofs.Common.{◌≡◌, ℕ, zero, suc, ◌+◌, ◌≤◌, ◌<◌, Bool, true, false, cond, List, [], ◌∷◌, length, map}
use Rattle.std.proofs.Common.{refl, subst, inl, inr, le-leb, lt-ltb, arith}
use Rattle.std.specs.Prelude.{Option, Some, None, filter, slice_index_or}
use Rattle.std.specs.List.{AllByRecursion, range_with_len}
use Rattle.std.specs.Option.{ForSome}
use Rattle.std.proofs.lemmas.List.{length-map}
use Rattle.abs_domain.specs.AbstractState.{AbstractState}
use Rattle.abs_domain.specs.Lattice.{Below}
use Rattle.abs_domain.specs.declared.points.Point.{Point}
use Rattle.abs_step.specs.CartridgeAnalysis.{FitsPoint}
use Rattle.abs_step.specs.RegisterWrites.{Target, target_allows}
use Rattle.abs_step.proofs.KnownNumbers.{filled, filled_small}
use Rattle.abs_step.proofs.Knowing.{both_of}
use Rattle.abs_step.proofs.Members.{IsIn, all_of}
use Rattle.value_sets.specs.ValueSets.{set_of}
use Rattle.noted_cases.specs.NotedEntries.{noted_entry, numbers_by}
use Rattle.noted_cases.proofs.NumberSets.{digits_number, few_numbers, number_small}
use Rattle.case_text.specs.EntryWords.{is_ascending, listed, most_bytes, most_words}
use Rattle.case_text.specs.WrittenCases.{AreListed, IsByteSet, IsWordSet, IsInForm}

-- ---- sets of what is known

of_known : (known : Option ℕ) (P : List ℕ → Type 0) → ((x : ℕ) → known ≡ Some x → P (x ∷ [])) → ForSome (set_of known) P
of_known None P each numbers is = absurd (cc)
of_known (Some x) P each numbers is = let same : x ∷ [] ≡ numbers = cc in subst P same (each x refl)

known_byte : (known : Option ℕ) → ForSome known (λ byte. byte < 256) → IsByteSet (set_of known)
known_byte known small = of_known known (AreListed most_bytes 256) (λ x is. (refl, (small x is, tt)))

known_word : (known : Option ℕ) → ForSome known (λ at. at < 65536) → IsWordSet (set_of known)
known_word known small = of_known known (AreListed most_words 65536) (λ x is. (refl, (small x is, tt)))

known_bytes : (known : List (Option ℕ)) → ((number : ℕ) → ForSome (slice_index_or known number None) (λ byte. byte < 256)) →
    AllByRecursion IsByteSet (map set_of known)
known_bytes [] small = tt
known_bytes (x ∷ known) small = (known_byte x (small 0), known_bytes known (λ number. small (suc number)))

-- ---- ISAR's numbers ascend

-- the first number, if there is one, is no smaller
abbrev IsFrom : ℕ → List ℕ → Type 0
IsFrom from [] = Unit {0}
IsFrom from (x ∷ numbers) = from ≤ x

record Ascends (from : ℕ) (numbers : List ℕ) : Type 0 where
  ordered : is_ascending numbers ≡ true
  first : IsFrom from numbers

ahead_of : (x : ℕ) (numbers : List ℕ) → Ascends (x + 1) numbers → is_ascending (x ∷ numbers) ≡ true
ahead_of x [] later = refl
ahead_of x (y ∷ numbers) later = both_of _ _ (lt-ltb x y (let above : x + 1 ≤ y = later.first in omega arith)) later.ordered

no_sooner : (x : ℕ) (numbers : List ℕ) → IsFrom (x + 1) numbers → IsFrom x numbers
no_sooner x [] first = tt
no_sooner x (y ∷ numbers) first = let above : x + 1 ≤ y = first in omega arith

passed_ascend : (test : ℕ → Bool) (from n : ℕ) → Ascends from (filter test (range_with_len from n))
passed_ascend test from zero = record { ordered = refl; first = tt }
passed_ascend test from (suc n) = by (test from) (filter test (range_with_len (from + 1) n)) (passed_ascend test (from + 1) n)
  where
    by : (b : Bool) (numbers : List ℕ) → Ascends (from + 1) numbers → Ascends from (cond b (from ∷ numbers) numbers)
    by true numbers later = record { ordered = ahead_of from numbers later; first = omega arith }
    by false numbers later = record { ordered = later.ordered; first = no_sooner from numbers later.first }

-- ---- and there is at least one

some_in : (x : ℕ) (numbers : List ℕ) → IsIn x numbers → 1 ≤ length numbers
some_in x [] is = absurd is
some_in x (y ∷ numbers) is = omega arith

filled_below : (known : Option ℕ) → Below (Some (filled known)) known
filled_below None = tt
filled_below (Some x) = refl

some_number : (isar : Target) → ForSome isar.high (λ digit. digit < 8) → ForSome isar.low (λ digit. digit < 8) →
    1 ≤ length (numbers_by isar)
some_number isar high low =
    let above : filled isar.high < 8 = filled_small 8 isar.high (omega arith) high in
    let beside : filled isar.low < 8 = filled_small 8 isar.low (omega arith) low in
    some_in _ (numbers_by isar)
    (digits_number isar (filled isar.high) (filled isar.low) above beside (filled_below isar.high) (filled_below isar.low))

is_listed : (most : ℕ) (numbers : List ℕ) → 1 ≤ length numbers → length numbers ≤ most → is_ascending numbers ≡ true →
    listed most numbers ≡ Some numbers
is_listed most numbers some few ordered = rw (le-leb 1 (length numbers) some, le-leb (length numbers) most few, ordered) refl

numbers_listed : (isar : Target) → ForSome isar.high (λ digit. digit < 8) → ForSome isar.low (λ digit. digit < 8) →
    AreListed 64 64 (numbers_by isar)
numbers_listed isar high low = (
  is_listed 64 (numbers_by isar) (some_number isar high low) (few_numbers isar) (passed_ascend (target_allows isar) 0 64).ordered,
  all_of (λ number. number < 64) (numbers_by isar) (number_small isar),
)

-- ---- entries

pub note_in_form : (tracked : List ℕ) (p : Point) (s : AbstractState) → FitsPoint tracked p s → IsInForm (noted_entry (p, s))
unfolding noted_entry
note_in_form tracked p s fits = record {
  at = fits.at;
  ret = fits.ret;
  accumulator = known_byte s.registers.accumulator fits.range.accumulator;
  isar = numbers_listed (record { high = s.registers.high; low = s.registers.low }) fits.range.high fits.range.low;
  d0 = known_word s.counters.d0 fits.range.d0;
  d1 = known_word s.counters.d1 fits.range.d1;
  c = known_word s.counters.c fits.range.c;
  same = λ number is. absurd (cc);
  size = let whole : length s.registers.scratchpad ≡ 64 = fits.scratchpad in rw (length-map s.registers.scratchpad set_of) whole;
  scratchpad = known_bytes s.registers.scratchpad fits.range.scratchpad;
}

pub notes_in_form : (tracked : List ℕ) (notes : List (Point × AbstractState)) →
    ((p : Point) (s : AbstractState) → IsIn (p, s) notes → FitsPoint tracked p s) → AllByRecursion IsInForm (map noted_entry notes)
notes_in_form tracked [] fits = tt
notes_in_form tracked (note ∷ notes) fits = (
  note_in_form tracked note.0 note.1 (fits note.0 note.1 (inl refl)),
  notes_in_form tracked notes (λ p s later. fits p s (inr later)),
)
