-- How many bytes the lines of what is known at points have at most: 362 each, and with them a text may be.
use Rattle.std.proofs.Common.{◌≡◌, ℕ, ◌+◌, ◌*◌, ◌≤◌, Bool, true, false, cond, List, [], ◌∷◌, ◌++◌, length, map}
use Rattle.std.proofs.Common.{arith, le-leb, length-append}
use Rattle.std.specs.Prelude.{Option, Some, None, ◌==◌, codes, decimal, flat_map}
use Rattle.std.specs.List.{AllByRecursion}
use Rattle.std.specs.Ordering.{match_ordering, nat_cmp}
use Rattle.std.specs.Cmp.Lexicographic.{slice_cmp}
use Rattle.std.specs.BTreeSet.{insert_key}
use Rattle.std.specs.declared.cmp.Ordering.{Ordering}
use Rattle.std.specs.declared.cmp.Ordering.TheVariants.{Less, Equal, Greater}
use Rattle.std.proofs.lemmas.Fmt.{length-decimal-le}
use Rattle.f8_spec.specs.Spelling.{hex4, octal2}
use Rattle.abs_domain.specs.AbstractState.{AbstractState, HasScratchpad, KnownStatus}
use Rattle.abs_domain.specs.declared.points.Point.{Point}
use Rattle.abs_step.specs.RegisterWrites.{Target}
use Rattle.abs_step.proofs.Knowing.{both_of}
use Rattle.certificate.specs.Parts.{bit_text, known_bit_text, known_address_text}
use Rattle.certificate.specs.Entries.{status_text}
use Rattle.certificate.specs.CertificateText.{line_text}
use Rattle.value_sets.specs.ValueSets.{set_of}
use Rattle.case_step.specs.Entries.{EntryView}
use Rattle.noted_cases.specs.NotedEntries.{noted_entry, numbers_by}
use Rattle.noted_cases.proofs.NumberSets.{few_numbers}
use Rattle.case_text.specs.WrittenCases.{behind_blank, byte_set_text, word_set_text, numbers_text, facts_text, entry_text}
use Rattle.case_text.specs.WrittenCases.{lines_with, lines_of, text_of, is_writable}

-- ---- parts

-- a text of so many bytes at most
record AtMost (most : ℕ) (text : List ℕ) : Type 0 where
  within : length text ≤ most

ahead : {a b : ℕ} {xs ys : List ℕ} → AtMost a xs → AtMost b ys → AtMost (a + b) (xs ++ ys)
ahead {a = a} {b = b} {xs = xs} {ys = ys} first second =
    record { within = omega (arith, length-append xs ys, first.within, second.within) }

behind : {a : ℕ} {xs : List ℕ} → AtMost a xs → AtMost (1 + a) (behind_blank xs)
behind {a = a} {xs = xs} word = let blank : AtMost 1 (codes " ") = record { within = omega arith } in ahead blank word

address_size : (at : Option ℕ) → AtMost 4 (known_address_text at)
address_size None = record { within = omega arith }
address_size (Some at) = record { within = omega arith }

byte_size : (known : Option ℕ) → AtMost 2 (byte_set_text (set_of known))
byte_size None = record { within = omega arith }
byte_size (Some byte) = record { within = omega arith }

word_size : (known : Option ℕ) → AtMost 4 (word_set_text (set_of known))
word_size None = record { within = omega arith }
word_size (Some word) = record { within = omega arith }

octals_size : (numbers : List ℕ) → AtMost (2 * length numbers) (flat_map octal2 numbers)
octals_size [] = record { within = omega arith }
octals_size (number ∷ numbers) = let rest = octals_size numbers in record { within = omega (arith, rest.within) }

numbers_size : (isar : Target) → AtMost 128 (numbers_text (numbers_by isar))
numbers_size isar = by (length (numbers_by isar) == 64)
  where
    by : (b : Bool) → AtMost 128 (cond b (codes "--") (flat_map octal2 (numbers_by isar)))
    by true = record { within = omega arith }
    by false = let all = octals_size (numbers_by isar) in record { within = omega (arith, all.within, few_numbers isar) }

bit_size : (bit : Bool) → AtMost 1 (bit_text bit)
bit_size true = record { within = omega arith }
bit_size false = record { within = omega arith }

known_bit_size : (bit : Option Bool) → AtMost 1 (known_bit_text bit)
known_bit_size None = record { within = omega arith }
known_bit_size (Some bit) = bit_size bit

status_size : (w : KnownStatus) → AtMost 5 (status_text w)
unfolding status_text
status_size w =
    ahead (known_bit_size w.sign) (ahead (known_bit_size w.carry) (ahead (known_bit_size w.zero)
    (ahead (known_bit_size w.overflow) (known_bit_size w.icb))))

facts_size : (e : EntryView) → AtMost 4 (facts_text e)
facts_size e = ahead (bit_size e.s0) (ahead (bit_size e.s1) (ahead (bit_size e.p0) (bit_size e.p1)))

registers_size : (known : List (Option ℕ)) →
    AtMost (3 * length known) (flat_map (λ set. behind_blank (byte_set_text set)) (map set_of known))
registers_size [] = record { within = omega arith }
registers_size (x ∷ known) =
    let both = ahead (behind (byte_size x)) (registers_size known) in record { within = omega (arith, both.within) }

-- ---- a line

-- a line of at most 362 bytes
abbrev pub IsShort : EntryView → Type 0
IsShort e = length (entry_text e) ≤ 362

pub note_short : (p : Point) (s : AbstractState) → HasScratchpad s → IsShort (noted_entry (p, s))
unfolding noted_entry entry_text
note_short p s whole =
    let scratchpad : AtMost 192 (flat_map (λ set. behind_blank (byte_set_text set)) (map set_of s.registers.scratchpad)) =
    record { within = omega (arith, (registers_size s.registers.scratchpad).within, whole) } in
    let address : AtMost 4 (hex4 p.at) = record { within = omega arith } in
    let none : AtMost 2 (codes "--") = record { within = omega arith } in
    let numbers = numbers_size (record { high = s.registers.high; low = s.registers.low }) in
    (ahead address (ahead (behind (address_size p.ret)) (ahead (behind (byte_size s.registers.accumulator))
    (ahead (behind numbers) (ahead (behind (status_size s.registers.status)) (ahead (behind (word_size s.counters.d0))
    (ahead (behind (word_size s.counters.d1)) (ahead (behind (word_size s.counters.c)) (ahead (behind (facts_size (noted_entry (p, s))))
    (ahead (behind none) scratchpad)))))))))).within

pub notes_short : (notes : List (Point × AbstractState)) → AllByRecursion (λ note. HasScratchpad note.1) notes →
    AllByRecursion IsShort (map noted_entry notes)
notes_short [] whole = tt
notes_short (note ∷ notes) whole = (note_short note.0 note.1 whole.0, notes_short notes whole.1)

-- ---- lines that are put one by one into an ordered set

-- how many bytes lines have with their ends
abbrev size_of : List (List ℕ) → ℕ
size_of lines = length (flat_map line_text lines)

abbrev put : List (List ℕ) → List ℕ → List (List ℕ)
put lines line = insert_key (slice_cmp nat_cmp) lines line

line_size : (line rest : List ℕ) → length (line_text line ++ rest) ≡ length rest + (length line + 1)
line_size line rest =
    let whole = length-append (line_text line) rest in
    let end = length-append line (codes "\n") in
    omega (arith, whole, end)

-- there is a line, no fewer than before, one more at most, and with no more bytes than the new one has besides
record IsPut (before after : List (List ℕ)) (line : List ℕ) : Type 0 where
  some : 1 ≤ length after
  kept : length before ≤ length after
  few : length after ≤ length before + 1
  short : size_of after ≤ size_of before + (length line + 1)

put_line : (lines : List (List ℕ)) (line : List ℕ) → IsPut lines (put lines line) line
put_line [] line = record {
  some = omega arith;
  kept = omega arith;
  few = omega arith;
  short = let size = line_size line [] in omega (arith, size);
}
put_line (x ∷ lines) line = by (slice_cmp nat_cmp line x) (put_line lines line)
  where
    by : (r : Ordering) → IsPut lines (put lines line) line →
        IsPut (x ∷ lines) (match_ordering r (line ∷ x ∷ lines) (x ∷ lines) (x ∷ put lines line)) line
    by Less more = record {
      some = omega arith;
      kept = omega arith;
      few = omega arith;
      short = let size = line_size line (flat_map line_text (x ∷ lines)) in omega (arith, size);
    }
    by Equal more = record { some = omega arith; kept = omega arith; few = omega arith; short = omega arith }
    by Greater more = record {
      some = omega arith;
      kept = omega (arith, more.kept);
      few = omega (arith, more.few);
      short =
          let old = line_size x (flat_map line_text lines) in
          let new = line_size x (flat_map line_text (put lines line)) in
          omega (arith, old, new, more.short);
    }

-- the lines of some entries besides others: no fewer, one more for each at most, and at most 363 bytes more
record AreWith (before after : List (List ℕ)) (entries : ℕ) : Type 0 where
  kept : length before ≤ length after
  few : length after ≤ length before + entries
  short : size_of after ≤ size_of before + 363 * entries

lines_added : (lines : List (List ℕ)) (entries : List EntryView) → AllByRecursion IsShort entries →
    AreWith lines (lines_with lines entries) (length entries)
lines_added lines [] short = record { kept = omega arith; few = omega arith; short = omega arith }
lines_added lines (e ∷ entries) short =
    let line : List ℕ = entry_text e in
    let within : length line ≤ 362 = short.0 in
    let one = put_line lines line in
    let all = lines_added (put lines line) entries short.1 in
    record {
      kept = omega (arith, one.kept, all.kept);
      few = omega (arith, one.few, all.few);
      short = omega (arith, one.short, all.short, within);
    }

some_line : (entries : List EntryView) → AllByRecursion IsShort entries → 1 ≤ length entries → 1 ≤ length (lines_of entries)
some_line [] short some = absurd (omega arith)
some_line (e ∷ entries) short some =
    let one = put_line [] (entry_text e) in
    let all = lines_added (put [] (entry_text e)) entries short.1 in
    omega (arith, one.some, all.kept)

text_size : (lines : List (List ℕ)) → length lines ≤ 65536 → length (text_of lines) ≤ 16 + size_of lines
unfolding text_of
text_size lines few =
    let count : ℕ = length lines in
    let header : List ℕ = codes "F8CASES 1 " ++ decimal count in
    let whole = line_size header (flat_map line_text lines) in
    let first = length-append (codes "F8CASES 1 ") (decimal count) in
    let digits : length (decimal count) ≤ 5 = length-decimal-le 5 count (omega arith) (omega arith) (omega arith) in
    omega (arith, whole, first, digits)

-- at least one entry and at most 65,536, each with a short line, have a text
pub writable : (entries : List EntryView) → AllByRecursion IsShort entries → 1 ≤ length entries → length entries ≤ 65536 →
    is_writable (lines_of entries) ≡ true
writable entries short some few =
    let lines : List (List ℕ) = lines_of entries in
    let all = lines_added [] entries short in
    let count : length lines ≤ 65536 = omega (arith, all.few, few) in
    let size : length (text_of lines) ≤ 67108864 = omega (arith, text_size lines count, all.short, few) in
    both_of _ _ (le-leb 1 (length lines) (some_line entries short some))
    (both_of _ _ (le-leb (length lines) 65536 count) (le-leb (length (text_of lines)) 67108864 size))
