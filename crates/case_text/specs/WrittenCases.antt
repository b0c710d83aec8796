-- The text of a list of entries, as it is written: each entry's line once, in their order, behind a first line with their number.
use Rattle.std.specs.Prelude.{ℕ, ◌<◌, ◌≡◌, nat_le, ◌&&◌, if◌then◌else◌, ◌==◌, Bool, List, [], ◌∷◌, ◌++◌, length, codes, decimal, flat_map}
use Rattle.std.specs.Prelude.{Option, Some, None}
use Rattle.std.specs.List.{AllByRecursion}
use Rattle.std.specs.Option.{ForSome}
use Rattle.std.specs.Ordering.{nat_cmp}
use Rattle.std.specs.Cmp.Lexicographic.{slice_cmp}
use Rattle.std.specs.BTreeSet.{insert_key}
use Rattle.f8_spec.specs.Spelling.{hex2, hex4, octal2}
use Rattle.certificate.specs.Parts.{bit_text, known_address_text}
use Rattle.certificate.specs.Entries.{status_text}
use Rattle.certificate.specs.CertificateText.{line_text}
use Rattle.case_step.specs.Entries.{EntryView}
use Rattle.case_text.specs.EntryWords.{listed, most_bytes, most_words}
use Rattle.case_text.specs.CasesText.{most_entries}

-- ---- parts; dashes stand for any value

abbrev pub byte_set_text : Option (List ℕ) → List ℕ
byte_set_text None = codes "--"
byte_set_text (Some bytes) = flat_map hex2 bytes

abbrev pub word_set_text : Option (List ℕ) → List ℕ
word_set_text None = codes "----"
word_set_text (Some words) = flat_map hex4 words

-- ISAR's numbers; dashes for all 64
abbrev pub numbers_text : List ℕ → List ℕ
numbers_text numbers = if length numbers == 64 then codes "--" else flat_map octal2 numbers

abbrev pub same_text : Option ℕ → List ℕ
same_text None = codes "--"
same_text (Some number) = octal2 number

-- the four facts: s0, s1, p0, p1
abbrev pub facts_text : EntryView → List ℕ
facts_text e = bit_text e.s0 ++ (bit_text e.s1 ++ (bit_text e.p0 ++ bit_text e.p1))

-- a word behind one blank
abbrev pub behind_blank : List ℕ → List ℕ
behind_blank word = codes " " ++ word

-- ---- a line, without its end

unfoldable pub entry_text : EntryView → List ℕ
entry_text e =
    hex4 e.at ++ (behind_blank (known_address_text e.ret) ++ (behind_blank (byte_set_text e.accumulator)
    ++ (behind_blank (numbers_text e.isar) ++ (behind_blank (status_text e.status) ++ (behind_blank (word_set_text e.d0)
    ++ (behind_blank (word_set_text e.d1) ++ (behind_blank (word_set_text e.c) ++ (behind_blank (facts_text e)
    ++ (behind_blank (same_text e.same) ++ flat_map (λ set. behind_blank (byte_set_text set)) e.scratchpad)))))))))

-- ---- the text

-- the lines of some entries besides others, in ascending order as texts, each once
abbrev pub lines_with : List (List ℕ) → List EntryView → List (List ℕ)
lines_with lines [] = lines
lines_with lines (e ∷ entries) = lines_with (insert_key (slice_cmp nat_cmp) lines (entry_text e)) entries

abbrev pub lines_of : List EntryView → List (List ℕ)
lines_of entries = lines_with [] entries

unfoldable pub text_of : List (List ℕ) → List ℕ
text_of lines = line_text (codes "F8CASES 1 " ++ decimal (length lines)) ++ flat_map line_text lines

-- a text has 67,108,864 bytes at most
abbrev pub most_text : ℕ
most_text = 67108864

abbrev pub is_writable : List (List ℕ) → Bool
is_writable lines = nat_le 1 (length lines) && (nat_le (length lines) most_entries && nat_le (length (text_of lines)) most_text)

-- the text of some entries, and none where they are too many, or their text is too long
unfoldable pub written : List EntryView → Option (List ℕ)
written entries = let lines = lines_of entries in if is_writable lines then Some (text_of lines) else None

-- ---- entries as a text can have them

-- at least one number and at most so many, in ascending order, each below a limit
abbrev pub AreListed : ℕ → ℕ → List ℕ → Type 0
AreListed most limit numbers = (listed most numbers ≡ Some numbers) × AllByRecursion (λ number. number < limit) numbers

abbrev pub IsByteSet : Option (List ℕ) → Type 0
IsByteSet set = ForSome set (AreListed most_bytes 256)

abbrev pub IsWordSet : Option (List ℕ) → Type 0
IsWordSet set = ForSome set (AreListed most_words 65536)

pub record IsInForm (e : EntryView) : Type 0 where
  pub at : e.at < 65536
  pub ret : ForSome e.ret (λ at. at < 65536)
  pub accumulator : IsByteSet e.accumulator
  pub isar : AreListed 64 64 e.isar
  pub d0 : IsWordSet e.d0
  pub d1 : IsWordSet e.d1
  pub c : IsWordSet e.c
  pub same : ForSome e.same (λ number. number < 64)
  pub size : length e.scratchpad ≡ 64
  pub scratchpad : AllByRecursion IsByteSet e.scratchpad
