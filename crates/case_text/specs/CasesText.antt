-- The text of a list of entries, as it is read, and the first fault of a text that is none.
use Rattle.std.specs.Prelude.{ℕ, zero, suc, ◌+◌, ◌-◌, ◌==◌, nat_le, nat_lt, Bool, true, ◌&&◌, ◌||◌, if◌then◌else◌, List, [], ◌∷◌}
use Rattle.std.specs.Prelude.{length, map, codes, Option, Some, None, Result, Ok, Err}
use Rattle.std.specs.Ordering.{is_lt, nat_cmp}
use Rattle.std.specs.Cmp.Lexicographic.{slice_cmp}
use Rattle.text_lines.specs.Steps.{◌>>=◌}
use Rattle.line_words.specs.Numbers.{number_of}
use Rattle.line_words.specs.Words.{words}
use Rattle.certificate.specs.CertificateText.{first_line}
use Rattle.certificate.specs.Parts.{◌>>=◌ as ◌>>?◌, behind}
use Rattle.case_step.specs.Entries.{EntryView}
use Rattle.case_text.specs.EntryWords.{entry_of}
use Rattle.case_text.specs.declared.cause.CasesCause.{CasesCause}
use Rattle.case_text.specs.declared.cause.CasesCause.TheVariants.{Header, Count, Field, Order, End}
use Rattle.case_text.specs.declared.cause.CasesFault.{CasesFault}

-- the causes by number
abbrev pub cause_number : CasesCause → ℕ
cause_number Header = 1
cause_number Count = 2
cause_number Field = 3
cause_number Order = 4
cause_number End = 5

abbrev pub fault_at : {A : Type 0} → ℕ → CasesCause → Result A CasesFault
fault_at number cause = Err (record { line = number; cause = cause })

-- what is said of a line by its number
abbrev pub at_line : {A : Type 0} → ℕ → Result A CasesCause → Result A CasesFault
at_line number (Ok x) = Ok x
at_line number (Err cause) = fault_at number cause

-- ---- lines, each with a line feed at its end

abbrev pub line_by : ℕ → Option (List ℕ × List ℕ) → Result (List ℕ × List ℕ) CasesFault
line_by number None = fault_at number End
line_by number (Some x) = Ok x

abbrev pub line_at : ℕ → List ℕ → Result (List ℕ × List ℕ) CasesFault
line_at number text = line_by number (first_line text)

-- nothing is left for the line of a number
abbrev pub end_at : ℕ → List ℕ → Result (Unit {0}) CasesFault
end_at number text = if length text == 0 then Ok tt else fault_at number End

-- ---- the first line: `F8CASES 1 N`, with the number of entries

abbrev pub most_entries : ℕ
most_entries = 65536

abbrev pub count_by : Option ℕ → Result ℕ CasesCause
count_by None = Err Header
count_by (Some n) = if nat_le 1 n && nat_le n most_entries then Ok n else Err Count

unfoldable pub count_of : List ℕ → Result ℕ CasesCause
count_of line = count_by (behind (codes "F8CASES 1 ") line >>? number_of)

unfoldable pub header_at : List ℕ → Result (ℕ × List ℕ) CasesFault
header_at text = do
  line ← line_at 1 text
  count ← at_line 1 (count_of line.0)
  Ok (count, line.1)

-- ---- the lines of entries, in their order: by address, and at one address as texts with capitals for small letters

abbrev pub capital : ℕ → ℕ
capital c = if nat_le 97 c && nat_le c 122 then c - 32 else c

abbrev pub is_text_behind : List ℕ → List ℕ → Bool
is_text_behind before line = is_lt (slice_cmp nat_cmp (map capital before) (map capital line))

-- an entry's address and its line
abbrev pub is_behind : Option (ℕ × List ℕ) → ℕ → List ℕ → Bool
is_behind None at line = true
is_behind (Some last) at line = nat_lt last.0 at || ((last.0 == at) && is_text_behind last.1 line)

abbrev pub entry_by : Option (ℕ × List ℕ) → List ℕ → Option EntryView → Result EntryView CasesCause
entry_by before line None = Err Field
entry_by before line (Some e) = if is_behind before e.at line then Ok e else Err Order

-- a line behind that of another entry
unfoldable pub entry_in : Option (ℕ × List ℕ) → List ℕ → Result EntryView CasesCause
entry_in before line = entry_by before line (entry_of (words line))

-- so many lines from a number on, and nothing behind them
unfoldable pub entries_at : ℕ → ℕ → Option (ℕ × List ℕ) → List ℕ → Result (List EntryView) CasesFault
entries_at zero number before text = end_at number text >>= (λ nothing. Ok [])
entries_at (suc left) number before text = do
  line ← line_at number text
  first ← at_line number (entry_in before line.0)
  others ← entries_at left (number + 1) (Some (first.at, line.0)) line.1
  Ok (first ∷ others)

-- ---- the text

-- the entries of a text, or its first fault
unfoldable pub cases_of : List ℕ → Result (List EntryView) CasesFault
cases_of text = do
  header ← header_at text
  entries_at header.0 2 None header.1
