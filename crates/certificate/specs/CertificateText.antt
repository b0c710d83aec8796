-- The text of a certificate, both ways: an invariant map as lines, and the first fault of a text that is none.
use Rattle.std.specs.Prelude.{ℕ, zero, suc, ◌+◌, ◌==◌, nat_le, nat_eq, Bool, true, ◌&&◌, if◌then◌else◌, List, [], ◌∷◌, ◌++◌}
use Rattle.std.specs.Prelude.{length, take, drop, position, codes, decimal, flat_map, slice_index_or, Option, Some, None, option_map}
use Rattle.std.specs.Prelude.{Result, Ok, Err}
use Rattle.std.specs.List.{list_all, range_with_len}
use Rattle.std.specs.Option.{option_eq}
use Rattle.std.specs.Ordering.{is_lt}
use Rattle.abs_domain.specs.AbstractState.{AbstractState}
use Rattle.abs_domain.specs.PointOrder.{point_cmp}
use Rattle.abs_domain.specs.declared.points.Point.{Point}
use Rattle.abs_step.specs.Successors.{tracked_byte}
use Rattle.text_lines.specs.Steps.{◌>>=◌}
use Rattle.line_words.specs.Numbers.{number_of}
use Rattle.certificate.specs.Parts.{◌>>=◌ as ◌>>?◌, behind}
use Rattle.certificate.specs.Entries.{entry_of, entry_text}
use Rattle.certificate.specs.declared.answers.CertCause.{CertCause}
use Rattle.certificate.specs.declared.answers.CertCause.TheVariants.{Header, Count, Field, Order, End, SplitField}
use Rattle.certificate.specs.declared.answers.CertFault.{CertFault}

abbrev pub fault_at : {A : Type 0} → ℕ → CertCause → Result A CertFault
fault_at number cause = Err (record { line = number; cause = cause })

-- what is said of a line by its number
abbrev pub at_line : {A : Type 0} → ℕ → Result A CertCause → Result A CertFault
at_line number (Ok x) = Ok x
at_line number (Err cause) = fault_at number cause

-- ---- lines

-- what stands before the first line feed, and what is behind it; a line feed ends every line
unfoldable pub first_line : List ℕ → Option (List ℕ × List ℕ)
first_line text = option_map (λ at. (take at text, drop (at + 1) text)) (position (λ b. b == 10) text)

abbrev pub line_by : ℕ → Option (List ℕ × List ℕ) → Result (List ℕ × List ℕ) CertFault
line_by number None = fault_at number End
line_by number (Some x) = Ok x

abbrev pub line_at : ℕ → List ℕ → Result (List ℕ × List ℕ) CertFault
line_at number text = line_by number (first_line text)

-- ---- the first line: `F8CERT 1 N`, with the number of points

abbrev pub count_by : Option ℕ → Result ℕ CertCause
count_by None = Err Header
count_by (Some n) = if nat_le 1 n && nat_le n 65536 then Ok n else Err Count

unfoldable pub count_of : List ℕ → Result ℕ CertCause
count_of line = count_by (behind (codes "F8CERT 1 ") line >>? number_of)

-- the number of points by the first line of a text, and what is behind that line
unfoldable pub header_at : List ℕ → Result (ℕ × List ℕ) CertFault
header_at text = do
  line ← line_at 1 text
  count ← at_line 1 (count_of line.0)
  Ok (count, line.1)

-- ---- the lines of points

-- the scratchpad has the point's byte of the tracked register in a place, or dashes where that is unset
abbrev pub has_place : List ℕ → Point × AbstractState → ℕ → Bool
has_place tracked e place = option_eq nat_eq (tracked_byte tracked e.1.registers place) (slice_index_or e.0.split place None)

abbrev pub has_split : List ℕ → Point × AbstractState → Bool
has_split tracked e = list_all (has_place tracked e) (range_with_len 0 (length tracked))

-- a point is behind another one, if there is one
abbrev pub is_behind : Option Point → Point → Bool
is_behind None p = true
is_behind (Some q) p = is_lt (point_cmp q p)

abbrev pub entry_by : List ℕ → Option Point → Option (Point × AbstractState) → Result (Point × AbstractState) CertCause
entry_by tracked before None = Err Field
entry_by tracked before (Some e) =
    if has_split tracked e then (if is_behind before e.0 then Ok e else Err Order) else Err SplitField

-- a line behind that of another point
unfoldable pub entry_in : List ℕ → Option Point → List ℕ → Result (Point × AbstractState) CertCause
entry_in tracked before line = entry_by tracked before (entry_of (length tracked) line)

-- nothing is left for the line of a number
abbrev pub end_at : ℕ → List ℕ → Result (Unit {0}) CertFault
end_at number text = if length text == 0 then Ok tt else fault_at number End

-- so many lines from a number on, and nothing behind them
unfoldable pub entries_at : List ℕ → ℕ → ℕ → Option Point → List ℕ → Result (List (Point × AbstractState)) CertFault
entries_at tracked zero number before text = end_at number text >>= (λ nothing. Ok [])
entries_at tracked (suc left) number before text = do
  line ← line_at number text
  first ← at_line number (entry_in tracked before line.0)
  others ← entries_at tracked left (number + 1) (Some first.0) line.1
  Ok (first ∷ others)

-- ---- the text

-- the invariant map of a text, or its first fault
unfoldable pub certificate_of : List ℕ → List ℕ → Result (List (Point × AbstractState)) CertFault
certificate_of tracked text = do
  header ← header_at text
  entries_at tracked header.0 2 None header.1

-- the text of an invariant map
unfoldable pub header_text : ℕ → List ℕ
header_text count = codes "F8CERT 1 " ++ decimal count

abbrev pub line_text : List ℕ → List ℕ
line_text line = line ++ codes "\n"

abbrev pub entries_text : ℕ → List (Point × AbstractState) → List ℕ
entries_text tracked notes = flat_map (λ e. line_text (entry_text tracked e)) notes

unfoldable pub certificate_text : List ℕ → List (Point × AbstractState) → List ℕ
certificate_text tracked notes = line_text (header_text (length notes)) ++ entries_text (length tracked) notes
