-- The text of a printed trace: which of its lines tell of bus steps, and of which. A line that begins with `bus ` has one of the forms
-- `bus RR S BB WHO` and `bus RR S -- fault`, and every other line tells of nothing. Single blanks part words.
use Rattle.std.specs.Prelude.{ℕ, ◌+◌, ◌-◌, ◌*◌, Bool, true, false, ◌&&◌, ◌==◌, nat_le, nat_lt, if◌then◌else◌}
use Rattle.std.specs.Prelude.{List, [], ◌∷◌, ◌++◌, length, take, drop}
use Rattle.std.specs.Prelude.{codes, bytes_eq, Option, Some, None, option_map, Result, Ok, Err}
use Rattle.text_lines.specs.Steps.{◌>>=◌}
use Rattle.console_spec.specs.declared.Who.{Who}
use Rattle.console_spec.specs.declared.Who.TheVariants.{Cpu, Socket, Nobody}
use Rattle.text_lines.specs.Lines.{lines}
use Rattle.line_words.specs.Words.{words}
use Rattle.bus_audit.specs.declared.read.TraceFault.{TraceFault}
use Rattle.bus_audit.specs.declared.step.TraceStep.{TraceStep}
use Rattle.bus_audit.specs.declared.step.TraceWhat.{TraceWhat}
use Rattle.bus_audit.specs.declared.step.TraceWhat.TheVariants.{Byte, Fault}
use Rattle.bus_audit.specs.declared.trace.ToldLine.{ToldLine}
use Rattle.bus_audit.specs.Answers.{Trace}

-- ---- the words of a step

-- the value of a hexadecimal digit: 0 (48) to 9 (57), or a capital, A (65) to F (70)
abbrev pub digit_of : ℕ → Option ℕ
digit_of c =
    if nat_le 48 c && nat_le c 57 then Some (c - 48) else
    if nat_le 65 c && nat_le c 70 then Some (c - 55) else
    None

abbrev pub two_digits : Option ℕ → Option ℕ → Option ℕ
two_digits (Some high) (Some low) = Some (16 * high + low)
two_digits high low = None

-- a byte has two digits
unfoldable pub byte_of : List ℕ → Option ℕ
byte_of (high ∷ low ∷ []) = two_digits (digit_of high) (digit_of low)
byte_of word = None

abbrev pub below_32 : Option ℕ → Option ℕ
below_32 (Some n) = if nat_lt n 32 then Some n else None
below_32 None = None

-- a code is below 32
unfoldable pub code_of : List ℕ → Option ℕ
code_of word = below_32 (byte_of word)

-- a step is long, L, or short, S
unfoldable pub is_long : List ℕ → Option Bool
is_long word =
    if bytes_eq word (codes "L") then Some true else
    if bytes_eq word (codes "S") then Some false else
    None

-- a socket from 0 to 9 has one digit, and one from 10 to 15 a 1 (49) and a digit up to 5 (53)
abbrev pub socket_of : List ℕ → Option ℕ
socket_of (c ∷ []) = if nat_le 48 c && nat_le c 57 then Some (c - 48) else None
socket_of (ten ∷ c ∷ []) = if (ten == 49) && nat_le 48 c && nat_le c 53 then Some (10 + (c - 48)) else None
socket_of word = None

-- who drove a byte: the processor, nobody, or the chip in a socket
unfoldable pub who_of : List ℕ → Option Who
who_of word =
    if bytes_eq word (codes "cpu") then Some Cpu else
    if bytes_eq word (codes "-") then Some Nobody else
    option_map Socket (socket_of word)

abbrev pub served : Option ℕ → Option Who → Option TraceWhat
served (Some byte) (Some who) = Some (Byte byte who)
served byte who = None

-- what became of a step: `-- fault`, or its byte and who drove that
unfoldable pub what_of : List ℕ → List ℕ → Option TraceWhat
what_of byte who =
    if bytes_eq byte (codes "--") && bytes_eq who (codes "fault") then Some Fault else
    served (byte_of byte) (who_of who)

abbrev pub step_with : Option ℕ → Option Bool → Option TraceWhat → Option TraceStep
step_with (Some romc) (Some long) (Some what) = Some (record { romc = romc; long = long; what = what })
step_with romc long what = None

-- the step that the words behind `bus ` spell, if they spell one: its code, its length, and what became of it
unfoldable pub step_of : List (List ℕ) → Option TraceStep
step_of (code ∷ long ∷ byte ∷ who ∷ []) = step_with (code_of code) (is_long long) (what_of byte who)
step_of ws = None

-- ---- a line

-- what stands behind `bus `, where a line begins with these four bytes
abbrev pub behind_bus : List ℕ → Option (List ℕ)
behind_bus line = if bytes_eq (take 4 line) (codes "bus ") then Some (drop 4 line) else None

-- what is read in a line: where it begins so the step that it spells, or that it spells none and so is at fault; nothing in another line
abbrev pub read_in : List ℕ → Option (Option TraceStep)
read_in line = option_map (λ text. step_of (words text)) (behind_bus line)

-- ---- a text

-- one line more in front of those that tell of steps
abbrev pub told_by : ℕ → Option (Option TraceStep) → Result (List ToldLine) TraceFault → Result (List ToldLine) TraceFault
told_by number None later = later
told_by number (Some None) later = Err (record { line = number })
told_by number (Some (Some step)) later = later >>= (λ told. Ok (record { line = number; step = step } ∷ told))

-- the lines from this number on that tell of steps, or the first that is at fault
abbrev pub told_from : ℕ → List (List ℕ) → Result (List ToldLine) TraceFault
told_from number [] = Ok []
told_from number (l ∷ ls) = told_by number (read_in l) (told_from (number + 1) ls)

-- the trace of a text. Lines are counted from 1, and the line behind the last is one more than there are
unfoldable pub trace_of : List ℕ → Result Trace TraceFault
trace_of text = told_from 1 (lines text) >>= (λ told. Ok (record { told = told; after = length (lines text) + 1 }))

-- ---- a trace that is read so far, and one line more

abbrev pub no_line : Trace
no_line = record { told = []; after = 1 }

abbrev pub with_none : Trace → Trace
with_none trace = record trace { after = trace.after + 1 }

abbrev pub with_step : Trace → TraceStep → Trace
with_step trace step =
    record { told = trace.told ++ record { line = trace.after; step = step } ∷ []; after = trace.after + 1 }

abbrev pub with_read : Trace → Option (Option TraceStep) → Result Trace TraceFault
with_read trace None = Ok (with_none trace)
with_read trace (Some None) = Err (record { line = trace.after })
with_read trace (Some (Some step)) = Ok (with_step trace step)
