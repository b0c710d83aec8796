-- What a line says: one of the six forms, or its first fault in the order Word, Number, Range.
use Rattle.std.specs.Prelude.{ℕ, ◌&&◌, nat_le, if◌then◌else◌, List, [], ◌∷◌, codes, bytes_eq, Option, Some, None}
use Rattle.std.specs.Prelude.{Result, Ok, Err}
use Rattle.pad_script.specs.declared.answers.ScriptCause.{ScriptCause}
use Rattle.pad_script.specs.declared.answers.ScriptCause.TheVariants.{Word, Number, Range}
use Rattle.console_spec.specs.declared.Event.TheVariants.{Keys, Pulse}
use Rattle.console_spec.specs.declared.End.TheVariants.{Frames, Steps}
use Rattle.pad_script.specs.declared.statement.Statement.{Statement}
use Rattle.pad_script.specs.declared.statement.Statement.TheVariants.{Power, Ends, Comes, Shows}
use Rattle.pad_script.specs.Answers.{made_of}
use Rattle.line_words.specs.Drafts.{line_by}
use Rattle.line_words.specs.Words.{lone}
use Rattle.line_words.specs.Numbers.{byte_of, number_of, spelled, within}

-- ---- events

-- a key byte of a port, at a frame below 600
abbrev pub keys_with : Option ℕ → Option ℕ → Option ℕ → Result Statement ScriptCause
keys_with (Some frame) (Some port) (Some byte) =
    if nat_le frame 599 then Ok (Comes (record { frame = frame; event = Keys port byte })) else Err Range
keys_with frame port byte = Err Number

abbrev pub keys_at : List ℕ → List ℕ → List ℕ → Result Statement ScriptCause
keys_at frame port byte = keys_with (number_of frame) (byte_of port) (byte_of byte)

-- a pulse to one of 16 chips, at a frame below 600
abbrev pub pulse_with : Option ℕ → Option ℕ → Result Statement ScriptCause
pulse_with (Some frame) (Some chip) =
    if nat_le frame 599 && nat_le chip 15 then Ok (Comes (record { frame = frame; event = Pulse chip })) else Err Range
pulse_with frame chip = Err Number

abbrev pub pulse_at : List ℕ → List ℕ → Result Statement ScriptCause
pulse_at frame chip = pulse_with (number_of frame) (number_of chip)

-- `PP HH`
abbrev pub keys_of : List ℕ → List (List ℕ) → Result Statement ScriptCause
keys_of frame (port ∷ (byte ∷ [])) = keys_at frame port byte
keys_of frame ws = Err Word

-- `C`
abbrev pub pulse_of : List ℕ → List (List ℕ) → Result Statement ScriptCause
pulse_of frame (chip ∷ []) = pulse_at frame chip
pulse_of frame ws = Err Word

-- `keys PP HH` or `pulse C`
abbrev pub event_of : List ℕ → List (List ℕ) → Result Statement ScriptCause
event_of frame [] = Err Word
event_of frame (kind ∷ ws) =
    if bytes_eq kind (codes "keys") then keys_of frame ws else
    if bytes_eq kind (codes "pulse") then pulse_of frame ws else
    Err Word

-- `F` and an event
abbrev pub at_frame : List (List ℕ) → Result Statement ScriptCause
at_frame [] = Err Word
at_frame (frame ∷ ws) = event_of frame ws

-- ---- settings

-- `power HH`
unfoldable pub power : List ℕ → Result Statement ScriptCause
power byte = made_of Power (spelled (byte_of byte))

-- `frames N`
unfoldable pub frames : List ℕ → Result Statement ScriptCause
frames count = made_of (λ n. Ends (Frames n)) (within 1 600 (number_of count))

-- `steps N`
unfoldable pub steps : List ℕ → Result Statement ScriptCause
steps count = made_of (λ n. Ends (Steps n)) (within 0 1000000 (number_of count))

-- `show F`
unfoldable pub show : List ℕ → Result Statement ScriptCause
show frame = made_of Shows (within 1 600 (number_of frame))

-- a line of a name and one word
abbrev pub setting : List ℕ → List ℕ → Result Statement ScriptCause
setting name value =
    if bytes_eq name (codes "power") then power value else
    if bytes_eq name (codes "frames") then frames value else
    if bytes_eq name (codes "steps") then steps value else
    if bytes_eq name (codes "show") then show value else
    Err Word

-- a name and one word
abbrev pub setting_of : List ℕ → Option (List ℕ) → Result Statement ScriptCause
setting_of name None = Err Word
setting_of name (Some value) = setting name value

-- ---- lines

-- the words of a line
abbrev pub statement_of : List (List ℕ) → Result Statement ScriptCause
statement_of [] = Err Word
statement_of (name ∷ ws) = if bytes_eq name (codes "at") then at_frame ws else setting_of name (lone ws)

-- a line, which says nothing where it is skipped
unfoldable pub line_of : List ℕ → Result (Option Statement) ScriptCause
line_of line = line_by Word statement_of line
