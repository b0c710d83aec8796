-- The script of a text, or its first fault.
use Rattle.std.specs.Prelude.{ℕ, ◌+◌, ◌==◌, Bool, if◌then◌else◌, List, [], ◌∷◌, ◌++◌, length, Option, Some, None}
use Rattle.std.specs.Prelude.{is_some, option_map, unwrap_or, Result, Ok, Err}
use Rattle.text_lines.specs.Lines.{lines}
use Rattle.text_lines.specs.Steps.{◌>>=◌}
use Rattle.line_words.specs.Drafts.{after_lines, draft_by}
use Rattle.console_spec.specs.declared.At.{At}
use Rattle.console_spec.specs.declared.End.{End}
pub use Rattle.console_spec.specs.Scripts.{Script}
use Rattle.pad_script.specs.declared.answers.ScriptCause.{ScriptCause}
use Rattle.pad_script.specs.declared.answers.ScriptCause.TheVariants.{Twice, TooMany, NoEnd}
use Rattle.pad_script.specs.declared.script.Script.{Script as KeptScript}
use Rattle.pad_script.specs.declared.statement.Statement.{Statement}
use Rattle.pad_script.specs.declared.statement.Statement.TheVariants.{Power, Ends, Comes, Shows}
use Rattle.pad_script.specs.Answers.{ScriptFault}
use Rattle.pad_script.specs.Statements.{line_of}

-- a script, without where it lies in memory
abbrev pub seen : KeptScript → Script
seen script = record { power = script.power; end = script.end; events = script.events; shows = script.shows }

-- what some lines have said
pub record Draft : Type 0 where
  pub power : Option ℕ
  pub end : Option End
  pub events : List At
  pub shows : List ℕ

unfoldable pub no_draft : Draft
no_draft = record { power = None; end = None; events = []; shows = [] }

-- ---- one line

-- 1,024 lines of events and shown frames
abbrev pub is_full : Draft → Bool
is_full d = length d.events + length d.shows == 1024

-- a second power-on byte and a second end are Twice, and the 1,025th line of an event or a shown frame is TooMany
unfoldable pub said_with : Draft → Statement → Result Draft ScriptCause
said_with d (Power byte) = if is_some d.power then Err Twice else Ok (record d { power = Some byte })
said_with d (Ends end) = if is_some d.end then Err Twice else Ok (record d { end = Some end })
said_with d (Comes at) = if is_full d then Err TooMany else Ok (record d { events = d.events ++ at ∷ [] })
said_with d (Shows frame) = if is_full d then Err TooMany else Ok (record d { shows = d.shows ++ frame ∷ [] })

unfoldable pub read_line : Draft → List ℕ → Result Draft ScriptCause
read_line d line = draft_by said_with d (line_of line)

-- ---- all lines

-- the script, if there is an end
unfoldable pub script_in : Draft → Option Script
script_in d =
    option_map (λ end. record { power = unwrap_or d.power 0; end = end; events = d.events; shows = d.shows }) d.end

-- the text ends before this line
abbrev pub script_at : ℕ → Option Script → Result Script ScriptFault
script_at number None = Err (record { line = number; cause = NoEnd })
script_at number (Some script) = Ok script

-- the script of lines, or their first fault
abbrev pub script_by : List (List ℕ) → Result Script ScriptFault
script_by ls = after_lines read_line 1 no_draft ls >>= (λ d. script_at (length ls + 1) (script_in d))

-- and that of a text
abbrev pub script_of : List ℕ → Result Script ScriptFault
script_of text = script_by (lines text)
