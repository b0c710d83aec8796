-- Where the first fault of a script is, and what it is. This is a law over the reading, and knows nothing of how it goes.
use Rattle.std.specs.Prelude.{◌≡◌, ℕ, ◌+◌, ◌<◌, ◌≤◌, List, [], length, Result, Ok, Err}
use Rattle.text_lines.specs.declared.read_error.ReadError.{ReadError}
use Rattle.text_lines.specs.declared.read_error.ReadError.TheVariants as answer
use Rattle.line_words.specs.Drafts.{said_in}
use Rattle.line_words.specs.FirstFault.{HasNoFault, IsFirstFault, TakesMemory}
use Rattle.pad_script.specs.declared.answers.ScriptCause.{ScriptCause}
use Rattle.pad_script.specs.declared.answers.ScriptCause.TheVariants.{Twice, TooMany, NoEnd}
use Rattle.pad_script.specs.declared.script.Script.{Script as KeptScript}
use Rattle.pad_script.specs.declared.statement.Statement.{Statement}
use Rattle.pad_script.specs.declared.statement.Statement.TheVariants.{Power, Ends, Comes, Shows}
use Rattle.pad_script.specs.Answers.{ScriptFault}
use Rattle.pad_script.specs.Statements.{line_of}
use Rattle.pad_script.specs.Telling.{ends, events, powers, shows, statements}

-- the lines of events and shown frames
abbrev pub counted_lines : List Statement → ℕ
counted_lines ss = length (events ss) + length (shows ss)

-- one power-on byte at most, one end at most, and 1,024 events and shown frames at most
pub record AreFew (ss : List Statement) : Type 0 where
  pub one_power : length (powers ss) ≤ 1
  pub one_end : length (ends ss) ≤ 1
  pub few : counted_lines ss ≤ 1024

-- a statement can't stand behind these: a second power-on byte, a second end, or one line more than 1,024
abbrev pub IsTooMuch : List Statement → Statement → ScriptCause → Type 0
IsTooMuch before (Power byte) cause = (0 < length (powers before)) × (cause ≡ Twice)
IsTooMuch before (Ends end) cause = (0 < length (ends before)) × (cause ≡ Twice)
IsTooMuch before (Comes at) cause = (counted_lines before ≡ 1024) × (cause ≡ TooMany)
IsTooMuch before (Shows frame) cause = (counted_lines before ≡ 1024) × (cause ≡ TooMany)

pub data IsScriptFault (ls : List (List ℕ)) (fault : ScriptFault) : Type 0 where
  -- at a line, with no fault before it
  AtLine : IsFirstFault line_of AreFew IsTooMuch ls fault → IsScriptFault ls fault
  -- behind the last line, where no line is at fault and none is an end
  BehindLast : HasNoFault line_of AreFew ls → ends (statements ls) ≡ [] → fault.line ≡ length ls + 1 →
      fault.cause ≡ NoEnd → IsScriptFault ls fault

-- a line of an event or a shown frame takes memory, and no other
abbrev pub IsCounted : List ℕ → Type 0
IsCounted line = 0 < counted_lines (said_in (line_of line))

-- An answer tells the first fault of a text, or that there is none. Memory is wanting only where a line takes it.
abbrev pub TellsFault : Result KeptScript (ReadError ScriptFault) → List (List ℕ) → Type 0
TellsFault (Ok script) ls = HasNoFault line_of AreFew ls
TellsFault (Err (answer.Fault fault)) ls = IsScriptFault ls fault
TellsFault (Err answer.Memory) ls = TakesMemory line_of AreFew IsCounted ls
