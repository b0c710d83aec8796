-- The causes by number, the cause where a word is no number within limits, and the fault of a text.
use Rattle.std.specs.Prelude.{ℕ, Result}
use Rattle.std.specs.Result.{result_map_both}
use Rattle.line_words.specs.declared.numbers.NumberFault.{NumberFault}
use Rattle.line_words.specs.declared.numbers.NumberFault.TheVariants.{NotNumber, OutOfRange}
use Rattle.line_words.specs.declared.text_fault.TextFault.{TextFault}
use Rattle.pad_script.specs.declared.answers.ScriptCause.{ScriptCause}
use Rattle.pad_script.specs.declared.answers.ScriptCause.TheVariants.{Word, Number, Range, TooMany, Twice, NoEnd}

-- the number of a cause
abbrev pub cause_number : ScriptCause → ℕ
cause_number Word = 1
cause_number Number = 2
cause_number Range = 3
cause_number TooMany = 4
cause_number Twice = 5
cause_number NoEnd = 6

-- the cause where a word isn't a number within its limits
abbrev pub cause_of : NumberFault → ScriptCause
cause_of NotNumber = Number
cause_of OutOfRange = Range

-- what is made of a number, where it is within its limits
abbrev pub made_of : {A : Type 0} → (ℕ → A) → Result ℕ NumberFault → Result A ScriptCause
made_of f number = result_map_both f cause_of number

-- the first fault of a script, at its line
abbrev pub ScriptFault : Type 0
ScriptFault = TextFault ScriptCause
