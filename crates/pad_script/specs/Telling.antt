-- What a script has is what the lines of its text say, in their order. This is a law over the reading, and knows nothing of how it goes.
use Rattle.std.specs.Prelude.{◌≡◌, ℕ, List, [], ◌∷◌, Option, Some, None}
use Rattle.std.specs.List.{filter_map}
use Rattle.line_words.specs.Drafts.{statements_by}
use Rattle.console_spec.specs.declared.At.{At}
use Rattle.console_spec.specs.declared.End.{End}
use Rattle.pad_script.specs.declared.statement.Statement.{Statement}
use Rattle.pad_script.specs.declared.statement.Statement.TheVariants.{Power, Ends, Comes, Shows}
use Rattle.pad_script.specs.Reading.{Script}
use Rattle.pad_script.specs.Statements.{line_of}

-- what lines say
abbrev pub statements : List (List ℕ) → List Statement
statements ls = statements_by line_of ls

-- the power-on bytes
abbrev pub power_in : Statement → Option ℕ
power_in (Power byte) = Some byte
power_in statement = None

abbrev pub powers : List Statement → List ℕ
powers ss = filter_map power_in ss

-- the ends of the run
abbrev pub end_in : Statement → Option End
end_in (Ends end) = Some end
end_in statement = None

abbrev pub ends : List Statement → List End
ends ss = filter_map end_in ss

-- the events
abbrev pub event_in : Statement → Option At
event_in (Comes at) = Some at
event_in statement = None

abbrev pub events : List Statement → List At
events ss = filter_map event_in ss

-- the shown frames
abbrev pub show_in : Statement → Option ℕ
show_in (Shows frame) = Some frame
show_in statement = None

abbrev pub shows : List Statement → List ℕ
shows ss = filter_map show_in ss

-- the power-on byte is the only one, or 00 where there is none
abbrev pub IsPower : List ℕ → ℕ → Type 0
IsPower [] power = power ≡ 0
IsPower (byte ∷ []) power = power ≡ byte
IsPower (byte ∷ (other ∷ bytes)) power = ⊥

-- a script is what is said: at most one power-on byte, one end, and all events and shown frames in their order
pub record IsTold (ss : List Statement) (script : Script) : Type 0 where
  pub power : IsPower (powers ss) script.power
  pub end : ends ss ≡ script.end ∷ []
  pub events : script.events ≡ events ss
  pub shows : script.shows ≡ shows ss
