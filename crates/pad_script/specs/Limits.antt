-- What the end of a script's run and its events can be (this project's own).
use Rattle.std.specs.Prelude.{◌≤◌, List}
use Rattle.std.specs.List.{AllByRecursion}
use Rattle.console_spec.specs.FreeRuns.{HasByte}
use Rattle.console_spec.specs.declared.At.{At}
use Rattle.console_spec.specs.declared.End.{End}
use Rattle.console_spec.specs.declared.End.TheVariants.{Frames, Steps}
use Rattle.pad_script.specs.declared.statement.Statement.{Statement}
use Rattle.pad_script.specs.declared.statement.Statement.TheVariants.{Ends}

-- a run ends at frame 600 at the latest, or after 1,000,000 instructions at most
abbrev pub HasLimits : End → Type 0
HasLimits (Frames n) = n ≤ 600
HasLimits (Steps n) = n ≤ 1000000

-- and so where a statement is an end
abbrev pub IsLimited : Statement → Type 0
IsLimited (Ends end) = HasLimits end
IsLimited statement = Unit {0}

-- what a port gets from outside is a byte
abbrev pub HaveBytes : List At → Type 0
HaveBytes events = AllByRecursion (λ at. HasByte at.event) events
