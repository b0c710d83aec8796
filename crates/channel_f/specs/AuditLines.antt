-- The lines of an audit, and that of a trace at fault.
use Rattle.std.specs.Prelude.{ℕ, List, ◌++◌, codes, decimal}

-- some words with a number behind them
unfoldable pub numbered_line : List ℕ → ℕ → List ℕ
numbered_line words number = words ++ codes " " ++ decimal number ++ codes "\n"

-- the trace is the whole record of a free run with so many instructions that are done
abbrev pub accept_line : ℕ → List ℕ
accept_line instructions = numbered_line (codes "accept") instructions

-- it is the record of none: no free run goes on with the steps that begin at this line
abbrev pub reject_line : ℕ → List ℕ
reject_line line = numbered_line (codes "reject line") line

-- the line spells no bus step
abbrev pub trace_line : ℕ → List ℕ
trace_line line = numbered_line (codes "error trace line") line
