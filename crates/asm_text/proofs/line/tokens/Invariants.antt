use Rattle.std.proofs.Common.{◌≡◌, ◌+◌, length}
use Rattle.asm_text.specs.Tokens.{tokens_of}
use Rattle.asm_text.proofs.Scan.{SoFar}
use Rattle.asm_text.proofs.line.tokens.Given as goal

-- the tokens found, before those of the rest, are those of the line; each byte is one column
abbrev pub invariant-loop-rest : goal.invariant-loop-rest
invariant-loop-rest l = record { read : SoFar l.found.items l.column l.rest (tokens_of l.line); columns : l.column + length l.rest ≡ length l.line + 1 }

-- each turn leaves less
abbrev pub decreases-loop-rest : goal.decreases-loop-rest
decreases-loop-rest l = length l.rest
