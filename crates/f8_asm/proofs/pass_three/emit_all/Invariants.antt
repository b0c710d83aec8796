use Rattle.std.proofs.Common.{drop}
use Rattle.f8_asm.specs.ParsedLines.{emit_parsed, emit_all_parsed}
use Rattle.f8_asm.specs.PassThree.{no_bytes}
use Rattle.f8_asm.proofs.Steps.{StepsOn}
use Rattle.f8_asm.proofs.pass_three.emit_all.Given as goal

-- the lines whose bytes are put and those that follow make the whole
abbrev pub invariant-loop-placed : goal.invariant-loop-placed
invariant-loop-placed l =
    StepsOn (emit_parsed l.symbols) l.table (drop l.placed-index l.lines) (emit_all_parsed l.symbols (no_bytes 65536) l.lines)
