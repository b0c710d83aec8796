use Rattle.std.proofs.Common.{drop}
use Rattle.f8_asm.proofs.Steps.{StepsOn}
use Rattle.f8_link.specs.ThirdPass.{no_code, emit, emit_lines}
use Rattle.f8_link.proofs.third_pass.emit_all.Given as goal

-- the lines whose bytes are there and those that follow make the whole
abbrev pub invariant-loop-placed : goal.invariant-loop-placed
invariant-loop-placed l =
    StepsOn (emit l.names l.imports) l.code (drop l.placed-index l.lines) (emit_lines l.names l.imports no_code l.lines)
