use Rattle.std.proofs.Common.{◌≡◌, ◌<◌, ◌^◌, take}
use Rattle.asm_text.specs.Bytes.{value}
use Rattle.asm_text.proofs.bytes.number.Given as goal

-- the number of the digits so far
abbrev pub invariant-loop-byte : goal.invariant-loop-byte
invariant-loop-byte l = record { so_far : l.sum ≡ value l.base (take l.byte-index l.digits); fits : l.sum < 2 ^ 32 }
