-- the bytes so far
use Rattle.std.proofs.Common.{◌≡◌, take}
use Rattle.case_step.proofs.cases.listed.Given as goal

abbrev pub invariant-loop-byte : goal.invariant-loop-byte
invariant-loop-byte l = l.bytes.items ≡ take l.byte-index l.numbers
