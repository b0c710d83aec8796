-- The bytes so far are told.
use Rattle.std.proofs.Common.{◌≡◌, ◌++◌, take, flat_map}
use Rattle.f8_spec.specs.Spelling.{hex2}
use Rattle.case_text.proofs.written_entry.put_bytes.Given as goal

abbrev pub invariant-loop-byte : goal.invariant-loop-byte
invariant-loop-byte l = l.out.items ≡ l.initial.out.items ++ flat_map hex2 (take l.byte-index l.bytes)
