-- The numbers so far are told.
use Rattle.std.proofs.Common.{◌≡◌, ◌++◌, take, flat_map}
use Rattle.f8_spec.specs.Spelling.{octal2}
use Rattle.case_text.proofs.written_entry.put_numbers.Given as goal

abbrev pub invariant-loop-number : goal.invariant-loop-number
invariant-loop-number l = l.out.items ≡ l.initial.out.items ++ flat_map octal2 (take l.number-index l.numbers)
