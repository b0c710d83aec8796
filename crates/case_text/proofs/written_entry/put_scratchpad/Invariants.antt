-- The registers so far are told.
use Rattle.std.proofs.Common.{◌≡◌, ◌++◌, take, flat_map, map}
use Rattle.value_sets.specs.SetViews.{byte_values}
use Rattle.case_text.specs.WrittenCases.{behind_blank, byte_set_text}
use Rattle.case_text.proofs.written_entry.put_scratchpad.Given as goal

abbrev pub invariant-loop-register : goal.invariant-loop-register
invariant-loop-register l =
    l.out.items
    ≡ l.initial.out.items ++ flat_map (λ set. behind_blank (byte_set_text set)) (map byte_values (take l.register-index l.registers))
