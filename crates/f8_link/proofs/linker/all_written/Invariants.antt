use Rattle.std.proofs.Common.{drop, slice_get}
use Rattle.f8_link.specs.Linking.{values_of, part_written, all_written}
use Rattle.f8_link.proofs.EachPart.{EachOn}
use Rattle.f8_link.proofs.linker.all_written.Given as goal

-- the modules written and those that follow make the whole
abbrev pub invariant-loop-number : goal.invariant-loop-number
invariant-loop-number l =
    EachOn (λ number. part_written (values_of (slice_get l.values number))) l.number l.table (drop l.number l.parts)
    (all_written 65536 l.values l.parts)
