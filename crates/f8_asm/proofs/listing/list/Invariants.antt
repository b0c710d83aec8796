use Rattle.std.proofs.Common.{◌≡◌, ◌+◌, length}
use Rattle.f8_asm.specs.Listing.{listing}
use Rattle.f8_asm.proofs.Entries.{ListsOn}
use Rattle.f8_asm.proofs.listing.list.Given as goal

-- the statements written and those of the rest make the whole
abbrev pub invariant-loop-byte : goal.invariant-loop-byte
invariant-loop-byte l = record {
  lists : ListsOn l.text.items l.raw l.address l.rest (listing l.bytes);
  place : l.address + length l.rest ≡ length l.bytes;
}

-- each turn leaves less
abbrev pub decreases-loop-byte : goal.decreases-loop-byte
decreases-loop-byte l = length l.rest
