use Rattle.std.proofs.Common.{arith}
use Rattle.cartridge.proofs.MigratedEntries.{entries_seen}
use Rattle.cartridge.proofs.migration.migrate_entries.Goals as goal

pub returns : goal.returns
returns c =
    entries_seen c.loop-entry.entries c.args.entries.now c.loop-entry.auto.entries
    (λ k d below. c.loop-entry.invariant.done k d (omega arith))
