use Rattle.std.proofs.Common.{◌≡◌, ℕ, ◌<◌, ◌≤◌, get_or}
use Rattle.toml.specs.View.{view}
use Rattle.toml.specs.declared.value.Value.{Value}
use Rattle.cartridge.specs.Migrated.{migrated_entry}
use Rattle.cartridge.proofs.migration.migrate_entries.Given as goal

abbrev pub invariant-loop-entry : goal.invariant-loop-entry
invariant-loop-entry l =
    record {
      done : (k : ℕ) (d : Value) → k < l.entry-index → view (get_or l.entries k d) ≡ migrated_entry (view (get_or l.initial.entries k d));
      rest : (k : ℕ) (d : Value) → l.entry-index ≤ k → get_or l.entries k d ≡ get_or l.initial.entries k d;
    }
