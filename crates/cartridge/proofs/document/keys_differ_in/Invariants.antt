use Rattle.std.proofs.Common.{◌≡◌, ℕ, ◌<◌, true, get_or}
use Rattle.toml.specs.View.{view}
use Rattle.toml.specs.declared.value.Value.{Value}
use Rattle.cartridge.specs.DistinctKeys.{entry_is_distinct}
use Rattle.cartridge.proofs.document.keys_differ_in.Given as goal

abbrev pub invariant-loop-entry : goal.invariant-loop-entry
invariant-loop-entry l = (k : ℕ) (d : Value) → k < l.entry-index → entry_is_distinct (view (get_or l.entries k d)) ≡ true
