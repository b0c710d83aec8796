use Rattle.std.proofs.Common.{◌≡◌, take}
use Rattle.toml.specs.View.{items_view}
use Rattle.cartridge.specs.Migrated.{run_texts}
use Rattle.cartridge.proofs.run_text.run_texts.Given as goal

abbrev pub invariant-loop-run : goal.invariant-loop-run
invariant-loop-run l = items_view l.texts.items ≡ run_texts (take l.run-index l.runs)
