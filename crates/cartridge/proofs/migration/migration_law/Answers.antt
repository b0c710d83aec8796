use Rattle.toml.specs.View.{table_view}
use Rattle.cartridge.proofs.MigratedTables.{plan_kept}
use Rattle.cartridge.proofs.migration.migration_law.Goals as goal

pub returns : goal.returns
returns c = plan_kept (table_view c.args.table.now)
