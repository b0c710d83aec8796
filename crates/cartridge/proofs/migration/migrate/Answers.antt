use Rattle.toml.specs.View.{table_view}
use Rattle.cartridge.proofs.MigratedTables.{accepted_kept}
use Rattle.cartridge.proofs.migration.migrate.Goals as goal

pub document-requires : goal.document-requires
document-requires c = accepted_kept (table_view c.args.table) _ c.in-Ok.ensures c.requires
