-- What is written is UTF-8, and reads as the migrated table.
use Rattle.toml.specs.View.{table_view}
use Rattle.cartridge.specs.Migrated.{migrated_table}
use Rattle.loader.proofs.TableRead.{document_reads}
use Rattle.loader.proofs.readings.migrated_text.Goals as goal

pub returns : goal.returns
returns c = document_reads c.migrate.result (migrated_table (table_view c.args.table)) c.migrate.ensures
