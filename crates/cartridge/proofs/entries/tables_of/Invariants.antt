-- the tables of the entries so far
use Rattle.cartridge.proofs.TablesRead.{HasTables}
use Rattle.cartridge.proofs.entries.tables_of.Given as goal

abbrev pub invariant-loop-entry : goal.invariant-loop-entry
invariant-loop-entry l = HasTables l.entries l.entry-index l.tables.items
