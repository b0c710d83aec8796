-- the registers of the entries so far
use Rattle.cartridge.proofs.Registers.{HasRegisters}
use Rattle.cartridge.proofs.entries.registers_of.Given as goal

abbrev pub invariant-loop-entry : goal.invariant-loop-entry
invariant-loop-entry l = HasRegisters l.entries l.entry-index l.split
