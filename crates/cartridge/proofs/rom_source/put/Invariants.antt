-- the bytes so far stand in the ROM
use Rattle.cartridge.specs.Filling.{rom_with}
use Rattle.cartridge.proofs.BytesPut.{PutsOn}
use Rattle.cartridge.proofs.rom_source.put.Given as goal

abbrev pub invariant-loop-address : goal.invariant-loop-address
invariant-loop-address l = PutsOn l.first l.bytes l.address-index l.rom (rom_with l.first l.bytes l.fn.rom)
