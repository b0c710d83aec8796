use Rattle.std.proofs.Common.{◌≡◌, Ok, sym, ◌∙◌}
use Rattle.cartridge.specs.Values.{number_in}
use Rattle.toml.specs.View.{view}
use Rattle.cartridge.proofs.Registers.{registers_more}
use Rattle.cartridge.proofs.entries.registers_of.Goals as goal

pub loop-entry-preserved : goal.loop-entry-preserved
loop-entry-preserved c =
    let number : number_in 0 63 (view c.entry-item.result) ≡ Ok c.in-Ok.register = sym c.number_in.ensures ∙ c.in-Ok.is in
    rw c.push.ensures
    (registers_more c.args.entries.now c.loop-entry.entry-index c.entry-item.result c.in-Ok.register c.loop-entry.split
    c.loop-entry-test.true (sym c.entry-item.is) number (sym c.contains.ensures ∙ c.if-contains.false) c.loop-entry.invariant)
