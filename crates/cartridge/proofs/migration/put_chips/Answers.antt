use Rattle.std.proofs.Common.{ap, sym, ◌∙◌}
use Rattle.std.specs.Option.{option_copied_mut}
use Rattle.cartridge.proofs.MigratedMembers.{chips_written, chips_missing}
use Rattle.cartridge.proofs.migration.put_chips.Goals as goal

pub returns-in-Some : goal.returns-in-Some
returns-in-Some c =
    let held = c.get_mut.follows.holds c.migrate_chips.new.chips in
    chips_written c.migrate_chips.result c.word.result.now c.args.cart.now.entries _ _ c.migrate_chips.new.chips c.get_mut.ensures.ordered
    (sym c.get_mut.ensures.value ∙ ap option_copied_mut c.in-Some.is) held.0 c.word.ensures c.migrate_chips.ensures

pub returns-in-None : goal.returns-in-None
returns-in-None c =
    rw c.get_mut.follows.holds-at-none
    (chips_missing c.word.result.now c.args.cart.now.entries (sym c.get_mut.ensures.value ∙ ap option_copied_mut c.in-None.is) c.word.ensures)
