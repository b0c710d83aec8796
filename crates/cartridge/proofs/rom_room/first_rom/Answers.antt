use Rattle.std.proofs.Common.{rules, tests, ◌∙◌}
use Rattle.std.proofs.lemmas.Iterator.{YieldsList-from_slice}
use Rattle.std.proofs.lemmas.Iterator.Search.{find_from_yields_List}
use Rattle.cartridge.specs.Pages.{is_rom_page}
use Rattle.cartridge.proofs.rom_room.first_rom.Goals as goal

pub returns : goal.returns
returns c =
    c.copied.ensures
    ∙ find_from_yields_List is_rom_page _ _ _ c.find.ensures.ran (YieldsList-from_slice c.args.pages.now cc) (λ x b q k. search (rules, tests))
