use Rattle.chip_face.specs.Fitting.{rom_page}
use Rattle.smi3853.proofs.Filling.{Filling-more}
use Rattle.smi3853.proofs.fills.contents.Goals as goal

pub loop-page-preserved : goal.loop-page-preserved
loop-page-preserved c =
    let more = Filling-more c.args.pages.now c.args.rom.now c.loop-page.bytes.items c.loop-page.rest.now c.loop-page.page-index c.rom_size.result
    (rom_page 0) c.loop-page-test.true c.rom_size.ensures c.loop-page.invariant in
    rw (c.in_ok-add_page.ensures, c.split_at.ensures.front, c.split_at.ensures.back) more
