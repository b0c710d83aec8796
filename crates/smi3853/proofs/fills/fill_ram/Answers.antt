use Rattle.std.proofs.Common.{arith}
use Rattle.chip_face.specs.Fitting.{rom_page}
use Rattle.smi3853.proofs.Filling.{Filled-more}
use Rattle.smi3853.proofs.fills.fill_ram.Goals as goal

pub loop-place-preserved : goal.loop-place-preserved
loop-place-preserved c =
    Filled-more c.args.fill c.args.pages.now c.args.bytes.now c.loop-place.bytes c.fill_page.new.bytes c.loop-place.place _ (rom_page 0)
    c.loop-place-test.true (omega arith) c.fill_page.ensures c.loop-place.invariant
