-- An index of a rack that is just powered on stands for it and for a new probe.
use Rattle.bus_rows.proofs.Indexed.{fits_powered}
use Rattle.bus_rows.proofs.bus.Bus.of.Goals as goal

pub returns-in-ByIndex : goal.returns-in-ByIndex
returns-in-ByIndex g c = record {
  fits = fits_powered c.of-index.result c.new-probe.result _ _ _ c.power_all.ensures.powered c.of-index.ensures.lists c.of-index.ensures.marks
      c.of-index.ensures.stays;
}
