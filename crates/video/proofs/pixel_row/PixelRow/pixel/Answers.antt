-- A colour is by its bits in the two planes.
use Rattle.std.proofs.Common.{ap, sym, ◌∙◌}
use Rattle.std.specs.Prelude.{slice_index}
use Rattle.video.specs.Planes.{colours_of-at}
use Rattle.video.proofs.pixel_row.PixelRow.pixel.Goals as goal

pub returns-clause-value : goal.returns-clause-value
returns-clause-value c =
    rw (c.bit_of.ensures, c.bit_of-2.ensures)
    (sym (colours_of-at c.self.inside.low c.self.inside.high c.args.x c.requires) ∙ ap (λ row. slice_index row c.args.x) c.self.view_is)
