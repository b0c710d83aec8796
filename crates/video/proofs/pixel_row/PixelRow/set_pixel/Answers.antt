-- One bit of each plane is set or cleared, and the others stay.
use Rattle.std.proofs.Common.{ap, sym, ◌∙◌}
use Rattle.std.specs.Prelude.{slice_set}
use Rattle.video.proofs.PlaneLaws.{colours_of-set, colour_of_tests}
use Rattle.video.proofs.pixel_row.PixelRow.set_pixel.Goals as goal

pub returns : goal.returns
returns c =
    sym (colours_of-set c.self.inside.low c.self.inside.high c.with_bit-self-inside.result c.with_bit-self-inside-2.result c.args.x c.args.colour
    c.requires.column
    (colour_of_tests c.args.colour _ _ c.requires.colour c.with_bit-self-inside.ensures.here c.with_bit-self-inside-2.ensures.here)
    c.with_bit-self-inside.ensures.elsewhere c.with_bit-self-inside-2.ensures.elsewhere)
    ∙ ap (λ row. slice_set row c.args.x c.args.colour) c.self.view_is
