-- The palette is two bits of the plane of the high bit.
use Rattle.std.proofs.Common.{ap, ◌∙◌}
use Rattle.video.specs.ScreenState.{palette_in, in_each_row}
use Rattle.video.proofs.PlaneLaws.{palette_of_high}
use Rattle.video.proofs.pixel_row.PixelRow.palette.Goals as goal

pub returns-clause-value : goal.returns-clause-value
returns-clause-value c = palette_of_high c.self.inside.low c.self.inside.high ∙ ap (λ row. palette_in (in_each_row row) 0) c.self.view_is
