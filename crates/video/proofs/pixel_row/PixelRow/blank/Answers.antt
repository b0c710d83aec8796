-- Planes without a bit are those of colour 0.
use Rattle.video.proofs.PlaneLaws.{colours_of-zero}
use Rattle.video.proofs.pixel_row.PixelRow.blank.Goals as goal

pub returns : goal.returns
returns c = colours_of-zero
