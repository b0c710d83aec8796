-- Every pixel is 0, as where nothing was written.
use Rattle.std.proofs.Common.{ap, ◌∙◌, false}
use Rattle.std.specs.Prelude.{replicate}
use Rattle.video.proofs.DarkRows.{rows_of-dark}
use Rattle.video.proofs.video_memory.Screen.dark.Goals as goal

pub returns : goal.returns
returns c =
    ap (λ rows. record { latches = record { colour = 0; column = 0; row = 0 }; strobe = false; rows = rows })
    (ap (λ row. replicate 64 row) c.blank.ensures ∙ rows_of-dark)
