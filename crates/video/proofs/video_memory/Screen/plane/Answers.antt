-- The plane that is read is that of the pixels that the rows show.
use Rattle.std.proofs.Common.{ap, ◌∙◌}
use Rattle.std.specs.Prelude.{slice_index}
use Rattle.video.specs.Planes.{plane_of}
use Rattle.video.proofs.ShownLaws.{shown_plane}
use Rattle.video.proofs.video_memory.Screen.plane.Goals as goal

pub returns-clause-display : goal.returns-clause-display
returns-clause-display c = λ ws e.
    c.plane.ensures ∙ ap (λ row. plane_of (slice_index row) c.args.bit) c.row_at.ensures
    ∙ shown_plane c.args.self.now ws c.args.y c.args.bit e c.requires.row
