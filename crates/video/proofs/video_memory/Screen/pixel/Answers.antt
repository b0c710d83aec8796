-- The pixel that is read is the one that the rows show.
use Rattle.std.proofs.Common.{ap, ◌∙◌}
use Rattle.std.specs.Prelude.{slice_index}
use Rattle.video.proofs.ShownLaws.{shown_pixel}
use Rattle.video.proofs.video_memory.Screen.pixel.Goals as goal

pub returns-clause-display : goal.returns-clause-display
returns-clause-display c = λ ws e.
    c.pixel.ensures.value ∙ ap (λ row. slice_index row c.args.x) c.row_at.ensures
    ∙ shown_pixel c.args.self.now ws c.args.x c.args.y e c.requires.column c.requires.row
