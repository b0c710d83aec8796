-- The text that is read is that of the pixels that the rows show.
use Rattle.std.proofs.Common.{ap, ◌∙◌}
use Rattle.video.specs.ScreenState.{digits_in, in_each_row}
use Rattle.video.proofs.ShownLaws.{shown_digits}
use Rattle.video.proofs.video_memory.Screen.row_text.Goals as goal

pub returns-clause-value : goal.returns-clause-value
unfolding digits_in
returns-clause-value c = c.text.ensures ∙ ap (λ row. digits_in (in_each_row row) 0) c.row_at.ensures

pub returns-clause-display : goal.returns-clause-display
returns-clause-display c = λ ws e. shown_digits c.args.self.now ws c.args.y _ e c.requires (returns-clause-value c)
