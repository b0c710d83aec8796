-- The palette that is read is that of the pixels that the rows show, and past the last row nothing is drawn.
use Rattle.std.proofs.Common.{◌≡◌, ◌<◌, [], sym, ap, ◌∙◌, arith}
use Rattle.video.specs.ScreenState.{row_in, palette_in, in_each_row}
use Rattle.video.proofs.ShownLaws.{shown_palette, palette_of-past}
use Rattle.video.proofs.video_memory.Screen.palette.Goals as goal

pub returns-in-Some-clause-display : goal.returns-in-Some-clause-display
returns-in-Some-clause-display c = λ ws e.
    let read = c.in-Some.ensures.lookup.3 in
    let below : c.args.y < 64 = omega (arith, c.from.ensures, read.0) in
    let row : c.in-Some.row.now ≡ row_in c.args.self.now.rows c.args.y = rw (← c.self.view_is, ← c.from.ensures) (read.1 []) in
    c.palette.ensures.value ∙ ap (λ row. palette_in (in_each_row row) 0) row ∙ shown_palette c.args.self.now ws c.args.y e below

pub returns-in-None-clause-display : goal.returns-in-None-clause-display
returns-in-None-clause-display c = λ ws e.
    let past = c.in-None.ensures.lookup.3 in sym (palette_of-past ws c.args.y (omega (arith, c.from.ensures, past)))
