-- The lines of a frame, where one falls that is shown.
use Rattle.std.proofs.Common.{sym, ◌∙◌}
use Rattle.rack_run.proofs.PutLaws.{puts_same, puts_told, puts_nothing}
use Rattle.rack_run.proofs.TellingTexts.{frame_shown, frame_unshown}
use Rattle.rack_run.proofs.telling.tell_frame.Goals as goal

pub returns-in_default : goal.returns-in_default
returns-in_default g c = λ ws screen. rw c.in_default.is (puts_nothing _ _ c.args.detail)

pub returns-then-not-contains : goal.returns-then-not-contains
returns-then-not-contains g c = λ ws screen.
    let unshown =
    frame_unshown c.args.shows.now c.in-Some.frame c.args.phi ws
    (sym c.contains.ensures.value ∙ c.if-not-contains.true) in
    rw (c.in-Some.is, unshown) (puts_nothing _ _ c.args.detail)

pub returns : goal.returns
returns g c = λ ws screen.
    let shown =
    frame_shown c.args.shows.now c.in-Some.frame c.args.phi ws
    (sym c.contains.ensures.value ∙ c.if-not-contains.false) in
    rw c.in-Some.is
    (puts_told _ _ _ c.args.detail _ (sym c.is_told.ensures ∙ c.if-not-is_told.false)
    (puts_same _ _ _ _ _ shown (c.put_frame.ensures ws screen)))
