-- A write to the board is a write to its screen, whenever it came.
use Rattle.std.proofs.Common.{ap, ◌∙◌}
use Rattle.console_board.specs.BoardState.{BoardState}
use Rattle.console_board.proofs.video_board.Board.write.Goals as goal

pub returns-clause-display : goal.returns-clause-display
returns-clause-display c = λ ws is.
    c.port.ensures.display c.args.write.phi ws (ap (λ (b : BoardState). b.screen) c.self.view_is ∙ is)
