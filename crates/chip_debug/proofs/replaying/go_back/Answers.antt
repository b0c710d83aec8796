-- Going back asks as often as the bus steps up to there did, and leaves a stop of reset alone.
use Rattle.std.proofs.Common.{Bool, ap, sym, ◌∙◌}
use Rattle.std.specs.Prelude.{if◌then◌else◌, None}
use Rattle.chip_debug.proofs.Replays.{begun_kept, gone_asks}
use Rattle.chip_debug.proofs.replaying.go_back.Goals as goal

pub returns-then-is_begun-clause-asked : goal.returns-then-is_begun-clause-asked
returns-then-is_begun-clause-asked g c = λ first taped.
    gone_asks c.args.place _ _ _ _ _ first _ _ _ (c.replay.ensures.replayed first taped) c.cut.ensures.tape

pub returns-else-is_begun-clause-asked : goal.returns-else-is_begun-clause-asked
returns-else-is_begun-clause-asked g c = λ first taped.
    gone_asks c.args.place _ _ _ _ _ first _ _ _ (c.replay.ensures.replayed first taped) c.cut.ensures.tape

pub returns-then-is_begun-clause-halt : goal.returns-then-is_begun-clause-halt
returns-then-is_begun-clause-halt g c =
    ap (λ (begun : Bool). if begun then None else c.args.halt.now)
    (sym c.if-is_begun.true ∙ c.is_begun.ensures
    ∙ begun_kept c.args.tape.now c.replay.new.tape c.cut.new.self _ c.replay.ensures.tape c.cut.ensures.tape)

pub returns-else-is_begun-clause-halt : goal.returns-else-is_begun-clause-halt
returns-else-is_begun-clause-halt g c =
    ap (λ (begun : Bool). if begun then None else c.args.halt.now)
    (sym c.if-is_begun.false ∙ c.is_begun.ensures
    ∙ begun_kept c.args.tape.now c.replay.new.tape c.cut.new.self _ c.replay.ensures.tape c.cut.ensures.tape)
