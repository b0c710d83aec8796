use Rattle.std.proofs.Common.{sym, ◌∙◌}
use Rattle.f8_link.proofs.Strays.{stray_at, stray_more, stray_none}
use Rattle.f8_link.proofs.directives.stray.Goals as goal

pub returns-then-stray_in : goal.returns-then-stray_in
returns-then-stray_in c =
    stray_at c.args.tokens.now c.loop-token.token-index c.token-item.result c.loop-token.invariant c.loop-token-test.true c.token-item.is
    (sym c.stray_in.ensures ∙ c.if-stray_in.true)

pub loop-token-preserved : goal.loop-token-preserved
loop-token-preserved c =
    stray_more c.args.tokens.now c.loop-token.token-index c.token-item.result c.loop-token.invariant c.loop-token-test.true c.token-item.is
    (sym c.stray_in.ensures ∙ c.if-stray_in.false)

pub returns : goal.returns
returns c = stray_none c.args.tokens.now c.loop-token.token-index c.loop-token.invariant c.loop-token-test.false
