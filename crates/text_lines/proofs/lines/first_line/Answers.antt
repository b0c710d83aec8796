use Rattle.std.proofs.Common.{◌≡◌, arith, get_or}
use Rattle.std.proofs.lemmas.List.{take_rest}
use Rattle.std.proofs.lemmas.Bool.Decides.{nat_tests}
use Rattle.text_lines.proofs.LineLaws.{split_at_feed, whole_text}
use Rattle.text_lines.proofs.lines.first_line.Goals as goal

pub returns-then-byte-eq10-clause-split : goal.returns-then-byte-eq10-clause-split
returns-then-byte-eq10-clause-split c =
    let feed : get_or c.args.text.now c.loop-at.at 0 ≡ 10 = grind (arith, nat_tests) in
    rw (c.without_return.ensures.value, take_rest) (split_at_feed c.args.text.now c.loop-at.at c.loop-at.invariant c.loop-at-test.true feed)

pub returns-clause-split : goal.returns-clause-split
returns-clause-split c = rw take_rest (whole_text c.args.text.now c.loop-at.at c.loop-at.invariant c.requires c.loop-at-test.false)
