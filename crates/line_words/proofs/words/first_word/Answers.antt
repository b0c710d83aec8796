-- The first word ends at the first blank.
use Rattle.std.proofs.Common.{◌≡◌, arith, get_or}
use Rattle.std.proofs.lemmas.Bool.Decides.{nat_tests}
use Rattle.std.proofs.lemmas.List.{take_rest}
use Rattle.line_words.proofs.WordLaws.{split_at_blank, whole_word}
use Rattle.line_words.proofs.words.first_word.Goals as goal

pub returns-then-byte-eq32 : goal.returns-then-byte-eq32
returns-then-byte-eq32 c =
    let blank : get_or c.args.text.now c.loop-at.at 0 ≡ 32 = grind (arith, nat_tests) in
    rw take_rest (split_at_blank c.args.text.now c.loop-at.at c.loop-at.invariant c.loop-at-test.true blank)

pub returns : goal.returns
returns c = whole_word c.args.text.now c.loop-at.at c.loop-at.invariant c.loop-at-test.false
