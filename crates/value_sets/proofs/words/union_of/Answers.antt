-- The union is too long where a list on its way is.
use Rattle.std.proofs.Common.{◌≡◌, ◌+◌, drop, refl, sym, subst, arith}
use Rattle.value_sets.specs.ValueSets.{union}
use Rattle.value_sets.specs.declared.words.TheConstants.{MOST_WORDS}
use Rattle.value_sets.proofs.Unions.{too_many, union_step}
use Rattle.value_sets.proofs.words.union_of.Goals as goal

pub returns-then-len-gt-MOST_WORDS : goal.returns-then-len-gt-MOST_WORDS
returns-then-len-gt-MOST_WORDS c =
    too_many MOST_WORDS c.args.words.items c.args.more.now c.args.words.items c.args.more.now refl
    (omega (arith, c.len.ensures, c.if-len-gt-MOST_WORDS.true))

pub returns-then-len-gt-MOST_WORDS-2 : goal.returns-then-len-gt-MOST_WORDS-2
returns-then-len-gt-MOST_WORDS-2 c =
    let more = c.args.more.now in
    let rest = drop (c.loop-word.word-index + 1) more in
    let step =
    union_step c.loop-word.words.items more c.args.words.items more c.loop-word.word-index
    c.loop-word-test.true c.loop-word.invariant.union in
    too_many MOST_WORDS c.add_word.new.words.items rest c.args.words.items more
    (subst (λ list. union list rest ≡ union c.args.words.items more) (sym c.in_ok-add_word.ensures) step)
    (omega (arith, c.len-in-loop-word.ensures, c.if-len-gt-MOST_WORDS-2.true))
