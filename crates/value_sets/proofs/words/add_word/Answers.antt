-- A word that is there already adds nothing, and another one goes in at its place.
use Rattle.std.proofs.Common.{◌≡◌, Bool, true, false, not, refl, sym, ◌∙◌}
use Rattle.value_sets.proofs.OneMore.{unchanged, inserted}
use Rattle.value_sets.proofs.words.add_word.Goals as goal

yes : (unlike equal : Bool) → unlike ≡ not equal → unlike ≡ false → equal ≡ true
yes unlike true is said = refl
yes unlike false is said = absurd (cc)

no : (unlike equal : Bool) → unlike ≡ not equal → unlike ≡ true → equal ≡ false
no unlike true is said = absurd (cc)
no unlike false is said = refl

pub returns-in_ok-insert : goal.returns-in_ok-insert
returns-in_ok-insert c =
    c.in_ok-insert.ensures.items ∙ sym
    (inserted c.as_slice-listed.result.now c.args.words.now.items c.as_slice-listed.ensures.value c.place_of-place.result c.get.result _
    c.get.ensures.lookup.0 c.get.ensures.lookup.1 c.place_of-place.ensures.before (no c.ne.result _ c.ne.ensures c.if-ne.true)
    c.place_of-place.ensures.within c.place_of-place.ensures.first)

pub returns-else-ne : goal.returns-else-ne
returns-else-ne c =
    sym
    (unchanged c.as_slice-listed.result.now c.args.words.now.items c.as_slice-listed.ensures.value c.place_of-place.result c.get.result _
    c.get.ensures.lookup.0 c.get.ensures.lookup.1 c.place_of-place.ensures.before (yes c.ne.result _ c.ne.ensures c.if-ne.false))
