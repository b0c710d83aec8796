use Rattle.std.proofs.Common.{◌≡◌, drop, sym, ◌∙◌, ap, subst}
use Rattle.std.specs.Prelude.{IfOk}
use Rattle.std.specs.Vec.Iter.{into_iter_items, into_iter_len}
use Rattle.std.specs.Iterator.Adapters.{skip_count, skip_source}
use Rattle.std.proofs.lemmas.List.{map-id}
use Rattle.std.proofs.lemmas.Iterator.Adapters.{YieldsList-from_vec, YieldsList-from_skip}
use Rattle.std.proofs.lemmas.Iterator.Consumers.{YieldsList-end}
use Rattle.program_body.proofs.system.words_given.Goals as goal

pub returns-clause-words : goal.returns-clause-words
returns-clause-words g c =
    let made = c.into_iter-word-iterator.ensures.into_iter_gives in
    let source = ap skip_source made ∙ c.skip-word-items.ensures.source in
    let given = YieldsList-from_vec {s = c.into_iter-word-iterator.result.iter} (into_iter_items c.in-Ok.args)
    (ap into_iter_items source) (ap into_iter_len source ∙ c.in-Ok.args.rest.ok.0) in
    let behind = YieldsList-from_skip {s = c.into_iter-word-iterator.result} 1 given (ap skip_count made ∙ c.skip-word-items.ensures.count) in
    let read = YieldsList-end behind
    c.loop-word.yielded c.loop-word.word-iterator c.loop-word.yielded_by c.next.result c.next.new.self c.in-None.is c.next.ensures.steps in
    let all = c.loop-word.invariant ∙ sym (map-id c.loop-word.yielded) ∙ read.0 in
    subst (λ args. IfOk args (λ words. c.loop-word.words.items ≡ drop 1 (into_iter_items words))) (sym c.in-Ok.is) all
