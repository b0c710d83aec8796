use Rattle.std.proofs.Common.{◌∙◌, sym}
use Rattle.std.proofs.lemmas.List.{nil_from_length}
use Rattle.std.proofs.lemmas.Result.{err_from_is_err_and}
use Rattle.std.specs.Vec.Iter.{into_iter_items}
use Rattle.f8_asm.proofs.Steps.{steps_end, steps_more, steps_stop}
use Rattle.f8_link.specs.SecondPass.{place}
use Rattle.f8_link.proofs.second_pass.place_lines.Goals as goal

pub loop-line-preserved : goal.loop-line-preserved
loop-line-preserved c = steps_more (place c.args.imports.now) c.loop-line.layout c.place.new.self c.in-Some.line
    (into_iter_items c.next.new.self) c.in_ok-place.ensures ∙ rw c.in-Some.ensures.steps.0 at c.loop-line.invariant

pub returns-in_err-place : goal.returns-in_err-place
returns-in_err-place c =
    let told = err_from_is_err_and c.from_residual.result c.from_residual.ensures.1 in
    rw (told.1, told.2) (steps_stop (place c.args.imports.now) c.loop-line.layout c.place.new.self c.in-Some.line
    (into_iter_items c.next.new.self) c.in_err-place.field-0.0 _
    (rw c.in-Some.ensures.steps.0 at c.loop-line.invariant) c.in_err-place.ensures)

pub returns : goal.returns
returns c = sym c.loop-line.invariant ∙ (let none = nil_from_length (into_iter_items c.loop-line.line-iterator)
    (sym c.loop-line.line-iterator.rest.ok.0 ∙ c.in-None.ensures.steps.0) in
    rw none (steps_end (place c.args.imports.now) c.loop-line.layout))
