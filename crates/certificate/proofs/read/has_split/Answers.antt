-- A place without its byte decides, and one with it leaves it to the others.
use Rattle.std.proofs.Common.{◌<◌, length, sym, ◌∙◌, arith}
use Rattle.certificate.proofs.ScratchpadReads.{passes_at_start, next_passes, next_fails, place_as, not_true, not_false}
use Rattle.certificate.proofs.read.has_split.Goals as goal

pub returns-then-ne : goal.returns-then-ne
returns-then-ne c =
    let tracked = c.args.tracked.now in
    let split = c.args.point.now.split in
    let s = c.args.state.now in
    let place = c.loop-place.place in
    let within : place < length tracked = omega arith in
    let small : c.from.result < length s.regs = omega (arith, c.requires.below place 0 within, c.from.ensures, s.all_registers) in
    let test = place_as tracked split s place c.from.result within c.from.ensures small c.known.result c.known.ensures in
    sym (sym (passes_at_start _ (length tracked)) ∙ sym c.loop-place.invariant ∙ next_fails _ place (length tracked) within (test ∙ not_true _ c.if-ne.ensures))

pub loop-place-preserved : goal.loop-place-preserved
loop-place-preserved c =
    let tracked = c.args.tracked.now in
    let split = c.args.point.now.split in
    let s = c.args.state.now in
    let place = c.loop-place.place in
    let within : place < length tracked = omega arith in
    let small : c.from.result < length s.regs = omega (arith, c.requires.below place 0 within, c.from.ensures, s.all_registers) in
    let test = place_as tracked split s place c.from.result within c.from.ensures small c.known.result c.known.ensures in
    sym (next_passes _ place (length tracked) within (test ∙ not_false _ c.if-ne.ensures)) ∙ c.loop-place.invariant
