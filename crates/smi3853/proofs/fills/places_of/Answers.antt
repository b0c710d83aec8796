use Rattle.std.proofs.Common.{arith}
use Rattle.std.proofs.lemmas.List.{take_all}
use Rattle.chip_face.specs.Fitting.{rom_page}
use Rattle.smi3853.proofs.Placing.{place_below-number, Placed-more, Placed-none}
use Rattle.smi3853.proofs.fills.places_of.Goals as goal

pub loop-place-init : goal.loop-place-init
loop-place-init c = Placed-none c.args.pages.now

pub overflow_cast-places : goal.overflow_cast-places
overflow_cast-places c =
    let least = place_below-number c.args.pages.now c.requires c.loop-place.place (rom_page 0) c.loop-place-test.true in
    omega arith

pub loop-place-preserved : goal.loop-place-preserved
loop-place-preserved c =
    Placed-more c.args.pages.now c.loop-place.places c.loop-place.place c.from-number.result (rom_page 0) c.requires c.loop-place-test.true
    c.from-number.ensures (omega arith) c.loop-place.invariant

pub returns-clause-table : goal.returns-clause-table
returns-clause-table c = rw (take_all c.loop-place.place c.args.pages.now c.loop-place-test.false) at c.loop-place.invariant.table
