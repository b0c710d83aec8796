use Rattle.std.proofs.Common.{◌≡◌, Ok, slice_get, rules}
use Rattle.f8_asm.specs.PassThree.{table_with}
use Rattle.f8_link.specs.Linking.{values_of, part_written, bytes_fixed}
use Rattle.f8_link.proofs.EachPart.{all_done, one_more, stopped_by}
use Rattle.f8_link.proofs.LinkSteps.{says_then}
use Rattle.f8_link.proofs.linker.all_written.Goals as goal

pub returns-in-Err : goal.returns-in-Err
unfolding part_written
returns-in-Err c =
    let values = values_of (slice_get c.args.values.now c.loop-number.number) in
    rw c.stop_in.ensures
    (stopped_by (λ number. part_written (values_of (slice_get c.args.values.now number))) c.args.parts.now c.loop-number.number
    c.loop-number.invariant c.index-parts-number.result c.loop-number-test.true c.index-parts-number.is c.in-Err.stop
    (says_then (bytes_fixed values c.index-parts-number.result) (λ bytes. Ok (table_with c.loop-number.table c.index-parts-number.result.room.first bytes))
    c.in-Err.stop (rw c.values_at.ensures at c.in-Err.ensures)))

pub loop-number-preserved : goal.loop-number-preserved
unfolding part_written
loop-number-preserved c =
    let values = values_of (slice_get c.args.values.now c.loop-number.number) in
    let fixed : bytes_fixed values c.index-parts-number.result ≡ Ok c.in-Ok.bytes.items = rw c.values_at.ensures at c.in-Ok.ensures in
    let told : part_written values c.loop-number.table c.index-parts-number.result ≡ Ok c.write.new.self = search rules in
    one_more (λ number. part_written (values_of (slice_get c.args.values.now number))) c.args.parts.now c.loop-number.number
    c.loop-number.invariant c.index-parts-number.result c.loop-number-test.true c.index-parts-number.is c.write.new.self told

pub returns : goal.returns
returns c =
    all_done (λ number. part_written (values_of (slice_get c.args.values.now number))) c.args.parts.now c.loop-number.number c.loop-number.invariant
    c.loop-number-test.false
