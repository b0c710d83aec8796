use Rattle.std.proofs.Common.{◌≡◌, Err, sym, rules}
use Rattle.std.proofs.lemmas.Result.{err_from_is_err_and}
use Rattle.f8_link.specs.Linking.{fixup_put, bytes_fixed}
use Rattle.f8_link.proofs.LinkSteps.{all_at, more_from, fail_from}
use Rattle.f8_link.proofs.fixes.bytes_fixed.Goals as goal

pub returns-in_err-fix : goal.returns-in_err-fix
returns-in_err-fix c =
    let told = err_from_is_err_and c.from_residual-in_err-fix.result c.from_residual-in_err-fix.ensures.1 in
    let stops = fail_from (fixup_put c.args.part.now.room.first c.args.imports.now) c.args.part.now.object.fixups c.loop-fixup.fixup-index _
    c.in_err-fix.field-0.0 c.loop-fixup.invariant (rw c.fixups-fixup-items.ensures at c.loop-fixup-test.true)
    (sym (rw c.fixups-fixup-items.ensures at c.in_err-fix.ensures)) in
    let whole : bytes_fixed c.args.imports.now c.args.part.now ≡ Err c.in_err-fix.field-0.0 = search rules in
    rw (told.1, told.2) whole

pub loop-fixup-preserved : goal.loop-fixup-preserved
loop-fixup-preserved c =
    more_from (fixup_put c.args.part.now.room.first c.args.imports.now) c.args.part.now.object.fixups c.loop-fixup.fixup-index _
    c.fix.new.bytes.items c.loop-fixup.invariant (rw c.fixups-fixup-items.ensures at c.loop-fixup-test.true)
    (sym (rw c.fixups-fixup-items.ensures at c.in_ok-fix.ensures))

pub returns : goal.returns
returns c =
    let whole = all_at (fixup_put c.args.part.now.room.first c.args.imports.now) c.args.part.now.object.fixups c.loop-fixup.fixup-index
    c.loop-fixup.invariant (rw c.fixups-fixup-items.ensures at c.loop-fixup-test.false) in
    search rules
