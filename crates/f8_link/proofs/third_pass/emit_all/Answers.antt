use Rattle.std.proofs.Common.{refl}
use Rattle.std.proofs.lemmas.Result.{err_from_is_err_and}
use Rattle.f8_asm.proofs.Steps.{all_at, more_at, stop_at}
use Rattle.f8_link.specs.ThirdPass.{emit}
use Rattle.f8_link.proofs.third_pass.emit_all.Goals as goal

pub loop-placed-init : goal.loop-placed-init
loop-placed-init c = record { is = rw c.new-code.ensures refl }

pub loop-placed-preserved : goal.loop-placed-preserved
loop-placed-preserved c = more_at (emit c.args.names.now c.args.imports.now) c.args.lines.now c.loop-placed.placed-index c.placed-item.result
    c.emit.new.self c.loop-placed.invariant c.loop-placed-test.true c.placed-item.is c.in_ok-emit.ensures

pub returns-in_err-emit : goal.returns-in_err-emit
returns-in_err-emit c =
    let told = err_from_is_err_and c.from_residual.result c.from_residual.ensures.1 in
    rw (told.1, told.2) (stop_at (emit c.args.names.now c.args.imports.now) c.args.lines.now c.loop-placed.placed-index c.placed-item.result
    c.emit.new.self c.in_err-emit.field-0.0 c.loop-placed.invariant c.loop-placed-test.true c.placed-item.is c.in_err-emit.ensures)

pub returns : goal.returns
returns c = all_at (emit c.args.names.now c.args.imports.now) c.args.lines.now c.loop-placed.placed-index c.loop-placed.invariant c.loop-placed-test.false
