use Rattle.std.proofs.Common.{refl}
use Rattle.std.proofs.lemmas.Result.{err_from_is_err_and}
use Rattle.f8_asm.specs.ParsedLines.{emit_parsed}
use Rattle.f8_asm.proofs.Steps.{all_at, more_at, stop_at}
use Rattle.f8_asm.proofs.pass_three.emit_all.Goals as goal

pub loop-placed-init : goal.loop-placed-init
loop-placed-init c = record { is = rw c.in_ok-table.ensures refl }

pub loop-placed-preserved : goal.loop-placed-preserved
loop-placed-preserved c = more_at (emit_parsed c.args.symbols.now) c.args.lines.now c.loop-placed.placed-index c.placed-item.result c.emit.new.table
    c.loop-placed.invariant c.loop-placed-test.true c.placed-item.is c.in_ok-emit.ensures

pub returns-in_err-emit : goal.returns-in_err-emit
returns-in_err-emit c =
    let told = err_from_is_err_and c.from_residual-in_err-emit.result c.from_residual-in_err-emit.ensures.1 in
    rw (told.1, told.2) (stop_at (emit_parsed c.args.symbols.now) c.args.lines.now c.loop-placed.placed-index c.placed-item.result c.emit.new.table
    c.in_err-emit.field-0.0 c.loop-placed.invariant c.loop-placed-test.true c.placed-item.is c.in_err-emit.ensures)

pub returns : goal.returns
returns c = all_at (emit_parsed c.args.symbols.now) c.args.lines.now c.loop-placed.placed-index c.loop-placed.invariant c.loop-placed-test.false
