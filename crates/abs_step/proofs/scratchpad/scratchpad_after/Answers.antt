-- The registers are those after the write when all are done.
use Rattle.std.proofs.Common.{◌≡◌, arith}
use Rattle.abs_domain.specs.KnownParts.{known_byte}
use Rattle.abs_domain.specs.declared.values.Val.TheVariants.{Any}
use Rattle.abs_step.specs.WorkView.{write_view}
use Rattle.abs_step.proofs.WrittenRegisters.{written_each}
use Rattle.abs_step.proofs.scratchpad.scratchpad_after.Goals as goal

pub returns : goal.returns
returns c = written_each known_byte (write_view c.args.write) 0 c.args.scratchpad.now c.loop-number.after Any
    (omega (arith, c.told-scratchpad, c.loop-number.invariant.0))
    (λ k number small same.
    let here : number ≡ k = omega arith in
    rw here (c.loop-number.invariant.1 k (omega (arith, c.told-scratchpad))))
