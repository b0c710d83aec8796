-- All places have their bytes.
use Rattle.std.proofs.Common.{◌≡◌, arith}
use Rattle.std.specs.Prelude.{None}
use Rattle.abs_step.specs.Successors.{tracked_byte}
use Rattle.abs_step.proofs.WrittenRegisters.{each_place}
use Rattle.abs_step.proofs.tracked.tracked_bytes.Goals as goal

pub returns : goal.returns
returns c = each_place (tracked_byte c.args.split.now c.args.registers.now) 0 8 c.loop-place.bytes None c.loop-place.invariant.0
    (λ k number small same.
    let here : number ≡ k = omega arith in
    rw here (c.loop-place.invariant.1 k (omega arith)))
