-- All registers have their bytes.
use Rattle.std.proofs.Common.{arith}
use Rattle.certificate.proofs.ScratchpadReads.{each_known}
use Rattle.certificate.proofs.entry.registers_of.Goals as goal

pub returns : goal.returns
returns c = each_known c.loop-number.registers c.args.bytes.now
    (omega (arith, c.told-bytes, c.loop-number.invariant.0))
    (λ k small. c.loop-number.invariant.1 k (omega (arith, c.loop-number.invariant.0)))
