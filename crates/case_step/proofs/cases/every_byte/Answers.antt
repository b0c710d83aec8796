-- one byte after another
use Rattle.std.proofs.Common.{◌∙◌, length, ap, arith}
use Rattle.std.proofs.lemmas.List.FromFn.{length-range_with_len}
use Rattle.case_step.proofs.CaseLoops.{range_more}
use Rattle.case_step.proofs.cases.every_byte.Goals as goal

pub push-requires : goal.push-requires
push-requires c = omega (arith, ap length c.loop-byte.invariant ∙ length-range_with_len 0 c.loop-byte.byte)

pub loop-byte-preserved : goal.loop-byte-preserved
loop-byte-preserved c = range_more c.loop-byte.byte c.loop-byte.bytes.items _ c.loop-byte.invariant c.push.ensures.items
