use Rattle.std.proofs.Common.{arith}
use Rattle.cartridge.proofs.KeysDiffer.{entries_differ}
use Rattle.cartridge.proofs.document.keys_differ_in.Goals as goal

pub returns : goal.returns
returns c = entries_differ c.args.entries.now (λ k d below. c.loop-entry.invariant k d (omega arith))
