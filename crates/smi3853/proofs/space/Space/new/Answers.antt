use Rattle.std.proofs.Common.{arith}
use Rattle.smi3853.proofs.Below.{page_bytes_below}
use Rattle.smi3853.proofs.space.Space.new.Goals as goal

pub returns-clause-below : goal.returns-clause-below
returns-clause-below c = rw c.in_ok-bytes.ensures.bytes (page_bytes_below c.args.pages.now c.args.rom.now (λ place. omega (arith, c.type_inv.rom place)))
