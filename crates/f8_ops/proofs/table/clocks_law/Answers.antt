-- No instruction takes more clocks than the constants say.
use Rattle.std.proofs.Common.{arith}
use Rattle.f8_ops.proofs.ClockBounds.{most_clocks, most_before_fetch}
use Rattle.f8_ops.proofs.table.clocks_law.Goals as goal

pub returns-clause-most : goal.returns-clause-most
returns-clause-most g = most_clocks

pub returns-clause-most_interrupted : goal.returns-clause-most_interrupted
returns-clause-most_interrupted g op taken other =
    let few = most_before_fetch op taken other in omega (arith, few)
