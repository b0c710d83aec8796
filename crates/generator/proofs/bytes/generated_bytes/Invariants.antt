-- Behind the bytes so far come the opcodes that are still to be drawn.
use Rattle.std.proofs.Common.{◌≡◌, ◌-◌, ◌++◌}
use Rattle.console_spec.specs.Generator.{opcodes_from}
use Rattle.generator.proofs.bytes.generated_bytes.Given as goal

abbrev pub invariant-loop : goal.invariant-loop
invariant-loop l = l.bytes.items ++ opcodes_from (12285 - l.counter) l.draws.state ≡ opcodes_from 12285 l.seed
