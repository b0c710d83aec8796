-- An opcode beside those of `OUTS` has the write that a chip took.
use Rattle.std.proofs.Common.{rules, sym, ◌∙◌, ◌<◌}
use Rattle.f8_machine.proofs.OwnWrites.{write_of_others}
use Rattle.f8_machine.proofs.wrote.done_write.Goals as goal

pub returns-then-code-lt-FIRST_OUTS : goal.returns-then-code-lt-FIRST_OUTS
returns-then-code-lt-FIRST_OUTS g =
    let byte : g.args.code < 256 = search rules in
    g.chip_write.ensures
    ∙ sym (write_of_others g.args.code g.args.phi g.args.latches g.args.steps.now byte g.then-code-lt-FIRST_OUTS.either)
