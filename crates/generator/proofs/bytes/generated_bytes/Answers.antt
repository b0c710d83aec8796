-- A turn appends the next opcode, and the jump comes behind the last.
use Rattle.std.proofs.Common.{◌≡◌, ◌-◌, append_assoc, refl, sym, ◌∙◌, arith}
use Rattle.std.proofs.lemmas.List.{append-nil}
use Rattle.console_spec.specs.Generator.{generated, opcodes_from}
use Rattle.generator.proofs.DrawLaws.{opcodes_from-more, opcodes_from-end}
use Rattle.generator.proofs.bytes.generated_bytes.Goals as goal

pub loop-preserved : goal.loop-preserved
loop-preserved c =
    let more = opcodes_from-more c.loop.counter 12285 c.loop.draws.state (omega arith) in
    rw (c.in_ok-push.ensures.items, c.next_opcode.ensures.opcode, c.next_opcode.ensures.state, append_assoc) (rw more at c.loop.invariant)

pub returns : goal.returns
unfolding generated
returns c =
    let none = opcodes_from-end (12285 - c.loop.counter) c.loop.draws.state (omega arith) in
    let all : c.loop.bytes.items ≡ opcodes_from 12285 c.args.seed = sym (append-nil c.loop.bytes.items) ∙ (rw none at c.loop.invariant) in
    rw (c.in_ok-extend_from_slice.ensures.items, all) refl
