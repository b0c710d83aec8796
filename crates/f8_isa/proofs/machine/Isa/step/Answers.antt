use Rattle.std.proofs.Common.{◌≡◌, ℕ, ap, ◌∙◌}
use Rattle.console_spec.specs.AddressSpace.{byte_at}
use Rattle.f8_isa.specs.IsaState.{IsaState}
use Rattle.f8_isa.specs.Ports.{clocked}
use Rattle.f8_isa.proofs.Standing.{goes_to, tells_interrupt, finished_phi}
use Rattle.f8_isa.proofs.machine.Isa.step.Goals as goal

pub returns-clause-goes : goal.returns-clause-goes
returns-clause-goes c =
    let code : c.byte-code.result ≡ byte_at c.args.self.now.memory c.args.self.now.flow.p = rw (← c.self.view_is) c.byte-code.ensures in
    let row = rw code at c.in-Some.ensures in
    let op = c.in-Some.instruction.op in
    let phi = c.finish-vectored.new.self.phi in
    let same : c.self-2.inside.phi ≡ phi = ap (λ (s : IsaState). s.phi) c.self-2.view_is in
    goes_to op c.args.self.now c.carry_out-taken.new.self c.finish-vectored.new.self c.clocked.result
    row.0 row.1.in_range c.carry_out-taken.ensures.ranges c.carry_out-taken.ensures.state c.finish-vectored.ensures.state
    (c.clocked.ensures ∙ ap (λ (p : ℕ). clocked p c.carry_out-taken.result) same ∙ c.carry_out-taken.ensures.taken phi) c.finish-vectored.ensures.reach

pub returns-clause-interrupt : goal.returns-clause-interrupt
returns-clause-interrupt c =
    let code : c.byte-code.result ≡ byte_at c.args.self.now.memory c.args.self.now.flow.p = rw (← c.self.view_is) c.byte-code.ensures in
    let row = rw code at c.in-Some.ensures in
    tells_interrupt c.in-Some.instruction.op c.args.self.now c.carry_out-taken.new.self c.finish-vectored.result
    row.0 row.1.in_range c.carry_out-taken.ensures.ranges c.carry_out-taken.ensures.state c.finish-vectored.ensures.vectored

pub returns-clause-clocks : goal.returns-clause-clocks
returns-clause-clocks c =
    (finished_phi c.in-Some.instruction.op c.args.self.now c.carry_out-taken.new.self c.finish-vectored.new.self c.carry_out-taken.ensures.state
    c.finish-vectored.ensures.state c.carry_out-taken.ensures.clocks).1

pub returns-clause-onward : goal.returns-clause-onward
returns-clause-onward c =
    (finished_phi c.in-Some.instruction.op c.args.self.now c.carry_out-taken.new.self c.finish-vectored.new.self c.carry_out-taken.ensures.state
    c.finish-vectored.ensures.state c.carry_out-taken.ensures.clocks).0
