-- What the machine answers, told.
use Rattle.std.proofs.Common.{ap, ◌∙◌}
use Rattle.rack_run.specs.Machines.{machine_reads}
use Rattle.rack_run.specs.Texts.{is_traced}
use Rattle.rack_run.proofs.MachineAsking.{turn_on, turn_within}
use Rattle.rack_run.proofs.MachineTurns.{reads_kept, steps_fail, steps_done, steps_halt}
use Rattle.rack_run.proofs.on_rack.MachinePlayer.advance.Goals as goal

pub returns-in_default-clause-cut : goal.returns-in_default-clause-cut
returns-in_default-clause-cut g c = λ x r.
    steps_fail _ x c.instr-outcome.result _ _ _ _ (c.instr-outcome.ensures.advances.refines x r)
    c.instr-outcome.ensures.follows.ran c.in_default.field-0 _ _
    c.in_default.ensures

pub returns-in-Done-clause-goes : goal.returns-in-Done-clause-goes
returns-in-Done-clause-goes g c = λ x r.
    let refines = c.instr-outcome.ensures.advances.refines x r in
    let done = rw c.in-Done.is at refines in
    steps_done _ x c.instr-outcome.result _ _ _ _ refines c.instr-outcome.ensures.follows.ran _ _ c.in-Ok.ensures.ok _
    _ done

pub returns-in-Fault-clause-cut : goal.returns-in-Fault-clause-cut
returns-in-Fault-clause-cut g c = λ x r.
    let refines = c.instr-outcome.ensures.advances.refines x r in
    let faulted = rw c.in-Fault.is at refines in
    steps_halt _ x c.instr-outcome.result _ _ _ _ refines c.instr-outcome.ensures.follows.ran _ _ c.in-Ok.ensures.ok _
    faulted.turns
    (reads_kept c.args.self.now c.instr-outcome.new.self (ap (λ m. m.flow) faulted.kept) (ap (λ m. m.cpu) faulted.kept) (ap (λ m. m.phi) faulted.kept)
    ∙ machine_reads c.args.self.now _ x r)

pub returns-in-Reserved-clause-cut : goal.returns-in-Reserved-clause-cut
returns-in-Reserved-clause-cut g c = λ x r.
    let refines = c.instr-outcome.ensures.advances.refines x r in
    let halts = rw c.in-Reserved.is at refines in
    steps_halt _ x c.instr-outcome.result _ _ _ _ refines c.instr-outcome.ensures.follows.ran _ _ c.in-Ok.ensures.ok _
    halts.turns
    (reads_kept c.args.self.now c.instr-outcome.new.self (ap (λ m. m.flow) halts.kept) (ap (λ m. m.cpu) halts.kept) (ap (λ m. m.phi) halts.kept)
    ∙ machine_reads c.args.self.now _ x r)

pub returns-in_default-clause-asked_cut : goal.returns-in_default-clause-asked_cut
returns-in_default-clause-asked_cut g c = λ x r.
    turn_within (is_traced c.args.detail) x c.instr-outcome.result c.args.self.now c.instr-outcome.new.self _ _ _ _
    (c.instr-outcome.ensures.advances.refines x r) c.instr-outcome.ensures.asked

pub returns-in-Done-clause-asked : goal.returns-in-Done-clause-asked
returns-in-Done-clause-asked g c = λ x r.
    turn_on (is_traced c.args.detail) x c.instr-outcome.result c.args.self.now c.instr-outcome.new.self _ _ _ _
    (c.instr-outcome.ensures.advances.refines x r) c.instr-outcome.ensures.asked _ _ _ c.in-Done.is
    c.instr-outcome.ensures.follows

pub returns-in-Fault-clause-asked_cut : goal.returns-in-Fault-clause-asked_cut
returns-in-Fault-clause-asked_cut g c = λ x r.
    turn_within (is_traced c.args.detail) x c.instr-outcome.result c.args.self.now c.instr-outcome.new.self _ _ _ _
    (c.instr-outcome.ensures.advances.refines x r) c.instr-outcome.ensures.asked

pub returns-in-Reserved-clause-asked_cut : goal.returns-in-Reserved-clause-asked_cut
returns-in-Reserved-clause-asked_cut g c = λ x r.
    turn_within (is_traced c.args.detail) x c.instr-outcome.result c.args.self.now c.instr-outcome.new.self _ _ _ _
    (c.instr-outcome.ensures.advances.refines x r) c.instr-outcome.ensures.asked
