-- The instruction that is held is the flat machine's next one.
use Rattle.std.proofs.Common.{refl, ◌≡◌, ℕ, ◌+◌, ◌≤◌, ap, sym, subst, ◌∙◌, arith, rules}
use Rattle.f8_spec.specs.Instructions.{decoded}
use Rattle.console_spec.specs.Processor.{is_taken}
use Rattle.f8_machine.specs.MachineState.{MachineState}
use Rattle.f8_machine.specs.Questions.{codes_of, followed_all}
use Rattle.f8_machine.specs.Vectoring.{clocks_of_plan}
use Rattle.f8_machine.proofs.FitMachines.{asked_from, asked_running, counted_whole, tried_whole}
use Rattle.f8_machine.proofs.Instructions.{some_of, clocks_planned, few_clocks, write_as_told, done_from, faulted_from}
use Rattle.f8_machine.specs.MachineState.{steps_in}
use Rattle.f8_machine.specs.declared.outcome.Outcome.TheVariants.{Done, Fault}
use Rattle.f8_machine.proofs.Instructions.{no_steps}
use Rattle.f8_machine.proofs.RackLaws.{rack_runs_none, rack_runs_nothing}
use Rattle.f8_machine.proofs.machine.Machine.instr.Goals as goal

spent_few : (before phi clocks : ℕ) → phi ≡ before → clocks ≤ 46 → phi + clocks ≤ before + 46
spent_few before phi clocks same few = omega arith

pub returns-in-Ok-carried-clause-advances : goal.returns-in-Ok-carried-clause-advances
returns-in-Ok-carried-clause-advances g c =
    let found = some_of (decoded c.self.inside.cpu.opcode) (c.in-Ok.ensures.instruction.0 refl) in
    let clocks = c.clocks_of_plan.ensures
    ∙ ap (clocks_of_plan c.in-Ok-carried.chosen) c.in-Ok.ensures.steps
    ∙ clocks_planned c.self.inside.cpu found.0 c.in-Ok-carried.chosen found.1 in
    record {
      refines = λ x r.
          done_from c.args.self.now _ c.self.view_is _ _ found.0 x found.1 r
          c.carry_out-carried.new.cpu c.carry_out-carried.new.bus.probe c.carry_out-carried.new.bus.index _ c.clocks_of_plan.result c.done_write-wrote.result
          c.carry_out-carried.new.steps c.in-Ok-carried.chosen
          (rw c.opcode-code.ensures at c.opcode-code.type_inv)
          c.kept-kept.ensures.ranges (λ holds. c.in-Ok-carried.ensures.done found.0 x holds)
          (c.of-self-inside.ensures c.carry_out-carried.new.bus.probe c.counters.ensures) clocks
          (write_as_told _ _ found.0 _ _ _ _ _ c.done_write-wrote.ensures (ap decoded c.opcode-code.ensures ∙ found.1)
          c.ports.ensures c.as_slice.ensures.value);
      clocks = spent_few c.args.self.now.phi _ c.clocks_of_plan.result
          (ap (λ (m : MachineState). m.phi) c.self.view_is)
          (subst (λ (n : ℕ). n ≤ 46) (sym clocks) (few_clocks found.0
          (is_taken found.0 c.self.inside.cpu.registers) c.in-Ok-carried.chosen (c.in-Ok-carried.ensures.open found.0 found.1)));
      onward = search rules;
    }

pub returns-in-Err-carried-clause-advances : goal.returns-in-Err-carried-clause-advances
returns-in-Err-carried-clause-advances g c = record {
  refines = λ x r.
      let found = some_of (decoded c.self.inside.cpu.opcode) (c.in-Ok.ensures.instruction.0 refl) in
      faulted_from c.args.self.now _ c.self.view_is _ found.0 x found.1 r
      c.carry_out-carried.new.cpu c.restore.new.self c.carry_out-carried.new.bus.probe c.carry_out-carried.new.bus.index c.kept-kept.result
      c.carry_out-carried.new.unserved.fault c.to_stopped_by.result c.carry_out-carried.new.unserved.long c.carry_out-carried.new.steps
      (rw c.opcode-code.ensures at c.opcode-code.type_inv)
      c.kept-kept.ensures.ranges (λ holds. c.in-Err-carried.ensures.cut found.0 x holds)
      c.kept-kept.ensures.kept c.restore.ensures c.in-Err-carried.ensures.restorable c.to_stopped_by.ensures;
  clocks = search rules;
  onward = search rules;
}

pub returns-in-Ok-carried-clause-follows : goal.returns-in-Ok-carried-clause-follows
returns-in-Ok-carried-clause-follows g c =
    let counted = counted_whole _ c.self.inside.bus.index c.carry_out-carried.new.bus.index _ _ c.new-steps.result
    c.carry_out-carried.new.steps c.new-steps.ensures c.in-Ok-carried.ensures.counted in
    record {
      ran = search rules;
      reference = search rules;
      mode = search rules;
      index = counted.marks
          ∙ ap (λ (m : MachineState). followed_all (codes_of c.carry_out-carried.new.steps) m.index) c.self.view_is;
      chain = search rules;
    }

pub returns-in-Ok-carried-clause-asked : goal.returns-in-Ok-carried-clause-asked
returns-in-Ok-carried-clause-asked g c =
    let counted = counted_whole _ c.self.inside.bus.index c.carry_out-carried.new.bus.index _ _ c.new-steps.result
    c.carry_out-carried.new.steps c.new-steps.ensures c.in-Ok-carried.ensures.counted in
    asked_running c.args.self.now _ c.self.view_is c.requires.mode c.in_default.not-Stopped
    (Done c.done_write-wrote.result c.carry_out-carried.new.steps) _ _ _
    (asked_from c.args.self.now _ c.self.view_is _ _ _ _ counted.asked)

pub returns-in-Err-carried-clause-follows : goal.returns-in-Err-carried-clause-follows
returns-in-Err-carried-clause-follows g c =
    let counted = tried_whole _ c.carry_out-carried.new.unserved.fault c.self.inside.bus.index c.carry_out-carried.new.bus.index _ _ c.new-steps.result
    c.carry_out-carried.new.steps c.new-steps.ensures c.in-Err-carried.ensures.tried in
    record {
      ran = search rules;
      reference = search rules;
      mode = search rules;
      index = counted.marks
          ∙ ap (λ (m : MachineState). followed_all (codes_of c.carry_out-carried.new.steps) m.index) c.self.view_is;
      chain = search rules;
    }

pub returns-in-Err-carried-clause-asked : goal.returns-in-Err-carried-clause-asked
returns-in-Err-carried-clause-asked g c =
    let counted = tried_whole _ c.carry_out-carried.new.unserved.fault c.self.inside.bus.index c.carry_out-carried.new.bus.index _ _ c.new-steps.result
    c.carry_out-carried.new.steps c.new-steps.ensures c.in-Err-carried.ensures.tried in
    asked_running c.args.self.now _ c.self.view_is c.requires.mode c.in_default.not-Stopped
    (Fault c.carry_out-carried.new.unserved.fault c.carry_out-carried.new.unserved.long c.carry_out-carried.new.steps) _ _ _
    (asked_from c.args.self.now _ c.self.view_is _ _ _ _ counted.asked)

pub returns-in-Stopped-clause-follows : goal.returns-in-Stopped-clause-follows
returns-in-Stopped-clause-follows g c = record {
  ran = rack_runs_nothing (steps_in c.outcome.result) _ (ap steps_in c.outcome.ensures ∙ no_steps _);
  reference = search rules;
  index = ap (λ (m : MachineState). m.index) (sym c.self.view_is ∙ c.self.view_is)
      ∙ ap (λ steps. followed_all (codes_of steps) c.args.self.now.index) (sym (ap steps_in c.outcome.ensures ∙ no_steps _));
  mode = search rules;
  chain = search rules;
}

pub returns-in-Err-clause-follows : goal.returns-in-Err-clause-follows
returns-in-Err-clause-follows g c = record {
  ran = rack_runs_none 0 _;
  reference = search rules;
  index = search rules;
  mode = search rules;
  chain = search rules;
}
