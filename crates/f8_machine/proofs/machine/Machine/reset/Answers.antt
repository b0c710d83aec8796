-- Reset leads to the position before the first instruction.
use Rattle.std.proofs.Common.{◌∙◌, ap, None, rules}
use Rattle.f8_machine.specs.MachineState.{MachineState}
use Rattle.f8_machine.specs.Questions.{codes_of, followed_all}
use Rattle.f8_machine.specs.declared.outcome.Outcome.TheVariants.{Done, Fault}
use Rattle.f8_machine.proofs.FitMachines.{counted_whole, tried_whole, asked_powered}
use Rattle.f8_machine.proofs.ResetPositions.{reset_done, reset_cut}
use Rattle.f8_machine.proofs.machine.Machine.reset.Goals as goal

pub returns-in-Ok-clause-refines : goal.returns-in-Ok-clause-refines
returns-in-Ok-clause-refines g c = λ x p.
    reset_done c.args.self.now _ c.self.view_is _ _ x c.in-Ok.opcode c.fetch_first-fetched.new.bus.probe c.fetch_first-fetched.new.bus.index c.fetch.new.self _
    c.fetch_first-fetched.new.steps p
    (λ at. c.in-Ok.ensures.fetched x at) c.fetch.ensures
    (c.of-self-inside.ensures c.fetch_first-fetched.new.bus.probe c.counters.ensures)

pub returns-in-Err-clause-refines : goal.returns-in-Err-clause-refines
returns-in-Err-clause-refines g c = λ x p.
    reset_cut c.args.self.now _ c.self.view_is _ x c.fetch_first-fetched.new.bus.probe c.fetch_first-fetched.new.bus.index
    c.fetch_first-fetched.new.unserved.fault c.to_stopped_by.result c.fetch_first-fetched.new.unserved.long c.fetch_first-fetched.new.steps p
    (λ at. c.in-Err.ensures.cut x at) c.to_stopped_by.ensures

pub returns-in-Ok-clause-follows : goal.returns-in-Ok-clause-follows
returns-in-Ok-clause-follows g c =
    let counted = counted_whole _ c.self.inside.bus.index c.fetch_first-fetched.new.bus.index _ _ c.new-steps.result c.fetch_first-fetched.new.steps
    c.new-steps.ensures c.in-Ok.ensures.counted in
    record {
      ran = search rules;
      reference = search rules;
      mode = search rules;
      index = counted.marks ∙ ap (λ (m : MachineState). followed_all (codes_of c.fetch_first-fetched.new.steps) m.index) c.self.view_is;
      chain = search rules;
    }

pub returns-in-Ok-clause-asked : goal.returns-in-Ok-clause-asked
returns-in-Ok-clause-asked g c =
    let counted = counted_whole _ c.self.inside.bus.index c.fetch_first-fetched.new.bus.index _ _ c.new-steps.result c.fetch_first-fetched.new.steps
    c.new-steps.ensures c.in-Ok.ensures.counted in
    asked_powered c.args.self.now _ c.self.view_is c.requires.mode (Done None c.fetch_first-fetched.new.steps) _ _ _ counted.asked

pub returns-in-Err-clause-follows : goal.returns-in-Err-clause-follows
returns-in-Err-clause-follows g c =
    let counted = tried_whole _ c.fetch_first-fetched.new.unserved.fault c.self.inside.bus.index c.fetch_first-fetched.new.bus.index _ _ c.new-steps.result
    c.fetch_first-fetched.new.steps c.new-steps.ensures c.in-Err.ensures.tried in
    record {
      ran = search rules;
      reference = search rules;
      mode = search rules;
      index = counted.marks ∙ ap (λ (m : MachineState). followed_all (codes_of c.fetch_first-fetched.new.steps) m.index) c.self.view_is;
      chain = search rules;
    }

pub returns-in-Err-clause-asked : goal.returns-in-Err-clause-asked
returns-in-Err-clause-asked g c =
    let counted = tried_whole _ c.fetch_first-fetched.new.unserved.fault c.self.inside.bus.index c.fetch_first-fetched.new.bus.index _ _ c.new-steps.result
    c.fetch_first-fetched.new.steps c.new-steps.ensures c.in-Err.ensures.tried in
    asked_powered c.args.self.now _ c.self.view_is c.requires.mode
    (Fault c.fetch_first-fetched.new.unserved.fault c.fetch_first-fetched.new.unserved.long c.fetch_first-fetched.new.steps) _ _ _ counted.asked
