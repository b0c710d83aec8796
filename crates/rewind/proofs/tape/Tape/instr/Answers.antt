-- An instruction leads a tape on, or stops its machine behind all entries.
use Rattle.std.proofs.Common.{◌∙◌, rules, ap}
use Rattle.std.proofs.lemmas.List.{length-map}
use Rattle.rewind.specs.LogEntries.{LogState}
use Rattle.rewind.proofs.PatchLaws.{ran_patches}
use Rattle.rewind.proofs.TapeSteps.{in_time_on, taped_asks, turn_outcome, turn_taped}
use Rattle.rewind.proofs.tape.Tape.instr.Goals as goal

pub invariant_of-self : goal.invariant_of-self
invariant_of-self g c =
    in_time_on _ _ c.self.inside.log _ c.self.invariant c.instr-outcome.ensures.follows.mode c.instr-outcome.ensures.advances.clocks
    (ap (λ (log : LogState). log.played) c.add_instruction.ensures)

-- ---- where it is done

pub returns-in-Done-clause-tape : goal.returns-in-Done-clause-tape
returns-in-Done-clause-tape g c = search rules

pub returns-in-Done-clause-machine : goal.returns-in-Done-clause-machine
returns-in-Done-clause-machine g c = rw (← c.self.view_is) (record {
  advances = c.instr-outcome.ensures.advances;
  follows = c.instr-outcome.ensures.follows;
  halts = c.instr-outcome.ensures.halts;
  stopped = c.instr-outcome.ensures.stopped;
})

pub returns-in-Done-clause-taped : goal.returns-in-Done-clause-taped
returns-in-Done-clause-taped g c = λ first taped.
    turn_taped c.args.self.now _ _ _ first c.instr-outcome.result (returns-in-Done-clause-tape g c)
    (returns-in-Done-clause-machine g c) c.instr-outcome.ensures.bytes taped c.requires.ended

pub returns-in-Done-clause-outcome : goal.returns-in-Done-clause-outcome
returns-in-Done-clause-outcome g c = λ first goes taped.
    turn_outcome c.args.self.now _ _ _ first c.instr-outcome.result (returns-in-Done-clause-tape g c)
    (returns-in-Done-clause-machine g c) c.instr-outcome.ensures.bytes taped goes

pub returns-in-Done-clause-asked : goal.returns-in-Done-clause-asked
returns-in-Done-clause-asked g c = λ first taped.
    taped_asks c.args.self.now _ _ _ first c.instr-outcome.result (returns-in-Done-clause-tape g c)
    (returns-in-Done-clause-machine g c) c.instr-outcome.ensures.bytes taped _ _ _ (length-map c.args.rack.now.items _)
    (length-map c.instr-outcome.new.rack.items _ ∙ c.instr-outcome.ensures.chips) c.requires.fits c.instr-outcome.ensures.fits
    (rw (← c.self.view_is) c.instr-outcome.ensures.asked)

pub returns-in-Done-clause-patches : goal.returns-in-Done-clause-patches
returns-in-Done-clause-patches g c = ran_patches _ _ _ c.instr-outcome.ensures.follows.ran

-- ---- at a fault

pub returns-in-Fault-clause-tape : goal.returns-in-Fault-clause-tape
returns-in-Fault-clause-tape g c = search rules

pub returns-in-Fault-clause-machine : goal.returns-in-Fault-clause-machine
returns-in-Fault-clause-machine g c = rw (← c.self.view_is) (record {
  advances = c.instr-outcome.ensures.advances;
  follows = c.instr-outcome.ensures.follows;
  halts = c.instr-outcome.ensures.halts;
  stopped = c.instr-outcome.ensures.stopped;
})

pub returns-in-Fault-clause-taped : goal.returns-in-Fault-clause-taped
returns-in-Fault-clause-taped g c = λ first taped.
    turn_taped c.args.self.now _ _ _ first c.instr-outcome.result (returns-in-Fault-clause-tape g c)
    (returns-in-Fault-clause-machine g c) c.instr-outcome.ensures.bytes taped c.requires.ended

pub returns-in-Fault-clause-outcome : goal.returns-in-Fault-clause-outcome
returns-in-Fault-clause-outcome g c = λ first goes taped.
    turn_outcome c.args.self.now _ _ _ first c.instr-outcome.result (returns-in-Fault-clause-tape g c)
    (returns-in-Fault-clause-machine g c) c.instr-outcome.ensures.bytes taped goes

pub returns-in-Fault-clause-asked : goal.returns-in-Fault-clause-asked
returns-in-Fault-clause-asked g c = λ first taped.
    taped_asks c.args.self.now _ _ _ first c.instr-outcome.result (returns-in-Fault-clause-tape g c)
    (returns-in-Fault-clause-machine g c) c.instr-outcome.ensures.bytes taped _ _ _ (length-map c.args.rack.now.items _)
    (length-map c.instr-outcome.new.rack.items _ ∙ c.instr-outcome.ensures.chips) c.requires.fits c.instr-outcome.ensures.fits
    (rw (← c.self.view_is) c.instr-outcome.ensures.asked)

pub returns-in-Fault-clause-patches : goal.returns-in-Fault-clause-patches
returns-in-Fault-clause-patches g c = ran_patches _ _ _ c.instr-outcome.ensures.follows.ran

-- ---- at a reserved opcode

pub returns-in-Reserved-clause-tape : goal.returns-in-Reserved-clause-tape
returns-in-Reserved-clause-tape g c = search rules

pub returns-in-Reserved-clause-machine : goal.returns-in-Reserved-clause-machine
returns-in-Reserved-clause-machine g c = rw (← c.self.view_is) (record {
  advances = c.instr-outcome.ensures.advances;
  follows = c.instr-outcome.ensures.follows;
  halts = c.instr-outcome.ensures.halts;
  stopped = c.instr-outcome.ensures.stopped;
})

pub returns-in-Reserved-clause-taped : goal.returns-in-Reserved-clause-taped
returns-in-Reserved-clause-taped g c = λ first taped.
    turn_taped c.args.self.now _ _ _ first c.instr-outcome.result (returns-in-Reserved-clause-tape g c)
    (returns-in-Reserved-clause-machine g c) c.instr-outcome.ensures.bytes taped c.requires.ended

pub returns-in-Reserved-clause-outcome : goal.returns-in-Reserved-clause-outcome
returns-in-Reserved-clause-outcome g c = λ first goes taped.
    turn_outcome c.args.self.now _ _ _ first c.instr-outcome.result (returns-in-Reserved-clause-tape g c)
    (returns-in-Reserved-clause-machine g c) c.instr-outcome.ensures.bytes taped goes

pub returns-in-Reserved-clause-asked : goal.returns-in-Reserved-clause-asked
returns-in-Reserved-clause-asked g c = λ first taped.
    taped_asks c.args.self.now _ _ _ first c.instr-outcome.result (returns-in-Reserved-clause-tape g c)
    (returns-in-Reserved-clause-machine g c) c.instr-outcome.ensures.bytes taped _ _ _ (length-map c.args.rack.now.items _)
    (length-map c.instr-outcome.new.rack.items _ ∙ c.instr-outcome.ensures.chips) c.requires.fits c.instr-outcome.ensures.fits
    (rw (← c.self.view_is) c.instr-outcome.ensures.asked)

pub returns-in-Reserved-clause-patches : goal.returns-in-Reserved-clause-patches
returns-in-Reserved-clause-patches g c = ran_patches _ _ _ c.instr-outcome.ensures.follows.ran
