-- An instruction of a machine on its rack, from what the machine answers.
use Rattle.std.proofs.Common.{◌≡◌, ◌≢◌, ℕ, ◌+◌, List, [], map, Option, Some, None, refl, sym, ap, subst}
use Rattle.std.specs.Prelude.{Err}
use Rattle.f8_spec.specs.ChipState.{ChipState}
use Rattle.f8_spec.specs.Instructions.{decoded}
use Rattle.f8_spec.specs.declared.instructions.Op.{Op}
use Rattle.console_spec.specs.Run.{Position, Goes, Stops, goes_unless, decided, opcode_at, instruction_fault}
use Rattle.console_spec.specs.Run.{position_after, next, turn_course}
use Rattle.console_spec.specs.Services.{Fault}
use Rattle.console_spec.specs.Telling.{Way, on_rack}
use Rattle.console_spec.specs.declared.PortWrite.{PortWrite}
use Rattle.cpu3850.specs.CpuSteps.{CpuState}
use Rattle.f8_machine.specs.MachineState.{MachineState, steps_in}
use Rattle.f8_machine.specs.Refinement.{Represents, Refines, IsDone}
use Rattle.f8_machine.specs.Rounds.{RackRuns, heard_of}
use Rattle.f8_machine.specs.declared.heard.Heard.{Heard}
use Rattle.f8_machine.specs.declared.outcome.Outcome.{Outcome}
use Rattle.outside.specs.SinkRules.{Output, Adds, AddsPart}
use Rattle.console_spec.specs.declared.Event.{Event}
use Rattle.rack_run.specs.Endings.{stop_of}
use Rattle.rack_run.specs.Lives.{ComesTo}
use Rattle.rack_run.specs.Machines.{machine_readout}
use Rattle.rack_run.specs.Texts.{is_traced, text_in, outcome_told, Puts}
use Rattle.rack_run.specs.Turns.{readout_of, steps_text, StepsDone, StepsHalt, StepsFail}
use Rattle.rack_run.specs.declared.detail.Detail.{Detail}
use Rattle.rack_run.specs.declared.ending.Halt.{Halt}
use Rattle.rack_run.proofs.Outcomes.{outcome_is, outcome_heard}

-- ---- what a machine tells

-- a machine that was stopped tells what it told before
pub reads_kept : (m after : MachineState) → after.flow ≡ m.flow → after.cpu ≡ m.cpu → after.phi ≡ m.phi →
    machine_readout after ≡ machine_readout m
reads_kept m after flow cpu phi = rw (flow, ap (λ (c : CpuState). c.registers) cpu, phi) refl

-- ---- an instruction that is done counts

goes_count : (x y : Position) (fault : Option Fault) (op : Op) → goes_unless fault (position_after op x) ≡ Goes y →
    y.flat.state.count ≡ x.flat.state.count + 1
goes_count x y None op e =
    let same : position_after op x ≡ y = cc in
    ap (λ (z : Position). z.flat.state.count) (sym same)
goes_count x y (Some fault) op e = cc

decided_count : (x y : Position) (at code : ℕ) (found : Option Op) →
    decided (λ op. goes_unless (instruction_fault op x) (position_after op x)) at code found ≡ Goes y →
    y.flat.state.count ≡ x.flat.state.count + 1
decided_count x y at code None e = cc
decided_count x y at code (Some op) e = goes_count x y (instruction_fault op x) op e

next_count : (x y : Position) → next x ≡ Goes y → y.flat.state.count ≡ x.flat.state.count + 1
next_count x y e = decided_count x y x.flat.state.flow.p (opcode_at x) (decoded (opcode_at x)) e

-- and stays on its chain
goes_chain : (x y : Position) (fault : Option Fault) (op : Op) → goes_unless fault (position_after op x) ≡ Goes y →
    y.chain ≡ x.chain
goes_chain x y None op e =
    let same : position_after op x ≡ y = cc in
    ap (λ (z : Position). z.chain) (sym same)
goes_chain x y (Some fault) op e = cc

decided_chain : (x y : Position) (at code : ℕ) (found : Option Op) →
    decided (λ op. goes_unless (instruction_fault op x) (position_after op x)) at code found ≡ Goes y →
    y.chain ≡ x.chain
decided_chain x y at code None e = cc
decided_chain x y at code (Some op) e = goes_chain x y (instruction_fault op x) op e

next_chain : (x y : Position) → next x ≡ Goes y → y.chain ≡ x.chain
next_chain x y e = decided_chain x y x.flat.state.flow.p (opcode_at x) (decoded (opcode_at x)) e

-- ---- an event

-- it comes to the chips by the chain of the position
pub machine_came : (m : MachineState) (event : Event) (olds news : List ChipState) (chain : List ℕ) → m.chain ≡ chain →
    ComesTo m.chain event olds news → ComesTo chain event olds news
machine_came m event olds news chain same came =
    subst (λ (l : List ℕ). ComesTo l event olds news) same came

-- ---- an instruction

module _ (detail : Detail) (x : Position) (outcome : Outcome) (before after : MachineState) (olds news : List ChipState)
    (refines : Refines outcome before after news x) (ran : RackRuns (steps_in outcome) olds news) where
  abbrev way : Way
  way = on_rack (is_traced detail)

  heard_steps : RackRuns (map heard_of (turn_course x).steps) olds news
  heard_steps =
      subst (λ (hs : List Heard). RackRuns hs olds news) (outcome_heard outcome before after news x refines) ran

  text_is : text_in detail (outcome_told detail outcome) ≡ steps_text detail way x
  text_is = ap (text_in detail) (outcome_is detail outcome before after news x refines)

  -- the sink fails at a line of its steps
  pub steps_fail : {T : Type 0} {E : Type 0} (e : E) (a b : Output) →
      Puts {T = T} (Err e) a b (text_in detail (outcome_told detail outcome)) → StepsFail detail way olds news a b x
  steps_fail e a b puts = record {
    heard = heard_steps;
    some = subst (λ (text : List ℕ). text ≢ []) text_is puts.some;
    part = subst (λ (text : List ℕ). AddsPart a b text) text_is puts.err;
  }

  module _ (a b : Output) (lines : Adds a b (text_in detail (outcome_told detail outcome))) where
    told_lines : Adds a b (steps_text detail way x)
    told_lines = subst (λ (text : List ℕ). Adds a b text) text_is lines

    -- it is done
    pub steps_done : (wrote : Option PortWrite) (steps : List Heard) →
        IsDone after news (next x) (turn_course x) x.flat.state.writes wrote steps →
        StepsDone detail way (λ y. Represents after news y) wrote olds news a b x
    steps_done wrote steps done = record {
      there = done.after;
      turns = done.turns;
      at = done.represents;
      same_chain = next_chain x done.after done.turns;
      counts = next_count x done.after done.turns;
      writes = done.written;
      heard = heard_steps;
      lines = told_lines;
    }

    -- it stops the run
    pub steps_halt : (halt : Halt) → next x ≡ Stops (stop_of halt) → machine_readout after ≡ readout_of x.flat.state →
        StepsHalt detail way (machine_readout after) olds news a b x halt
    steps_halt halt turns reads = record { turns = turns; state = reads; heard = heard_steps; lines = told_lines }
