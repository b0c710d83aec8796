-- Where an instruction leads.
use Rattle.std.proofs.Common.{refl, ◌≡◌, ℕ, ◌+◌, ◌≤◌, ◌++◌, [], List, length, sym, ap, subst, ◌∙◌}
use Rattle.std.specs.Prelude.{Option, Some, None}
use Rattle.f8_spec.specs.ChipState.{ChipState}
use Rattle.f8_spec.specs.Instructions.{decoded}
use Rattle.f8_spec.specs.declared.instructions.Op.{Op}
use Rattle.console_spec.specs.BusTrace.{Course}
use Rattle.console_spec.specs.Run.{Position, Stop, Turn, Goes, Unserved, Reserved as ReservedStop, decided, goes_unless}
use Rattle.console_spec.specs.Run.{instruction_fault, next, opcode_at, position_after, turn_course}
use Rattle.console_spec.specs.Services.{Fault}
use Rattle.f8_machine.specs.Advancing.{Follows}
use Rattle.f8_machine.specs.Faults.{fault_of}
use Rattle.f8_machine.specs.Fitting.{Fits, tried}
use Rattle.f8_machine.specs.HeardSteps.{HaveBytes}
use Rattle.f8_machine.specs.MachineState.{MachineState, steps_in}
use Rattle.f8_machine.specs.Questions.{allowances}
use Rattle.f8_machine.specs.Refinement.{Refines}
use Rattle.f8_machine.specs.declared.heard.Heard.{Heard}
use Rattle.f8_machine.specs.declared.outcome.Outcome.{Outcome}
use Rattle.f8_machine.specs.declared.outcome.Outcome.TheVariants.{Done, Fault as FaultOutcome, Reserved}
use Rattle.rack_run.proofs.MachineTurns.{reads_kept}
use Rattle.rack_run.proofs.Outcomes.{outcome_heard, reserved_course}
use Rattle.rack_run.specs.Machines.{machine_reads}
use Rattle.rewind.specs.Asking.{allowed_since_power}
use Rattle.rewind.specs.Reached.{Reached, hearing, led_by, next_steps, served_steps, turned}
use Rattle.rewind.specs.Standing.{HasReached, IsStoppedBy, StopsAt}
use Rattle.rewind.specs.Tape.{IsOutcomeOf, stop_in, writes_with}
use Rattle.rewind.proofs.AskingLaws.{steps_ask}
use Rattle.rewind.proofs.ReachedLaws.{Shows, goes_at, hearing_none, led_chain, led_heard, represents_at, shows_at, shows_heard, stops_at}

-- ---- the chain stays

goes_chain : (x y : Position) (fault : Option Fault) (op : Op) → goes_unless fault (position_after op x) ≡ Goes y → y.chain ≡ x.chain
goes_chain x y None op e =
    let same : position_after op x ≡ y = cc in
    ap (λ (z : Position). z.chain) (sym same)
goes_chain x y (Some fault) op e = cc

decided_chain : (x y : Position) (at code : ℕ) (found : Option Op) →
    decided (λ op. goes_unless (instruction_fault op x) (position_after op x)) at code found ≡ Goes y → y.chain ≡ x.chain
decided_chain x y at code None e = cc
decided_chain x y at code (Some op) e = goes_chain x y (instruction_fault op x) op e

next_chain : (x y : Position) → next x ≡ Goes y → y.chain ≡ x.chain
next_chain x y e = decided_chain x y x.flat.state.flow.p (opcode_at x) (decoded (opcode_at x)) e

pub turned_chain : (r : Reached) → (turned r).position.chain ≡ r.position.chain
turned_chain r = led_chain (next r.position) (hearing (next_steps r) r) (next_chain r.position)

-- ---- where it leads

-- the turn of an outcome that stops the machine
module _ (m after : MachineState) (olds news : List ChipState) (r : Reached) (at : HasReached m olds r) (running : r.stop ≡ None) where
  -- a machine that is stopped with its registers, counters and clocks kept tells the position
  kept_at : (stop : Stop) → after.flow ≡ m.flow → after.cpu ≡ m.cpu → after.phi ≡ m.phi → IsStoppedBy stop after.mode →
      StopsAt stop after r.position
  kept_at stop flow cpu phi stopped = record {
    reads = reads_kept m after flow cpu phi ∙ machine_reads m olds r.position (represents_at m olds r at running);
    stopped = stopped;
  }

  turned_by : (outcome : Outcome) → Refines outcome m after news r.position → Shows after news (hearing (next_steps r) r) →
      HasReached after news (turned r)
  turned_by (Done wrote steps) done heard =
      goes_at after news (hearing (next_steps r) r) (next r.position) done.after done.turns heard running done.represents
  turned_by (FaultOutcome fault long steps) faulted heard =
      stops_at after news (hearing (next_steps r) r) (next r.position) (Unserved (fault_of fault)) faulted.turns heard
      (kept_at (Unserved (fault_of fault)) (ap (λ (n : MachineState). n.flow) faulted.kept) (ap (λ (n : MachineState). n.cpu) faulted.kept)
      (ap (λ (n : MachineState). n.phi) faulted.kept)
      (subst (λ (n : MachineState). IsStoppedBy (Unserved (fault_of fault)) n.mode) (sym faulted.kept) refl))
  turned_by (Reserved address code) halted heard =
      stops_at after news (hearing (next_steps r) r) (next r.position) (ReservedStop address code) halted.turns heard
      (kept_at (ReservedStop address code) (ap (λ (n : MachineState). n.flow) halted.kept) (ap (λ (n : MachineState). n.cpu) halted.kept)
      (ap (λ (n : MachineState). n.phi) halted.kept)
      (subst (λ (n : MachineState). IsStoppedBy (ReservedStop address code) n.mode) (sym halted.kept) refl))

  module _ (outcome : Outcome) (refines : Refines outcome m after news r.position) (follows : Follows outcome m after olds news)
      (bytes : HaveBytes (steps_in outcome)) where
    heard_more : Shows after news (hearing (next_steps r) r)
    heard_more =
        shows_heard outcome m after olds news r (turn_course r.position) (shows_at m olds r at) follows bytes
        (outcome_heard outcome m after news r.position refines)

    -- whatever comes of it, the machine is where the instruction led
    pub turned_at : HasReached after news (turned r)
    turned_at = turned_by outcome refines heard_more

  -- ---- its outcome

  outcome_stop : (outcome : Outcome) → Refines outcome m after news r.position → stop_in outcome ≡ (turned r).stop
  outcome_stop (Done wrote steps) done =
      sym running ∙ sym (ap (λ (t : Turn). (led_by t (hearing (next_steps r) r)).stop) done.turns)
  outcome_stop (FaultOutcome fault long steps) faulted =
      sym (ap (λ (t : Turn). (led_by t (hearing (next_steps r) r)).stop) faulted.turns)
  outcome_stop (Reserved address code) halted =
      sym (ap (λ (t : Turn). (led_by t (hearing (next_steps r) r)).stop) halted.turns)

  outcome_writes : (outcome : Outcome) → Refines outcome m after news r.position →
      writes_with outcome r.position.flat.state.writes ≡ (turned r).position.flat.state.writes
  outcome_writes (Done wrote steps) done =
      sym done.written
      ∙ sym (ap (λ (t : Turn). (led_by t (hearing (next_steps r) r)).position.flat.state.writes) done.turns)
  outcome_writes (FaultOutcome fault long steps) faulted =
      sym (ap (λ (t : Turn). (led_by t (hearing (next_steps r) r)).position.flat.state.writes) faulted.turns)
  outcome_writes (Reserved address code) halted =
      sym (ap (λ (t : Turn). (led_by t (hearing (next_steps r) r)).position.flat.state.writes) halted.turns)

  pub outcome_is : (outcome : Outcome) → Refines outcome m after news r.position → IsOutcomeOf outcome r
  outcome_is outcome refines = record {
    steps = outcome_heard outcome m after news r.position refines;
    stop = outcome_stop outcome refines;
    wrote = outcome_writes outcome refines;
  }

  -- so many questions it asks
  pub turn_asks : (n : ℕ) (outcome : Outcome) → Refines outcome m after news r.position → Follows outcome m after olds news →
      HaveBytes (steps_in outcome) → length olds ≡ n → length news ≡ n → Fits m olds → Fits after news → (p q : ℕ) →
      q ≤ p + allowances n m.index (tried m.mode outcome) →
      q + allowed_since_power r ≤ p + allowed_since_power (turned r)
  turn_asks n outcome refines follows bytes long kept fits fit p q few =
      let there = turned_at outcome refines follows bytes in
      steps_ask n m after olds news r (turned r) outcome long kept at.chips there.chips fits fit at.index follows.index running
      (led_heard (next r.position) (hearing (next_steps r) r)
      ∙ ap (λ (steps : List Heard). r.heard ++ steps) (sym (outcome_heard outcome m after news r.position refines)))
      (outcome_stop outcome refines) p q few

  -- ---- a reserved opcode

  -- at an opcode that no instruction has, the machine is where it was
  pub stays_at : (address code : ℕ) → Refines (Reserved address code) m after news r.position →
      Follows (Reserved address code) m after olds news → HaveBytes [] → HasReached after news r
  stays_at address code halted follows bytes =
      let steps : next_steps r ≡ [] =
      ap (λ (course : Course). served_steps course) (reserved_course r.position address code halted.turns) in
      let still : hearing (next_steps r) r ≡ r = ap (λ (hs : List Heard). hearing hs r) steps ∙ hearing_none r in
      let shows : Shows after news r = subst (λ (there : Reached). Shows after news there) still
      (heard_more (Reserved address code) halted follows bytes) in
      record {
        machine = rw running halted.represents;
        chain = shows.chain;
        probe = shows.probe;
        chips = shows.chips;
        heard = shows.heard;
        index = shows.index;
        ready = shows.ready;
      }
