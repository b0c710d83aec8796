-- A position whose pulses are all spent, beside one of a free run: with what the trace dictates, the next instruction does the same at both.
use Rattle.std.proofs.Common.{◌≡◌, ℕ, ◌+◌, ◌-◌, ◌<◌, ◌≤◌, ◌==◌, Bool, true, false, List, ◌++◌, length, Option, Some, None, ◌∙◌, ap, sym}
use Rattle.std.proofs.Common.{arith, subst}
use Rattle.std.specs.Prelude.{if◌then◌else◌}
use Rattle.f8_spec.specs.Instructions.{clocks_before_fetch}
use Rattle.f8_spec.specs.declared.instructions.Op.{Op}
use Rattle.console_spec.specs.FlatStep.{clocks_by, with_acknowledged}
use Rattle.console_spec.specs.InterruptRequests.{Mark, last_write_time, last_mark_time}
use Rattle.console_spec.specs.Processor.{State, history_of, result_of, write_at, written_port, with_write}
use Rattle.console_spec.specs.Run.{Position, seats_of, gets_at, instruction_course, instruction_fault, position_after}
use Rattle.console_spec.specs.declared.PortWrite.{PortWrite}
use Rattle.bus_audit.specs.PlainSteps.{HaveBytes, plain_course}
use Rattle.bus_audit.specs.declared.step.TraceStep.{TraceStep}
use Rattle.bus_audit.specs.Choices.{interrupting_socket, from_last_fetch, key_choice, pulse_choice}
use Rattle.bus_audit.specs.Determinacy.{with_free}
use Rattle.bus_audit.proofs.FreeInputs.{keys_after, pulses_after, keys_after-append, pulses_after-append, length-keys_after, free_leaves}
use Rattle.bus_audit.proofs.Courses.{served_before}
use Rattle.bus_audit.proofs.SameSteps.{before_at, own_at, port_at, chosen_with, IsWanted, same_gets, same_after, same_steps, same_fault}
use Rattle.bus_audit.proofs.ToldSteps.{vector_told}
use Rattle.bus_audit.proofs.PortReads.{OwnAlike, port_reads, pulse_leaves_keys, key_leaves_pulses}
use Rattle.bus_audit.proofs.Asking.{dictated_pulsing, AreSpent, chosen_again, spent_now}
use Rattle.bus_audit.proofs.FreeChoices.{op_free}
use Rattle.bus_audit.specs.Choices.{data_port_read, second_byte}
use Rattle.console_spec.specs.AddressSpace.{byte_at}
use Rattle.f8_spec.specs.Words.{places_on}

-- ---- what stays true between instructions

-- every write and every acknowledgement counts from before now
pub record IsSteady (s : State) : Type 0 where
  pub writes : (port : ℕ) → last_write_time port s.writes < s.phi
  pub acknowledged : (chip : ℕ) → last_mark_time chip s.acknowledged < s.phi

-- these key bytes and pulses beside those of a position
pub record Shadow (y : Position) (keys : List ℕ) (pulses : List Mark) : Type 0 where
  pub steady : IsSteady y.flat.state
  pub spent : AreSpent y.flat.state.acknowledged pulses
  pub size : length keys ≡ 256
  pub free_size : length y.flat.state.keys ≡ 256
  pub alike : OwnAlike keys y.flat.state.keys

-- ---- behind an instruction

write_early : (here : Bool) (ending phi last : ℕ) → last < phi → phi ≤ ending → (if here then ending - 4 else last) < ending
write_early true ending phi last early later = omega arith
write_early false ending phi last early later = omega arith

writes_steady : (o : Option ℕ) (byte ending phi : ℕ) (ws : List PortWrite) → phi ≤ ending → ((port : ℕ) → last_write_time port ws < phi) →
    (port : ℕ) → last_write_time port (with_write (write_at ending byte o) ws) < ending
writes_steady None byte ending phi ws later early port = let here : last_write_time port ws < phi = early port in omega arith
writes_steady (Some written) byte ending phi ws later early port =
    write_early (written == port) ending phi (last_write_time port ws) (early port) later

marks_steady : (o : Option ℕ) (ending phi : ℕ) (ms : List Mark) → phi ≤ ending → ((chip : ℕ) → last_mark_time chip ms < phi) →
    (chip : ℕ) → last_mark_time chip (with_acknowledged o ending ms) < ending
marks_steady None ending phi ms later early chip = let here : last_mark_time chip ms < phi = early chip in omega arith
marks_steady (Some socket) ending phi ms later early chip =
    write_early (socket == chip) ending phi (last_mark_time chip ms) (early chip) later

pub steady_after : (op : Op) (y : Position) → IsSteady y.flat.state → IsSteady (position_after op y).flat.state
steady_after op y steady =
    let i = gets_at op y in
    let phi = y.flat.state.phi in
    let ending = phi + clocks_by i.chosen op i.taken in
    let later : phi ≤ ending = omega arith in
    record {
      writes = writes_steady (written_port op i.operand (seats_of y.copies)) i.accumulator ending phi y.flat.state.writes later steady.writes;
      acknowledged = marks_steady i.chosen ending phi y.flat.state.acknowledged later steady.acknowledged;
    }

pub late_by : (o : Option ℕ) (s : ℕ) (op : Op) (taken : Bool) (phi : ℕ) → o ≡ Some s → phi + 4 ≤ phi + clocks_by o op taken
late_by None s op taken phi is = absurd (cc)
late_by (Some t) s op taken phi is = omega arith

-- ---- the next instruction

module _ (y : Position) (keys : List ℕ) (pulses : List Mark) (shadow : Shadow y keys pulses) (op : Op) (trace more : List TraceStep)
    (small : HaveBytes trace) (is : trace ≡ plain_course (instruction_course op y) ++ more) where
  -- with what the trace dictates
  abbrev pub chosen_keys : List ℕ
  chosen_keys = keys_after (key_choice op y trace ++ pulse_choice op y trace) keys

  abbrev pub chosen_pulses : List Mark
  chosen_pulses = pulses_after y.chain y.flat.state.phi (key_choice op y trace ++ pulse_choice op y trace) pulses

  abbrev told : Option ℕ
  told = interrupting_socket (from_last_fetch op y trace)

  keys_are : chosen_keys ≡ keys_after (key_choice op y trace) keys
  keys_are =
      keys_after-append (key_choice op y trace) (pulse_choice op y trace) keys
      ∙ pulse_leaves_keys y.flat.state.writes (seats_of y.copies) y.chain told (keys_after (key_choice op y trace) keys)

  pulses_are : chosen_pulses ≡ pulses_after y.chain y.flat.state.phi (pulse_choice op y trace) pulses
  pulses_are =
      pulses_after-append y.chain y.flat.state.phi (key_choice op y trace) (pulse_choice op y trace) pulses
      ∙ ap (pulses_after y.chain y.flat.state.phi (pulse_choice op y trace))
      (key_leaves_pulses y.chain y.flat.state.phi y.flat.state.writes (seats_of y.copies)
      (data_port_read op (byte_at y.flat.memory (places_on y.flat.state.flow.p 1))) (second_byte trace) pulses)

  pub chosen_same : (before_at op y).fault ≡ None →
      chosen_with op y (history_of (with_free chosen_keys chosen_pulses y).flat.state) (own_at op y)
      ≡ chosen_with op y (history_of y.flat.state) (own_at op y)
  chosen_same served =
      let s = y.flat.state in
      let time = s.phi + clocks_before_fetch op (own_at op y).taken in
      let order : s.phi ≤ time = omega arith in
      let is_told : told ≡ chosen_with op y (history_of s) (own_at op y) = vector_told op y trace more served is in
      let again = chosen_again (seats_of y.copies) s.writes s.acknowledged s.pulses pulses y.chain s.phi time told
      (dictated_pulsing (seats_of y.copies) s.writes y.chain s.phi pulses) shadow.spent
      shadow.steady.writes shadow.steady.acknowledged order op (result_of op (own_at op y) s.registers).status.icb (sym is_told) in
      ap (λ (ms : List Mark). chosen_with op y (record { writes = s.writes; acknowledged = s.acknowledged; pulses = ms }) (own_at op y)) pulses_are
      ∙ again
      ∙ is_told

  wanted : (before_at op y).fault ≡ None → IsWanted op y chosen_keys chosen_pulses
  wanted served = record {
    port =
        ap (λ (ks : List ℕ). port_at op (with_free ks chosen_pulses y)) keys_are
        ∙ port_reads y trace more keys chosen_pulses small shadow.size shadow.alike op served is;
    chosen = chosen_same served;
  }

  pub steps_same : instruction_course op (with_free chosen_keys chosen_pulses y) ≡ instruction_course op y
  steps_same = same_steps op y chosen_keys chosen_pulses wanted

  pub fault_same : instruction_fault op (with_free chosen_keys chosen_pulses y) ≡ instruction_fault op y
  fault_same = same_fault op y (with_free chosen_keys chosen_pulses y) steps_same

  pub after_same : instruction_fault op y ≡ None →
      position_after op (with_free chosen_keys chosen_pulses y) ≡ with_free chosen_keys chosen_pulses (position_after op y)
  after_same served = same_after op y chosen_keys chosen_pulses (same_gets op y chosen_keys chosen_pulses (wanted (served_before op y served)))

  spent_after : instruction_fault op y ≡ None → AreSpent (position_after op y).flat.state.acknowledged chosen_pulses
  spent_after served =
      let s = y.flat.state in
      let i = gets_at op y in
      let ending = s.phi + clocks_by i.chosen op i.taken in
      let time = s.phi + clocks_before_fetch op (own_at op y).taken in
      let order : s.phi ≤ time = omega arith in
      let is_told : told ≡ i.chosen = vector_told op y trace more (served_before op y served) is in
      let now = spent_now (seats_of y.copies) s.writes s.acknowledged s.pulses pulses y.chain s.phi time told
      (dictated_pulsing (seats_of y.copies) s.writes y.chain s.phi pulses) shadow.spent
      shadow.steady.writes shadow.steady.acknowledged order ending
      (λ socket e. late_by i.chosen socket op i.taken s.phi (sym is_told ∙ e)) in
      subst (λ (o : Option ℕ). AreSpent (with_acknowledged o ending s.acknowledged) chosen_pulses) is_told
      (subst (AreSpent (with_acknowledged told ending s.acknowledged)) (sym pulses_are) now)

  pub shadow_after : instruction_fault op y ≡ None → Shadow (position_after op y) chosen_keys chosen_pulses
  shadow_after served = record {
    steady = steady_after op y shadow.steady;
    spent = spent_after served;
    size = length-keys_after (key_choice op y trace ++ pulse_choice op y trace) keys ∙ shadow.size;
    free_size = shadow.free_size;
    alike = λ n within.
        free_leaves (key_choice op y trace ++ pulse_choice op y trace) keys n (op_free op y trace small) within ∙ shadow.alike n within;
  }
