-- A position beside an invariant that stands for it: what the instruction there gets.
use Rattle.std.proofs.Common.{◌≡◌, ℕ, ◌<◌, refl, ap, arith}
use Rattle.std.specs.Prelude.{Option, Some, None, option_and_then}
use Rattle.f8_spec.specs.Words.{places_on}
use Rattle.f8_spec.specs.Instructions.{decoded}
use Rattle.f8_spec.specs.declared.instructions.Op.{Op}
use Rattle.console_spec.specs.AddressSpace.{byte_at}
use Rattle.console_spec.specs.Processor.{own_inputs}
use Rattle.console_spec.specs.Run.{Position, seats_of, opcode_at}
use Rattle.abs_domain.specs.Lattice.{Below}
use Rattle.abs_domain.proofs.Orders.{below_trans}
use Rattle.abs_step.specs.MapView.{MapView}
use Rattle.abs_step.specs.Successors.{Invariant, inputs_at}
use Rattle.abs_step.specs.Concretization.{whole_registers}
use Rattle.abs_step.specs.SoundSteps.{IsBeside}
use Rattle.abs_step.specs.Safety.{op_at}
use Rattle.abs_step.proofs.Scratchpads.{register_below}
use Rattle.abs_step.proofs.Exact.{register_whole}
use Rattle.abs_step.proofs.InputLaws.{whole_inputs, InputsBelow, taken_tells, pair_of_below}

-- ---- bytes of the map

told_byte : (o : Option ℕ) (byte : ℕ) → ((b : ℕ) → o ≡ Some b → byte ≡ b) → Below (Some byte) o
told_byte None byte each = tt
told_byte (Some b) byte each = ap Some (each b refl)

told_at : (m : MapView) (x : Invariant) (here : Position) → IsBeside m x here → (at : ℕ) → at < 65536 →
    Below (Some (byte_at here.flat.memory at)) (m.byte at)
told_at m x here h at small = told_byte (m.byte at) (byte_at here.flat.memory at) (λ b is. h.fixed at b small is)

told_through : (m : MapView) (x : Invariant) (here : Position) → IsBeside m x here → (at : ℕ) (o : Option ℕ) → at < 65536 →
    Below (Some at) o →
    Below (Some (byte_at here.flat.memory at)) (option_and_then m.byte o)
told_through m x here h at None small p = tt
told_through m x here h at (Some v) small p =
    let same : v ≡ at = cc in
    rw same (told_at m x here h at small)

-- the opcode is the one that the map tells
opcode_by : (m : MapView) (x : Invariant) (here : Position) (op : Op) (o : Option ℕ) → m.byte x.point.at ≡ o → IsBeside m x here →
    option_and_then decoded o ≡ Some op → decoded (opcode_at here) ≡ Some op
opcode_by m x here op None told h is = absurd (cc)
opcode_by m x here op (Some b) told h is =
    let at : here.flat.state.flow.p ≡ x.point.at = h.tells.at in
    let small : x.point.at < 65536 = rw at at h.range.counters.p in
    let byte : byte_at here.flat.memory x.point.at ≡ b = h.fixed x.point.at b small told in
    rw (at, byte) is

pub opcode_told : (m : MapView) (x : Invariant) (here : Position) (op : Op) → IsBeside m x here → op_at m x ≡ Some op →
    decoded (opcode_at here) ≡ Some op
opcode_told m x here op h is = opcode_by m x here op (m.byte x.point.at) refl h is

-- ---- what the instruction gets

pub inputs_tell : (op : Op) (m : MapView) (x : Invariant) (here : Position) → IsBeside m x here →
    InputsBelow (whole_inputs (own_inputs op here.flat.memory (seats_of here.copies) here.flat.state)) (inputs_at op m x)
unfolding own_inputs
inputs_tell op m x here h =
    let registers = here.flat.state.registers in
    let told = h.tells.registers in
    let known =
    λ (n : ℕ). below_trans _ _ _ (register_whole n registers) (register_below n (whole_registers registers) x.state.registers told) in
    record {
      taken = taken_tells op registers x.state.registers told;
      operand = rw h.tells.at (told_at m x here h (places_on x.point.at 1) (omega arith));
      second = rw h.tells.at (told_at m x here h (places_on x.point.at 2) (omega arith));
      data_byte = told_through m x here h here.flat.state.flow.d0 x.state.counters.d0 h.range.counters.d0 h.tells.counters.d0;
      counter_bytes = pair_of_below (Some here.flat.state.flow.d0) x.state.counters.d0 h.tells.counters.d0;
      stack_bytes = pair_of_below (Some here.flat.state.flow.p1) x.point.ret h.tells.ret;
      accumulator = told.accumulator;
      k_high = known 12;
      k_low = known 13;
      q_high = known 14;
      q_low = known 15;
      h_high = known 10;
      h_low = known 11;
    }
