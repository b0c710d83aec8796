-- What the steps of an instruction are to do to the CPU: where it drives the byte of a step, or nobody does, it drives that byte, and
-- along all steps it comes to the registers of the flat machine, with its own ports written and the next opcode held.
use Rattle.std.specs.Prelude.{◌≡◌, ℕ, ◌+◌, Bool, true, false, List, [], ◌∷◌}
use Rattle.f8_spec.specs.BusCodes.{driver_of}
use Rattle.f8_spec.specs.MicroSteps.{Step as MicroStep}
use Rattle.f8_spec.specs.declared.bus.Driver.{Driver}
use Rattle.f8_spec.specs.declared.bus.Driver.TheVariants.{Cpu, Nobody}
use Rattle.f8_spec.specs.declared.instructions.Op.{Op}
use Rattle.console_spec.specs.Processor.{Inputs, byte_of, scratch_byte, is_taken, port_field, result_of}
use Rattle.cpu3850.specs.CpuPorts.{read_by, put_by}
use Rattle.cpu3850.specs.CpuSteps.{CpuState, driven, taken}
use Rattle.f8_spec.specs.RegisterNumbers.{register_hu, register_hl, register_ku, register_kl, register_qu, register_ql}

-- the byte of a step is that of the CPU, or of nobody
abbrev pub is_placed_by : Driver → Bool
is_placed_by Cpu = true
is_placed_by Nobody = true
is_placed_by driver = false

-- where the flag is set, the byte is the wanted one
abbrev pub Places : Bool → ℕ → ℕ → Type 0
Places true byte wanted = byte ≡ wanted
Places false byte wanted = Unit {0}

-- what an instruction gets, with all that comes from the CPU before it: `INS` of port 0 or 1 gets the byte of the CPU's own port
abbrev pub from_cpu : Op → CpuState → Inputs → Inputs
from_cpu op c i = record i {
  taken = is_taken op c.registers;
  accumulator = c.registers.accumulator;
  k_high = scratch_byte register_ku c.registers;
  k_low = scratch_byte register_kl c.registers;
  q_high = scratch_byte register_qu c.registers;
  q_low = scratch_byte register_ql c.registers;
  h_high = scratch_byte register_hu c.registers;
  h_low = scratch_byte register_hl c.registers;
  port = port_field op;
  port_byte = read_by op i.port_byte c.ports;
}

-- Over the steps that are left, from the one at this index on, with the bytes that the instruction gets.
abbrev pub Reaches : Inputs → ℕ → List MicroStep → CpuState → CpuState → Type 0
Reaches i index [] c end = c ≡ end
Reaches i index (s ∷ rest) c end =
    Places (is_placed_by (driver_of s.romc)) (driven index c) (byte_of i s.source)
    × Reaches i (index + 1) rest (taken index (byte_of i s.source) c) end

-- the CPU after an instruction
abbrev pub done : Op → Inputs → CpuState → CpuState
done op i c = record {
  registers = result_of op i c.registers;
  ports = put_by op i.accumulator c.ports;
  opcode = i.opcode;
}
