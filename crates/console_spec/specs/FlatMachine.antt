-- The flat machine with its memory, and an instruction on it: what the run of a program is compared with.
use Rattle.std.specs.Prelude.{ℕ, List}
use Rattle.f8_spec.specs.Instructions.{row_of}
use Rattle.f8_spec.specs.ChipState.{ChipView}
use Rattle.f8_spec.specs.BusArbitration.{Seat}
use Rattle.f8_spec.specs.declared.chips.PowerOn.{PowerOn}
use Rattle.f8_spec.specs.declared.instructions.Op.{Op}
use Rattle.f8_spec.specs.declared.instructions.Row.{Row}
use Rattle.f8_spec.specs.declared.instructions.Row.TheVariants.{StoreData}
use Rattle.console_spec.specs.AddressSpace.{byte_at}
use Rattle.console_spec.specs.FlatMemory.{first_memory, stored_at}
use Rattle.console_spec.specs.Powering.{fill_in}
use Rattle.console_spec.specs.Processor.{Flow, Inputs, State, at_power}
use Rattle.console_spec.specs.FlatStep.{inputs_of, after_instruction}

-- a state, and the byte that is read at each of the 65,536 addresses
pub record FlatState : Type 0 where
  pub state : State
  pub memory : List ℕ

-- power-on, over the memory of some chips, with what is said of those described
abbrev pub flat_at_power : List ChipView → List ℕ → List PowerOn → ℕ → FlatState
flat_at_power vs chain powers fill = record { state = at_power fill; memory = first_memory vs (fill_in fill chain powers) }

-- `ST` alone stores
abbrev pub memory_after : Row → List Seat → Inputs → Flow → List ℕ → List ℕ
memory_after StoreData seats i c memory = stored_at seats c.d0 i.accumulator memory
memory_after row seats i c memory = memory

-- what an instruction gets, but for the opcode at its end
abbrev pub gets : Op → List Seat → List ℕ → FlatState → Inputs
gets op seats chain f = inputs_of op f.memory seats chain f.state

-- the flat machine after an instruction
abbrev pub flat_after : Op → List Seat → List ℕ → FlatState → FlatState
flat_after op seats chain f = record {
  state = after_instruction op f.memory seats chain f.state;
  memory = memory_after (row_of op) seats (gets op seats chain f) f.state.flow f.memory;
}

-- what an instruction gets, with the opcode that it fetches at its end, after its own store
abbrev pub gets_all : Op → List Seat → List ℕ → FlatState → Inputs
gets_all op seats chain f =
    let after = flat_after op seats chain f in
    record (gets op seats chain f) { opcode = byte_at after.memory after.state.flow.p }
