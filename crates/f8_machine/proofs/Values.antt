-- Along the bus steps of an instruction every byte that a chip drives is the flat machine's, and the memory becomes the flat machine's.
use Rattle.std.proofs.Common.{◌≡◌, ℕ, ◌/◌, ◌%◌, true, List, [], ◌∷◌, ◌++◌, refl, ap, ◌∙◌, sym}
use Rattle.std.specs.Prelude.{◌==◌, if◌then◌else◌}
use Rattle.f8_spec.specs.Words.{places_on}
use Rattle.f8_spec.specs.BusCodes.{Count, driver_of, moved_by}
use Rattle.f8_spec.specs.BusArbitration.{Seat, place_in}
use Rattle.f8_spec.specs.ChipState.{counter_byte}
use Rattle.f8_spec.specs.Instructions.{row_of}
use Rattle.f8_spec.specs.MicroSteps.{Step}
use Rattle.f8_spec.specs.declared.bus.Driver.{Driver}
use Rattle.f8_spec.specs.declared.bus.Driver.TheVariants.{Memory, CounterByte, Vector, Port, Cpu, Nobody}
use Rattle.f8_spec.specs.declared.instructions.Op.{Op}
use Rattle.f8_spec.specs.declared.instructions.Row.{Row}
use Rattle.f8_spec.specs.declared.instructions.Row.TheVariants.{StoreData}
use Rattle.console_spec.specs.AddressSpace.{byte_at}
use Rattle.console_spec.specs.FlatMemory.{stored_at}
use Rattle.console_spec.specs.FlatMachine.{FlatState, memory_after, gets, gets_all}
use Rattle.console_spec.specs.Processor.{Flow, Inputs, byte_of, counters_after, own_inputs}
use Rattle.console_spec.proofs.InputLaws.{with_opcode, counters_after-with_opcode}
use Rattle.console_spec.proofs.Walks.{moved_along}
use Rattle.f8_machine.proofs.Places.{last_along}

-- ---- the memory along the steps

-- a store changes the memory
abbrev pub memory_by : ℕ → List Seat → ℕ → ℕ → List ℕ → List ℕ
memory_by romc seats at byte memory = if romc == 0x05 then stored_at seats at byte memory else memory

abbrev pub memory_along : List Seat → Inputs → List Step → Count → ℕ → List ℕ → List ℕ
memory_along seats i [] c last memory = memory
memory_along seats i (s ∷ later) c last memory =
    memory_along seats i later (moved_by s.romc (byte_of i s.source) true c) (byte_of i s.source)
    (memory_by s.romc seats (place_in s.romc c last) (byte_of i s.source) memory)

pub memory_along-append : (seats : List Seat) (i : Inputs) (first later : List Step) (c : Count) (last : ℕ)
    (memory : List ℕ) →
    memory_along seats i (first ++ later) c last memory
    ≡ memory_along seats i later (moved_along true i first c) (last_along i first last)
    (memory_along seats i first c last memory)
memory_along-append seats i [] later c last memory = refl
memory_along-append seats i (s ∷ first) later c last memory = memory_along-append seats i first later _ _ _

-- ---- the bytes along the steps

-- what the byte of a step has to be, by who drives it; the ports and the vector stand apart
abbrev pub ValueIs : Driver → ℕ → List ℕ → ℕ → ℕ → Type 0
ValueIs Memory romc memory at value = value ≡ byte_at memory at
ValueIs CounterByte romc memory at value = value ≡ counter_byte romc at
ValueIs Vector romc memory at value = Unit {0}
ValueIs Port romc memory at value = Unit {0}
ValueIs Cpu romc memory at value = Unit {0}
ValueIs Nobody romc memory at value = value ≡ 0

abbrev pub Values : List Seat → Inputs → List Step → Count → ℕ → List ℕ → Type 0
Values seats i [] c last memory = Unit {0}
Values seats i (s ∷ later) c last memory =
    ValueIs (driver_of s.romc) s.romc memory (place_in s.romc c last) (byte_of i s.source)
    × Values seats i later (moved_by s.romc (byte_of i s.source) true c) (byte_of i s.source)
    (memory_by s.romc seats (place_in s.romc c last) (byte_of i s.source) memory)

pub Values-append : (seats : List Seat) (i : Inputs) (first later : List Step) (c : Count) (last : ℕ)
    (memory : List ℕ) →
    Values seats i first c last memory →
    Values seats i later (moved_along true i first c) (last_along i first last)
    (memory_along seats i first c last memory) →
    Values seats i (first ++ later) c last memory
Values-append seats i [] later c last memory front back = back
Values-append seats i (s ∷ first) later c last memory front back =
    (front.0, Values-append seats i first later _ _ _ front.1 back)

-- what an instruction gets from the memory and from the counters
pub record FromFlat (row : Row) (seats : List Seat) (i : Inputs) (memory : List ℕ) (c : Flow) : Type 0 where
  pub operand : i.operand ≡ byte_at memory (places_on c.p 1)
  pub second : i.second ≡ byte_at memory (places_on c.p 2)
  pub data_byte : i.data_byte ≡ byte_at memory c.d0
  pub data_high : i.data_high ≡ c.d0 / 256
  pub data_low : i.data_low ≡ c.d0 % 256
  pub stack_high : i.stack_high ≡ c.p1 / 256
  pub stack_low : i.stack_low ≡ c.p1 % 256
  pub opcode : i.opcode ≡ byte_at (memory_after row seats i c memory) (counters_after row i true c).p

-- ---- the flat machine's own inputs

pub memory_after-with_opcode : (seats : List Seat) (row : Row) (code : ℕ) (i : Inputs) (c : Flow) (memory : List ℕ) →
    memory_after row seats (with_opcode code i) c memory ≡ memory_after row seats i c memory
memory_after-with_opcode seats StoreData code i c memory = refl
memory_after-with_opcode seats row code i c memory = refl

own_opcode : (row : Row) (seats : List Seat) (own : Inputs) (c : Flow) (memory : List ℕ) (code : ℕ) →
    code ≡ byte_at (memory_after row seats own c memory) (counters_after row own true c).p →
    code ≡ byte_at (memory_after row seats (with_opcode code own) c memory)
    (counters_after row (with_opcode code own) true c).p
own_opcode row seats own c memory code e =
    e ∙ sym (ap (λ m. byte_at m (counters_after row (with_opcode code own) true c).p)
    (memory_after-with_opcode seats row code own c memory)
    ∙ ap (λ (x : Flow). byte_at (memory_after row seats own c memory) x.p)
    (counters_after-with_opcode row code own true c))

pub from_flat : (op : Op) (seats : List Seat) (chain : List ℕ) (f : FlatState) →
    FromFlat (row_of op) seats (gets_all op seats chain f) f.memory f.state.flow
unfolding own_inputs
from_flat op seats chain f = record {
  operand = refl;
  second = refl;
  data_byte = refl;
  data_high = refl;
  data_low = refl;
  stack_high = refl;
  stack_low = refl;
  opcode = own_opcode (row_of op) seats (gets op seats chain f) f.state.flow f.memory _ refl;
}
