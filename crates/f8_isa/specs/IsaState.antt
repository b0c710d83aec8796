-- The instruction set over one flat memory, as contracts see it: the flat machine's state, without the count of instructions and the list
-- of writes, which it doesn't keep, and with the latches of the ports and what the chips make of each page and each port.
use Rattle.std.specs.Prelude.{◌≡◌, ℕ, ◌+◌, ◌-◌, ◌/◌, ◌<◌, Bool, true, false, not, ◌||◌, if◌then◌else◌, List, [], slice_index_or, slice_set}
use Rattle.std.specs.Prelude.{Option, Some, None, is_some}
use Rattle.f8_spec.specs.Instructions.{decoded, row_of, clocks_of, fetch_clocks, interrupt_clocks, is_shielding}
use Rattle.f8_spec.specs.Words.{places_on}
use Rattle.f8_spec.specs.BusArbitration.{Seat}
use Rattle.f8_spec.specs.declared.instructions.Op.{Op}
use Rattle.f8_spec.specs.declared.instructions.Row.{Row}
use Rattle.f8_spec.specs.declared.instructions.Row.TheVariants.{StoreData, PortIn, PortOut}
use Rattle.console_spec.specs.AddressSpace.{byte_at}
use Rattle.console_spec.specs.InterruptRequests.{History, no_history, effect_time}
use Rattle.console_spec.specs.Processor.{Flow, Registers, Inputs, State, own_inputs, flow_after, result_of, write_at, with_write, with_key}
use Rattle.console_spec.specs.Processor.{history_of}
use Rattle.console_spec.specs.FlatMachine.{FlatState}
use Rattle.console_spec.specs.FlatMemory.{sort_of, is_ram_sort}
use Rattle.console_spec.specs.Run.{Position, Stop, Goes, Stops, flat_next, gets_at, opcode_at, seats_of, position_after_reset}
use Rattle.console_spec.specs.Run.{with_pulse_at}
use Rattle.console_spec.specs.declared.PortWrite.{PortWrite}
use Rattle.f8_isa.specs.Requests.{KnowsChain, all_after_write, asking_place, place_vector, acknowledged_at_place}
use Rattle.f8_isa.specs.declared.requests.ChipRequests.{ChipRequests}
use Rattle.f8_isa.specs.Ports.{PortState, AreLatches, KnowsPorts, value_read, port_taking, ports_after}

pub record IsaState : Type 0 where
  pub flow : Flow
  pub registers : Registers
  pub phi : ℕ
  -- the byte that is read at each of the 65,536 addresses
  pub memory : List ℕ
  -- which of the 256 pages of addresses are RAM
  pub ram_pages : List Bool
  pub ports : PortState
  -- what is kept of the requests of the chips described, in their order
  pub requests : List ChipRequests

-- the page of an address is RAM
abbrev pub is_ram_page : List Bool → ℕ → Bool
is_ram_page ram_pages at = slice_index_or ram_pages (at / 256) false

-- the memory after a store, which is lost where the page is no RAM
abbrev pub stored_in : List Bool → ℕ → ℕ → List ℕ → List ℕ
stored_in ram_pages at byte memory = if is_ram_page ram_pages at then slice_set memory at byte else memory

-- the memory after an instruction of a row, which stores the accumulator at the data counter or nothing
abbrev pub memory_by : Row → List Bool → ℕ → ℕ → List ℕ → List ℕ
memory_by StoreData ram_pages at byte memory = stored_in ram_pages at byte memory
memory_by row ram_pages at byte memory = memory

-- ---- beside the flat machine

-- the state of the flat machine where so many instructions are done, with this history
abbrev pub state_of : IsaState → ℕ → History → State
state_of isa count h = record {
  flow = isa.flow;
  registers = isa.registers;
  keys = isa.ports.keys;
  writes = h.writes;
  acknowledged = h.acknowledged;
  pulses = h.pulses;
  count = count;
  phi = isa.phi;
}

abbrev pub flat_of : IsaState → ℕ → History → FlatState
flat_of isa count h = record { state = state_of isa count h; memory = isa.memory }

-- the pages that are RAM are those of these chips
pub record KnowsRam (ram_pages : List Bool) (seats : List Seat) : Type 0 where
  pub page : (at : ℕ) → at < 65536 → is_ram_page ram_pages at ≡ is_ram_sort (sort_of seats at)

-- it stands where the flat machine stands, with so many instructions done, and each latch has what was last written to its port
pub record StandsAt (isa : IsaState) (count : ℕ) (x : Position) : Type 0 where
  pub flat : x.flat ≡ flat_of isa count (history_of x.flat.state)
  pub ram : KnowsRam isa.ram_pages (seats_of x.copies)
  pub ports : KnowsPorts isa.ports (seats_of x.copies)
  pub latches : AreLatches isa.ports.latches x.flat.state.writes
  pub requests : KnowsChain (seats_of x.copies) (history_of x.flat.state) isa.phi isa.requests x.chain

-- ---- an instruction, but for the interrupt at its end

-- what an instruction gets: at its port by the latches and the key bytes, and else as the flat machine does
abbrev pub kept_inputs : Op → IsaState → Inputs
kept_inputs op isa = record (own_inputs op isa.memory [] (state_of isa 0 no_history)) {
  port_byte = value_read op (byte_at isa.memory (places_on isa.flow.p 1)) isa.ports;
}

-- its write, if a port takes it, with the clocks at its end
abbrev pub kept_write : Op → IsaState → ℕ → Option PortWrite
kept_write op isa phi = write_at phi isa.registers.accumulator (port_taking op (byte_at isa.memory (places_on isa.flow.p 1)) isa.ports)

abbrev pub phi_after : Op → IsaState → ℕ
phi_after op isa = isa.phi + clocks_of op (kept_inputs op isa).taken

abbrev pub isa_after : Op → IsaState → IsaState
isa_after op isa = record {
  flow = flow_after (row_of op) (kept_inputs op isa) true isa.flow;
  registers = result_of op (kept_inputs op isa) isa.registers;
  phi = phi_after op isa;
  memory = memory_by (row_of op) isa.ram_pages isa.flow.d0 isa.registers.accumulator isa.memory;
  ram_pages = isa.ram_pages;
  ports = ports_after (kept_write op isa (phi_after op isa)) isa.ports;
  requests = all_after_write (kept_write op isa (phi_after op isa)) isa.requests;
}

-- ---- the interrupt at the end of an instruction that is done but for it

-- requests are sampled before the last fetch
abbrev pub sample_time : Op → IsaState → ℕ
sample_time op done = done.phi - fetch_clocks (row_of op)

-- the place of the chip whose interrupt is taken
abbrev pub chosen_place : Op → IsaState → Option ℕ
chosen_place op done =
    if is_shielding op || not done.registers.status.icb then None else asking_place (sample_time op done) done.requests

-- The interrupt of the chip in a place, by the time of the sample: it takes the place of the last fetch, and is acknowledged 4 Φ before
-- the end.
abbrev pub with_interrupt : Option ℕ → ℕ → IsaState → IsaState
with_interrupt None time done = done
with_interrupt (Some place) time done = record done {
  flow = record done.flow { p = place_vector place done.ports.latches done.requests; p1 = done.flow.p };
  registers = record done.registers { status = record done.registers.status { icb = false } };
  phi = time + interrupt_clocks;
  requests = acknowledged_at_place (effect_time (time + interrupt_clocks)) place done.requests;
}

abbrev pub finished : Op → IsaState → IsaState
finished op done = with_interrupt (chosen_place op done) (sample_time op done) done

-- the vector of an interrupt that is taken is a number that an address can be
abbrev pub VectorFits : Option ℕ → IsaState → Type 0
VectorFits None done = Unit {0}
VectorFits (Some place) done = place_vector place done.ports.latches done.requests < 65536

-- ---- beside the flat machine's instruction

-- the address at which it stores, and the port that its operand names, are numbers that an address and a byte can be
pub record InReach (op : Op) (isa : IsaState) : Type 0 where
  pub address : row_of op ≡ StoreData → isa.flow.d0 < 65536
  pub port_read : row_of op ≡ PortIn → byte_at isa.memory (places_on isa.flow.p 1) < 256
  pub port_written : row_of op ≡ PortOut → byte_at isa.memory (places_on isa.flow.p 1) < 256

-- where the flat machine's next instruction leads, and that its writes gain what is told and nothing else
pub record LeadsTo (x : Position) (isa : IsaState) (count : ℕ) (wrote : Option PortWrite) : Type 0 where
  pub next : Position
  pub goes : flat_next x ≡ Goes next
  pub stands : StandsAt isa count next
  pub gains : next.flat.state.writes ≡ with_write wrote x.flat.state.writes

-- wherever it stood with the flat machine, the next instruction leads both on to where they stand together again, and tells its write
abbrev pub GoesTo : IsaState → IsaState → Option PortWrite → Type 0
GoesTo before after wrote = (count : ℕ) (x : Position) → StandsAt before count x → LeadsTo x after (count + 1) wrote

-- wherever it stands with the flat machine, it tells whether an interrupt is taken at the end of the next instruction
abbrev pub TellsInterrupt : IsaState → Bool → Type 0
TellsInterrupt isa vectored = (count : ℕ) (x : Position) (op : Op) → StandsAt isa count x → decoded (opcode_at x) ≡ Some op →
    vectored ≡ is_some (gets_at op x).chosen

-- wherever it stands with the flat machine, the next instruction stops the run
abbrev pub StopsBy : IsaState → Stop → Type 0
StopsBy isa stop = (count : ℕ) (x : Position) → StandsAt isa count x → flat_next x ≡ Stops stop

-- ---- a key byte

-- the flat machine with a key byte from outside
abbrev pub with_key_at : ℕ → ℕ → Position → Position
with_key_at port byte x = record x { flat = record x.flat { state = with_key port byte x.flat.state } }

-- wherever it stood with the flat machine, a key byte of both leaves them together
abbrev pub TakesKey : ℕ → ℕ → IsaState → IsaState → Type 0
TakesKey port byte before after = (count : ℕ) (x : Position) → StandsAt before count x → StandsAt after count (with_key_at port byte x)

-- ---- a pulse

-- wherever it stood with the flat machine, a pulse at a chip of both leaves them together
abbrev pub TakesPulse : ℕ → IsaState → IsaState → Type 0
TakesPulse chip before after = (count : ℕ) (x : Position) → StandsAt before count x → StandsAt after count (with_pulse_at chip x)

-- and so does one before reset, which comes too early for any chip to let it in
abbrev pub TakesEarlyPulse : ℕ → IsaState → IsaState → Type 0
TakesEarlyPulse chip before after = (count : ℕ) (x : Position) → x.flat.state.writes ≡ [] → StandsAt before count (position_after_reset x) →
    StandsAt after count (position_after_reset (with_pulse_at chip x))
