-- The instruction set beside the flat machine.
use Rattle.std.proofs.Common.{◌≡◌, ◌≢◌, ℕ, ◌+◌, ◌-◌, ◌/◌, ◌%◌, ◌<◌, ◌≤◌, List, [], ◌∷◌, length, map, refl, sym, ap, subst, ◌∙◌, get_or}
use Rattle.std.proofs.Common.{arith, inl, inr, get_or-set_other, get_or-set_same, eq-eqb}
use Rattle.std.specs.Prelude.{Bool, true, false, Option, Some, None, ◌⊎◌, ◌==◌, if◌then◌else◌, filter_map, is_some, slice_index, slice_set}
use Rattle.std.specs.Prelude.{unwrap_or}
use Rattle.std.specs.List.{AllByRecursion, cons_option, enumerate_from, position_or_len, range_with_len}
use Rattle.std.proofs.lemmas.List.FromFn.{get_or-range_with_len, length-range_with_len}
use Rattle.std.proofs.lemmas.List.Sums.{position_or_len_is}
use Rattle.std.proofs.lemmas.List.{get_or-replicate, length-map, length-replicate, length-set}
use Rattle.std.proofs.lemmas.List.FromFn.{fill_by_all}
use Rattle.std.proofs.lemmas.Bool.{cases_eq, lt-ltb, ne_eqb}
use Rattle.f8_spec.specs.Instructions.{InRange, decoded, row_of, row_clocks, clocks_before_fetch, is_shielding}
use Rattle.f8_spec.specs.Words.{places_on, word}
use Rattle.f8_spec.specs.Powers.{said_of}
use Rattle.f8_spec.specs.declared.chips.PowerOn.{PowerOn}
use Rattle.console_spec.specs.Powering.{fill_in, power_in, start_in}
use Rattle.f8_spec.specs.ChipState.{ChipView}
use Rattle.f8_spec.specs.BusArbitration.{Seat, seat_holds, seat_of}
use Rattle.f8_spec.specs.declared.instructions.Op.{Op}
use Rattle.f8_spec.specs.declared.instructions.Op.TheVariants.{In, Out, Ins, Outs}
use Rattle.f8_spec.specs.declared.instructions.Row.{Row}
use Rattle.f8_spec.specs.declared.instructions.Row.TheVariants.{StoreData, PortIn, PortOut, Branch, BranchIsar}
use Rattle.console_spec.specs.AddressSpace.{byte_at}
use Rattle.console_spec.specs.Writes.{latch_of, port_value, chip_port_byte}
use Rattle.console_spec.specs.InterruptRequests.{History, IsPast}
use Rattle.console_spec.proofs.RequestLaws.{past-later, past-written}
use Rattle.console_spec.specs.Processor.{history_of}
use Rattle.console_spec.specs.Processor.{Flow, Inputs, State, at_power, own_inputs, read_port, if_taken, written_port, write_at, write_of}
use Rattle.console_spec.specs.Processor.{with_write}
use Rattle.console_spec.specs.Processor.{counters_after, registers_after}
use Rattle.console_spec.specs.FlatStep.{after_instruction, chosen_at, chosen_in, clocks_by, inputs_of, with_acknowledged, with_chosen}
use Rattle.console_spec.specs.InterruptChoice.{vector_of}
use Rattle.console_spec.proofs.InputLaws.{flow_after-with_interrupt, result_of-with_interrupt}
use Rattle.console_spec.specs.FlatMemory.{fill_of_owner, first_byte, first_memory, holding, is_ram_sort, only_of, owner_of}
use Rattle.console_spec.specs.FlatMachine.{FlatState, memory_after}
use Rattle.console_spec.specs.CounterCopies.{Copy, copies_after, reset_copy}
use Rattle.console_spec.specs.Run.{Position, gets_at, seats_of, position_after, position_after_reset, power_position, chain_in_order}
use Rattle.console_spec.specs.declared.PortWrite.{PortWrite}
use Rattle.chip_face.specs.declared.specification.ChipSpec.{ChipSpec}
use Rattle.memory_map.specs.MapOf.{MapTable, IsMapOf, views_of, seats_of as seats_of_chips}
use Rattle.f8_isa.specs.Ports.{PortState, AreLatches, KnowsPorts, kept_value, chip_value, value_read, if_writable, port_taking, ports_after}
use Rattle.f8_isa.specs.IsaState.{IsaState, KnowsRam, StandsAt, LeadsTo, GoesTo, InReach, state_of, flat_of, memory_by, kept_inputs}
use Rattle.f8_isa.specs.IsaState.{kept_write}
use Rattle.f8_isa.specs.IsaState.{phi_after, isa_after}
use Rattle.f8_isa.specs.IsaState.{sample_time, chosen_place, with_interrupt, finished, VectorFits, TellsInterrupt}
use Rattle.f8_isa.specs.Requests.{KnowsChain, first_requests, asking_place, place_vector}
use Rattle.chip_face.specs.Fitting.{IsChipList}
use Rattle.f8_isa.proofs.RequestChains.{chain-written, chain-acknowledged, chain-first}
use Rattle.f8_isa.proofs.Choices.{IsChosen, AreChosen, some_alike, first_alike, chosen_alike, open_end, vector_alike, requests_left}
use Rattle.f8_isa.proofs.Choices.{latch_left}
use Rattle.f8_isa.proofs.Choices.{sample_alike}
use Rattle.f8_ops.proofs.ClockBounds.{most_before_fetch}
use Rattle.f8_isa.specs.KeptMemory.{KeptMemory, IsFirstMemory, placed_fill}
use Rattle.f8_isa.specs.KeptPorts.{AreFirstPorts}

-- ---- seats

seats_of-copies_after : (row : Row) (i : Inputs) (copies : List Copy) → seats_of (copies_after row i copies) ≡ seats_of copies
seats_of-copies_after row i [] = refl
seats_of-copies_after row i (c ∷ cs) = ap (λ l. c.seat ∷ l) (seats_of-copies_after row i cs)

seats_of-reset_copy : (start : ℕ → ℕ) (place : ℕ) (seats : List Seat) → seats_of (map (reset_copy start) (enumerate_from place seats)) ≡ seats
seats_of-reset_copy start place [] = refl
seats_of-reset_copy start place (s ∷ ss) = ap (λ l. s ∷ l) (seats_of-reset_copy start (place + 1) ss)

-- ---- power-on

-- a list of 65,536 bytes, each of which is the first one, is the memory at power-on
first_memory-from_bytes : (views : List ChipView) (fill : ℕ → ℕ) (bytes : List ℕ) → length bytes ≡ 65536 →
    ((at : ℕ) → at < 65536 → get_or bytes at 0 ≡ first_byte views fill at) → bytes ≡ first_memory views fill
unfolding first_memory
first_memory-from_bytes views fill bytes size each = fill_by_all (first_byte views fill) bytes 65536 0 size each

-- The place of an address's owner is one of the chips'. So it is of each chip that holds it, where the first is in a place.
abbrev AllBelow : ℕ → List ℕ → Type 0
AllBelow bound places = AllByRecursion (λ place. place < bound) places

holders_below : (place bound : ℕ) (seats : List Seat) (at : ℕ) → place + length seats ≤ bound →
    AllBelow bound (filter_map (holding at) (enumerate_from place seats))
holders_below place bound [] at few = tt
holders_below place bound (s ∷ seats) at few =
    by (seat_holds s at) (holders_below (place + 1) bound seats at (omega arith))
  where
    by : (holds : Bool) → AllBelow bound (filter_map (holding at) (enumerate_from (place + 1) seats)) →
        AllBelow bound (cons_option (if holds then Some place else None) (filter_map (holding at) (enumerate_from (place + 1) seats)))
    by true later = (omega arith, later)
    by false later = later

-- two fills that are alike in the place of each chip
alike_of_one : (fill other : ℕ → ℕ) (bound : ℕ) (places : List ℕ) → AllBelow bound places →
    ((place : ℕ) → place < bound → fill place ≡ other place) → fill_of_owner fill (only_of places) ≡ fill_of_owner other (only_of places)
alike_of_one fill other bound [] below alike = refl
alike_of_one fill other bound (place ∷ []) below alike = alike place below.0
alike_of_one fill other bound (place ∷ (second ∷ later)) below alike = refl

alike_of_owner : (fill other : ℕ → ℕ) (seats : List Seat) (at : ℕ) →
    ((place : ℕ) → place < length seats → fill place ≡ other place) → fill_of_owner fill (owner_of seats at) ≡ fill_of_owner other (owner_of seats at)
alike_of_owner fill other seats at alike =
    alike_of_one fill other (length seats) (filter_map (holding at) (enumerate_from 0 seats))
    (holders_below 0 (length seats) seats at (omega arith)) alike

first_memory-mapped : (table : MapTable) (chips : List ChipSpec) (fill other : ℕ → ℕ) (memory : KeptMemory) → IsMapOf table chips →
    IsFirstMemory table fill memory → ((place : ℕ) → place < length (seats_of_chips chips) → fill place ≡ other place) →
    memory.bytes ≡ first_memory (views_of chips) other
first_memory-mapped table chips fill other memory mapped first alike =
    first_memory-from_bytes (views_of chips) other memory.bytes first.bytes.size
    (λ at below.
    let tells = mapped.tells at below in
    rw (tells.sort, tells.owner, tells.byte, alike_of_owner fill other (seats_of_chips chips) at alike) at (first.bytes.byte at below))

-- In a chain of the places in order, what is said of the chip in a socket stands in that place.
power_in-order : (powers : List PowerOn) (count socket : ℕ) → socket < count →
    power_in (range_with_len 0 count) powers socket ≡ said_of powers socket
power_in-order powers count socket within =
    let found : position_or_len (λ s. s == socket) (range_with_len 0 count) ≡ socket =
    position_or_len_is (λ s. s == socket) (range_with_len 0 count) socket 0 (omega (arith, length-range_with_len 0 count))
    (λ k before. rw (place k (omega arith)) (ne_eqb k socket (λ same. omega (arith, same))))
    (λ below. rw (place socket within) (eq-eqb socket socket refl)) in
    rw (found, length-range_with_len 0 count, lt-ltb socket count within) refl
  where
    place : (k : ℕ) → k < count → slice_index (range_with_len 0 count) k ≡ k
    place k within = omega (arith, get_or-range_with_len 0 count k 0 within)

pub StandsAt-at_power : (table : MapTable) (chips : List ChipSpec) (powers : List PowerOn) (fill : ℕ) (memory : KeptMemory) (ports : PortState) →
    IsMapOf table chips → IsFirstMemory table (placed_fill fill powers) memory → AreFirstPorts table ports →
    IsChipList chips →
    StandsAt
    (record {
      flow = record { p = 0; p1 = 0; d0 = 0; d1 = 0 };
      registers = (at_power fill).registers;
      phi = 14;
      memory = memory.bytes;
      ram_pages = memory.ram_pages;
      ports = ports;
      requests = map first_requests chips;
    })
    0 (position_after_reset (power_position (views_of chips) (chain_in_order (views_of chips)) powers fill))
StandsAt-at_power table chips powers fill memory ports mapped first ports_first limits = record {
  flat = rw (first_memory-mapped table chips (placed_fill fill powers) filled memory mapped first alike, ports_first.keys) refl;
  ram = record {
    page = λ at below.
        let tells = mapped.tells at below in
        rw (seats_of-reset_copy starts 0 (seats_of_chips chips)) (first.ram.page at below ∙ ap is_ram_sort tells.sort);
  };
  ports = record {
    readable = λ port below.
        rw (seats_of-reset_copy starts 0 (seats_of_chips chips))
        (ports_first.readable.port port below ∙ ap (λ (n : ℕ). n == 1) (mapped.ports port below).readers);
    writable = λ port below.
        rw (seats_of-reset_copy starts 0 (seats_of_chips chips))
        (ports_first.writable.port port below ∙ ap (λ (n : ℕ). n == 1) (mapped.ports port below).takers);
  };
  latches = rw ports_first.latches (record { size = length-replicate {A = ℕ} 256 0; latch = λ port below. get_or-replicate 256 port 0 0 below });
  requests = rw (seats_of-reset_copy starts 0 (seats_of_chips chips)) (chain-first chips limits);
}
  where
    filled : ℕ → ℕ
    filled = fill_in fill (chain_in_order (views_of chips)) powers

    starts : ℕ → ℕ
    starts = start_in fill (chain_in_order (views_of chips)) powers

    alike : (place : ℕ) → place < length (seats_of_chips chips) → placed_fill fill powers place ≡ filled place
    alike place within =
        ap (λ (p : PowerOn). unwrap_or p.fill fill)
        (sym (power_in-order powers (length (views_of chips)) place (rw (length-map (views_of chips) seat_of) at within)))

-- ---- ports

pub AreLatches-after : (wrote : Option PortWrite) (p : PortState) (writes : List PortWrite) → AreLatches p.latches writes →
    AreLatches (ports_after wrote p).latches (with_write wrote writes)
AreLatches-after None p writes before = before
AreLatches-after (Some w) p writes before = record {
  size = length-set p.latches w.port w.byte ∙ before.size;
  latch = λ port below. by_port port below (cases_eq port w.port);
}
  where
    by_port : (port : ℕ) → port < 256 → (port ≡ w.port) ⊎ (port ≢ w.port) →
        slice_index (slice_set p.latches w.port w.byte) port ≡ (if w.port == port then w.byte else latch_of port writes)
    by_port port below (inl same) =
        let size = before.size in
        let within : w.port < length p.latches = omega arith in
        rw (same, eq-eqb w.port w.port refl) (get_or-set_same p.latches w.port w.byte 0 within)
    by_port port below (inr other) =
        rw (ne_eqb w.port port (λ e. other (sym e))) (get_or-set_other p.latches w.port port w.byte 0 other ∙ before.latch port below)

KnowsPorts-after : (wrote : Option PortWrite) (p : PortState) (seats : List Seat) → KnowsPorts p seats → KnowsPorts (ports_after wrote p) seats
KnowsPorts-after None p seats knows = knows
KnowsPorts-after (Some w) p seats knows = record { readable = knows.readable; writable = knows.writable }

keys_after : (wrote : Option PortWrite) (p : PortState) → (ports_after wrote p).keys ≡ p.keys
keys_after None p = refl
keys_after (Some w) p = refl

-- a port of the chips, and one of the processor's own
chip_value_kept : (p : PortState) (seats : List Seat) (writes : List PortWrite) (port : ℕ) → KnowsPorts p seats → AreLatches p.latches writes → port < 256 →
    chip_port_byte port seats p.keys writes ≡ chip_value p port
chip_value_kept p seats writes port knows latches below = rw (knows.readable port below, latches.latch port below) refl

value_kept : (p : PortState) (writes : List PortWrite) (port : ℕ) → AreLatches p.latches writes → port < 256 → port_value port p.keys writes ≡ kept_value p port
value_kept p writes port latches below = rw (latches.latch port below) refl

if_taken_kept : (p : PortState) (seats : List Seat) (port : ℕ) → KnowsPorts p seats → port < 256 → if_taken port seats ≡ if_writable p port
if_taken_kept p seats port knows below = rw (knows.writable port below) refl

-- a number that the opcode names is a port's
named_below : (n : ℕ) → (n < 2) ⊎ ((4 ≤ n) × (n < 16)) → n < 256
named_below n (inl low) = omega arith
named_below n (inr high) = let below = high.1 in omega arith

-- an instruction reads what the flat machine reads
read_kept : (op : Op) (operand : ℕ) (p : PortState) (seats : List Seat) (s : State) → InRange op → (row_of op ≡ PortIn → operand < 256) →
    KnowsPorts p seats → AreLatches p.latches s.writes → s.keys ≡ p.keys → read_port op operand seats s ≡ value_read op operand p
read_kept In operand p seats s range below knows latches keys = rw keys (chip_value_kept p seats s.writes operand knows latches (below refl))
read_kept (Ins n) operand p seats s range below knows latches keys =
    rw (keys, value_kept p s.writes n latches (named_below n range), knows.readable n (named_below n range)) refl
read_kept op operand p seats s range below knows latches keys = refl

-- and it writes where the flat machine writes
port_kept : (op : Op) (operand : ℕ) (p : PortState) (seats : List Seat) → InRange op → (row_of op ≡ PortOut → operand < 256) → KnowsPorts p seats →
    written_port op operand seats ≡ port_taking op operand p
port_kept Out operand p seats range below knows = if_taken_kept p seats operand knows (below refl)
port_kept (Outs n) operand p seats range below knows = rw (if_taken_kept p seats n knows (named_below n range)) refl
port_kept op operand p seats range below knows = refl

-- ---- a step

memory_by-memory_after : (row : Row) (ram_pages : List Bool) (seats : List Seat) (i : Inputs) (c : Flow) (memory : List ℕ) →
    KnowsRam ram_pages seats → (row ≡ StoreData → c.d0 < 65536) → memory_after row seats i c memory ≡ memory_by row ram_pages c.d0 i.accumulator memory
memory_by-memory_after StoreData ram_pages seats i c memory knows below = rw (knows.page c.d0 (below refl)) refl
memory_by-memory_after row ram_pages seats i c memory knows below = refl

same_flat : (s t : State) (memory other : List ℕ) → s ≡ t → memory ≡ other →
    ◌≡◌ {A = FlatState} (record { state = s; memory = memory }) (record { state = t; memory = other })
same_flat s t memory other states memories = cc

-- an instruction takes 4 clocks at least
clocks_least : (row : Row) (taken : Bool) → 4 ≤ row_clocks row taken
clocks_least Branch true = omega arith
clocks_least Branch false = omega arith
clocks_least BranchIsar true = omega arith
clocks_least BranchIsar false = omega arith
clocks_least row taken = omega arith

-- ---- what an instruction gets

inputs_alike : (op : Op) (isa : IsaState) (count : ℕ) (h : History) (seats : List Seat) → InRange op → InReach op isa → KnowsPorts isa.ports seats →
    AreLatches isa.ports.latches h.writes → own_inputs op isa.memory seats (state_of isa count h) ≡ kept_inputs op isa
unfolding own_inputs
inputs_alike op isa count h seats range reach knows latches =
    rw (read_kept op (byte_at isa.memory (places_on isa.flow.p 1)) isa.ports seats (state_of isa count h) range reach.port_read knows latches refl) refl

-- ---- the state after an instruction and its interrupt

-- as the flat machine has it, by what the instruction gets and by the chip that is chosen
abbrev state_by : Op → List Seat → Option ℕ → State → Inputs → State
state_by op seats chosen s own =
    let i = with_chosen chosen seats s.writes own in
    let phi = s.phi + clocks_by i.chosen op i.taken in
    record {
      flow = counters_after (row_of op) i true s.flow;
      registers = registers_after op i s.registers;
      keys = s.keys;
      writes = with_write (write_of op i seats phi) s.writes;
      acknowledged = with_acknowledged i.chosen phi s.acknowledged;
      pulses = s.pulses;
      count = s.count + 1;
      phi = phi;
    }

-- the history after it, by its write
abbrev history_by : Option ℕ → ℕ → Option PortWrite → History → History
history_by chosen phi wrote h = record {
  writes = with_write wrote h.writes;
  acknowledged = with_acknowledged chosen phi h.acknowledged;
  pulses = h.pulses;
}

state_alone : (op : Op) (isa : IsaState) (count : ℕ) (h : History) (seats : List Seat) → InRange op → InReach op isa → KnowsPorts isa.ports seats →
    state_by op seats None (state_of isa count h) (kept_inputs op isa)
    ≡ state_of (isa_after op isa) (count + 1) (history_by None (phi_after op isa) (kept_write op isa (phi_after op isa)) h)
unfolding own_inputs
state_alone op isa count h seats range reach knows =
    rw (
      flow_after-with_interrupt (row_of op) None 0 0 (kept_inputs op isa) true isa.flow,
      result_of-with_interrupt op None 0 0 (kept_inputs op isa) isa.registers,
      port_kept op (byte_at isa.memory (places_on isa.flow.p 1)) isa.ports seats range reach.port_written knows,
      keys_after (kept_write op isa (phi_after op isa)) isa.ports,
    )
    refl

halves : (vector : ℕ) → vector < 65536 → word (vector / 256 % 256) (vector % 256) ≡ vector
halves vector small = omega arith

state_interrupted : (op : Op) (isa : IsaState) (count : ℕ) (h : History) (seats : List Seat) (place socket vector phi : ℕ) → InRange op → InReach op isa →
    KnowsPorts isa.ports seats → vector_of (Some socket) seats h.writes ≡ vector → vector < 65536 →
    vector ≡ place_vector place (isa_after op isa).ports.latches (isa_after op isa).requests →
    isa.phi + (clocks_before_fetch op (kept_inputs op isa).taken + 26) ≡ phi → sample_time op (isa_after op isa) + 26 ≡ phi →
    state_by op seats (Some socket) (state_of isa count h) (kept_inputs op isa)
    ≡ state_of (with_interrupt (Some place) (sample_time op (isa_after op isa)) (isa_after op isa)) (count + 1)
    (history_by (Some socket) phi (kept_write op isa phi) h)
unfolding own_inputs
state_interrupted op isa count h seats place socket vector phi range reach knows given small same flat_end end =
    rw (
      given,
      flow_after-with_interrupt (row_of op) (Some socket) (vector / 256 % 256) (vector % 256) (kept_inputs op isa) true isa.flow,
      result_of-with_interrupt op (Some socket) (vector / 256 % 256) (vector % 256) (kept_inputs op isa) isa.registers,
      port_kept op (byte_at isa.memory (places_on isa.flow.p 1)) isa.ports seats range reach.port_written knows,
      keys_after (kept_write op isa (phi_after op isa)) isa.ports,
      halves vector small,
      ← same,
      flat_end,
      end,
    )
    refl

memory_leads : (op : Op) (isa : IsaState) (count : ℕ) (h : History) (seats : List Seat) (chain : List ℕ) → InReach op isa → KnowsRam isa.ram_pages seats →
    memory_after (row_of op) seats (inputs_of op isa.memory seats chain (state_of isa count h)) isa.flow isa.memory ≡ (isa_after op isa).memory
unfolding own_inputs
memory_leads op isa count h seats chain reach knows =
    memory_by-memory_after (row_of op) isa.ram_pages seats (inputs_of op isa.memory seats chain (state_of isa count h)) isa.flow isa.memory knows
    reach.address

-- ---- where it leads, from a position that is written out

leads_by : (op : Op) (isa after : IsaState) (wrote : Option PortWrite) (count : ℕ) (h later : History) (copies : List Copy) (chain : List ℕ) →
    decoded (byte_at isa.memory isa.flow.p) ≡ Some op → InReach op isa →
    after_instruction op isa.memory (seats_of copies) chain (state_of isa count h) ≡ state_of after (count + 1) later →
    after.memory ≡ (isa_after op isa).memory → after.ram_pages ≡ isa.ram_pages → after.ports ≡ (isa_after op isa).ports →
    later.writes ≡ with_write wrote h.writes → AreLatches (isa_after op isa).ports.latches later.writes → KnowsRam isa.ram_pages (seats_of copies) →
    KnowsPorts isa.ports (seats_of copies) → KnowsChain (seats_of copies) later after.phi after.requests chain →
    LeadsTo (record { flat = flat_of isa count h; copies = copies; chain = chain }) after (count + 1) wrote
leads_by op isa after wrote count h later copies chain found reach states memories pages ports_same gains latches knows ports requests =
    let seats = seats_of copies in
    let i = inputs_of op isa.memory seats chain (state_of isa count h) in
    record {
      next = position_after op (record { flat = flat_of isa count h; copies = copies; chain = chain });
      goes = rw found refl;
      stands = record {
        flat =
            same_flat (after_instruction op isa.memory seats chain (state_of isa count h))
            (state_of after (count + 1) (history_of (after_instruction op isa.memory seats chain (state_of isa count h))))
            (memory_after (row_of op) seats i isa.flow isa.memory)
            after.memory
            (states ∙ ap (λ (l : History). state_of after (count + 1) l) (sym (ap history_of states)))
            (memory_leads op isa count h seats chain reach knows ∙ sym memories);
        ram = rw (seats_of-copies_after (row_of op) i copies, pages) knows;
        ports =
            rw (seats_of-copies_after (row_of op) i copies, ports_same)
            (KnowsPorts-after (kept_write op isa (phi_after op isa)) isa.ports seats ports);
        latches =
            rw ports_same (subst (λ (ws : List PortWrite). AreLatches (isa_after op isa).ports.latches ws) (sym (ap (λ (s : State). s.writes) states)) latches);
        requests =
            rw (seats_of-copies_after (row_of op) i copies)
            (subst (λ (l : History). KnowsChain seats l after.phi after.requests chain) (sym (ap history_of states)) requests);
      };
      gains = ap (λ (s : State). s.writes) states ∙ gains;
    }

-- the bytes in latches do not hang on the clocks of a write
latches_kept : (phi other byte : ℕ) (port : Option ℕ) (p : PortState) (writes : List PortWrite) → AreLatches p.latches writes →
    AreLatches (ports_after (write_at other byte port) p).latches (with_write (write_at phi byte port) writes)
latches_kept phi other byte None p writes latches = latches
latches_kept phi other byte (Some port) p writes latches = AreLatches-after (Some (record { phi = phi; port = port; byte = byte })) p writes latches

past_write : (phi byte time : ℕ) (port : Option ℕ) (h : History) → phi - 4 ≤ time → IsPast time h →
    IsPast time (record h { writes = with_write (write_at phi byte port) h.writes })
past_write phi byte time None h order past = past
past_write phi byte time (Some port) h order past = past-written (record { phi = phi; port = port; byte = byte }) time h order past

-- all that holds before an instruction
record Before (op : Op) (isa : IsaState) (h : History) (copies : List Copy) (chain : List ℕ) : Type 0 where
  found : decoded (byte_at isa.memory isa.flow.p) ≡ Some op
  range : InRange op
  reach : InReach op isa
  ram : KnowsRam isa.ram_pages (seats_of copies)
  ports : KnowsPorts isa.ports (seats_of copies)
  latches : AreLatches isa.ports.latches h.writes
  requests : KnowsChain (seats_of copies) h isa.phi isa.requests chain

-- the chip that the flat machine chooses, by what is kept
abbrev chosen_by : Op → IsaState → List Seat → List ℕ → History → Option ℕ
chosen_by op isa seats chain h =
    chosen_at op (isa_after op isa).registers.status.icb seats chain h (isa.phi + clocks_before_fetch op (kept_inputs op isa).taken)

module _ (op : Op) (isa : IsaState) (count : ℕ) (h : History) (copies : List Copy) (chain : List ℕ) (before : Before op isa h copies chain) where
  after_by : after_instruction op isa.memory (seats_of copies) chain (state_of isa count h)
      ≡ state_by op (seats_of copies) (chosen_by op isa (seats_of copies) chain h) (state_of isa count h) (kept_inputs op isa)
  after_by =
      ap (λ (i : Inputs). state_by op (seats_of copies) (chosen_in op i (seats_of copies) chain (state_of isa count h)) (state_of isa count h) i)
      (inputs_alike op isa count h (seats_of copies) before.range before.reach before.ports before.latches)

  gets_by : (gets_at op (record { flat = flat_of isa count h; copies = copies; chain = chain })).chosen ≡ chosen_by op isa (seats_of copies) chain h
  gets_by =
      ap (λ (i : Inputs). chosen_in op i (seats_of copies) chain (state_of isa count h))
      (inputs_alike op isa count h (seats_of copies) before.range before.reach before.ports before.latches)

  left : is_shielding op ≡ false → (isa_after op isa).requests ≡ isa.requests
  left other =
      requests_left op (byte_at isa.memory (places_on isa.flow.p 1)) (phi_after op isa) isa.registers.accumulator isa.ports isa.requests before.range other

  sampled : sample_time op (isa_after op isa) ≡ isa.phi + clocks_before_fetch op (kept_inputs op isa).taken
  sampled = sample_alike op isa.phi (kept_inputs op isa).taken

  chosen : AreChosen (seats_of copies) h isa.phi isa.requests chain (chosen_place op (isa_after op isa)) (chosen_by op isa (seats_of copies) chain h)
  chosen =
      chosen_alike op (isa_after op isa).registers.status.icb (seats_of copies) h isa.phi
      (isa.phi + clocks_before_fetch op (kept_inputs op isa).taken) isa.requests chain
      (asking_place (sample_time op (isa_after op isa)) (isa_after op isa).requests)
      (λ other. rw (left other, sampled) (first_alike (seats_of copies) h isa.phi (isa.phi + clocks_before_fetch op (kept_inputs op isa).taken)
      isa.requests chain before.requests.past (omega arith) before.requests.each))

  latches_after : AreLatches (isa_after op isa).ports.latches (with_write (kept_write op isa (phi_after op isa)) h.writes)
  latches_after = AreLatches-after (kept_write op isa (phi_after op isa)) isa.ports h.writes before.latches

  leads_alone : chosen_by op isa (seats_of copies) chain h ≡ None →
      LeadsTo (record { flat = flat_of isa count h; copies = copies; chain = chain }) (isa_after op isa) (count + 1) (kept_write op isa (phi_after op isa))
  leads_alone none =
      leads_by op isa (isa_after op isa) (kept_write op isa (phi_after op isa)) count h
      (history_by None (phi_after op isa) (kept_write op isa (phi_after op isa)) h) copies chain before.found before.reach
      (after_by
      ∙ ap (λ (c : Option ℕ). state_by op (seats_of copies) c (state_of isa count h) (kept_inputs op isa)) none
      ∙ state_alone op isa count h (seats_of copies) before.range before.reach before.ports)
      refl refl refl refl latches_after before.ram before.ports
      (chain-written (seats_of copies) (port_taking op (byte_at isa.memory (places_on isa.flow.p 1)) isa.ports) isa.registers.accumulator
      isa.phi (phi_after op isa) h isa.requests chain (omega (arith, clocks_least (row_of op) (kept_inputs op isa).taken)) before.requests)

  module _ (place socket : ℕ) (taken : chosen_place op (isa_after op isa) ≡ Some place)
      (small : place_vector place (isa_after op isa).ports.latches (isa_after op isa).requests < 65536)
      (one : IsChosen (seats_of copies) h isa.phi isa.requests chain place socket) where
    other : is_shielding op ≡ false
    other =
        open_end op (isa_after op isa).registers.status.icb (asking_place (sample_time op (isa_after op isa)) (isa_after op isa).requests) place taken

    abbrev ending : ℕ
    ending = sample_time op (isa_after op isa) + 26

    latch_there : (port : ℕ) → 2 ≤ port → port < 256 → slice_index (isa_after op isa).ports.latches port ≡ latch_of port h.writes
    latch_there port high below =
        latches_after.latch port below
        ∙ latch_left op (byte_at isa.memory (places_on isa.flow.p 1)) (phi_after op isa) isa.registers.accumulator port isa.ports h.writes before.range other
        high

    vector_there : vector_of (Some socket) (seats_of copies) h.writes ≡ place_vector place (isa_after op isa).ports.latches (isa_after op isa).requests
    vector_there =
        rw (left other)
        (vector_alike (seats_of copies) h isa.phi isa.requests chain (isa_after op isa).ports.latches place socket
        (latch_there 0x0C (omega arith) (omega arith)) (latch_there 0x0D (omega arith) (omega arith)) one)

    abbrev later : History
    later = record h { writes = with_write (kept_write op isa ending) h.writes }

    written : KnowsChain (seats_of copies) later ending isa.requests chain
    written =
        rw (requests_left op (byte_at isa.memory (places_on isa.flow.p 1)) ending isa.registers.accumulator isa.ports isa.requests before.range other) at
        (chain-written (seats_of copies) (port_taking op (byte_at isa.memory (places_on isa.flow.p 1)) isa.ports) isa.registers.accumulator
        isa.phi ending h isa.requests chain (omega (arith, sampled)) before.requests)

    leads_interrupted : chosen_by op isa (seats_of copies) chain h ≡ Some socket →
        LeadsTo (record { flat = flat_of isa count h; copies = copies; chain = chain })
        (with_interrupt (Some place) (sample_time op (isa_after op isa)) (isa_after op isa)) (count + 1) (kept_write op isa ending)
    leads_interrupted some =
        leads_by op isa (with_interrupt (Some place) (sample_time op (isa_after op isa)) (isa_after op isa)) (kept_write op isa ending) count h
        (history_by (Some socket) ending (kept_write op isa ending) h) copies chain before.found before.reach
        (after_by
        ∙ ap (λ (c : Option ℕ). state_by op (seats_of copies) c (state_of isa count h) (kept_inputs op isa)) some
        ∙ state_interrupted op isa count h (seats_of copies) place socket
        (place_vector place (isa_after op isa).ports.latches (isa_after op isa).requests) ending before.range before.reach before.ports vector_there small
        refl (omega (arith, sampled)) refl)
        refl refl refl refl
        (latches_kept ending (phi_after op isa) isa.registers.accumulator (port_taking op (byte_at isa.memory (places_on isa.flow.p 1)) isa.ports) isa.ports
        h.writes before.latches)
        before.ram before.ports
        (rw (left other)
        (chain-acknowledged (seats_of copies) place socket (ending - 4) later ending isa.requests chain (omega arith)
        (past_write ending isa.registers.accumulator (ending - 4) (port_taking op (byte_at isa.memory (places_on isa.flow.p 1)) isa.ports) h (omega arith)
        (past-later isa.phi (ending - 4) h (omega (arith, sampled)) before.requests.past))
        one.at written))

  leads_to : VectorFits (chosen_place op (isa_after op isa)) (isa_after op isa) →
      LeadsTo (record { flat = flat_of isa count h; copies = copies; chain = chain }) (finished op (isa_after op isa)) (count + 1)
      (kept_write op isa (finished op (isa_after op isa)).phi)
  leads_to small = by (chosen_place op (isa_after op isa)) (chosen_by op isa (seats_of copies) chain h) refl refl chosen small
    where
      by : (place socket : Option ℕ) → chosen_place op (isa_after op isa) ≡ place → chosen_by op isa (seats_of copies) chain h ≡ socket →
          AreChosen (seats_of copies) h isa.phi isa.requests chain place socket → VectorFits place (isa_after op isa) →
          LeadsTo (record { flat = flat_of isa count h; copies = copies; chain = chain })
          (with_interrupt place (sample_time op (isa_after op isa)) (isa_after op isa)) (count + 1)
          (kept_write op isa (with_interrupt place (sample_time op (isa_after op isa)) (isa_after op isa)).phi)
      by None None e f one small = leads_alone f
      by (Some place) (Some socket) e f one small = leads_interrupted place socket e small one f
      by None (Some socket) e f one small = absurd one
      by (Some place) None e f one small = absurd one

  tells : is_some (chosen_place op (isa_after op isa))
      ≡ is_some (gets_at op (record { flat = flat_of isa count h; copies = copies; chain = chain })).chosen
  tells =
      some_alike (seats_of copies) h isa.phi isa.requests chain (chosen_place op (isa_after op isa)) (chosen_by op isa (seats_of copies) chain h) chosen
      ∙ ap is_some (sym gets_by)

before_at : (op : Op) (isa : IsaState) (count : ℕ) (x : Position) → decoded (byte_at isa.memory isa.flow.p) ≡ Some op → InRange op → InReach op isa →
    StandsAt isa count x → Before op isa (history_of x.flat.state) x.copies x.chain
before_at op isa count x found range reach stands = record {
  found = found;
  range = range;
  reach = reach;
  ram = stands.ram;
  ports = stands.ports;
  latches = stands.latches;
  requests = stands.requests;
}

pub goes_to : (op : Op) (isa done after : IsaState) (told : Option PortWrite) → decoded (byte_at isa.memory isa.flow.p) ≡ Some op → InRange op →
    InReach op isa → done ≡ isa_after op isa → after ≡ finished op done → told ≡ kept_write op isa after.phi →
    VectorFits (chosen_place op done) done → GoesTo isa after told
goes_to op isa done after told found range reach state ended writes small = λ count x stands.
    rw (writes, ended, state) (
    subst (λ (f : FlatState). LeadsTo (record { flat = f; copies = x.copies; chain = x.chain }) (finished op (isa_after op isa)) (count + 1)
    (kept_write op isa (finished op (isa_after op isa)).phi)) (sym stands.flat)
    (leads_to op isa count (history_of x.flat.state) x.copies x.chain (before_at op isa count x found range reach stands) (rw state at small)))

pub tells_interrupt : (op : Op) (isa done : IsaState) (vectored : Bool) → decoded (byte_at isa.memory isa.flow.p) ≡ Some op → InRange op →
    InReach op isa → done ≡ isa_after op isa → vectored ≡ is_some (chosen_place op done) → TellsInterrupt isa vectored
tells_interrupt op isa done vectored found range reach state taken = λ count x named stands code.
    let same_code : byte_at x.flat.memory x.flat.state.flow.p ≡ byte_at isa.memory isa.flow.p =
    ap (λ (f : FlatState). byte_at f.memory f.state.flow.p) stands.flat in
    let same : Some named ≡ Some op = sym code ∙ ap decoded same_code ∙ found in
    by named count x stands (some_inj same)
  where
    some_inj : {A : Type 0} {a b : A} → Some a ≡ Some b → a ≡ b
    some_inj e = cc

    by : (named : Op) (count : ℕ) (x : Position) → StandsAt isa count x → named ≡ op → vectored ≡ is_some (gets_at named x).chosen
    by named count x stands e =
        rw (e, taken, state) (
        subst
        (λ (f : FlatState).
        is_some (chosen_place op (isa_after op isa)) ≡ is_some (gets_at op (record { flat = f; copies = x.copies; chain = x.chain })).chosen)
        (sym stands.flat) (tells op isa count (history_of x.flat.state) x.copies x.chain (before_at op isa count x found range reach stands)))

-- ---- clocks

pub finished_phi : (op : Op) (isa done after : IsaState) → done ≡ isa_after op isa → after ≡ finished op done → done.phi ≤ isa.phi + 26 →
    (isa.phi ≤ after.phi) × (after.phi ≤ isa.phi + 46)
finished_phi op isa done after state ended most = rw (ended, state) (by (chosen_place op (isa_after op isa)) refl (rw state at most))
  where
    by : (place : Option ℕ) → chosen_place op (isa_after op isa) ≡ place → phi_after op isa ≤ isa.phi + 26 →
        let after = with_interrupt place (sample_time op (isa_after op isa)) (isa_after op isa) in
        (isa.phi ≤ after.phi) × (after.phi ≤ isa.phi + 46)
    by None e most = (omega arith, omega arith)
    by (Some place) e most =
        let found = asking_place (sample_time op (isa_after op isa)) (isa_after op isa).requests in
        let other = open_end op (isa_after op isa).registers.status.icb found place e in
        let taken = (kept_inputs op isa).taken in
        let sampled = sample_alike op isa.phi taken in
        let few = most_before_fetch op taken other in
        (omega (arith, sampled), omega (arith, sampled, few))
