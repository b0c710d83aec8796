-- Bus arbitration: which chips drive the byte of a bus step or take it, and whether the step is served. The roles of the chips
-- are those of the Mostek 3850, 3851 and 3853 data sheets. That a step in which the chips do not agree with the probe is refused, and
-- how, is this project's own.
--
-- The rule is over a list of named chips, each with its socket, and reads of a chip what it holds and its own place in the step. It
-- tells who; the byte stands apart.
use Rattle.std.specs.Prelude.{ℕ, ◌/◌, Bool, false, not, ◌&&◌, ◌==◌, if◌then◌else◌, List, [], ◌∷◌, map, filter_map}
use Rattle.std.specs.Prelude.{Option, Some, None, is_some, option_map, option_and_then}
use Rattle.f8_spec.specs.BusCodes.{Count, driver_of, counter_of}
use Rattle.f8_spec.specs.ChipState.{ChipView, PortRole, is_ram, is_sort_at, place_of, role_at, offset_from, latch_place, offered}
use Rattle.f8_spec.specs.ChipState.{fixed_vector}
use Rattle.f8_spec.specs.declared.bus.Driver.{Driver}
use Rattle.f8_spec.specs.declared.bus.Driver.TheVariants.{Memory, CounterByte, Vector as VectorDriver, Port, Cpu, Nobody}
use Rattle.f8_spec.specs.declared.bus.Counter.{Counter}
use Rattle.f8_spec.specs.declared.bus.Counter.TheVariants.{Pc0, Pc1, Dc0, NoCounter}
use Rattle.f8_spec.specs.declared.bus.BusRule.{BusRule}
use Rattle.f8_spec.specs.declared.bus.BusRule.TheVariants.{Read, Store, PortRead, PortWrite, Vector, NoChip}
use Rattle.f8_spec.specs.declared.bus.Party.{Party}
use Rattle.f8_spec.specs.declared.chips.ChipKind.{ChipKind}
use Rattle.f8_spec.specs.declared.chips.Page.{Page}
use Rattle.f8_spec.specs.declared.chips.Offer.{Offer}

-- ---- what the rule reads of a chip

-- what no bus step changes: the kind, the pages, the first of its four ports, whether the chip can interrupt, and its vector, which is
-- 0 here where ports write it
pub record Seat : Type 0 where
  pub kind : ChipKind
  pub pages : List Page
  pub ports : Option ℕ
  pub wired : Bool
  pub vector : ℕ

abbrev pub seat_of : ChipView → Seat
seat_of v = record {
  kind = v.kind;
  pages = v.pages;
  ports = v.ports;
  wired = v.wired;
  vector = fixed_vector v;
}

-- the address in a counter, and where a step goes by no counter the last byte, which names the port in the codes 1A and 1B
abbrev pub place_by : Counter → Count → ℕ → ℕ
place_by Pc0 c last = c.pc0
place_by Pc1 c last = c.pc1
place_by Dc0 c last = c.dc0
place_by NoCounter c last = last

-- the place by which four counters and a last byte go in a step
abbrev pub place_in : ℕ → Count → ℕ → ℕ
place_in romc c last = place_by (counter_of romc) c last

-- a chip in one step, with its own place
pub record PlacedSeat : Type 0 where
  pub seat : Seat
  pub at : ℕ

abbrev pub placed : ℕ → ChipView → PlacedSeat
placed romc v = record { seat = seat_of v; at = place_in romc v.counters v.last }

abbrev pub seat_holds : Seat → ℕ → Bool
seat_holds s at = is_some (place_of s.pages (at / 256))

abbrev pub seat_has_ram : Seat → ℕ → Bool
seat_has_ram s at = is_sort_at is_ram s.pages at

abbrev pub seat_role : Seat → ℕ → Option PortRole
seat_role s port = option_map (role_at s.kind) (option_and_then (offset_from port) s.ports)

abbrev pub seat_has_port : Seat → ℕ → Bool
seat_has_port s port = is_some (seat_role s port)

abbrev pub seat_has_data_port : Seat → ℕ → Bool
seat_has_data_port s port = is_some (option_and_then latch_place (seat_role s port))

-- ---- who takes part in a step

abbrev pub rule_by : Driver → BusRule
rule_by Memory = Read
rule_by CounterByte = Read
rule_by VectorDriver = Vector
rule_by Port = PortRead
rule_by Cpu = NoChip
rule_by Nobody = NoChip

-- the CPU drives the byte that is stored, and the byte that is written to a port
abbrev pub rule_of : ℕ → BusRule
rule_of romc = if romc == 0x05 then Store else if romc == 0x1A then PortWrite else rule_by (driver_of romc)

-- a chip at its own place drives the byte, or takes it
abbrev pub answers : BusRule → PlacedSeat → Bool
answers Read x = seat_holds x.seat x.at
answers Store x = seat_has_ram x.seat x.at
answers PortRead x = seat_has_data_port x.seat x.at
answers PortWrite x = seat_has_port x.seat x.at
answers Vector x = false
answers NoChip x = false

-- a chip would do so at the probe's place
abbrev pub would_answer : BusRule → Seat → ℕ → Bool
would_answer Read s reference = seat_holds s reference
would_answer Store s reference = seat_has_ram s reference
would_answer PortRead s reference = false
would_answer PortWrite s reference = false
would_answer Vector s reference = false
would_answer NoChip s reference = false

abbrev pub party_if : Bool → ℕ → ℕ → Option Party
party_if test socket at = if test then Some (record { socket = socket; at = at }) else None

abbrev pub party_of : BusRule → ℕ × PlacedSeat → Option Party
party_of rule x = party_if (answers rule x.1) x.0 x.1.at

abbrev pub bystander_of : BusRule → ℕ → ℕ × PlacedSeat → Option Party
bystander_of rule reference x = party_if (not (answers rule x.1) && would_answer rule x.1.seat reference) x.0 x.1.at

-- the chips that drive the byte or take it, in the order of the list
abbrev pub parties : BusRule → List (ℕ × PlacedSeat) → List Party
parties rule xs = filter_map (party_of rule) xs

-- the chips that do not, and that hold the probe's place, or have RAM there in a store
abbrev pub bystanders : BusRule → ℕ → List (ℕ × PlacedSeat) → List Party
bystanders rule reference xs = filter_map (bystander_of rule reference) xs

-- ---- the rule

-- A step is served, with the socket of the chip that drives the byte or takes it. Else several chips do, each with its own place; or
-- none does that has to, with the probe's place or the port; or a chip is away from the probe: its socket, its own place, the probe's.
pub data Ruling : Type 0 where
  Served : Option ℕ → Ruling
  Conflict : List Party → Ruling
  Undriven : ℕ → Ruling
  Astray : ℕ → ℕ → ℕ → Ruling

-- The first of the chips that stand by. In a rack, whose chips stand in the order of their sockets, it is the one in the lowest socket.
abbrev pub lowest : List Party → Option Party
lowest [] = None
lowest (q ∷ qs) = Some q

-- served, unless a chip stands by at the probe's place
abbrev pub unless_bystander : ℕ → Option ℕ → Option Party → Ruling
unless_bystander reference socket None = Served socket
unless_bystander reference socket (Some q) = Astray q.socket q.at reference

-- one chip drives or takes: it has to be at the probe's place, and the only one there
abbrev pub one_party : ℕ → Party → Option Party → Ruling
one_party reference p bystander =
    if p.at == reference then unless_bystander reference (Some p.socket) bystander else Astray p.socket p.at reference

abbrev pub read_ruling : ℕ → List Party → Option Party → Ruling
read_ruling reference [] bystander = Undriven reference
read_ruling reference (p ∷ []) bystander = one_party reference p bystander
read_ruling reference (p ∷ (q ∷ ps)) bystander = Conflict (p ∷ (q ∷ ps))

-- a byte that no chip takes is lost
abbrev pub store_ruling : ℕ → List Party → Option Party → Ruling
store_ruling reference [] bystander = unless_bystander reference None bystander
store_ruling reference (p ∷ []) bystander = one_party reference p bystander
store_ruling reference (p ∷ (q ∷ ps)) bystander = Conflict (p ∷ (q ∷ ps))

abbrev pub port_read_ruling : ℕ → List Party → Ruling
port_read_ruling port [] = Undriven port
port_read_ruling port (p ∷ []) = Served (Some p.socket)
port_read_ruling port (p ∷ (q ∷ ps)) = Conflict (p ∷ (q ∷ ps))

abbrev pub port_write_ruling : List Party → Ruling
port_write_ruling [] = Served None
port_write_ruling (p ∷ []) = Served (Some p.socket)
port_write_ruling (p ∷ (q ∷ ps)) = Conflict (p ∷ (q ∷ ps))

-- by the socket of the chip whose interrupt is acknowledged, the chips that take part, and the lowest that stands by
abbrev pub judged : BusRule → Option ℕ → ℕ → List Party → Option Party → Ruling
judged Read first reference taking_part bystander = read_ruling reference taking_part bystander
judged Store first reference taking_part bystander = store_ruling reference taking_part bystander
judged PortRead first reference taking_part bystander = port_read_ruling reference taking_part
judged PortWrite first reference taking_part bystander = port_write_ruling taking_part
judged Vector first reference taking_part bystander = Served first
judged NoChip first reference taking_part bystander = Served None

-- the ruling on a step with a code, where the probe's place is the reference
abbrev pub ruling : ℕ → Option ℕ → ℕ → List (ℕ × PlacedSeat) → Ruling
ruling romc first reference xs =
    judged (rule_of romc) first reference (parties (rule_of romc) xs) (lowest (bystanders (rule_of romc) reference xs))

-- ---- the byte

-- the socket is that of the chip whose interrupt is acknowledged
abbrev pub is_first : Option ℕ → ℕ → Bool
is_first None socket = false
is_first (Some chosen) socket = chosen == socket

-- what the chips offer in a step
abbrev pub offer_of : ℕ → Option ℕ → ℕ × ChipView → Option Offer
offer_of romc first x = offered romc (is_first first x.0) x.1

abbrev pub offers : ℕ → Option ℕ → List (ℕ × ChipView) → List Offer
offers romc first xs = filter_map (offer_of romc first) xs

-- the byte of the one chip that drives; in a served step there is no other
abbrev pub only_byte : List Offer → ℕ
only_byte [] = 0
only_byte (o ∷ []) = o.byte
only_byte (o ∷ (p ∷ os)) = 0

-- the CPU's byte, 00 where nobody drives, and else the chip's
abbrev pub byte_by : Driver → ℕ → ℕ → ℕ
byte_by Memory cpu chip = chip
byte_by CounterByte cpu chip = chip
byte_by VectorDriver cpu chip = chip
byte_by Port cpu chip = chip
byte_by Cpu cpu chip = cpu
byte_by Nobody cpu chip = 0

abbrev pub bus_byte : ℕ → Option ℕ → ℕ → List (ℕ × ChipView) → ℕ
bus_byte romc first byte xs = byte_by (driver_of romc) byte (only_byte (offers romc first xs))

-- ---- named views

-- a named chip in one step
abbrev pub named_placed : ℕ → ℕ × ChipView → ℕ × PlacedSeat
named_placed romc x = (x.0, placed romc x.1)

abbrev pub view_ruling : ℕ → Option ℕ → ℕ → List (ℕ × ChipView) → Ruling
view_ruling romc first reference xs = ruling romc first reference (map (named_placed romc) xs)
