-- A chip on the bus as contracts see it, and what each call does to it (Mostek 3851, 3853 and 3861 data sheets for the roles). That a 3851
-- has no second data counter, the rules of requests, and what power-on leaves are this project's own.
use Rattle.std.specs.Prelude.{ℕ, ◌+◌, ◌-◌, ◌*◌, ◌/◌, ◌%◌, ◌≡◌, ◌<◌, Bool, true, false, ◌&&◌, ◌||◌, nat_lt}
use Rattle.std.specs.Prelude.{nat_le, not, ◌==◌, if◌then◌else◌, List, [], ◌∷◌, ◌++◌, length, take, drop, replicate}
use Rattle.std.specs.Prelude.{slice_get, slice_set, slice_index, bit_or, Option, Some, None, option_map}
use Rattle.std.specs.Prelude.{option_and_then, is_some}
use Rattle.f8_spec.specs.Words.{with_high, with_low}
use Rattle.f8_spec.specs.BusCodes.{Count, count_at, told_count, driver_of, counter_of, counter_value, moved_by}
use Rattle.f8_spec.specs.ShiftTimer.{TimerState, timer_after, expires_within}
use Rattle.f8_spec.specs.declared.bus.Counters.{Counters}
use Rattle.f8_spec.specs.declared.bus.Driver.{Driver}
use Rattle.f8_spec.specs.declared.bus.Driver.TheVariants.{Memory, CounterByte, Vector, Port, Cpu, Nobody}
use Rattle.f8_spec.specs.declared.chips.ChipKind.{ChipKind}
use Rattle.f8_spec.specs.declared.chips.ChipKind.TheVariants.{Psu, Smi, Pio}
use Rattle.f8_spec.specs.declared.chips.PageSort.{PageSort}
use Rattle.f8_spec.specs.declared.chips.PageSort.TheVariants.{Rom, Ram, Void}
use Rattle.f8_spec.specs.declared.chips.Page.{Page}
use Rattle.f8_spec.specs.declared.chips.Offer.{Offer}

-- ---- kinds

-- a chip of the second kind is one of the first
abbrev pub same_kind : ChipKind → ChipKind → Bool
same_kind Psu Psu = true
same_kind Psu Smi = false
same_kind Psu Pio = false
same_kind Smi Psu = false
same_kind Smi Smi = true
same_kind Smi Pio = false
same_kind Pio Psu = false
same_kind Pio Smi = false
same_kind Pio Pio = true

-- ---- what kinds of chip have. That a chip has memory is told by its pages.

-- its own program counter, stack register and data counter
abbrev pub has_counters : ChipKind → Bool
has_counters Psu = true
has_counters Smi = true
has_counters Pio = false

abbrev pub has_second_counter : ChipKind → Bool
has_second_counter Psu = false
has_second_counter Smi = true
has_second_counter Pio = false

-- the first two of a chip's four ports are data ports, and else the halves of a vector that can be written
abbrev pub has_data_ports : ChipKind → Bool
has_data_ports Psu = true
has_data_ports Smi = false
has_data_ports Pio = true

-- the vector is a part of the chip, and no port writes it
abbrev pub has_fixed_vector : ChipKind → Bool
has_fixed_vector Psu = true
has_fixed_vector Smi = false
has_fixed_vector Pio = true

-- ---- what contracts see of a chip

pub record ChipView : Type 0 where
  pub kind : ChipKind
  pub pages : List Page
  -- 256 for each page, in the order of the pages; those of a void page are 255
  pub bytes : List ℕ
  pub counters : Count
  -- a latch and a key byte for each data port
  pub latches : List ℕ
  pub key_bytes : List ℕ
  -- the last byte written to the control port, whole
  pub control : ℕ
  -- the timer's state, and the clocks since its last step, below 31
  pub timer : ℕ
  pub phase : ℕ
  pub vector : ℕ
  -- the first of the chip's four ports, and none of a blank chip
  pub ports : Option ℕ
  -- the chip can interrupt
  pub wired : Bool
  -- a request is latched
  pub request : Bool
  -- the byte of the last bus step
  pub last : ℕ

-- a bus step as a chip hears it: its code, its byte, its clocks in Φ, and the mark of the chip whose interrupt is acknowledged
pub record HeardStep : Type 0 where
  pub romc : ℕ
  pub byte : ℕ
  pub clocks : ℕ
  pub first : Bool

-- The view, the steps heard since power-on where the chip tells them, and the byte of its ROM that differs from what is described,
-- where it has one: an address and the byte there.
pub record ChipState : Type 0 where
  pub view : ChipView
  pub heard_steps : Option (List HeardStep)
  pub patch : Option (ℕ × ℕ)

-- a 0 for each data port
abbrev pub clear_data_ports : ChipKind → List ℕ
clear_data_ports kind = if has_data_ports kind then 0 ∷ 0 ∷ [] else []

-- a chip that holds no address and has no port; its counters are 0
abbrev pub blank_view : ChipKind → ChipView
blank_view kind = record {
  kind = kind;
  pages = [];
  bytes = [];
  counters = count_at 0;
  latches = clear_data_ports kind;
  key_bytes = clear_data_ports kind;
  control = 0;
  timer = 255;
  phase = 0;
  vector = 0;
  ports = None;
  wired = false;
  request = false;
  last = 0;
}

-- the counters that the chip tells
abbrev pub told_counters : ChipView → Counters
told_counters v = told_count (has_second_counter v.kind) v.counters

-- ---- memory

-- the place of a page among the pages
abbrev pub place_of : List Page → ℕ → Option ℕ
place_of [] number = None
place_of (p ∷ ps) number = if p.number == number then Some 0 else option_map (λ place. place + 1) (place_of ps number)

abbrev pub is_ram : PageSort → Bool
is_ram Rom = false
is_ram Ram = true
is_ram Void = false

abbrev pub is_rom : PageSort → Bool
is_rom Rom = true
is_rom Ram = false
is_rom Void = false

-- the sort of the page that holds an address
abbrev pub sort_at : List Page → ℕ → Option PageSort
sort_at pages at = option_and_then (λ place. option_map (λ p. p.sort) (slice_get pages place)) (place_of pages (at / 256))

abbrev pub is_sort_at : (PageSort → Bool) → List Page → ℕ → Bool
is_sort_at test pages at = is_some (option_and_then (λ sort. if test sort then Some sort else None) (sort_at pages at))

-- the chip holds the address: it lies in one of its pages
abbrev pub holds : ChipView → ℕ → Bool
holds v at = is_some (place_of v.pages (at / 256))

-- the address lies in one of its RAM pages
abbrev pub has_ram_at : ChipView → ℕ → Bool
has_ram_at v at = is_sort_at is_ram v.pages at

-- the byte at an address in one of some pages, and none at another address
abbrev pub byte_in : List Page → List ℕ → ℕ → Option ℕ
byte_in pages bytes at = option_map (λ place. slice_index bytes (place * 256 + at % 256)) (place_of pages (at / 256))

-- the byte at a held address, and none at another
abbrev pub held_byte : ChipView → ℕ → Option ℕ
held_byte v at = byte_in v.pages v.bytes at

-- the bytes with one changed, at a place among the pages
abbrev pub bytes_with_at : List ℕ → ℕ → ℕ → Option ℕ → List ℕ
bytes_with_at bytes at byte None = bytes
bytes_with_at bytes at byte (Some place) = slice_set bytes (place * 256 + at % 256) byte

-- the bytes with the one at an address changed, where a page holds it
abbrev pub bytes_with : List Page → List ℕ → ℕ → ℕ → List ℕ
bytes_with pages bytes at byte = bytes_with_at bytes at byte (place_of pages (at / 256))

-- The bytes with the patch's byte in them, where a ROM page holds its address. A patch is a means to tell a chip's own bytes from
-- those of its description.
abbrev pub patched_bytes : Option (ℕ × ℕ) → List Page → List ℕ → List ℕ
patched_bytes None pages bytes = bytes
patched_bytes (Some patch) pages bytes =
    if is_sort_at is_rom pages patch.0 then bytes_with pages bytes patch.0 patch.1 else bytes

-- the bytes with every RAM byte set
abbrev pub filled_bytes : ℕ → List Page → List ℕ → List ℕ
filled_bytes fill [] bytes = bytes
filled_bytes fill (p ∷ ps) bytes =
    (if is_ram p.sort then replicate 256 fill else take 256 bytes) ++ filled_bytes fill ps (drop 256 bytes)

-- a chip has 256 bytes for each of its pages
abbrev pub IsFilled : ChipView → Type 0
IsFilled v = length v.bytes ≡ length v.pages * 256

-- and each of them is below 256
pub record IsWhole (v : ChipView) : Type 0 where
  pub filled : IsFilled v
  pub bytes : (place : ℕ) → slice_index v.bytes place < 256

-- ---- ports

-- what a port of a chip is: a data port, by the place of its latch, a half of the vector, the control or the timer
pub data PortRole : Type 0 where
  DataPort : ℕ → PortRole
  VectorHigh : PortRole
  VectorLow : PortRole
  ControlPort : PortRole
  TimerPort : PortRole

-- the role of the port at an offset from the chip's first, below 4
abbrev pub role_at : ChipKind → ℕ → PortRole
role_at kind offset =
    if offset == 2 then ControlPort else
    if offset == 3 then TimerPort else
    if has_data_ports kind then DataPort offset else
    if offset == 0 then VectorHigh else
    VectorLow

-- the place of a port among the four from a first one on, and none of another port
abbrev pub offset_from : ℕ → ℕ → Option ℕ
offset_from port first = if nat_le first port && nat_lt port (first + 4) then Some (port - first) else None

-- the role of a port at the chip, and none where the chip does not have it
abbrev pub port_role : ChipView → ℕ → Option PortRole
port_role v port = option_map (role_at v.kind) (option_and_then (offset_from port) v.ports)

abbrev pub latch_place : PortRole → Option ℕ
latch_place (DataPort place) = Some place
latch_place VectorHigh = None
latch_place VectorLow = None
latch_place ControlPort = None
latch_place TimerPort = None

-- the place of a data port's latch, and none where the port is not a data port of the chip
abbrev pub data_port : ChipView → ℕ → Option ℕ
data_port v port = option_and_then latch_place (port_role v port)

-- the latch of a data port, and none where the port is not a data port of the chip
abbrev pub latch_at : ChipView → ℕ → Option ℕ
latch_at v port = option_map (slice_index v.latches) (data_port v port)

-- a data port reads as its latch or its key byte
abbrev pub read_port : ChipView → ℕ → ℕ
read_port v place = bit_or (slice_index v.latches place) (slice_index v.key_bytes place)

-- the chip after a write to a port of its own
abbrev pub port_written : PortRole → ℕ → ChipView → ChipView
port_written (DataPort place) byte v = record v { latches = slice_set v.latches place byte }
port_written VectorHigh byte v = record v { vector = with_high v.vector byte }
port_written VectorLow byte v = record v { vector = with_low v.vector byte }
port_written ControlPort byte v = record v { control = byte; request = false }
port_written TimerPort byte v = record v { timer = byte; phase = 0 }

abbrev pub port_written_if : Option PortRole → ℕ → ChipView → ChipView
port_written_if None byte v = v
port_written_if (Some role) byte v = port_written role byte v

-- ---- requests

-- the low two bits of control say what it admits: 1 external pulses, and 3 expiries of the timer
abbrev pub admits_pulses : ℕ → Bool
admits_pulses control = control % 4 == 1

abbrev pub admits_expiries : ℕ → Bool
admits_expiries control = control % 4 == 3

-- the chip asks for an interrupt
abbrev pub is_asking : ChipView → Bool
is_asking v = v.wired && v.request

-- the vector that no port writes, and 0 of a chip whose vector ports write
abbrev pub fixed_vector : ChipView → ℕ
fixed_vector v = if has_fixed_vector v.kind then v.vector else 0

-- a vector as it is given: bit 7 of its low byte is clear for the timer, and set for a pulse
abbrev pub vector_for : Bool → ℕ → ℕ
vector_for timer vector = vector / 256 * 256 + (if timer then 0 else 128) + vector % 128

-- and so under a control
abbrev pub vector_under : ℕ → ℕ → ℕ
vector_under control vector = vector_for (admits_expiries control) vector

-- the vector given for a request
abbrev pub given_vector : ChipView → ℕ
given_vector v = vector_under v.control v.vector

-- ---- what a chip offers in a bus step

abbrev pub byte_offer : ℕ → ℕ → Offer
byte_offer at byte = record { byte = byte; at = at }

-- the high byte of a counter is told by the codes 06, 07 and 1F, and the low one by the others
abbrev pub counter_byte : ℕ → ℕ → ℕ
counter_byte romc value = if romc == 0x06 || romc == 0x07 || romc == 0x1F then value / 256 else value % 256

-- at the chip's own address of the step's counter: a held byte, or a byte of the counter where the address is held
abbrev pub offered_at : Driver → ℕ → ChipView → ℕ → Option Offer
offered_at Memory romc v at = option_map (byte_offer at) (held_byte v at)
offered_at CounterByte romc v at = if holds v at then Some (byte_offer at (counter_byte romc at)) else None
offered_at Vector romc v at = None
offered_at Port romc v at = None
offered_at Cpu romc v at = if has_ram_at v at then Some (byte_offer at 0) else None
offered_at Nobody romc v at = None

-- What the chip drives in a step with a code, by the mark of the acknowledged chip; in the codes 05 and 1A, in which it takes a byte,
-- it offers 00. A port goes by the last byte, which names it.
abbrev pub offered : ℕ → Bool → ChipView → Option Offer
offered romc first v =
    if romc == 0x0F then (if first then Some (byte_offer (given_vector v) (given_vector v % 256)) else None) else
    if romc == 0x13 then (if first then Some (byte_offer (given_vector v) (given_vector v / 256)) else None) else
    if romc == 0x1A then option_map (λ role. byte_offer v.last 0) (port_role v v.last) else
    if romc == 0x1B then option_map (λ place. byte_offer v.last (read_port v place)) (data_port v v.last) else
    option_and_then (offered_at (driver_of romc) romc v) (counter_value (counter_of romc) v.counters)

-- ---- a chip's step

-- the timer of a chip
abbrev pub timer_of : ChipView → TimerState
timer_of v = record { state = v.timer; phase = v.phase }

-- The chip after some clocks, fewer than 31, have passed its timer. Where the timer expires in them under control 3 a request is latched.
abbrev pub timer_passed : ℕ → ChipView → ChipView
timer_passed clocks v = record v {
  timer = (timer_after clocks (timer_of v)).state;
  phase = (timer_after clocks (timer_of v)).phase;
  request = v.request || (admits_expiries v.control && expires_within clocks (timer_of v));
}

-- a byte stored at an address: it is lost where the chip has no RAM there
abbrev pub stored : ℕ → ℕ → ChipView → ChipView
stored at byte v = if has_ram_at v at then record v { bytes = bytes_with v.pages v.bytes at byte } else v

-- the effect of a code on what is not a counter: a store, the end of the acknowledged request, and a port write
abbrev pub effect : ℕ → ℕ → Bool → ChipView → ChipView
effect romc byte first v =
    if romc == 0x05 then stored v.counters.dc0 byte v else
    if romc == 0x13 then record v { request = not first && v.request } else
    if romc == 0x1A then port_written_if (port_role v v.last) byte v else
    v

-- the counters after a code with its byte, where the chip has counters
abbrev pub counters_moved : ℕ → ℕ → ChipView → Count
counters_moved romc byte v =
    if has_counters v.kind then moved_by romc byte (has_second_counter v.kind) v.counters else v.counters

-- the counters and the last byte after a code with its byte
abbrev pub with_counters_moved : ℕ → ℕ → ChipView → ChipView
with_counters_moved romc byte v = record v { counters = counters_moved romc byte v; last = byte }

-- The chip after a step: first its timer passes the clocks of the step, under the old control, then comes the effect of the code, and
-- then the byte is the last one.
abbrev pub after_step : HeardStep → ChipView → ChipView
after_step step v =
    with_counters_moved step.romc step.byte (effect step.romc step.byte step.first (timer_passed step.clocks v))

-- a step is told with the mark of the acknowledged chip in the two codes of an acknowledgement alone
abbrev pub told_step : HeardStep → HeardStep
told_step step = record step { first = step.first && (step.romc == 0x0F || step.romc == 0x13) }

-- the chip may hear the step: where it is marked as the acknowledged one, it asks
abbrev pub MayHear : ℕ → Bool → ChipView → Type 0
MayHear romc first v = (romc == 0x0F || romc == 0x13) ≡ true → first ≡ true → is_asking v ≡ true

-- Where the steps heard are told after a call, they were told before it, and have gained the step.
pub record HearsStep (old new : Option (List HeardStep)) (step : HeardStep) : Type 0 where
  pub told : (now : List HeardStep) → new ≡ Some now → (before : List HeardStep) × (old ≡ Some before) × (now ≡ before ++ step ∷ [])

-- a chip after a step: its view, the steps heard, and its patch, which stays
pub record Settles (step : HeardStep) (old new : ChipState) : Type 0 where
  pub view : new.view ≡ after_step step old.view
  pub heard : HearsStep old.heard_steps new.heard_steps (told_step step)
  pub patch : new.patch ≡ old.patch

-- ---- power, keys and pulses

-- Power-on: every counter at one address, and those of a chip without counters at 0; every RAM byte set, latches, keys and control 0, the
-- timer at 255, no request; a vector that can be written is 0, and one that is fixed stays.
abbrev pub powered : ℕ → ℕ → ChipView → ChipView
powered fill start v = record v {
  bytes = filled_bytes fill v.pages v.bytes;
  counters = if has_counters v.kind then count_at start else count_at 0;
  latches = clear_data_ports v.kind;
  key_bytes = clear_data_ports v.kind;
  control = 0;
  timer = 255;
  phase = 0;
  vector = if has_fixed_vector v.kind then v.vector else 0;
  request = false;
  last = 0;
}

-- a chip without counters holds no page
pub record IsOfItsKind (v : ChipView) : Type 0 where
  pub pages : has_counters v.kind ≡ false → v.pages ≡ []

-- Where the steps heard are told after power-on, there are none; they are not told where they were not before. And the chip is one of its
-- kind.
pub record PowersOn (fill start : ℕ) (old new : ChipState) : Type 0 where
  pub view : new.view ≡ powered fill start old.view
  pub heard : (now : List HeardStep) → new.heard_steps ≡ Some now → now ≡ []
  pub untold : old.heard_steps ≡ None → new.heard_steps ≡ None
  pub patch : new.patch ≡ old.patch
  pub of_its_kind : IsOfItsKind new.view

abbrev pub keyed_at : Option ℕ → ℕ → ChipView → ChipView
keyed_at None byte v = v
keyed_at (Some place) byte v = record v { key_bytes = slice_set v.key_bytes place byte }

-- a key byte at a port: on a port that is not a data port of the chip nothing changes
abbrev pub keyed : ℕ → ℕ → ChipView → ChipView
keyed port byte v = keyed_at (data_port v port) byte v

-- an external pulse: lost unless control lets it in
abbrev pub pulsed : ChipView → ChipView
pulsed v = if admits_pulses v.control then record v { request = true } else v

-- a chip after a key byte; the steps that it tells and its patch stay
pub record TakesKeys (port byte : ℕ) (old new : ChipState) : Type 0 where
  pub view : new.view ≡ keyed port byte old.view
  pub heard : new.heard_steps ≡ old.heard_steps
  pub patch : new.patch ≡ old.patch

-- a chip after an external pulse; the steps that it tells and its patch stay
pub record TakesPulse (old new : ChipState) : Type 0 where
  pub view : new.view ≡ pulsed old.view
  pub heard : new.heard_steps ≡ old.heard_steps
  pub patch : new.patch ≡ old.patch
