-- Runs on racks worked out by hand, computed from the definitions.
use Rattle.std.proofs.Common.{◌≡◌, ℕ, true, false, ◌+◌, ◌-◌, ◌/◌, List, [], ◌∷◌, ◌++◌, length, replicate, refl}
use Rattle.std.specs.Prelude.{Some, None}
use Rattle.f8_spec.specs.Flags.{clear_status}
use Rattle.f8_spec.specs.ChipState.{ChipView, blank_view}
use Rattle.f8_spec.specs.declared.instructions.Op.TheVariants.{Bf}
use Rattle.f8_spec.specs.declared.chips.ChipKind.TheVariants.{Psu, Smi}
use Rattle.f8_spec.specs.declared.chips.PageSort.TheVariants.{Rom, Ram}
use Rattle.f8_spec.specs.declared.chips.Page.{Page}
use Rattle.console_spec.specs.FlatMemory.{first_memory}
use Rattle.console_spec.specs.Services.{Conflict, Undriven, Astray}
use Rattle.console_spec.proofs.Played.{played, played_record, running}
use Rattle.console_spec.specs.Run.{Done, Unserved, Reserved, power_position, position_after_reset, instruction_course, reset_course}
use Rattle.console_spec.specs.Run.{chain_in_order}
use Rattle.console_spec.specs.declared.Who.TheVariants.{Cpu, Socket, Nobody}

abbrev pub rom_page : ℕ → Page
rom_page number = record { number = number; sort = Rom }

-- a 3851 with these bytes, and FF behind them
abbrev pub psu : ℕ → ℕ → List ℕ → ChipView
psu base ports bytes = record (blank_view Psu) {
  pages = rom_page (base / 256) ∷ rom_page (base / 256 + 1) ∷ rom_page (base / 256 + 2) ∷ rom_page (base / 256 + 3) ∷ [];
  bytes = bytes ++ replicate (1024 - length bytes) 255;
  ports = Some ports;
}

-- a 3853 with one page of RAM
abbrev pub ram_smi : ℕ → ChipView
ram_smi number = record (blank_view Smi) {
  pages = record { number = number; sort = Ram } ∷ [];
  bytes = replicate 256 0;
  ports = Some 0x0C;
}

-- twelve sockets for 3851s, of which the first is filled, and a 3853 in the first of its sockets
abbrev pub psu_and_ram : List ℕ → List ChipView
psu_and_ram bytes = psu 0 4 bytes ∷ replicate 11 (blank_view Psu) ++ ram_smi 0x28 ∷ []

-- no chip at all: reset is not served
no_chip : played [] 0 1 ≡ record { position = power_position [] [] [] 0; stop = Unserved (Undriven 0 0) }
unfolding running
no_chip = refl

-- two chips hold the opcode's address, and their bytes agree
two_chips_one_address :
    (played (psu 0 4 (0x2B ∷ []) ∷ psu 0 8 (0x2B ∷ []) ∷ []) 0 1).stop
    ≡ Unserved (Conflict 0 (record { socket = 0; at = 0 } ∷ record { socket = 1; at = 0 } ∷ []))
unfolding running
two_chips_one_address = refl

-- a return to the stack registers of power-on: the chip that drives stands right, or it does not, or none drives
abbrev pub pop_at_once : List ChipView
pop_at_once = psu 0 4 (0x1C ∷ []) ∷ psu 0x400 8 [] ∷ []

pop_to_own_counters : (played pop_at_once 0 3).position.flat.state.flow.p ≡ 0
unfolding running
pop_to_own_counters = refl

pop_clocks : (played pop_at_once 0 3).position.flat.state.phi ≡ 38
unfolding running
pop_clocks = refl

pop_astray : played pop_at_once 4 3 ≡ record {
  position = position_after_reset (power_position pop_at_once (chain_in_order pop_at_once) [] 4);
  stop = Unserved (Astray 0 1 0x0405 0);
}
unfolding running
pop_astray = refl

pop_undriven : (played pop_at_once 0x12 3).stop ≡ Unserved (Undriven 0 0)
unfolding running
pop_undriven = refl

-- the state is that of reset
pop_undriven_state : (played pop_at_once 0x12 3).position.flat.state ≡ record {
  flow = record { p = 0; p1 = 0; d0 = 0; d1 = 0 };
  registers = record { accumulator = 0x12; isar = 18; status = clear_status; scratchpad = replicate 64 0x12 };
  keys = replicate 256 0;
  writes = [];
  acknowledged = [];
  pulses = [];
  count = 0;
  phi = 14;
}
unfolding running
pop_undriven_state = refl

-- the data counters part where a 3851 has one alone
abbrev pub exchange_alone : List ChipView
exchange_alone = psu 0 4 (0x2A ∷ 0x00 ∷ 0x05 ∷ 0x2C ∷ 0x16 ∷ []) ∷ []

copies_part : (played exchange_alone 0 9).stop ≡ Unserved (Astray 2 0 5 0)
unfolding running
copies_part = refl

copies_part_counters : (played exchange_alone 0 9).position.flat.state.flow ≡ record { p = 4; p1 = 0; d0 = 0; d1 = 5 }
unfolding running
copies_part_counters = refl

copies_part_clocks : (played exchange_alone 0 9).position.flat.state.phi ≡ 46
unfolding running
copies_part_clocks = refl

-- ROM and RAM answer one read, each at its own data counter
abbrev pub rom_and_ram : List ℕ
rom_and_ram = 0x2A ∷ 0x28 ∷ 0x00 ∷ 0x2C ∷ 0x2A ∷ 0x00 ∷ 0x10 ∷ 0x2C ∷ 0x16 ∷ []

both_answer : (played (psu_and_ram rom_and_ram) 0 9).stop
    ≡ Unserved (Conflict 2 (record { socket = 0; at = 0x10 } ∷ record { socket = 12; at = 0x2800 } ∷ []))
unfolding running
both_answer = refl

both_answer_counters : (played (psu_and_ram rom_and_ram) 0 9).position.flat.state.flow
    ≡ record { p = 8; p1 = 0; d0 = 0x2800; d1 = 0x10 }
unfolding running
both_answer_counters = refl

-- only the RAM answers
abbrev ram_alone : List ℕ
ram_alone = 0x2A ∷ 0x28 ∷ 0x00 ∷ 0x2C ∷ 0x2A ∷ 0x28 ∷ 0x01 ∷ 0x2C ∷ 0x16 ∷ 0x90 ∷ 0xFF ∷ []

ram_answers : (played (psu_and_ram ram_alone) 0x5A 6).position.flat.state ≡ record {
  flow = record { p = 9; p1 = 0; d0 = 0x2801; d1 = 0x2801 };
  registers = record { accumulator = 0x5A; isar = 26; status = clear_status; scratchpad = replicate 64 0x5A };
  keys = replicate 256 0;
  writes = [];
  acknowledged = [];
  pulses = [];
  count = 6;
  phi = 102;
}
unfolding running
ram_answers = refl

ram_answers_done : (played (psu_and_ram ram_alone) 0x5A 6).stop ≡ Done
unfolding running
ram_answers_done = refl

-- a jump whose second operand lies past the chip: the state is that before it
abbrev pub cut_jump : List ChipView
cut_jump = psu 0 4 (0x29 ∷ 0x03 ∷ 0xFE ∷ replicate 1019 255 ++ 0x29 ∷ 0x08 ∷ []) ∷ []

jump_cut : (played cut_jump 0 9).stop ≡ Unserved (Undriven 0x0C 0x0400)
unfolding running
jump_cut = refl

jump_cut_state : (played cut_jump 0 9).position.flat.state ≡ record {
  flow = record { p = 0x03FE; p1 = 0; d0 = 0; d1 = 0 };
  registers = record { accumulator = 3; isar = 0; status = clear_status; scratchpad = replicate 64 0 };
  keys = replicate 256 0;
  writes = [];
  acknowledged = [];
  pulses = [];
  count = 1;
  phi = 36;
}
unfolding running
jump_cut_state = refl

-- a chip's own byte in place of the described one, and a reserved opcode
reserved : (played (psu 0 4 (0x2D ∷ []) ∷ []) 0 5).stop ≡ Reserved 0 0x2D
unfolding running
reserved = refl

-- ---- traces

-- the three bus steps of a branch that is taken
branch_traced : instruction_course (Bf 0) (position_after_reset (power_position (psu 0 4 (0x90 ∷ 0xFE ∷ []) ∷ []) (0 ∷ []) [] 0)) ≡ record {
  steps =
      record { romc = 0x1C; long = false; byte = 0; who = Nobody; taker = None }
      ∷ record { romc = 0x01; long = true; byte = 0xFE; who = Socket 0; taker = None }
      ∷ [];
  fault = Some (Undriven 0 0xFFFF, false);
}
unfolding running
branch_traced = refl

-- the three bus steps of reset
reset_traced : reset_course (power_position (psu 0 4 (0x71 ∷ []) ∷ []) (0 ∷ []) [] 0) ≡ record {
  steps =
      record { romc = 0x1C; long = false; byte = 0; who = Nobody; taker = None }
      ∷ record { romc = 0x08; long = true; byte = 0; who = Cpu; taker = None }
      ∷ record { romc = 0x00; long = false; byte = 0x71; who = Socket 0; taker = None }
      ∷ [];
  fault = None;
}
unfolding first_memory
reset_traced = refl

-- a whole run
ram_answers_recorded : length (played_record (psu_and_ram ram_alone) 0x5A 6) ≡ 22
unfolding running
ram_answers_recorded = refl
