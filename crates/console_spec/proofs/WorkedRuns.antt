-- Runs on one 3851 worked out by hand, with their text, computed from the definitions.
use Rattle.std.proofs.Common.{◌≡◌, ℕ, List, [], ◌∷◌, ◌++◌, replicate, refl}
use Rattle.std.specs.Prelude.{codes}
use Rattle.std.specs.Fmt.{digits}
use Rattle.f8_spec.specs.Flags.{clear_status, status_byte}
use Rattle.f8_spec.specs.ChipState.{ChipView}
use Rattle.console_spec.specs.Services.{Conflict, Undriven, Astray}
use Rattle.console_spec.proofs.Played.{played, played_alone, referred, printing, running}
use Rattle.console_spec.specs.Run.{Done, Unserved, Reserved}
use Rattle.console_spec.specs.declared.VerdictWord.TheVariants.{Whole}
use Rattle.console_spec.specs.RunText.{telling_lines, text_of, fault_line, stop_line}
use Rattle.console_spec.proofs.WorkedRacks.{psu}

-- a 3851 at 0 with these bytes, and FF behind them
abbrev pub rom : List ℕ → List ChipView
rom bytes = psu 0 4 bytes ∷ []

-- LIS 1, NOP, and a branch to the NOP
branch_to_self : (played (rom (0x71 ∷ 0x2B ∷ 0x90 ∷ 0xFE ∷ [])) 0 3).position.flat.state ≡ record {
  flow = record { p = 1; p1 = 0; d0 = 0; d1 = 0 };
  registers = record { accumulator = 1; isar = 0; status = clear_status; scratchpad = replicate 64 0 };
  keys = replicate 256 0;
  writes = [];
  acknowledged = [];
  pulses = [];
  count = 3;
  phi = 36;
}
unfolding running
branch_to_self = refl

-- a branch to FFFE, where no chip answers
branch_below_zero : (played (rom (0x90 ∷ 0xFD ∷ [])) 0 5).stop ≡ Unserved (Undriven 0 0xFFFE)
unfolding running
branch_below_zero = refl

branch_below_zero_state : (played (rom (0x90 ∷ 0xFD ∷ [])) 0 5).position.flat.state ≡ record {
  flow = record { p = 0; p1 = 0; d0 = 0; d1 = 0 };
  registers = record { accumulator = 0; isar = 0; status = clear_status; scratchpad = replicate 64 0 };
  keys = replicate 256 0;
  writes = [];
  acknowledged = [];
  pulses = [];
  count = 0;
  phi = 14;
}
unfolding running
branch_below_zero_state = refl

no_step_asked : (played (rom (0xFF ∷ [])) 0 0).stop ≡ Done
unfolding running
no_step_asked = refl

-- clear, to register 0, decrement: FF there, no flag, and 28 Φ
decrement : (played (rom (0x70 ∷ 0x50 ∷ 0x30 ∷ 0x90 ∷ [])) 0 3).position.flat.state ≡ record {
  flow = record { p = 3; p1 = 0; d0 = 0; d1 = 0 };
  registers = record { accumulator = 0; isar = 0; status = clear_status; scratchpad = 0xFF ∷ replicate 63 0 };
  keys = replicate 256 0;
  writes = [];
  acknowledged = [];
  pulses = [];
  count = 3;
  phi = 28;
}
unfolding running
decrement = refl

-- 0 compared with 0
abbrev compare : List ℕ
compare = 0x70 ∷ 0x25 ∷ 0x00 ∷ 0x90 ∷ []

compare_equal : status_byte (played (rom compare) 0 2).position.flat.state.registers.status ≡ 0x07
unfolding running
compare_equal = refl

compare_place : (played (rom compare) 0 2).position.flat.state.flow.p ≡ 3
unfolding running
compare_place = refl

compare_clocks : (played (rom compare) 0 2).position.flat.state.phi ≡ 28
unfolding running
compare_clocks = refl

-- decimal sums: 67 and 01 less 66, and 6A and 05
abbrev sum_of_67 : List ℕ
sum_of_67 = 0x20 ∷ 0x67 ∷ 0x50 ∷ 0x71 ∷ 0xD0 ∷ 0x90 ∷ []

abbrev sum_of_6A : List ℕ
sum_of_6A = 0x20 ∷ 0x6A ∷ 0x50 ∷ 0x75 ∷ 0xD0 ∷ 0x90 ∷ []

decimal_sum : (played (rom sum_of_67) 0 4).position.flat.state.registers.accumulator ≡ 0x02
unfolding running
decimal_sum = refl

decimal_sum_status : status_byte (played (rom sum_of_67) 0 4).position.flat.state.registers.status ≡ 0x01
unfolding running
decimal_sum_status = refl

decimal_sum_scratch : (played (rom sum_of_67) 0 4).position.flat.state.registers.scratchpad ≡ 0x67 ∷ replicate 63 0
unfolding running
decimal_sum_scratch = refl

decimal_sum_place : (played (rom sum_of_67) 0 4).position.flat.state.flow.p ≡ 5
unfolding running
decimal_sum_place = refl

decimal_sum_clocks : (played (rom sum_of_67) 0 4).position.flat.state.phi ≡ 40
unfolding running
decimal_sum_clocks = refl

decimal_sum_6A : (played (rom sum_of_6A) 0 4).position.flat.state.registers.accumulator ≡ 0x09
unfolding running
decimal_sum_6A = refl

decimal_sum_6A_status : status_byte (played (rom sum_of_6A) 0 4).position.flat.state.registers.status ≡ 0x01
unfolding running
decimal_sum_6A_status = refl

-- without chips the branch to FFFE is done, and meets there what nobody holds
flat_branch_below_zero : (referred (rom (0x90 ∷ 0xFD ∷ [])) 0 2).position.flat.state ≡ record {
  flow = record { p = 0xFFFE; p1 = 0; d0 = 0; d1 = 0 };
  registers = record { accumulator = 0; isar = 0; status = clear_status; scratchpad = replicate 64 0 };
  keys = replicate 256 0;
  writes = [];
  acknowledged = [];
  pulses = [];
  count = 1;
  phi = 28;
}
unfolding running
flat_branch_below_zero = refl

flat_branch_below_zero_stop : (referred (rom (0x90 ∷ 0xFD ∷ [])) 0 2).stop ≡ Reserved 0xFFFE 0xFF
unfolding running
flat_branch_below_zero_stop = refl

-- a reserved opcode, and no chip at all, where every address reads FF
flat_reserved : (referred (rom (0x2D ∷ [])) 0 5).stop ≡ Reserved 0 0x2D
unfolding running
flat_reserved = refl

flat_reserved_clocks : (referred (rom (0x2D ∷ [])) 0 5).position.flat.state.phi ≡ 14
unfolding running
flat_reserved_clocks = refl

flat_without_chips : (referred [] 0 1).stop ≡ Reserved 0 0xFF
unfolding running
flat_without_chips = refl

-- the text of the first run, whole
text_of_branch_to_self : text_of (telling_lines Whole (played_alone (rom (0x71 ∷ 0x2B ∷ 0x90 ∷ 0xFE ∷ [])) 0 3)) ≡
    codes "verdict whole\nstop done\nregs P=0001 P1=0000 D0=0000 D1=0000 A=01 IS=00 W=00\n"
    ++ codes "s00 00 00 00 00 00 00 00 00 00 00 00 00 00 00 00 00\n"
    ++ codes "s10 00 00 00 00 00 00 00 00 00 00 00 00 00 00 00 00\n"
    ++ codes "s20 00 00 00 00 00 00 00 00 00 00 00 00 00 00 00 00\n"
    ++ codes "s30 00 00 00 00 00 00 00 00 00 00 00 00 00 00 00 00\n"
    ++ codes "total 3 instructions 36 phi\n"
unfolding running printing
text_of_branch_to_self = refl

-- a line for each reason to stop
conflict_line :
    stop_line (Unserved (Conflict 2 (record { socket = 0; at = 0x10 } ∷ record { socket = 12; at = 0x2800 } ∷ [])))
    ≡ codes "stop conflict romc 02 socket 0 at 0010 socket 12 at 2800\n"
unfolding stop_line fault_line digits
conflict_line = refl

undriven_line : stop_line (Unserved (Undriven 0 0xFFFE)) ≡ codes "stop undriven romc 00 at FFFE\n"
unfolding stop_line fault_line
undriven_line = refl

astray_line : stop_line (Unserved (Astray 2 0 5 0)) ≡ codes "stop astray romc 02 socket 0 at 0005 reference 0000\n"
unfolding stop_line fault_line digits
astray_line = refl

reserved_line : stop_line (Reserved 0xFFFE 0xFF) ≡ codes "stop reserved FF at FFFE\n"
unfolding stop_line
reserved_line = refl
