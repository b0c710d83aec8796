-- More runs worked out by hand, computed from the definitions.
use Rattle.std.proofs.Common.{◌≡◌, ℕ, Bool, true, false, List, [], ◌∷◌, ◌++◌, map, replicate, refl}
use Rattle.std.specs.Prelude.{Some, codes, flat_map}
use Rattle.std.specs.Fmt.{digits}
use Rattle.f8_spec.specs.Flags.{clear_status}
use Rattle.f8_spec.specs.BusCodes.{count_at}
use Rattle.f8_spec.specs.ChipState.{ChipView, patched_bytes}
use Rattle.f8_spec.specs.MicroSteps.{reset_steps}
use Rattle.console_spec.specs.Processor.{Inputs}
use Rattle.console_spec.specs.CounterCopies.{fetched, reset_flow}
use Rattle.console_spec.specs.Run.{Reserved}
use Rattle.console_spec.specs.declared.PortWrite.{PortWrite}
use Rattle.console_spec.specs.Telling.{told_in, referred_by}
use Rattle.console_spec.specs.declared.VerdictWord.TheVariants.{NoVerdict}
use Rattle.console_spec.specs.RunText.{telling_lines, flat_telling_lines, ending_lines, text_of, lines_of}
use Rattle.console_spec.specs.RunText.{frame_line}
use Rattle.console_spec.specs.RunText.{picture_row}
use Rattle.console_spec.specs.declared.Event.TheVariants.{Keys}
use Rattle.console_spec.specs.declared.End.TheVariants.{Steps}
use Rattle.console_spec.proofs.Played.{steps_alone, played, played_in_order, printing, running}
use Rattle.console_spec.proofs.Walks.{moved_along}
use Rattle.console_spec.proofs.WorkedRacks.{psu, pop_at_once, exchange_alone, psu_and_ram, rom_and_ram, cut_jump}
use Rattle.console_spec.proofs.WorkedRuns.{rom}

-- reset brings every counter where the copies begin
reset_moves : (second : Bool) (i : Inputs) (start : ℕ) → moved_along second i reset_steps (count_at start) ≡ fetched (reset_flow start)
reset_moves second i start = refl

abbrev pub no_scratch : List ℕ
no_scratch =
    codes "s00 00 00 00 00 00 00 00 00 00 00 00 00 00 00 00 00\n"
    ++ codes "s10 00 00 00 00 00 00 00 00 00 00 00 00 00 00 00 00\n"
    ++ codes "s20 00 00 00 00 00 00 00 00 00 00 00 00 00 00 00 00\n"
    ++ codes "s30 00 00 00 00 00 00 00 00 00 00 00 00 00 00 00 00\n"

-- no chip at all
no_chip_text : text_of (ending_lines (played [] 0 1)) ≡
    codes "stop undriven romc 00 at 0000\nregs P=0000 P1=0000 D0=0000 D1=0000 A=00 IS=00 W=00\n" ++ no_scratch ++ codes "total 0 instructions 0 phi\n"
unfolding running printing
no_chip_text = refl

-- a return to the stack registers of power-on
pop_text : text_of (ending_lines (played pop_at_once 0 3)) ≡
    codes "stop done\nregs P=0000 P1=0000 D0=0000 D1=0000 A=00 IS=00 W=00\n" ++ no_scratch ++ codes "total 3 instructions 38 phi\n"
unfolding running printing
pop_text = refl

-- the data counters part where a 3851 has one alone
copies_part_text : text_of (ending_lines (played exchange_alone 0 9)) ≡
    codes "stop astray romc 02 socket 0 at 0005 reference 0000\nregs P=0004 P1=0000 D0=0000 D1=0005 A=00 IS=00 W=00\n"
    ++ no_scratch ++ codes "total 2 instructions 46 phi\n"
unfolding running printing
copies_part_text = refl

-- ROM and RAM answer one read
both_answer_text : text_of (ending_lines (played (psu_and_ram rom_and_ram) 0 9)) ≡
    codes "stop conflict romc 02 socket 0 at 0010 socket 12 at 2800\nregs P=0008 P1=0000 D0=2800 D1=0010 A=00 IS=00 W=00\n" ++ no_scratch
    ++ codes "total 4 instructions 78 phi\n"
unfolding running printing
both_answer_text = refl

-- the chip of a jump that is cut short has its own data counter still
jump_cut_counter : map (λ c. c.flow.d0) (played cut_jump 0 9).position.copies ≡ 0x0000 ∷ []
unfolding running
jump_cut_counter = refl

-- 0 compared with 0, and two decimal sums
compare_text : text_of (ending_lines (played (rom (0x70 ∷ 0x25 ∷ 0x00 ∷ 0x90 ∷ [])) 0 2)) ≡
    codes "stop done\nregs P=0003 P1=0000 D0=0000 D1=0000 A=00 IS=00 W=07\n" ++ no_scratch ++ codes "total 2 instructions 28 phi\n"
unfolding running printing
compare_text = refl

decimal_state : (played (rom (0x20 ∷ 0x67 ∷ 0x50 ∷ 0x71 ∷ 0xD0 ∷ 0x90 ∷ [])) 0 4).position.flat.state ≡ record {
  flow = record { p = 5; p1 = 0; d0 = 0; d1 = 0 };
  registers = record { accumulator = 0x02; isar = 0; status = record clear_status { sign = true }; scratchpad = 0x67 ∷ replicate 63 0 };
  keys = replicate 256 0;
  writes = [];
  acknowledged = [];
  pulses = [];
  count = 4;
  phi = 40;
}
unfolding running
decimal_state = refl

decimal_status_6A : (played (rom (0x20 ∷ 0x6A ∷ 0x50 ∷ 0x75 ∷ 0xD0 ∷ 0x90 ∷ [])) 0 4).position.flat.state.registers.status ≡ record clear_status { sign = true }
unfolding running
decimal_status_6A = refl

-- a reserved opcode
reserved_text : text_of (ending_lines (played (rom (0x2D ∷ [])) 0 5)) ≡
    codes "stop reserved 2D at 0000\nregs P=0000 P1=0000 D0=0000 D1=0000 A=00 IS=00 W=00\n" ++ no_scratch ++ codes "total 0 instructions 14 phi\n"
unfolding running printing
reserved_text = refl

flat_reserved : text_of (flat_telling_lines (referred_by (rom (0x2D ∷ [])) [] (steps_alone 0 5))) ≡ text_of (ending_lines (played (rom (0x2D ∷ [])) 0 5))
unfolding running printing
flat_reserved = refl

-- a chip's own byte in place of the described one
abbrev with_patch : ℕ × ℕ → ChipView → ChipView
with_patch patch v = record v { bytes = patched_bytes (Some patch) v.pages v.bytes }

patch_is_run : text_of (ending_lines (played (with_patch (1, 0x1F) (psu 0 4 (0x71 ∷ 0x2B ∷ 0x90 ∷ 0xFE ∷ [])) ∷ []) 0 3)) ≡
    codes "stop done\nregs P=0001 P1=0000 D0=0000 D1=0000 A=02 IS=00 W=01\n" ++ no_scratch ++ codes "total 3 instructions 36 phi\n"
unfolding running printing
patch_is_run = refl

patch_stops : (played (with_patch (0, 0x2D) (psu 0 4 (0x71 ∷ 0x2B ∷ 0x90 ∷ 0xFE ∷ [])) ∷ []) 0 3).stop ≡ Reserved 0 0x2D
unfolding running
patch_stops = refl

-- a key byte is read and written back; then a port is read that no chip has
keyed_text : text_of (telling_lines NoVerdict (played_in_order (psu 0 4 (0x20 ∷ 0x0F ∷ 0xB4 ∷ 0xA4 ∷ 0x26 ∷ 0x02 ∷ []) ∷ []) false
    (record { power = 0; end = Steps 4; events = record { frame = 0; event = Keys 4 0x30 } ∷ []; shows = [] }))) ≡
    codes "verdict none\nout 40 04 0F\nstop undriven romc 1B at 0002\nregs P=0004 P1=0000 D0=0000 D1=0000 A=3F IS=00 W=01\n" ++ no_scratch
    ++ codes "total 3 instructions 56 phi\n"
unfolding running printing
keyed_text = refl

-- the writes of two strokes, and the rows that they draw
abbrev six : List PortWrite
six =
    record { phi = 132; port = 0; byte = 0x20 } ∷ record { phi = 114; port = 4; byte = 0x82 } ∷ record { phi = 88; port = 0; byte = 0x00 }
    ∷ record { phi = 76; port = 0; byte = 0x20 } ∷ record { phi = 58; port = 4; byte = 0x81 } ∷ record { phi = 32; port = 0; byte = 0x20 } ∷ []

last_row_text : picture_row 63 six ≡ codes "1 " ++ replicate 125 48 ++ codes "303\n"
unfolding picture_row
last_row_text = refl

first_row_text : picture_row 0 six ≡ codes "0 " ++ replicate 128 48 ++ codes "\n"
unfolding picture_row
first_row_text = refl

-- an ordinary cartridge up to its first stroke
abbrev ordinary : List ChipView
ordinary =
    psu 0 4 (0x2A ∷ 0x08 ∷ 0x00 ∷ 0x16 ∷ 0x25 ∷ 0x55 ∷ 0x94 ∷ 0x04 ∷ 0x29 ∷ 0x08 ∷ 0x02 ∷ 0x90 ∷ 0xFF ∷ [])
    ∷ psu 0x400 8 []
    ∷ psu 0x800 32 (0x55 ∷ 0x2B ∷ 0x28 ∷ 0x08 ∷ 0x10 ∷ 0x90 ∷ 0xFC ∷ replicate 9 0xFF
    ++ 0x08 ∷ 0x70 ∷ 0xB4 ∷ 0xB0 ∷ 0xA4 ∷ 0x18 ∷ 0xB4 ∷ 0x20 ∷ 0x37 ∷ 0xB5 ∷ 0x20 ∷ 0x20 ∷ 0xB0 ∷ 0x0C ∷ [])
    ∷ []

ordinary_outs : text_of (flat_map lines_of (told_in (played_in_order ordinary false
    (record { power = 0; end = Steps 17; events = record { frame = 0; event = Keys 4 0x05 } ∷ []; shows = [] })).moments))
    ≡ codes "out 154 04 00\nout 162 00 00\nout 198 04 FA\nout 224 05 37\nout 242 00 20\n"
unfolding running printing
ordinary_outs = refl

-- the frame line
a_frame_line : frame_line 1 29840 0 ≡ codes "frame 1 phi 29840 tone 0\n"
unfolding frame_line digits
a_frame_line = refl

-- a port that no chip has, from reset on
unread_text : text_of (ending_lines (played (rom (0x26 ∷ 0x02 ∷ [])) 0 1)) ≡
    codes "stop undriven romc 1B at 0002\nregs P=0000 P1=0000 D0=0000 D1=0000 A=00 IS=00 W=00\n" ++ no_scratch ++ codes "total 0 instructions 14 phi\n"
unfolding running printing
unread_text = refl
