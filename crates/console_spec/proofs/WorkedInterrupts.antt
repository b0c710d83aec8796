-- Runs with interrupts worked out by hand, computed from the definitions.
use Rattle.std.proofs.Common.{◌≡◌, ℕ, ◌+◌, ◌*◌, Bool, true, false, List, [], ◌∷◌, ◌++◌, replicate, refl}
use Rattle.std.specs.Prelude.{drop, codes, flat_map, None, Some}
use Rattle.f8_spec.specs.Flags.{clear_status}
use Rattle.f8_spec.specs.Instructions.{is_shielding}
use Rattle.f8_spec.specs.ChipState.{ChipView}
use Rattle.f8_spec.specs.declared.instructions.Op.TheVariants.{Bf, Ds, Ei, LrJW, LrWJ, Nop, Outs}
use Rattle.console_spec.specs.BusTrace.{TracedStep}
use Rattle.console_spec.specs.FlatStep.{clocks_by}
use Rattle.console_spec.specs.Run.{Position, with_pulse_at, position_after}
use Rattle.console_spec.specs.RunText.{telling_lines, flat_telling_lines, lines_of, text_of}
use Rattle.console_spec.specs.Scripts.{Script}
use Rattle.console_spec.specs.Telling.{Shown, Telling, played_by, referred_by, telling, told_in, on_rack}
use Rattle.console_spec.specs.declared.End.TheVariants.{Steps}
use Rattle.console_spec.specs.declared.Event.TheVariants.{Pulse}
use Rattle.console_spec.specs.declared.VerdictWord.TheVariants.{NoVerdict}
use Rattle.console_spec.specs.declared.Who.{Who}
use Rattle.console_spec.specs.declared.Who.TheVariants.{Nobody, Socket}
use Rattle.console_spec.proofs.Played.{played, played_in_order, played_record, printing, running, steps_alone}
use Rattle.console_spec.proofs.WorkedMore.{no_scratch}
use Rattle.console_spec.proofs.WorkedRacks.{psu}

-- a 3851 that can interrupt, with its vector
abbrev pub wired_psu : ℕ → ℕ → ℕ → List ℕ → ChipView
wired_psu base ports vector bytes = record (psu base ports bytes) { wired = true; vector = vector }

-- Control 3, the timer loaded with 7F, interrupts let in, and NOPs. The timer expires at 87 Φ, and EI, which ends at 96, shields its end;
-- so the NOP behind it is followed by the vector.
abbrev timer_cart : List ChipView
timer_cart = wired_psu 0 4 0x180
    (0x73 ∷ 0xB6 ∷ 0x20 ∷ 0x7F ∷ 0xB7 ∷ replicate 7 0x2B ++ 0x1B ∷ 0x2B ∷ []) ∷ []

by_the_timer : (played timer_cart 0 13).position.flat.state ≡ record {
  flow = record { p = 0x100; p1 = 0x0E; d0 = 0; d1 = 0 };
  registers = record { accumulator = 0x7F; isar = 0; status = clear_status; scratchpad = replicate 64 0 };
  keys = replicate 256 0;
  writes = record { phi = 60; port = 7; byte = 0x7F } ∷ record { phi = 34; port = 6; byte = 3 } ∷ [];
  acknowledged = record { chip = 0; phi = 118 } ∷ [];
  pulses = [];
  count = 13;
  phi = 122;
}
unfolding running
by_the_timer = refl

not_behind_enable : (played timer_cart 0 12).position.flat.state.flow.p ≡ 0x0D
unfolding running
not_behind_enable = refl

enabled_at : (played timer_cart 0 12).position.flat.state.phi ≡ 96
unfolding running
enabled_at = refl

-- what is written of it on a rack, and on the flat instruction set alone
timer_text : text_of (telling_lines NoVerdict (played_in_order timer_cart false (steps_alone 0 13))) ≡
    codes "verdict none\nout 34 06 03\nout 60 07 7F\nstop done\nregs P=0100 P1=000E D0=0000 D1=0000 A=7F IS=00 W=00\n" ++ no_scratch
    ++ codes "total 13 instructions 122 phi\n"
unfolding running printing
timer_text = refl

flat_timer_text : text_of (flat_telling_lines (referred_by timer_cart [] (steps_alone 0 13))) ≡
    codes "out 34 06 03\nout 60 07 7F\nstop done\nregs P=0100 P1=000E D0=0000 D1=0000 A=7F IS=00 W=00\n" ++ no_scratch
    ++ codes "total 13 instructions 122 phi\n"
unfolding running printing
flat_timer_text = refl

-- the steps of the interrupt stand in place of the last fetch
abbrev step : ℕ → Bool → ℕ → Who → TracedStep
step romc long byte who = record { romc = romc; long = long; byte = byte; who = who; taker = None }

interrupt_lines : text_of (flat_map lines_of (drop 23 (told_in (played_in_order timer_cart true (steps_alone 0 13)).moments))) ≡
    codes "bus 10 L 00 -\nbus 1C S 00 -\nbus 0F L 00 0\nbus 13 L 01 0\nbus 00 S FF 0\n"
unfolding running printing
interrupt_lines = refl

interrupt_told : drop 21 (played_record timer_cart 0 13) ≡
    step 0x10 true 0 Nobody ∷ step 0x1C false 0 Nobody ∷ step 0x0F true 0 (Socket 0) ∷ step 0x13 true 1 (Socket 0)
    ∷ step 0x00 false 0xFF (Socket 0) ∷ []
unfolding running
interrupt_told = refl

-- the timer loaded with FF never expires, and loaded with FE not before 255 steps
abbrev slow_cart : ℕ → List ChipView
slow_cart byte = wired_psu 0 4 0x180
    (0x73 ∷ 0xB6 ∷ 0x20 ∷ byte ∷ 0xB7 ∷ replicate 7 0x2B ++ 0x1B ∷ 0x2B ∷ []) ∷ []

not_by_a_still_timer : (played (slow_cart 0xFF) 0 13).position.flat.state.flow.p ≡ 0x0E
unfolding running
not_by_a_still_timer = refl

not_by_a_slow_timer : text_of (telling_lines NoVerdict (played_in_order (slow_cart 0xFE) false (steps_alone 0 13))) ≡
    codes "verdict none\nout 34 06 03\nout 60 07 FE\nstop done\nregs P=000E P1=0000 D0=0000 D1=0000 A=FE IS=00 W=10\n" ++ no_scratch
    ++ codes "total 13 instructions 100 phi\n"
unfolding running printing
not_by_a_slow_timer = refl

-- ---- two chips that ask

-- Control 1 at both chips, interrupts let in, and a branch to itself. A pulse comes to the second chip and then to the first.
abbrev pulsed_chips : Bool → List ChipView
pulsed_chips wired =
    record (wired_psu 0 4 0x100 (0x71 ∷ 0xB6 ∷ 0xBA ∷ 0x1B ∷ 0x90 ∷ 0xFF ∷ [])) { wired = wired } ∷ wired_psu 0x400 8 0x200 [] ∷ []

-- after four instructions, with a chain
abbrev before_pulses : Bool → List ℕ → Position
before_pulses wired chain = (played_by (pulsed_chips wired) chain [] false (steps_alone 0 4)).ending.position

abbrev after_branch : Position → Position
after_branch x = position_after (Bf 0) (with_pulse_at 0 (with_pulse_at 1 x))

-- the first of the chain goes first, and its own request alone is ended
first_goes_first : (after_branch (before_pulses true (0 ∷ 1 ∷ []))).flat.state.flow ≡ record { p = 0x180; p1 = 4; d0 = 0; d1 = 0 }
unfolding running
first_goes_first = refl

first_acknowledged : (after_branch (before_pulses true (0 ∷ 1 ∷ []))).flat.state.acknowledged ≡ record { chip = 0; phi = 90 } ∷ []
unfolding running
first_acknowledged = refl

second_goes_next : (position_after Nop (position_after Ei (after_branch (before_pulses true (0 ∷ 1 ∷ []))))).flat.state.flow.p ≡ 0x280
unfolding running
second_goes_next = refl

-- a chain names places of the description, so a pulse at place 0 is one at socket 1, which goes first there
by_the_chain : (after_branch (before_pulses true (1 ∷ 0 ∷ []))).flat.state.flow.p ≡ 0x280
unfolding running
by_the_chain = refl

-- a chip that can't interrupt is passed over
unwired_passed_over : (after_branch (before_pulses false (0 ∷ 1 ∷ []))).flat.state.flow.p ≡ 0x280
unfolding running
unwired_passed_over = refl

-- without a pulse nothing is taken
none_taken : (position_after (Bf 0) (before_pulses true (0 ∷ 1 ∷ []))).flat.state.flow.p ≡ 4
unfolding running
none_taken = refl

-- ---- two pulses at the first frame

-- The same, with EI and POP at the first chip's vector for a pulse.
abbrev returning_chips : List ChipView
returning_chips =
    wired_psu 0 4 0x100 (0x71 ∷ 0xB6 ∷ 0xBA ∷ 0x1B ∷ 0x90 ∷ 0xFF ∷ replicate 378 0xFF ++ 0x1B ∷ 0x1C ∷ [])
    ∷ wired_psu 0x400 8 0x200 [] ∷ []

abbrev two_pulses : Script
two_pulses = record {
  power = 0;
  end = Steps 2135;
  events = record { frame = 1; event = Pulse 1 } ∷ record { frame = 1; event = Pulse 0 } ∷ [];
  shows = [];
}

-- Four instructions take 58 Φ, and the branch 14 each time: after 2,126 branches 29,822 Φ, and the next one comes to the frame, at 29,836.
abbrev before_the_frame : Position
before_the_frame =
    let x = (played_by returning_chips (0 ∷ 1 ∷ []) [] false (record two_pulses { end = Steps 4; events = [] })).ending.position in
    record x { flat = record x.flat { state = record x.flat.state { count = 2130; phi = x.flat.state.phi + 14 * 2126 } } }

-- that branch, and the last four: the branch with the interrupt of the first chip, EI, POP, and the branch with that of the second
abbrev last_five : Script → Telling
last_five script = telling (on_rack false) script 5 before_the_frame

two_pulses_end : (last_five two_pulses).ending.position.flat.state ≡ record {
  flow = record { p = 0x280; p1 = 4; d0 = 0; d1 = 0 };
  registers = record { accumulator = 1; isar = 0; status = clear_status; scratchpad = replicate 64 0 };
  keys = replicate 256 0;
  writes = record { phi = 50; port = 0x0A; byte = 1 } ∷ record { phi = 34; port = 6; byte = 1 } ∷ [];
  acknowledged = record { chip = 1; phi = 29920 } ∷ record { chip = 0; phi = 29868 } ∷ [];
  pulses = record { chip = 0; phi = 29836 } ∷ record { chip = 1; phi = 29836 } ∷ [];
  count = 2135;
  phi = 29924;
}
unfolding running
two_pulses_end = refl

-- and the whole run
two_pulses_text : text_of (telling_lines NoVerdict (played_by returning_chips (0 ∷ 1 ∷ []) [] false two_pulses)) ≡
    codes "verdict none\nout 34 06 01\nout 50 0A 01\nstop done\nregs P=0280 P1=0004 D0=0000 D1=0000 A=01 IS=00 W=00\n" ++ no_scratch
    ++ codes "total 2135 instructions 29924 phi\n"
unfolding running printing
two_pulses_text = refl

-- the frame falls at the first branch
frame_with_pulses : told_in (last_five (record two_pulses { shows = 1 ∷ [] })).moments ≡ Shown 1 29836 before_the_frame.flat.state.writes ∷ []
unfolding running
frame_with_pulses = refl

-- ---- the clocks of instructions with an interrupt in place of their last fetch

decrement_interrupted : clocks_by (Some 0) (Ds 1) false ≡ 26
decrement_interrupted = refl

out_of_own_port_interrupted : clocks_by (Some 0) (Outs 0) false ≡ 30
out_of_own_port_interrupted = refl

status_kept_interrupted : clocks_by (Some 0) LrJW false ≡ 26
status_kept_interrupted = refl

-- and which of these shield their ends
shields_status_loaded : is_shielding LrWJ ≡ true
shields_status_loaded = refl

shields_no_status_kept : is_shielding LrJW ≡ false
shields_no_status_kept = refl

shields_no_own_port : is_shielding (Outs 0) ≡ false
shields_no_own_port = refl
