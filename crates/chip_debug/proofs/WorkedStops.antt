-- Sessions that stop, with breaks, keys and powers about it, worked out by hand and computed from the definitions.
use Rattle.std.proofs.Common.{◌≡◌, ℕ, ◌-◌, false, List, [], ◌∷◌, ◌++◌, codes, length, map, replicate, Some, None, refl}
use Rattle.std.specs.Fmt.{digits}
use Rattle.f8_spec.specs.ChipState.{ChipState, blank_view}
use Rattle.f8_spec.specs.Instructions.{decoded}
use Rattle.f8_spec.specs.ShiftTimer.{steps_to_expiry}
use Rattle.f8_spec.specs.declared.chips.ChipKind.TheVariants as kind
use Rattle.f8_spec.specs.declared.chips.PageSort.TheVariants.{Ram}
use Rattle.f8_spec.specs.declared.chips.PowerOn.{PowerOn}
use Rattle.f8_spec.specs.Powers.{usual_power}
use Rattle.chip_face.specs.declared.specification.ChipSpec.{ChipSpec}
use Rattle.chip_face.specs.declared.specification.ChipSpec.TheVariants.{Psu, Smi}
use Rattle.console_spec.specs.FlatMemory.{first_memory}
use Rattle.console_spec.specs.FlatStep.{chosen_at}
use Rattle.console_spec.specs.Processor.{own_inputs, effect}
use Rattle.console_spec.specs.RunText.{stop_line, fault_line, regs_line, scratch_line, total_line}
use Rattle.rack_run.specs.Seating.{fitted_views}
use Rattle.chip_debug.specs.declared.command.Command.{Command}
use Rattle.chip_debug.specs.declared.command.Command.TheVariants.{Power, Keys, Pulse, Step, Run, BreakAt, BreakRomc}
use Rattle.chip_debug.specs.declared.command.Command.TheVariants.{BreakChip, BreakApart, Clear, ShowRegs, ShowChips, Mem}
use Rattle.chip_debug.specs.declared.command.Command.TheVariants.{Back, BackRun, Stored}
use Rattle.chip_debug.specs.Carried.{first_scene, told_by}
use Rattle.chip_debug.specs.DebugText.{at_line, break_line, chip_line, mem_line, probe_line, ran_line, ready_line, stored_line}
use Rattle.chip_debug.specs.Scenes.{going}

-- a rack with two sockets for 3851s and one for a 3853
abbrev small_rack : List ChipState
small_rack = map (λ kind. record { view = blank_view kind; heard_steps = None; patch = None }) (kind.Psu ∷ kind.Psu ∷ kind.Smi ∷ [])

-- what a session on the chips of a description tells, each powered as is said of it
abbrev told_of : List ChipSpec → List PowerOn → List Command → List (List ℕ)
told_of chips powers commands = told_by commands (first_scene chips powers (fitted_views chips small_rack))

-- where nothing is said of any
abbrev told : List ChipSpec → List Command → List (List ℕ)
told chips commands = told_of chips [] commands

-- a 3851 at this base with these ports and bytes, and FF behind them
abbrev psu_at : ℕ → ℕ → List ℕ → ChipSpec
psu_at base ports bytes = Psu base (bytes ++ replicate (1024 - length bytes) 255) ports 0 false

-- a 3853 with one page of RAM, from 2800 on
abbrev ram : ChipSpec
ram = Smi (record { number = 0x28; sort = Ram } ∷ []) [] false

-- ---- DCI 5, XDC and LM on a 3851: breaks stay over `power`, and nothing is done once it has stopped

breaks_over_power : told (psu_at 0 4 (0x2A ∷ 0x00 ∷ 0x05 ∷ 0x2C ∷ 0x16 ∷ []) ∷ []) (
    BreakAt 3 ∷ Run 9 ∷ Step 0 ∷ Step 9 ∷ Run 1 ∷ Step 0 ∷ Power 0 ∷ Run 9 ∷ Clear ∷ BreakAt 4 ∷ BreakAt 9 ∷ Run 9 ∷ [])
    ≡ codes "ran 1\n"
    ∷ codes "break\n"
    ∷ codes "ran 0\n"
    ∷ codes "ran 1\n"
    ∷ codes "stop astray romc 02 socket 0 at 0005 reference 0000\n"
    ∷ codes "ran 0\n"
    ∷ codes "stop astray romc 02 socket 0 at 0005 reference 0000\n"
    ∷ codes "ran 0\n"
    ∷ codes "stop astray romc 02 socket 0 at 0005 reference 0000\n"
    ∷ codes "ready\n"
    ∷ codes "ran 1\n"
    ∷ codes "break\n"
    ∷ codes "ran 1\n"
    ∷ codes "stop astray romc 02 socket 0 at 0005 reference 0000\n"
    ∷ []
unfolding digits going ready_line ran_line break_line stop_line fault_line own_inputs chosen_at steps_to_expiry effect decoded first_memory
breaks_over_power = refl

-- ---- without chips reset isn't served: the registers are those of power-on, and the probe has heard its steps but the fetch

nothing_fitted : told [] (Step 1 ∷ Power 0x5A ∷ ShowRegs ∷ ShowChips ∷ Mem 0xFFFF 2 ∷ [])
    ≡ codes "ran 0\n"
    ∷ codes "stop undriven romc 00 at 0000\n"
    ∷ codes "stop undriven romc 00 at 0000\n"
    ∷ codes "regs P=0000 P1=0000 D0=0000 D1=0000 A=5A IS=32 W=00\n"
    ∷ codes "s00 5A 5A 5A 5A 5A 5A 5A 5A 5A 5A 5A 5A 5A 5A 5A 5A\n"
    ∷ codes "s10 5A 5A 5A 5A 5A 5A 5A 5A 5A 5A 5A 5A 5A 5A 5A 5A\n"
    ∷ codes "s20 5A 5A 5A 5A 5A 5A 5A 5A 5A 5A 5A 5A 5A 5A 5A 5A\n"
    ∷ codes "s30 5A 5A 5A 5A 5A 5A 5A 5A 5A 5A 5A 5A 5A 5A 5A 5A\n"
    ∷ codes "total 0 instructions 0 phi\n"
    ∷ codes "probe PC0=0000 PC1=0000 DC0=0000 DC1=0000\n"
    ∷ codes "mem FFFF -- --\n"
    ∷ []
unfolding digits going ran_line stop_line fault_line regs_line scratch_line total_line probe_line mem_line own_inputs chosen_at
    steps_to_expiry effect decoded first_memory
nothing_fitted = refl

-- nothing is done, so there is nothing to go back by, and reset fails as before
nothing_to_undo : told [] (Back 3 ∷ Stored 0 ∷ Step 1 ∷ BackRun 3 ∷ [])
    ≡ codes "at 0\n"
    ∷ codes "stored none\n"
    ∷ codes "ran 0\n"
    ∷ codes "stop undriven romc 00 at 0000\n"
    ∷ codes "at 0\n"
    ∷ []
unfolding digits going ran_line at_line stored_line stop_line fault_line own_inputs chosen_at steps_to_expiry effect decoded first_memory
nothing_to_undo = refl

-- ---- LIS 1 and a reserved opcode: going back by more than was done leads to reset, and the stop comes again

a_stop_again : told (psu_at 0 4 (0x71 ∷ 0x2D ∷ []) ∷ []) (Step 9 ∷ Back 5 ∷ Step 9 ∷ [])
    ≡ codes "ran 1\n"
    ∷ codes "stop reserved 2D at 0001\n"
    ∷ codes "at 0\n"
    ∷ codes "ran 1\n"
    ∷ codes "stop reserved 2D at 0001\n"
    ∷ []
unfolding digits going ran_line at_line stop_line own_inputs chosen_at steps_to_expiry effect decoded first_memory
a_stop_again = refl

-- ---- two chips at one address: neither's byte is told, and both are fitted; `mem` goes on at 0000 behind FFFF

held_twice : told (psu_at 0 4 (0x2B ∷ []) ∷ psu_at 0 8 (0x2B ∷ []) ∷ []) (Mem 0x03FF 2 ∷ ShowChips ∷ [])
    ≡ codes "mem 03FF -- --\n"
    ∷ codes "chip 0 3851 PC0=0000 PC1=0000 DC0=0000\n"
    ∷ codes "chip 1 3851 PC0=0000 PC1=0001 DC0=0001\n"
    ∷ codes "probe PC0=0000 PC1=0000 DC0=0000 DC1=0000\n"
    ∷ []
unfolding digits chip_line probe_line mem_line steps_to_expiry effect decoded first_memory
held_twice = refl

behind_the_last : told (psu_at 0 4 (0x71 ∷ 0x2B ∷ []) ∷ []) (Mem 0xFFFF 3 ∷ []) ≡ codes "mem FFFF -- 71 2B\n" ∷ []
unfolding mem_line steps_to_expiry effect decoded first_memory
behind_the_last = refl

-- ---- DCI 2800, LIS 7, ST and a branch to itself: the 3853 takes a byte in step 05

takes_a_byte : told (psu_at 0 4 (0x2A ∷ 0x28 ∷ 0x00 ∷ 0x77 ∷ 0x17 ∷ 0x90 ∷ 0xFF ∷ []) ∷ ram ∷ []) (
    BreakChip 2 ∷ Run 9 ∷ Mem 0x27FF 2 ∷ BreakChip 1 ∷ BreakRomc 1 ∷ Run 9 ∷ Run 1 ∷ Power 0x12 ∷ Mem 0x2800 1 ∷ BreakApart ∷ Clear ∷ Run 5 ∷ [])
    ≡ codes "ran 3\n"
    ∷ codes "break\n"
    ∷ codes "mem 27FF -- 07\n"
    ∷ codes "ran 1\n"
    ∷ codes "break\n"
    ∷ codes "ran 1\n"
    ∷ codes "break\n"
    ∷ codes "ready\n"
    ∷ codes "mem 2800 12\n"
    ∷ codes "ran 5\n"
    ∷ []
unfolding digits going ready_line ran_line break_line mem_line own_inputs chosen_at steps_to_expiry effect decoded first_memory
takes_a_byte = refl

-- that store is the third instruction; of those before the last one it alone meets the break, and before it the RAM has its first byte
looks_back : told (psu_at 0 4 (0x2A ∷ 0x28 ∷ 0x00 ∷ 0x77 ∷ 0x17 ∷ 0x90 ∷ 0xFF ∷ []) ∷ ram ∷ []) (
    Step 5 ∷ Stored 0x2800 ∷ Stored 0x2801 ∷ BreakChip 2 ∷ BackRun 1 ∷ BackRun 2 ∷ Mem 0x2800 1 ∷ Back 1 ∷ Mem 0x2800 1
    ∷ Stored 0x2800 ∷ [])
    ≡ codes "ran 5\n"
    ∷ codes "stored 3\n"
    ∷ codes "stored none\n"
    ∷ codes "at 4\n"
    ∷ codes "at 3\n"
    ∷ codes "break\n"
    ∷ codes "mem 2800 07\n"
    ∷ codes "at 2\n"
    ∷ codes "mem 2800 00\n"
    ∷ codes "stored none\n"
    ∷ []
unfolding digits going ran_line at_line break_line mem_line stored_line own_inputs chosen_at steps_to_expiry effect decoded first_memory
looks_back = refl

-- ---- INS 4 and a reserved opcode: a key byte counts until `power`, and none comes once the session has stopped

keys_and_stops : told (psu_at 0 4 (0xA4 ∷ 0x2D ∷ []) ∷ []) (
    Keys 4 0x30 ∷ Pulse 0 ∷ Pulse 15 ∷ Step 5 ∷ Keys 4 0xFF ∷ ShowRegs ∷ Power 0 ∷ Step 1 ∷ ShowRegs ∷ [])
    ≡ codes "ran 1\n"
    ∷ codes "stop reserved 2D at 0001\n"
    ∷ codes "regs P=0001 P1=0000 D0=0000 D1=0000 A=30 IS=00 W=01\n"
    ∷ codes "s00 00 00 00 00 00 00 00 00 00 00 00 00 00 00 00 00\n"
    ∷ codes "s10 00 00 00 00 00 00 00 00 00 00 00 00 00 00 00 00\n"
    ∷ codes "s20 00 00 00 00 00 00 00 00 00 00 00 00 00 00 00 00\n"
    ∷ codes "s30 00 00 00 00 00 00 00 00 00 00 00 00 00 00 00 00\n"
    ∷ codes "total 1 instructions 30 phi\n"
    ∷ codes "ready\n"
    ∷ codes "ran 1\n"
    ∷ codes "regs P=0001 P1=0000 D0=0000 D1=0000 A=00 IS=00 W=05\n"
    ∷ codes "s00 00 00 00 00 00 00 00 00 00 00 00 00 00 00 00 00\n"
    ∷ codes "s10 00 00 00 00 00 00 00 00 00 00 00 00 00 00 00 00\n"
    ∷ codes "s20 00 00 00 00 00 00 00 00 00 00 00 00 00 00 00 00\n"
    ∷ codes "s30 00 00 00 00 00 00 00 00 00 00 00 00 00 00 00 00\n"
    ∷ codes "total 1 instructions 30 phi\n"
    ∷ []
unfolding digits going ready_line ran_line stop_line regs_line scratch_line total_line own_inputs chosen_at steps_to_expiry effect decoded
    first_memory
keys_and_stops = refl

-- ---- JMP to a JMP whose third byte nobody holds: the registers are those before it, though its first operand is in A

before_a_cut_jump : told (psu_at 0 4 (0x29 ∷ 0x03 ∷ 0xFE ∷ replicate 1019 255 ++ 0x29 ∷ 0x08 ∷ []) ∷ []) (Step 9 ∷ ShowRegs ∷ [])
    ≡ codes "ran 1\n"
    ∷ codes "stop undriven romc 0C at 0400\n"
    ∷ codes "regs P=03FE P1=0000 D0=0000 D1=0000 A=03 IS=00 W=00\n"
    ∷ codes "s00 00 00 00 00 00 00 00 00 00 00 00 00 00 00 00 00\n"
    ∷ codes "s10 00 00 00 00 00 00 00 00 00 00 00 00 00 00 00 00\n"
    ∷ codes "s20 00 00 00 00 00 00 00 00 00 00 00 00 00 00 00 00\n"
    ∷ codes "s30 00 00 00 00 00 00 00 00 00 00 00 00 00 00 00 00\n"
    ∷ codes "total 1 instructions 36 phi\n"
    ∷ []
unfolding digits going ran_line stop_line fault_line regs_line scratch_line total_line own_inputs chosen_at steps_to_expiry effect decoded
    first_memory
before_a_cut_jump = refl

-- ---- what is said of the power-on of a chip goes by the description, here of a 3853 before two 3851s, and holds after `power` too

abbrev said_powers : List PowerOn
said_powers = record { fill = Some 0x33; start = Some 0x1111 } ∷ record { fill = None; start = Some 0x2222 } ∷ usual_power ∷ []

powers_as_said : told_of (ram ∷ psu_at 0 4 (0x2B ∷ 0x2B ∷ []) ∷ psu_at 0x400 8 [] ∷ []) said_powers (
    ShowChips ∷ Power 0x5A ∷ ShowChips ∷ Mem 0x28FF 2 ∷ [])
    ≡ codes "chip 0 3851 PC0=0001 PC1=2222 DC0=2222\n"
    ∷ codes "chip 1 3851 PC0=0001 PC1=0001 DC0=0001\n"
    ∷ codes "chip 2 3853 PC0=0001 PC1=1111 DC0=1111 DC1=1111\n"
    ∷ codes "probe PC0=0001 PC1=0000 DC0=0000 DC1=0000\n"
    ∷ codes "ready\n"
    ∷ codes "chip 0 3851 PC0=0001 PC1=2222 DC0=2222\n"
    ∷ codes "chip 1 3851 PC0=0001 PC1=5A5B DC0=5A5B\n"
    ∷ codes "chip 2 3853 PC0=0001 PC1=1111 DC0=1111 DC1=1111\n"
    ∷ codes "probe PC0=0001 PC1=0000 DC0=0000 DC1=0000\n"
    ∷ codes "mem 28FF 33 --\n"
    ∷ []
unfolding digits going ready_line chip_line probe_line mem_line own_inputs chosen_at steps_to_expiry effect decoded first_memory
powers_as_said = refl
