-- Sessions worked out by hand, computed from the definitions.
use Rattle.std.proofs.Common.{◌≡◌, ℕ, ◌+◌, ◌*◌, false, List, [], ◌∷◌, ◌++◌, codes, map, replicate, None, refl}
use Rattle.std.specs.Fmt.{digits}
use Rattle.f8_spec.specs.ChipState.{ChipState, blank_view}
use Rattle.f8_spec.specs.Instructions.{decoded}
use Rattle.f8_spec.specs.ShiftTimer.{steps_to_expiry}
use Rattle.f8_spec.specs.declared.chips.ChipKind.{ChipKind}
use Rattle.f8_spec.specs.declared.chips.ChipKind.TheVariants as kind
use Rattle.f8_spec.specs.declared.chips.PageSort.TheVariants.{Ram}
use Rattle.chip_face.specs.declared.specification.ChipSpec.{ChipSpec}
use Rattle.chip_face.specs.declared.specification.ChipSpec.TheVariants.{Psu, Smi, Pio}
use Rattle.console_spec.specs.FlatMemory.{first_memory}
use Rattle.console_spec.specs.FlatStep.{chosen_at}
use Rattle.console_spec.specs.Processor.{own_inputs, effect}
use Rattle.console_spec.specs.RunText.{stop_line, fault_line}
use Rattle.rack_run.specs.Seating.{fitted_views}
use Rattle.chip_debug.specs.declared.command.Command.TheVariants.{Power, Step, Run}
use Rattle.chip_debug.specs.declared.command.Command.TheVariants.{BreakApart, ShowChips, Mem, Back, Stored}
use Rattle.chip_debug.specs.Asking.{session_allowed}
use Rattle.chip_debug.specs.Carried.{first_scene, told_by}
use Rattle.chip_debug.specs.DebugText.{at_line, break_line, chip_line, mem_line, probe_line, ran_line, ready_line}
use Rattle.chip_debug.specs.Scenes.{Scene, going}

-- ---- racks

-- blank chips of these kinds
abbrev blank_rack : List ChipKind → List ChipState
blank_rack kinds = map (λ kind. record { view = blank_view kind; heard_steps = None; patch = None }) kinds

-- twelve sockets for 3851s and two for 3853s
abbrev own_rack : List ChipState
own_rack = blank_rack (replicate 12 kind.Psu ++ replicate 2 kind.Smi)

-- and two for 3861s behind them
abbrev three_kinds : List ChipState
three_kinds = blank_rack (replicate 12 kind.Psu ++ replicate 2 kind.Smi ++ replicate 2 kind.Pio)

-- a session on a description's chips in a rack, where nothing is said of any
abbrev scene_in : List ChipState → List ChipSpec → Scene
scene_in rack chips = first_scene chips [] (fitted_views chips rack)

-- a 3851 at 0 with these bytes
abbrev psu_with : List ℕ → ℕ → ChipSpec
psu_with bytes more = Psu 0 (bytes ++ replicate more 255) 4 0 false

-- a 3853 with one page of RAM, from 2800 on
abbrev ram : ChipSpec
ram = Smi (record { number = 0x28; sort = Ram } ∷ []) [] false

-- ---- DCI 5, XDC and LM, by which a 3851 reads at its own data counter, which isn't the probe's

abbrev parting : Scene
parting = scene_in own_rack (psu_with (0x2A ∷ 0x00 ∷ 0x05 ∷ 0x2C ∷ 0x16 ∷ []) 1019 ∷ [])

breaks_where_counters_part : told_by (BreakApart ∷ Run 9 ∷ Step 1 ∷ Mem 0 5 ∷ []) parting
    ≡ codes "ran 2\n"
    ∷ codes "break\n"
    ∷ codes "ran 0\n"
    ∷ codes "stop astray romc 02 socket 0 at 0005 reference 0000\n"
    ∷ codes "mem 0000 2A 00 05 2C 16\n"
    ∷ []
unfolding digits going ran_line break_line mem_line stop_line fault_line own_inputs chosen_at steps_to_expiry effect decoded first_memory
breaks_where_counters_part = refl

-- Power-on asks each chip of the rack and reset one, DCI asks five times and XDC once, and the chip described is asked behind each of the
-- two. LM may ask each chip, since nothing is known of the data counter then, and each of the five bytes is asked of each.
asks_where_counters_part : session_allowed (BreakApart ∷ Run 9 ∷ Step 1 ∷ Mem 0 5 ∷ []) parting
    ≡ (512 * 14 + 1) + (5 + 1 + 2) + 4 * 14 + 5 * 14
unfolding going own_inputs chosen_at steps_to_expiry effect decoded first_memory
asks_where_counters_part = refl

-- ---- with a 3853: four instructions, and the counters of the two chips

abbrev two_kinds : Scene
two_kinds =
    scene_in own_rack
    (psu_with (0x2A ∷ 0x28 ∷ 0x00 ∷ 0x2C ∷ 0x2A ∷ 0x00 ∷ 0x10 ∷ 0x2C ∷ 0x16 ∷ []) 1015 ∷ ram ∷ [])

shows_chips : told_by (Step 4 ∷ ShowChips ∷ []) two_kinds
    ≡ codes "ran 4\n"
    ∷ codes "chip 0 3851 PC0=0009 PC1=0000 DC0=0010\n"
    ∷ codes "chip 12 3853 PC0=0009 PC1=000C DC0=2800 DC1=0010\n"
    ∷ codes "probe PC0=0009 PC1=0000 DC0=2800 DC1=0010\n"
    ∷ []
unfolding digits going ran_line chip_line probe_line own_inputs chosen_at steps_to_expiry effect decoded first_memory
shows_chips = refl

-- at power-on all begins again
asks_again : session_allowed (Power 0 ∷ ShowChips ∷ []) two_kinds ≡ (512 * 14 + 1) + (512 * 14 + 1) + 14
unfolding going own_inputs chosen_at steps_to_expiry effect decoded first_memory
asks_again = refl

-- two of the four undone: the counters are those between
steps_back : told_by (Step 4 ∷ Back 2 ∷ ShowChips ∷ []) two_kinds
    ≡ codes "ran 4\n"
    ∷ codes "at 2\n"
    ∷ codes "chip 0 3851 PC0=0005 PC1=0000 DC0=2800\n"
    ∷ codes "chip 12 3853 PC0=0005 PC1=000C DC0=000C DC1=2800\n"
    ∷ codes "probe PC0=0005 PC1=0000 DC0=0000 DC1=2800\n"
    ∷ []
unfolding digits going ran_line at_line chip_line probe_line own_inputs chosen_at steps_to_expiry effect decoded first_memory
steps_back = refl

-- a stop is undone, comes again, and is undone with all before it
steps_back_from_a_stop : told_by (Step 9 ∷ Back 1 ∷ Step 9 ∷ Back 9 ∷ ShowChips ∷ []) two_kinds
    ≡ codes "ran 4\n"
    ∷ codes "stop conflict romc 02 socket 0 at 0010 socket 12 at 2800\n"
    ∷ codes "at 3\n"
    ∷ codes "ran 1\n"
    ∷ codes "stop conflict romc 02 socket 0 at 0010 socket 12 at 2800\n"
    ∷ codes "at 0\n"
    ∷ codes "chip 0 3851 PC0=0001 PC1=0000 DC0=0000\n"
    ∷ codes "chip 12 3853 PC0=0001 PC1=000C DC0=000C DC1=000C\n"
    ∷ codes "probe PC0=0001 PC1=0000 DC0=0000 DC1=0000\n"
    ∷ []
unfolding digits going ran_line at_line chip_line probe_line stop_line fault_line own_inputs chosen_at steps_to_expiry effect decoded
    first_memory
steps_back_from_a_stop = refl

-- going back asks as often as power-on, reset and the instructions that stay did, and looking for a store as often as all that are done
asks_back : session_allowed (Step 4 ∷ Back 2 ∷ Stored 0 ∷ []) two_kinds
    ≡ (512 * 14 + 1) + 2 * (5 + 1) + ((512 * 14 + 1) + (5 + 1)) + ((512 * 14 + 1) + (5 + 1))
unfolding going own_inputs chosen_at steps_to_expiry effect decoded first_memory
asks_back = refl

-- ---- JMP to JMP at the end of the chip, whose third byte nobody holds: the chips have heard the served steps, and the registers are those
-- before the instruction

abbrev cut_jump : Scene
cut_jump =
    scene_in own_rack (Psu 0 (0x29 ∷ 0x03 ∷ 0xFE ∷ replicate 1019 255 ++ 0x29 ∷ 0x08 ∷ []) 4 0 false ∷ [])

after_a_cut_jump : told_by (Step 9 ∷ ShowChips ∷ []) cut_jump
    ≡ codes "ran 1\n"
    ∷ codes "stop undriven romc 0C at 0400\n"
    ∷ codes "chip 0 3851 PC0=0400 PC1=0000 DC0=0000\n"
    ∷ codes "probe PC0=0400 PC1=0000 DC0=0000 DC1=0000\n"
    ∷ []
unfolding digits going ran_line chip_line probe_line stop_line fault_line own_inputs chosen_at steps_to_expiry effect decoded first_memory
after_a_cut_jump = refl

-- ---- NOP and a branch to itself, beside a 3861, which has no counters: it has none to show, and none that part. Power-on with 04 leaves the
-- stack register of the 3851 apart from the probe's

abbrev beside_pio : Scene
beside_pio = scene_in three_kinds (psu_with (0x2B ∷ 0x90 ∷ 0xFE ∷ []) 1021 ∷ Pio 8 0 false ∷ [])

pio_never_parts : told_by (BreakApart ∷ Run 4 ∷ ShowChips ∷ []) beside_pio
    ≡ codes "ran 4\n"
    ∷ codes "chip 0 3851 PC0=0001 PC1=0000 DC0=0000\n"
    ∷ codes "chip 14 3861\n"
    ∷ codes "probe PC0=0001 PC1=0000 DC0=0000 DC1=0000\n"
    ∷ []
unfolding digits going ran_line chip_line probe_line own_inputs chosen_at steps_to_expiry effect decoded first_memory
pio_never_parts = refl

psu_parts_beside_a_pio : told_by (Power 4 ∷ BreakApart ∷ Run 4 ∷ []) beside_pio
    ≡ codes "ready\n" ∷ codes "ran 1\n" ∷ codes "break\n" ∷ []
unfolding digits going ready_line ran_line break_line own_inputs chosen_at steps_to_expiry effect decoded first_memory
psu_parts_beside_a_pio = refl
