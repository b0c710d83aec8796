-- Command files worked out by hand, computed from the definitions.
use Rattle.std.proofs.Common.{◌≡◌, ℕ, List, [], ◌∷◌, Ok, Err, refl}
use Rattle.std.specs.Prelude.{◌++◌, codes, map, replicate}
use Rattle.hex.specs.Hex.{decode_pairs}
use Rattle.line_words.specs.Numbers.{decimal_on}
use Rattle.chip_debug.specs.declared.answers.DebugCause.TheVariants.{Word, Number, Range, Total}
use Rattle.chip_debug.specs.declared.command.Command.TheVariants.{Power, Keys, Pulse, Step, Run, BreakAt, BreakRomc}
use Rattle.chip_debug.specs.declared.command.Command.TheVariants.{BreakChip, BreakApart, Clear, ShowRegs, ShowChips, Mem}
use Rattle.chip_debug.specs.declared.command.Command.TheVariants.{Back, BackRun, Stored}
use Rattle.chip_debug.specs.Commands.{power_of, pulse_of, step_of, run_of, keys_of, break_at, break_romc, break_chip}
use Rattle.chip_debug.specs.Commands.{mem_of, back_of, back_run, stored_of, line_of}
use Rattle.line_words.specs.Drafts.{after_lines}
use Rattle.chip_debug.specs.Reading.{commands_of, read_line}

-- up to the place where copies of counters part, one instruction more, and the bytes there
where_copies_part : commands_of (codes "break apart\nrun 9\nstep 1\nmem 0000 5\n") ≡ Ok (
    BreakApart ∷ Run 9 ∷ Step 1 ∷ Mem 0 5 ∷ [])
unfolding decode_pairs decimal_on step_of run_of mem_of line_of read_line after_lines
where_copies_part = refl

shown_chips : commands_of (codes "step 4\nshow chips\n") ≡ Ok (Step 4 ∷ ShowChips ∷ [])
unfolding decimal_on step_of line_of read_line after_lines
shown_chips = refl

two_numbers : commands_of (codes "step 5 6\n") ≡ Err (record { line = 1; cause = Word })
unfolding line_of read_line after_lines
two_numbers = refl

-- five lines, of a million instructions each
abbrev five_millions : List ℕ
five_millions = codes "step 1000000\nstep 1000000\nstep 1000000\nstep 1000000\nstep 1000000\n"

too_many : commands_of (five_millions ++ five_millions ++ codes "step 1000000\n") ≡ Err (record { line = 11; cause = Total })
unfolding decimal_on step_of line_of read_line after_lines
too_many = refl

-- going back counts too
abbrev five_millions_back : List ℕ
five_millions_back = codes "back 1000000\nback 1000000\nback 1000000\nback 1000000\nback 1000000\n"

too_many_back : commands_of (five_millions_back ++ five_millions_back ++ codes "step 1\n") ≡ Err (record { line = 11; cause = Total })
unfolding decimal_on step_of back_of line_of read_line after_lines
too_many_back = refl

stepping_back : commands_of (codes "back 3\nback run 1000000\nstored 28fF\n") ≡ Ok (Back 3 ∷ BackRun 1000000 ∷ Stored 0x28FF ∷ [])
unfolding decode_pairs decimal_on back_of back_run stored_of line_of read_line after_lines
stepping_back = refl

back_out_of_range : map commands_of (codes "back 0" ∷ codes "back run 0" ∷ codes "back 1000001" ∷ [])
    ≡ replicate 3 (Err (record { line = 1; cause = Range }))
unfolding decimal_on back_of back_run line_of read_line after_lines
back_out_of_range = refl

back_out_of_form : map commands_of (codes "back" ∷ codes "back run 5 6" ∷ codes "stored 2800 1" ∷ [])
    ≡ replicate 3 (Err (record { line = 1; cause = Word }))
unfolding line_of read_line after_lines
back_out_of_form = refl

back_without_number : map commands_of (codes "back run" ∷ codes "back x" ∷ codes "stored 28" ∷ [])
    ≡ replicate 3 (Err (record { line = 1; cause = Number }))
unfolding decode_pairs decimal_on back_of stored_of line_of read_line after_lines
back_without_number = refl

-- the other commands, in either case of their digits
every_other : commands_of (codes "# all\npower 5a\nkeys 04 fF\n \t\npulse 15\nbreak at 28fF\nbreak romc 1f\nbreak chip 15\nclear\nshow regs\nmem FFFF 16")
    ≡ Ok (Power 0x5A ∷ Keys 4 0xFF ∷ Pulse 15 ∷ BreakAt 0x28FF ∷ BreakRomc 0x1F ∷ BreakChip 15 ∷ Clear ∷ ShowRegs ∷ Mem 0xFFFF 16 ∷ [])
unfolding decode_pairs decimal_on power_of keys_of pulse_of break_at break_romc break_chip mem_of line_of read_line after_lines
every_other = refl

-- the address of `mem` is out of form before its number is out of range
number_first : commands_of (codes "mem 000 17\n") ≡ Err (record { line = 1; cause = Number })
unfolding decode_pairs decimal_on mem_of line_of read_line after_lines
number_first = refl

code_too_large : commands_of (codes "clear\nbreak romc 20\n") ≡ Err (record { line = 2; cause = Range })
unfolding decode_pairs break_romc line_of read_line after_lines
code_too_large = refl

no_bytes : commands_of (codes "mem 0000 0\n") ≡ Err (record { line = 1; cause = Range })
unfolding decode_pairs decimal_on mem_of line_of read_line after_lines
no_bytes = refl

no_text : commands_of [] ≡ Ok []
unfolding after_lines
no_text = refl
