-- Values worked out by hand, computed from the definitions.
use Rattle.std.proofs.Common.{◌≡◌, ◌*◌, ℕ, true, false, refl, pos, negsuc}
use Rattle.std.specs.Prelude.{None, Some}
use Rattle.f8_spec.specs.Words.{decimal_value, wrapped, displaced, with_high, with_low}
use Rattle.f8_spec.specs.Flags.{clear_status, status_byte, after_sum}
use Rattle.f8_spec.specs.Instructions.{decoded, clocks_of}
use Rattle.f8_spec.specs.ShiftTimer.{shifted_timer, steps_to_expiry, idle_timer, timer_loaded, timer_after}
use Rattle.f8_spec.specs.ShiftTimer.{expires_within, clocks_to_expiry, next_expiry, expires_between}
use Rattle.f8_spec.specs.ChipState.{ChipView, blank_view, vector_under, timer_passed}
use Rattle.f8_spec.specs.declared.chips.ChipKind.TheVariants.{Psu}
use Rattle.f8_spec.specs.declared.instructions.Op.TheVariants.{Lis, Bf, Ds, Ins, Pi}

-- a branch at 0001 by -3 leads below 0, and wraps
branch_below_zero : displaced 0x0001 0xFD ≡ 0xFFFE
branch_below_zero = refl

-- a branch at 0003 by -2 leads to 0001
branch_to_self : displaced 0x0003 0xFE ≡ 0x0001
branch_to_self = refl

past_the_end : wrapped 0xFFFF (pos 1) ≡ 0x0000
past_the_end = refl

below_zero : wrapped 0x0000 (negsuc 0) ≡ 0xFFFF
below_zero = refl

high_half : with_high 0x1234 0xAB ≡ 0xAB34
high_half = refl

low_half : with_low 0x1234 0xAB ≡ 0x12AB
low_half = refl

-- 0 less 1 is FF, and no flag is set
decrement_of_zero : status_byte (after_sum clear_status 0x00 0xFF false) ≡ 0x00
decrement_of_zero = refl

-- 0 compared with 0: sign, carry and zero
compare_of_zero : status_byte (after_sum clear_status 0x00 0xFF true) ≡ 0x07
compare_of_zero = refl

-- decimal sums, with 66 added to the first number beforehand
decimal_67 : decimal_value 0x01 0x67 ≡ 0x02
decimal_67 = refl

decimal_6A : decimal_value 0x05 0x6A ≡ 0x09
decimal_6A = refl

decimal_flags : status_byte (after_sum clear_status 0x01 0x67 false) ≡ 0x01
decimal_flags = refl

-- the timer's states from FE on, and the one before it
timer_FE : shifted_timer 0xFE ≡ 0xFD
timer_FE = refl

timer_FD : shifted_timer 0xFD ≡ 0xFB
timer_FD = refl

timer_FB : shifted_timer 0xFB ≡ 0xF7
timer_FB = refl

timer_F7 : shifted_timer 0xF7 ≡ 0xEE
timer_F7 = refl

timer_EE : shifted_timer 0xEE ≡ 0xDC
timer_EE = refl

timer_DC : shifted_timer 0xDC ≡ 0xB8
timer_DC = refl

timer_7F : shifted_timer 0x7F ≡ 0xFE
timer_7F = refl

timer_FF : shifted_timer 0xFF ≡ 0xFF
timer_FF = refl

-- 7F expires at its first step, FE at its 255th
steps_of_7F : steps_to_expiry 0x7F ≡ 1
unfolding steps_to_expiry
steps_of_7F = refl

steps_of_FE : steps_to_expiry 0xFE ≡ 255
unfolding steps_to_expiry
steps_of_FE = refl

-- loaded with 7F at 0 a timer expires at its first step, and again at its 256th
first_expiry_of_7F : next_expiry 0x7F 0 0 ≡ 31
unfolding steps_to_expiry
first_expiry_of_7F = refl

second_expiry_of_7F : next_expiry 0x7F 0 31 ≡ 256 * 31
unfolding steps_to_expiry
second_expiry_of_7F = refl

-- loaded with 7F at 56 it expires at 87, and then at 7992
not_at_86 : expires_between 0x7F 56 56 86 ≡ false
unfolding steps_to_expiry
not_at_86 = refl

at_87 : expires_between 0x7F 56 56 87 ≡ true
unfolding steps_to_expiry
at_87 = refl

not_at_7991 : expires_between 0x7F 56 87 7991 ≡ false
unfolding steps_to_expiry
not_at_7991 = refl

at_7992 : expires_between 0x7F 56 87 7992 ≡ true
unfolding steps_to_expiry
at_7992 = refl

-- loaded with FE a timer expires after 255 steps, with FF never
first_expiry_of_FE : next_expiry 0xFE 0 0 ≡ 7905
unfolding steps_to_expiry
first_expiry_of_FE = refl

no_expiry_of_FF : expires_between 0xFF 0 0 1000000 ≡ false
unfolding steps_to_expiry
no_expiry_of_FF = refl

-- a timer that runs: 28 Φ after its last step and 6 Φ later, over the expiry
step_over_expiry : timer_after 6 (record { state = 0x7F; phase = 28 }) ≡ record { state = 0xFE; phase = 3 }
step_over_expiry = refl

expiry_in_step : expires_within 6 (record { state = 0x7F; phase = 28 }) ≡ true
expiry_in_step = refl

-- the clocks up to the next expiry: right after a load of 7F, 31 Φ later, and at power-on
clocks_of_7F : clocks_to_expiry (timer_loaded 0x7F) ≡ Some 31
unfolding steps_to_expiry
clocks_of_7F = refl

clocks_after_7F : clocks_to_expiry (record { state = 0xFE; phase = 0 }) ≡ Some 7905
unfolding steps_to_expiry
clocks_after_7F = refl

clocks_of_idle : clocks_to_expiry idle_timer ≡ None
clocks_of_idle = refl

-- A view's timer that was loaded with 7F at 56 Φ, by a step from 84 to 88 Φ. The expiry at 87 is latched at the end of the step, and under
-- control 3 alone.
abbrev view_at_84 : ℕ → ChipView
view_at_84 control = record (blank_view Psu) { control = control; timer = 0x7F; phase = 28 }

latched_at_88 : timer_passed 4 (view_at_84 3) ≡ record (view_at_84 3) { timer = 0xFE; phase = 1; request = true }
latched_at_88 = refl

not_latched_for_pulses : timer_passed 4 (view_at_84 1) ≡ record (view_at_84 1) { timer = 0xFE; phase = 1 }
not_latched_for_pulses = refl

-- bit 7 of a vector's low byte is clear for the timer and set for a pulse, whatever it was
vector_of_expiry : vector_under 3 0x0180 ≡ 0x0100
vector_of_expiry = refl

vector_of_pulse : vector_under 1 0x0100 ≡ 0x0180
vector_of_pulse = refl

vector_of_pulse_set : vector_under 1 0x01FF ≡ 0x01FF
vector_of_pulse_set = refl

-- the first and the last code of each range of opcodes that is cut
decode_ranges : decoded 0x7F ≡ Some (Lis 15)
unfolding decoded
decode_ranges = refl

decode_branch : decoded 0x90 ≡ Some (Bf 0)
unfolding decoded
decode_branch = refl

decode_reserved : decoded 0x3F ≡ None
unfolding decoded
decode_reserved = refl

decode_ins : decoded 0xA4 ≡ Some (Ins 4)
unfolding decoded
decode_ins = refl

decode_ins_reserved : decoded 0xA2 ≡ None
unfolding decoded
decode_ins_reserved = refl

decrement_clocks : clocks_of (Ds 0) false ≡ 6
decrement_clocks = refl

branch_clocks : clocks_of (Bf 0) true ≡ 14
branch_clocks = refl

call_clocks : clocks_of Pi false ≡ 26
call_clocks = refl
