-- What is known of the registers after single instructions, worked out by hand and computed from the definitions.
use Rattle.std.proofs.Common.{◌≡◌, ℕ, Bool, true, false, List, replicate, refl}
use Rattle.std.specs.Prelude.{Option, Some, None, slice_set}
use Rattle.f8_spec.specs.declared.instructions.Op.{Op}
use Rattle.f8_spec.specs.declared.instructions.Op.TheVariants.{LrKP, LrIsA, Lnk, LrWJ, LrJW, Inc, Xi, Ci, In, Ds, LrAR, LrRA, Lisu}
use Rattle.f8_spec.specs.declared.instructions.Op.TheVariants.{Ins, Asd}
use Rattle.abs_domain.specs.AbstractState.{KnownStatus, KnownRegisters}
use Rattle.abs_step.specs.KnownResults.{BytePair, known_effect, register_writes, known_result}

abbrev flags : Option Bool → Option Bool → Option Bool → Option Bool → Option Bool → KnownStatus
flags sign carry none overflow icb = record { sign = sign; carry = carry; zero = none; overflow = overflow; icb = icb }

-- of the flags nothing is known, and interrupts are off
abbrev no_flags : KnownStatus
no_flags = flags None None None None (Some false)

abbrev registers : Option ℕ → Option ℕ → Option ℕ → KnownStatus → List (Option ℕ) → KnownRegisters
registers a high low w pad = record { accumulator = a; high = high; low = low; status = w; scratchpad = pad }

abbrev nothing_in : List (Option ℕ)
nothing_in = replicate 64 None

abbrev no_pair : BytePair
no_pair = record { high = None; low = None }

-- an instruction that uses this byte
abbrev after : Op → Option ℕ → KnownRegisters → KnownRegisters
after op byte k = known_result op byte no_pair no_pair k

-- ---- sums and results

-- the carry that LNK adds isn't known, so that neither the sum nor a flag is
link_with_unknown_carry : after Lnk None
    (registers (Some 1) None None (flags (Some true) None (Some true) (Some true) (Some true)) nothing_in)
    ≡ registers None None None (flags None None None None (Some true)) nothing_in
unfolding known_effect register_writes
link_with_unknown_carry = refl

-- 7F and 1 is 80: the sign flag is clear, and the sum overflows
increment_of_known : after Inc None (registers (Some 0x7F) None None no_flags nothing_in)
    ≡ registers (Some 0x80) None None (flags (Some false) (Some false) (Some false) (Some true) (Some false)) nothing_in
unfolding known_effect register_writes
increment_of_known = refl

-- a comparison with an unknown accumulator
comparison_of_unknown : after Ci (Some 0) (registers None None None (flags (Some true) (Some true) (Some true) (Some true) None) nothing_in)
    ≡ registers None None None (flags None None None None None) nothing_in
unfolding known_effect register_writes
comparison_of_unknown = refl

-- what comes in from a port is never known; carry and overflow are clear after it
port_read : after In None (registers (Some 1) None None (flags (Some true) (Some true) (Some true) (Some true) (Some true)) nothing_in)
    ≡ registers None None None (flags None (Some false) None (Some false) (Some true)) nothing_in
unfolding known_effect register_writes
port_read = refl

short_port_read : after (Ins 4) None (registers (Some 1) None None (flags (Some true) (Some true) (Some true) (Some true) None) nothing_in)
    ≡ registers None None None (flags None (Some false) None (Some false) None) nothing_in
unfolding known_effect register_writes
short_port_read = refl

-- logic with an unknown accumulator
exclusive_or_of_unknown : after Xi (Some 0xFF) (registers None None None no_flags nothing_in)
    ≡ registers None None None (flags None (Some false) None (Some false) (Some false)) nothing_in
unfolding known_effect register_writes
exclusive_or_of_unknown = refl

-- decimal 45 and 55 as bytes with 6 in each digit: AB and 55 is 00 with a carry, of which no digit gains 10
decimal_sum : after (Asd 0) None (registers (Some 0xAB) None None no_flags (slice_set nothing_in 0 (Some 0x55)))
    ≡ registers (Some 0) None None (flags (Some true) (Some true) (Some true) (Some false) (Some false))
    (slice_set nothing_in 0 (Some 0x55))
unfolding known_effect register_writes
decimal_sum = refl

-- ---- the status word in J

-- one bit isn't known, so that the byte isn't
status_to_j_with_unknown_bit :
    after LrJW None (registers None None None (flags (Some true) (Some false) (Some true) None (Some true)) (replicate 64 (Some 1)))
    ≡ registers None None None (flags (Some true) (Some false) (Some true) None (Some true)) (slice_set (replicate 64 (Some 1)) 9 None)
unfolding known_effect register_writes
status_to_j_with_unknown_bit = refl

-- sign, zero and the interrupt control bit: 1, 4 and 16
status_to_j : after LrJW None (registers None None None (flags (Some true) (Some false) (Some true) (Some false) (Some true)) nothing_in)
    ≡ registers None None None (flags (Some true) (Some false) (Some true) (Some false) (Some true)) (slice_set nothing_in 9 (Some 0x15))
unfolding known_effect register_writes
status_to_j = refl

-- the low five bits of F5, and nothing of an unknown byte
status_from_j : after LrWJ None (registers None None None no_flags (slice_set nothing_in 9 (Some 0xF5)))
    ≡ registers None None None (flags (Some true) (Some false) (Some true) (Some false) (Some true)) (slice_set nothing_in 9 (Some 0xF5))
unfolding known_effect register_writes
status_from_j = refl

status_from_unknown_j : after LrWJ None
    (registers None None None (flags (Some true) (Some true) (Some true) (Some true) (Some true)) nothing_in)
    ≡ registers None None None (flags None None None None None) nothing_in
unfolding known_effect register_writes
status_from_unknown_j = refl

-- ---- ISAR

-- a read needs both digits; the field 13 steps a known low one all the same, and it wraps
read_by_unknown_high_digit : after (LrAR 13) None (registers (Some 1) None (Some 7) no_flags (replicate 64 (Some 9)))
    ≡ registers None None (Some 0) no_flags (replicate 64 (Some 9))
unfolding known_effect register_writes
read_by_unknown_high_digit = refl

-- the field 14 steps it down
read_by_known_digits : after (LrAR 14) None (registers None (Some 2) (Some 0) no_flags (slice_set nothing_in 16 (Some 7)))
    ≡ registers (Some 7) (Some 2) (Some 7) no_flags (slice_set nothing_in 16 (Some 7))
unfolding known_effect register_writes
read_by_known_digits = refl

isar_from_unknown : after LrIsA None (registers None (Some 1) (Some 2) no_flags nothing_in) ≡ registers None None None no_flags nothing_in
unfolding known_effect register_writes
isar_from_unknown = refl

-- 4B modulo 64 is octal 13
isar_from_known : after LrIsA None (registers (Some 0x4B) None None no_flags nothing_in)
    ≡ registers (Some 0x4B) (Some 1) (Some 3) no_flags nothing_in
unfolding known_effect register_writes
isar_from_known = refl

one_digit_set : after (Lisu 3) None (registers None None (Some 2) no_flags nothing_in)
    ≡ registers None (Some 3) (Some 2) no_flags nothing_in
unfolding known_effect register_writes
one_digit_set = refl

-- ---- writes to the scratchpad

abbrev before_write : List (Option ℕ)
before_write = slice_set (slice_set (slice_set (slice_set nothing_in 15 (Some 6)) 16 (Some 5)) 17 (Some 6)) 24 (Some 6)

-- The high digit is 2 and the low one unknown: the write may reach the registers 16 to 23. That which holds the same byte is known still.
write_by_unknown_low_digit : after (LrRA 12) None (registers (Some 5) (Some 2) None no_flags before_write)
    ≡ registers (Some 5) (Some 2) None no_flags (slice_set before_write 17 None)
unfolding known_effect register_writes
write_by_unknown_low_digit = refl

-- the low digit is 0: it may reach 16 and 24
write_by_unknown_high_digit : after (LrRA 12) None (registers (Some 5) None (Some 0) no_flags before_write)
    ≡ registers (Some 5) None (Some 0) no_flags (slice_set before_write 24 None)
unfolding known_effect register_writes
write_by_unknown_high_digit = refl

write_by_known_digits : after (LrRA 13) None (registers (Some 5) (Some 3) (Some 7) no_flags before_write)
    ≡ registers (Some 5) (Some 3) (Some 0) no_flags (slice_set before_write 31 (Some 5))
unfolding known_effect register_writes
write_by_known_digits = refl

-- 0 less 1 is FF, by a sum with FF: no carry
decrement_of_known : after (Ds 3) None (registers None None None no_flags (slice_set nothing_in 3 (Some 0)))
    ≡ registers None None None (flags (Some false) (Some false) (Some false) (Some false) (Some false)) (slice_set nothing_in 3 (Some 0xFF))
unfolding known_effect register_writes
decrement_of_known = refl

-- the bytes of the return
return_to_k : known_result LrKP None (record { high = Some 0x12; low = Some 0x34 }) no_pair (registers None None None no_flags nothing_in)
    ≡ registers None None None no_flags (slice_set (slice_set nothing_in 12 (Some 0x12)) 13 (Some 0x34))
unfolding known_effect register_writes
return_to_k = refl
