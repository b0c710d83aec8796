-- What is known after each instruction of which nothing is known but what it needs, worked out by hand and computed from the definitions. A
-- rule that needed more than that would be as sound, and each of these would show it.
use Rattle.std.proofs.Common.{◌≡◌, ℕ, Bool, true, false, List, replicate, refl}
use Rattle.std.specs.Prelude.{Option, Some, None, slice_set}
use Rattle.f8_spec.specs.declared.instructions.Op.{Op}
use Rattle.f8_spec.specs.declared.instructions.Op.TheVariants as op
use Rattle.f8_spec.specs.declared.instructions.Row.TheVariants as row
use Rattle.abs_domain.specs.AbstractState.{KnownStatus, KnownRegisters, KnownCounters}
use Rattle.abs_step.specs.KnownResults.{BytePair, known_effect, register_writes, known_result}
use Rattle.abs_step.specs.KnownFlow.{KnownInputs, known_counters, known_taken}

abbrev flags : Option Bool → Option Bool → Option Bool → Option Bool → Option Bool → KnownStatus
flags sign carry none overflow icb = record { sign = sign; carry = carry; zero = none; overflow = overflow; icb = icb }

-- no flag is known
abbrev no_flag : KnownStatus
no_flag = flags None None None None None

-- the four flags of a result, and of the interrupt control bit nothing
abbrev result_flags : Bool → Bool → Bool → Bool → KnownStatus
result_flags sign carry none overflow = flags (Some sign) (Some carry) (Some none) (Some overflow) None

abbrev nothing_in : List (Option ℕ)
nothing_in = replicate 64 None

abbrev registers : Option ℕ → Option ℕ → Option ℕ → KnownStatus → List (Option ℕ) → KnownRegisters
registers a high low w pad = record { accumulator = a; high = high; low = low; status = w; scratchpad = pad }

abbrev nothing : KnownRegisters
nothing = registers None None None no_flag nothing_in

abbrev just_a : ℕ → KnownRegisters
just_a a = registers (Some a) None None no_flag nothing_in

abbrev just_r : ℕ → ℕ → KnownRegisters
just_r number byte = registers None None None no_flag (slice_set nothing_in number (Some byte))

-- the accumulator with one register
abbrev a_and_r : ℕ → ℕ → ℕ → KnownStatus → KnownRegisters
a_and_r a number byte w = registers (Some a) None None w (slice_set nothing_in number (Some byte))

abbrev a_with : ℕ → KnownStatus → KnownRegisters
a_with a w = registers (Some a) None None w nothing_in

abbrev no_pair : BytePair
no_pair = record { high = None; low = None }

-- an instruction that uses no byte, and one that uses this byte
abbrev after : Op → KnownRegisters → KnownRegisters
after op k = known_result op None no_pair no_pair k

abbrev after_byte : Op → ℕ → KnownRegisters → KnownRegisters
after_byte op byte k = known_result op (Some byte) no_pair no_pair k

-- with the bytes of the return, and with those of D0, of which one is known
abbrev after_return : Op → Option ℕ → Option ℕ → KnownRegisters
after_return op high low = known_result op None (record { high = high; low = low }) no_pair nothing

abbrev after_data : Op → Option ℕ → Option ℕ → KnownRegisters
after_data op high low = known_result op None no_pair (record { high = high; low = low }) nothing

-- ---- moves

high_of_k_to_a : after op.LrAKu (just_r 12 5) ≡ a_and_r 5 12 5 no_flag
unfolding known_effect register_writes
high_of_k_to_a = refl

low_of_k_to_a : after op.LrAKl (just_r 13 5) ≡ a_and_r 5 13 5 no_flag
unfolding known_effect register_writes
low_of_k_to_a = refl

high_of_q_to_a : after op.LrAQu (just_r 14 5) ≡ a_and_r 5 14 5 no_flag
unfolding known_effect register_writes
high_of_q_to_a = refl

low_of_q_to_a : after op.LrAQl (just_r 15 5) ≡ a_and_r 5 15 5 no_flag
unfolding known_effect register_writes
low_of_q_to_a = refl

a_to_high_of_k : after op.LrKuA (just_a 5) ≡ a_and_r 5 12 5 no_flag
unfolding known_effect register_writes
a_to_high_of_k = refl

a_to_low_of_k : after op.LrKlA (just_a 5) ≡ a_and_r 5 13 5 no_flag
unfolding known_effect register_writes
a_to_low_of_k = refl

a_to_high_of_q : after op.LrQuA (just_a 5) ≡ a_and_r 5 14 5 no_flag
unfolding known_effect register_writes
a_to_high_of_q = refl

a_to_low_of_q : after op.LrQlA (just_a 5) ≡ a_and_r 5 15 5 no_flag
unfolding known_effect register_writes
a_to_low_of_q = refl

register_to_a : after (op.LrAR 3) (just_r 3 5) ≡ a_and_r 5 3 5 no_flag
unfolding known_effect register_writes
register_to_a = refl

a_to_register : after (op.LrRA 3) (just_a 5) ≡ a_and_r 5 3 5 no_flag
unfolding known_effect register_writes
a_to_register = refl

high_of_return : after_return op.LrKP (Some 0x12) None ≡ just_r 12 0x12
unfolding known_effect register_writes
high_of_return = refl

low_of_return : after_return op.LrKP None (Some 0x34) ≡ just_r 13 0x34
unfolding known_effect register_writes
low_of_return = refl

high_of_d0_to_q : after_data op.LrQDc (Some 0x12) None ≡ just_r 14 0x12
unfolding known_effect register_writes
high_of_d0_to_q = refl

low_of_d0_to_q : after_data op.LrQDc None (Some 0x34) ≡ just_r 15 0x34
unfolding known_effect register_writes
low_of_d0_to_q = refl

high_of_d0_to_h : after_data op.LrHDc (Some 0x12) None ≡ just_r 10 0x12
unfolding known_effect register_writes
high_of_d0_to_h = refl

low_of_d0_to_h : after_data op.LrHDc None (Some 0x34) ≡ just_r 11 0x34
unfolding known_effect register_writes
low_of_d0_to_h = refl

-- ---- ISAR: octal 34 is 1C, and 2B is octal 53

isar_to_a : after op.LrAIs (registers None (Some 3) (Some 4) no_flag nothing_in)
    ≡ registers (Some 0x1C) (Some 3) (Some 4) no_flag nothing_in
unfolding known_effect register_writes
isar_to_a = refl

a_to_isar : after op.LrIsA (just_a 0x2B) ≡ registers (Some 0x2B) (Some 5) (Some 3) no_flag nothing_in
unfolding known_effect register_writes
a_to_isar = refl

high_digit : after (op.Lisu 5) nothing ≡ registers None (Some 5) None no_flag nothing_in
unfolding known_effect register_writes
high_digit = refl

low_digit : after (op.Lisl 6) nothing ≡ registers None None (Some 6) no_flag nothing_in
unfolding known_effect register_writes
low_digit = refl

digit_up : after (op.LrAR 13) (registers None None (Some 6) no_flag nothing_in) ≡ registers None None (Some 7) no_flag nothing_in
unfolding known_effect register_writes
digit_up = refl

digit_down : after (op.LrAR 14) (registers None None (Some 6) no_flag nothing_in) ≡ registers None None (Some 5) no_flag nothing_in
unfolding known_effect register_writes
digit_down = refl

register_at_isar_to_a : after (op.LrAR 12) (registers None (Some 2) (Some 0) no_flag (slice_set nothing_in 16 (Some 7)))
    ≡ registers (Some 7) (Some 2) (Some 0) no_flag (slice_set nothing_in 16 (Some 7))
unfolding known_effect register_writes
register_at_isar_to_a = refl

a_to_register_at_isar : after (op.LrRA 12) (registers (Some 7) (Some 2) (Some 0) no_flag nothing_in)
    ≡ registers (Some 7) (Some 2) (Some 0) no_flag (slice_set nothing_in 16 (Some 7))
unfolding known_effect register_writes
a_to_register_at_isar = refl

-- any register may be written: the one with the same byte is known still
a_to_an_unknown_register : after (op.LrRA 12)
    (registers (Some 5) None None no_flag (slice_set (slice_set nothing_in 0 (Some 5)) 63 (Some 6)))
    ≡ registers (Some 5) None None no_flag (slice_set nothing_in 0 (Some 5))
unfolding known_effect register_writes
a_to_an_unknown_register = refl

-- ---- loads

short_load : after (op.Lis 7) nothing ≡ just_a 7
unfolding known_effect register_writes
short_load = refl

load : after_byte op.Li 0x85 nothing ≡ just_a 0x85
unfolding known_effect register_writes
load = refl

load_from_memory : after_byte op.Lm 0x85 nothing ≡ just_a 0x85
unfolding known_effect register_writes
load_from_memory = refl

-- the high byte of the target goes through the accumulator
call : after_byte op.Pi 0x12 nothing ≡ just_a 0x12
unfolding known_effect register_writes
call = refl

jump : after_byte op.Jmp 0x12 nothing ≡ just_a 0x12
unfolding known_effect register_writes
jump = refl

-- ---- shifts and the complement

right : after op.Sr1 (just_a 0x81) ≡ a_with 0x40 (result_flags true false false false)
unfolding known_effect register_writes
right = refl

left : after op.Sl1 (just_a 0x81) ≡ a_with 0x02 (result_flags true false false false)
unfolding known_effect register_writes
left = refl

right_by_four : after op.Sr4 (just_a 0x81) ≡ a_with 0x08 (result_flags true false false false)
unfolding known_effect register_writes
right_by_four = refl

left_by_four : after op.Sl4 (just_a 0x81) ≡ a_with 0x10 (result_flags true false false false)
unfolding known_effect register_writes
left_by_four = refl

complement : after op.Com (just_a 0x0F) ≡ a_with 0xF0 (result_flags false false false false)
unfolding known_effect register_writes
complement = refl

-- ---- logic, of F0 and 3C

and_with_operand : after_byte op.Ni 0x3C (just_a 0xF0) ≡ a_with 0x30 (result_flags true false false false)
unfolding known_effect register_writes
and_with_operand = refl

or_with_operand : after_byte op.Oi 0x3C (just_a 0xF0) ≡ a_with 0xFC (result_flags false false false false)
unfolding known_effect register_writes
or_with_operand = refl

exclusive_or_with_operand : after_byte op.Xi 0x3C (just_a 0xF0) ≡ a_with 0xCC (result_flags false false false false)
unfolding known_effect register_writes
exclusive_or_with_operand = refl

and_with_memory : after_byte op.Nm 0x3C (just_a 0xF0) ≡ a_with 0x30 (result_flags true false false false)
unfolding known_effect register_writes
and_with_memory = refl

or_with_memory : after_byte op.Om 0x3C (just_a 0xF0) ≡ a_with 0xFC (result_flags false false false false)
unfolding known_effect register_writes
or_with_memory = refl

exclusive_or_with_memory : after_byte op.Xm 0x3C (just_a 0xF0) ≡ a_with 0xCC (result_flags false false false false)
unfolding known_effect register_writes
exclusive_or_with_memory = refl

and_with_register : after (op.Ns 3) (a_and_r 0xF0 3 0x3C no_flag) ≡ a_and_r 0x30 3 0x3C (result_flags true false false false)
unfolding known_effect register_writes
and_with_register = refl

exclusive_or_with_register : after (op.Xs 3) (a_and_r 0xF0 3 0x3C no_flag) ≡ a_and_r 0xCC 3 0x3C (result_flags false false false false)
unfolding known_effect register_writes
exclusive_or_with_register = refl

-- ---- sums, of F0 and 3C: 2C with a carry; and of 5 and 5 compared: 100

sum_with_operand : after_byte op.Ai 0x3C (just_a 0xF0) ≡ a_with 0x2C (result_flags true true false false)
unfolding known_effect register_writes
sum_with_operand = refl

sum_with_memory : after_byte op.Am 0x3C (just_a 0xF0) ≡ a_with 0x2C (result_flags true true false false)
unfolding known_effect register_writes
sum_with_memory = refl

sum_with_register : after (op.As 3) (a_and_r 0xF0 3 0x3C no_flag) ≡ a_and_r 0x2C 3 0x3C (result_flags true true false false)
unfolding known_effect register_writes
sum_with_register = refl

comparison : after_byte op.Ci 5 (just_a 5) ≡ a_with 5 (result_flags true true true false)
unfolding known_effect register_writes
comparison = refl

comparison_with_memory : after_byte op.Cm 5 (just_a 5) ≡ a_with 5 (result_flags true true true false)
unfolding known_effect register_writes
comparison_with_memory = refl

increment : after op.Inc (just_a 0x7F) ≡ a_with 0x80 (result_flags false false false true)
unfolding known_effect register_writes
increment = refl

link : after op.Lnk (a_with 1 (flags None (Some true) None None None)) ≡ a_with 2 (result_flags true false false false)
unfolding known_effect register_writes
link = refl

decrement : after (op.Ds 3) (just_r 3 1) ≡ registers None None None (result_flags true true true false) (slice_set nothing_in 3 (Some 0))
unfolding known_effect register_writes
decrement = refl

-- AB and 55 is 00 with a carry, of which no digit gains 10
decimal_sum_with_memory : after_byte op.Amd 0x55 (just_a 0xAB) ≡ a_with 0 (result_flags true true true false)
unfolding known_effect register_writes
decimal_sum_with_memory = refl

decimal_sum_with_register : after (op.Asd 3) (a_and_r 0xAB 3 0x55 no_flag) ≡ a_and_r 0 3 0x55 (result_flags true true true false)
unfolding known_effect register_writes
decimal_sum_with_register = refl

-- ---- the status word

interrupts_off : after op.Di nothing ≡ registers None None None (flags None None None None (Some false)) nothing_in
unfolding known_effect register_writes
interrupts_off = refl

interrupts_on : after op.Ei nothing ≡ registers None None None (flags None None None None (Some true)) nothing_in
unfolding known_effect register_writes
interrupts_on = refl

status_from_j : after op.LrWJ (just_r 9 0x15)
    ≡ registers None None None (flags (Some true) (Some false) (Some true) (Some false) (Some true)) (slice_set nothing_in 9 (Some 0x15))
unfolding known_effect register_writes
status_from_j = refl

-- of what comes in nothing is known
port_read : after op.In nothing ≡ registers None None None (flags None (Some false) None (Some false) None) nothing_in
unfolding known_effect register_writes
port_read = refl

short_port_read : after (op.Ins 4) nothing ≡ registers None None None (flags None (Some false) None (Some false) None) nothing_in
unfolding known_effect register_writes
short_port_read = refl

-- ---- the data counters: d0, d1, c, and the facts s0, s1, p0 and p1

abbrev counters : Option ℕ → Option ℕ → Option ℕ → Bool → Bool → Bool → Bool → KnownCounters
counters d0 d1 c s0 s1 p0 p1 = record { d0 = d0; d1 = d1; c = c; s0 = s0; s1 = s1; p0 = p0; p1 = p1 }

-- what an instruction gets where nothing is known but the accumulator
abbrev inputs : Option ℕ → KnownInputs
inputs a = record {
  taken = None;
  operand = None;
  second = None;
  data_byte = None;
  counter_bytes = no_pair;
  stack_bytes = no_pair;
  accumulator = a;
  k_high = None;
  k_low = None;
  q_high = None;
  q_low = None;
  h_high = None;
  h_low = None;
}

-- every copy of D0 is D0 after a load, whatever is loaded
load_of_unknown : known_counters row.LoadData (inputs None) (counters None None None false false false false)
    ≡ counters None None None true false true false
load_of_unknown = refl

read_moves_d0 : known_counters row.ReadData (inputs None) (counters (Some 5) None None false false false false)
    ≡ counters (Some 6) None None false false false false
read_moves_d0 = refl

-- those of all 3851s are D1 then
read_moves_copies : known_counters row.ReadData (inputs None) (counters None (Some 6) (Some 5) false false false false)
    ≡ counters None (Some 6) (Some 6) false false false true
read_moves_copies = refl

read_keeps_facts : known_counters row.ReadData (inputs None) (counters None None None true true true true)
    ≡ counters None None None true true true false
read_keeps_facts = refl

store_moves_d0 : known_counters row.StoreData (inputs None) (counters (Some 0xFFFF) None None false false false false)
    ≡ counters (Some 0) None None false false false false
store_moves_d0 = refl

store_keeps_facts : known_counters row.StoreData (inputs None) (counters None None None true true true true)
    ≡ counters None None None true true true false
store_keeps_facts = refl

sum_moves_d0 : known_counters row.AddData (inputs (Some 0xFF)) (counters (Some 5) None None false false false false)
    ≡ counters (Some 4) None None false false false false
sum_moves_d0 = refl

sum_moves_copies : known_counters row.AddData (inputs (Some 2)) (counters None None (Some 5) false false false false)
    ≡ counters None None (Some 7) false false false false
sum_moves_copies = refl

sum_of_unknown : known_counters row.AddData (inputs None) (counters (Some 5) (Some 5) (Some 5) true true true true)
    ≡ counters None (Some 5) None true true true false
sum_of_unknown = refl

exchange : known_counters row.Exchange (inputs None) (counters (Some 5) None None true false true false)
    ≡ counters None (Some 5) None false true false true
exchange = refl

exchange_back : known_counters row.Exchange (inputs None) (counters None (Some 5) (Some 7) false true false true)
    ≡ counters (Some 5) None (Some 7) true false true false
exchange_back = refl

-- ---- branches: one flag that is known decides

abbrev with_status : KnownStatus → KnownRegisters
with_status w = registers None None None w nothing_in

one_set : known_taken (op.Bt 7) (with_status (flags None None (Some true) None None)) ≡ Some true
one_set = refl

one_clear : known_taken (op.Bt 3) (with_status (flags (Some false) None None None None)) ≡ None
one_clear = refl

all_clear : known_taken (op.Bt 3) (with_status (flags (Some false) (Some false) None None None)) ≡ Some false
all_clear = refl

none_chosen : known_taken (op.Bt 0) nothing ≡ Some false
none_chosen = refl

one_in_the_way : known_taken (op.Bf 15) (with_status (flags None None None (Some true) None)) ≡ Some false
one_in_the_way = refl

none_in_the_way : known_taken (op.Bf 9) (with_status (flags (Some false) None None (Some false) None)) ≡ Some true
none_in_the_way = refl

none_asked_for : known_taken (op.Bf 0) nothing ≡ Some true
none_asked_for = refl

digit_below_seven : known_taken op.Br7 (registers None None (Some 6) no_flag nothing_in) ≡ Some true
digit_below_seven = refl

digit_of_seven : known_taken op.Br7 (registers None None (Some 7) no_flag nothing_in) ≡ Some false
digit_of_seven = refl
