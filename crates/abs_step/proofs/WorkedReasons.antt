-- Each reason against a state, and the first of several, worked out by hand and computed from the definitions: where it holds, and where
-- the least change makes it fail. Whether reads are answered stands at the end.
use Rattle.std.proofs.Common.{◌≡◌, ℕ, Bool, true, false, ◌+◌, List, [], ◌∷◌, ◌++◌, map, replicate, refl}
use Rattle.std.specs.Prelude.{Option, Some, None, slice_set}
use Rattle.std.specs.List.{range_with_len}
use Rattle.f8_spec.specs.Instructions.{decoded}
use Rattle.f8_spec.specs.declared.chips.PageSort.TheVariants.{Rom, Ram, Void}
use Rattle.chip_face.specs.declared.specification.ChipSpec.{ChipSpec}
use Rattle.chip_face.specs.declared.specification.ChipSpec.TheVariants.{Smi}
use Rattle.abs_domain.specs.AbstractState.{KnownRegisters, KnownCounters}
use Rattle.abs_domain.specs.declared.reason.Reason.{Reason}
use Rattle.abs_domain.specs.declared.reason.Reason.TheVariants.{CodeNotHeldOnce, CodeInRam, ReservedOpcode, UnknownJump, UnknownReturn}
use Rattle.abs_domain.specs.declared.reason.Reason.TheVariants.{UnsetReturn, DataCountersApart, ReturnNotHeldOnce, BadPort}
use Rattle.abs_domain.specs.declared.reason.Reason.TheVariants.{UnknownVector, SharedDataAddress, TrackedRegisterBlurred}
use Rattle.abs_step.specs.KnownResults.{known_effect, register_writes}
use Rattle.abs_step.specs.MapView.{chips_view, holds_every_address}
use Rattle.abs_step.specs.Successors.{Invariant, start_point, start_state}
use Rattle.abs_step.specs.Safety.{unsafe_reason, reasons, is_fault_free}
use Rattle.abs_step.proofs.WorkedSteps.{page, psu}

-- ---- states, and the chips around one instruction

abbrev registers : KnownRegisters
registers = start_state.registers

abbrev counters : Option ℕ → Option ℕ → Bool → Bool → KnownCounters
counters d0 c s0 p0 = record { d0 = d0; d1 = Some 0; c = c; s0 = s0; s1 = false; p0 = p0; p1 = false }

abbrev at : ℕ → Option ℕ → KnownRegisters → KnownCounters → Invariant
at here ret k counters =
    record { point = record start_point { at = here; ret = ret }; state = record { registers = k; counters = counters } }

abbrev at_start : Invariant
at_start = at 0 None registers start_state.counters

-- some of the registers from one on
abbrev with_bytes : ℕ → Option ℕ → Option ℕ → KnownRegisters
with_bytes number high low = record registers { scratchpad = slice_set (slice_set registers.scratchpad number high) (number + 1) low }

abbrev with_isar : Option ℕ → Option ℕ → KnownRegisters
with_isar high low = record registers { accumulator = Some 5; high = high; low = low }

-- it isn't known whether interrupts are on
abbrev perhaps_on : KnownRegisters
perhaps_on = record registers { status = record registers.status { icb = None } }

-- the reason by a 3851 at 0 with these bytes and some more chips
abbrev reason : List ℕ → List ChipSpec → List ℕ → Invariant → Option Reason
reason bytes more tracked x = unsafe_reason (chips_view (psu 0 4 bytes ∷ more)) tracked x

abbrev ram : ChipSpec
ram = Smi (page Ram 0x28 ∷ []) [] false

-- a 3851 at 0, and a 3853 that can interrupt
abbrev wired : List ℕ → List ChipSpec
wired bytes = psu 0 4 bytes ∷ Smi [] [] true ∷ []

-- ---- 1, 2 and 3: bytes of code

-- the operand of LI lies behind the chip, and in RAM
operand_nowhere : unsafe_reason (chips_view (psu 0x2400 4 (replicate 1023 0 ++ 0x20 ∷ []) ∷ [])) []
    (at 0x27FF None registers (counters None None false false)) ≡ Some CodeNotHeldOnce
unfolding decoded known_effect register_writes unsafe_reason reasons chips_view
operand_nowhere = refl

operand_in_ram : unsafe_reason (chips_view (psu 0x2400 4 (replicate 1023 0 ++ 0x20 ∷ []) ∷ ram ∷ [])) []
    (at 0x27FF None registers (counters None None false false)) ≡ Some CodeInRam
unfolding decoded known_effect register_writes unsafe_reason reasons chips_view
operand_in_ram = refl

-- behind FFFF comes 0000
operand_at_zero : unsafe_reason (chips_view (psu 0xFC00 4 (replicate 1023 0 ++ 0x20 ∷ []) ∷ psu 0 8 [] ∷ [])) []
    (at 0xFFFF None registers (counters None None false false)) ≡ None
unfolding decoded known_effect register_writes unsafe_reason reasons chips_view
operand_at_zero = refl

-- a void page reads as FF, which is no opcode, and may be an operand
opcode_in_void : unsafe_reason (chips_view (Smi (page Void 0 ∷ []) [] false ∷ [])) [] at_start ≡ Some ReservedOpcode
unfolding decoded known_effect register_writes unsafe_reason reasons chips_view
opcode_in_void = refl

operand_in_void : unsafe_reason (chips_view (psu 0x2400 4 (replicate 1023 0 ++ 0x20 ∷ []) ∷ Smi (page Void 0x28 ∷ []) [] false ∷ []))
    [] (at 0x27FF None registers (counters None None false false)) ≡ None
unfolding decoded known_effect register_writes unsafe_reason reasons chips_view
operand_in_void = refl

-- ---- 4 and 5: a jump by K or Q, and a return from K

jump_by_half_of_q : reason (0x0D ∷ []) [] [] (at 0 None (with_bytes 14 (Some 1) None) (counters None None false false)) ≡ Some UnknownJump
unfolding decoded known_effect register_writes unsafe_reason reasons chips_view
jump_by_half_of_q = refl

jump_by_q : reason (0x0D ∷ []) [] [] (at 0 None (with_bytes 14 (Some 1) (Some 2)) (counters None None false false)) ≡ None
unfolding decoded known_effect register_writes unsafe_reason reasons chips_view
jump_by_q = refl

-- PK goes by K and not by Q
call_by_k_unknown : reason (0x0C ∷ []) [] [] (at 0 None (with_bytes 14 (Some 1) (Some 2)) (counters None None false false))
    ≡ Some UnknownJump
unfolding decoded known_effect register_writes unsafe_reason reasons chips_view
call_by_k_unknown = refl

return_from_half_of_k : reason (0x09 ∷ []) [] [] (at 0 None (with_bytes 12 None (Some 2)) (counters None None false false))
    ≡ Some UnknownReturn
unfolding decoded known_effect register_writes unsafe_reason reasons chips_view
return_from_half_of_k = refl

return_from_k : reason (0x09 ∷ []) [] [] (at 0 None (with_bytes 12 (Some 1) (Some 2)) (counters None None false false)) ≡ None
unfolding decoded known_effect register_writes unsafe_reason reasons chips_view
return_from_k = refl

-- ---- 6 and 8: the return that LR K,P reads

return_unset : reason (0x08 ∷ []) [] [] at_start ≡ Some UnsetReturn
unfolding decoded known_effect register_writes unsafe_reason reasons chips_view
return_unset = refl

return_nowhere : reason (0x08 ∷ []) [] [] (at 0 (Some 0x0400) registers (counters None None false false)) ≡ Some ReturnNotHeldOnce
unfolding decoded known_effect register_writes unsafe_reason reasons chips_view
return_nowhere = refl

return_in_ram : reason (0x08 ∷ []) (ram ∷ []) [] (at 0 (Some 0x2800) registers (counters None None false false)) ≡ None
unfolding decoded known_effect register_writes unsafe_reason reasons chips_view
return_in_ram = refl

-- POP doesn't read it
pop_to_nowhere : reason (0x1C ∷ []) [] [] (at 0 (Some 0x0400) registers (counters None None false false)) ≡ None
unfolding decoded known_effect register_writes unsafe_reason reasons chips_view
pop_to_nowhere = refl

-- ---- 7: data counters of the chips

-- with a 3853 that has a page a store needs s0, and nothing else; without one it needs nothing
store_apart : reason (0x17 ∷ []) (ram ∷ []) [] (at 0 None registers (counters (Some 0x2800) None false true)) ≡ Some DataCountersApart
unfolding decoded known_effect register_writes unsafe_reason reasons chips_view
store_apart = refl

store_alike : reason (0x17 ∷ []) (ram ∷ []) [] (at 0 None registers (counters (Some 0x2800) None true false)) ≡ None
unfolding decoded known_effect register_writes unsafe_reason reasons chips_view
store_alike = refl

store_alone : reason (0x17 ∷ []) [] [] at_start ≡ None
unfolding decoded known_effect register_writes unsafe_reason reasons chips_view
store_alone = refl

store_by_no_page : reason (0x17 ∷ []) (Smi [] [] false ∷ []) [] at_start ≡ None
unfolding decoded known_effect register_writes unsafe_reason reasons chips_view
store_by_no_page = refl

-- a read needs that each 3851 is at D0, or is where no 3851 holds the address
read_by_unknown : reason (0x16 ∷ []) [] [] at_start ≡ Some DataCountersApart
unfolding decoded known_effect register_writes unsafe_reason reasons chips_view
read_by_unknown = refl

read_by_another : reason (0x16 ∷ []) (ram ∷ []) [] (at 0 None registers (counters (Some 0x2800) (Some 0x03FF) true false))
    ≡ Some DataCountersApart
unfolding decoded known_effect register_writes unsafe_reason reasons chips_view
read_by_another = refl

read_by_no_other : reason (0x16 ∷ []) (ram ∷ []) [] (at 0 None registers (counters (Some 0x2800) (Some 0x2801) true false)) ≡ None
unfolding decoded known_effect register_writes unsafe_reason reasons chips_view
read_by_no_other = refl

read_by_the_same : reason (0x16 ∷ []) (ram ∷ []) [] (at 0 None registers (counters None None true true)) ≡ None
unfolding decoded known_effect register_writes unsafe_reason reasons chips_view
read_by_the_same = refl

-- so do the bytes of D0; a sum to D0 and XDC need nothing
bytes_by_unknown : reason (0x0E ∷ []) [] [] at_start ≡ Some DataCountersApart
unfolding decoded known_effect register_writes unsafe_reason reasons chips_view
bytes_by_unknown = refl

sum_by_unknown : reason (0x8E ∷ []) [] [] at_start ≡ None
unfolding decoded known_effect register_writes unsafe_reason reasons chips_view
sum_by_unknown = refl

-- ---- 9: ports

-- of the ports 4 to 7 of a 3851 two are read, and all are written
read_of_data_port : reason (0xA5 ∷ []) [] [] at_start ≡ None
unfolding decoded known_effect register_writes unsafe_reason reasons chips_view
read_of_data_port = refl

read_of_control : reason (0xA6 ∷ []) [] [] at_start ≡ Some BadPort
unfolding decoded known_effect register_writes unsafe_reason reasons chips_view
read_of_control = refl

read_of_two : reason (0x26 ∷ 0x04 ∷ []) (psu 0x400 4 [] ∷ []) [] at_start ≡ Some BadPort
unfolding decoded known_effect register_writes unsafe_reason reasons chips_view
read_of_two = refl

write_of_nobody : reason (0x27 ∷ 0x20 ∷ []) [] [] at_start ≡ None
unfolding decoded known_effect register_writes unsafe_reason reasons chips_view
write_of_nobody = refl

write_of_timers : reason (0x27 ∷ 0x07 ∷ []) (psu 0x400 4 [] ∷ []) [] at_start ≡ Some BadPort
unfolding decoded known_effect register_writes unsafe_reason reasons chips_view
write_of_timers = refl

-- the processor's own by INS and OUTS, and never by IN
read_of_own : reason (0xA1 ∷ []) [] [] at_start ≡ None
unfolding decoded known_effect register_writes unsafe_reason reasons chips_view
read_of_own = refl

long_read_of_own : reason (0x26 ∷ 0x01 ∷ []) [] [] at_start ≡ Some BadPort
unfolding decoded known_effect register_writes unsafe_reason reasons chips_view
long_read_of_own = refl

write_of_own : reason (0xB0 ∷ []) [] [] at_start ≡ None
unfolding decoded known_effect register_writes unsafe_reason reasons chips_view
write_of_own = refl

-- ---- 10: by the interrupt control bit after the instruction

plain_when_off : unsafe_reason (chips_view (wired (0x2B ∷ []))) [] at_start ≡ None
unfolding decoded known_effect register_writes unsafe_reason reasons chips_view
plain_when_off = refl

plain_perhaps_on : unsafe_reason (chips_view (wired (0x2B ∷ []))) [] (at 0 None perhaps_on (counters None None false false))
    ≡ Some UnknownVector
unfolding decoded known_effect register_writes unsafe_reason reasons chips_view
plain_perhaps_on = refl

put_off : unsafe_reason (chips_view (wired (0x1A ∷ []))) [] (at 0 None perhaps_on (counters None None false false)) ≡ None
unfolding decoded known_effect register_writes unsafe_reason reasons chips_view
put_off = refl

shielded : unsafe_reason (chips_view (wired (0x29 ∷ 0x00 ∷ 0x00 ∷ []))) [] (at 0 None perhaps_on (counters None None false false)) ≡ None
unfolding decoded known_effect register_writes unsafe_reason reasons chips_view
shielded = refl

-- OUTS shields its end from port 4 on
long_write_shields : unsafe_reason (chips_view (wired (0xB4 ∷ []))) [] (at 0 None perhaps_on (counters None None false false)) ≡ None
unfolding decoded known_effect register_writes unsafe_reason reasons chips_view
long_write_shields = refl

short_write_does_not : unsafe_reason (chips_view (wired (0xB0 ∷ []))) [] (at 0 None perhaps_on (counters None None false false))
    ≡ Some UnknownVector
unfolding decoded known_effect register_writes unsafe_reason reasons chips_view
short_write_does_not = refl

-- ---- 11: addresses of two chips

-- a 3853 with ROM over the second page of the 3851
abbrev over : List ChipSpec
over = Smi (page Rom 1 ∷ []) (replicate 256 0) false ∷ []

read_of_shared : reason (0x16 ∷ []) over [] (at 0 None registers (counters (Some 0x01FF) (Some 0x01FF) true true)) ≡ Some SharedDataAddress
unfolding decoded known_effect register_writes unsafe_reason reasons chips_view
read_of_shared = refl

read_of_one : reason (0x16 ∷ []) over [] (at 0 None registers (counters (Some 0x0200) (Some 0x0200) true true)) ≡ None
unfolding decoded known_effect register_writes unsafe_reason reasons chips_view
read_of_one = refl

read_of_perhaps_shared : reason (0x16 ∷ []) over [] (at 0 None registers (counters None None true true)) ≡ Some SharedDataAddress
unfolding decoded known_effect register_writes unsafe_reason reasons chips_view
read_of_perhaps_shared = refl

store_at_shared : reason (0x17 ∷ []) over [] (at 0 None registers (counters (Some 0x0100) None true false)) ≡ Some SharedDataAddress
unfolding decoded known_effect register_writes unsafe_reason reasons chips_view
store_at_shared = refl

-- ---- 12: tracked registers

-- by an ISAR of which a digit isn't known: the register 16 may be written where the high digit is 2, and 8 may not
perhaps_written : reason (0x5C ∷ []) [] (16 ∷ []) (at 0 None (with_isar (Some 2) None) (counters None None false false))
    ≡ Some TrackedRegisterBlurred
unfolding decoded known_effect register_writes unsafe_reason reasons chips_view
perhaps_written = refl

never_written : reason (0x5C ∷ []) [] (8 ∷ []) (at 0 None (with_isar (Some 2) None) (counters None None false false)) ≡ None
unfolding decoded known_effect register_writes unsafe_reason reasons chips_view
never_written = refl

surely_written : reason (0x5C ∷ []) [] (16 ∷ []) (at 0 None (with_isar (Some 2) (Some 0)) (counters None None false false)) ≡ None
unfolding decoded known_effect register_writes unsafe_reason reasons chips_view
surely_written = refl

-- a byte that is written already makes no difference
perhaps_written_again : reason (0x5C ∷ []) [] (16 ∷ []) (record {
  point = record start_point { split = Some 5 ∷ replicate 7 None };
  state = record {
    registers = record (with_isar (Some 2) None) { scratchpad = slice_set registers.scratchpad 16 (Some 5) };
    counters = counters None None false false;
  };
}) ≡ Some TrackedRegisterBlurred
unfolding decoded known_effect register_writes unsafe_reason reasons chips_view
perhaps_written_again = refl

-- the low byte of an unknown D0, where r15 is tracked, and where r13 is
unknown_low_byte : reason (0x0E ∷ []) [] (15 ∷ []) (at 0 None registers (counters None None true true)) ≡ Some TrackedRegisterBlurred
unfolding decoded known_effect register_writes unsafe_reason reasons chips_view
unknown_low_byte = refl

another_pair : reason (0x0E ∷ []) [] (13 ∷ []) (at 0 None registers (counters None None true true)) ≡ None
unfolding decoded known_effect register_writes unsafe_reason reasons chips_view
another_pair = refl

-- an unknown register less 1
unknown_decrement : reason (0x33 ∷ []) [] (4 ∷ 3 ∷ []) at_start ≡ Some TrackedRegisterBlurred
unfolding decoded known_effect register_writes unsafe_reason reasons chips_view
unknown_decrement = refl

-- ---- of several the first

-- LR P0,Q by an unknown Q, and an interrupt: 4 and 10
jump_and_interrupt : unsafe_reason (chips_view (wired (0x0D ∷ []))) [] (at 0 None perhaps_on (counters None None false false))
    ≡ Some UnknownJump
unfolding decoded known_effect register_writes unsafe_reason reasons chips_view
jump_and_interrupt = refl

-- LR Q,DC away from each chip, with an interrupt, on shared addresses, to a tracked register: 7, 10, 11 and 12; and less and less of them
all_four : unsafe_reason (chips_view (wired (0x0E ∷ []) ++ over)) (14 ∷ []) (at 0 None perhaps_on (counters None None false false))
    ≡ Some DataCountersApart
unfolding decoded known_effect register_writes unsafe_reason reasons chips_view
all_four = refl

last_three : unsafe_reason (chips_view (wired (0x0E ∷ []) ++ over)) (14 ∷ []) (at 0 None perhaps_on (counters None None true true))
    ≡ Some UnknownVector
unfolding decoded known_effect register_writes unsafe_reason reasons chips_view
last_three = refl

last_two : reason (0x0E ∷ []) over (14 ∷ []) (at 0 None perhaps_on (counters None None true true)) ≡ Some SharedDataAddress
unfolding decoded known_effect register_writes unsafe_reason reasons chips_view
last_two = refl

-- IN of port 2 with its operand behind the chip: 1 and 9
port_behind_chip : unsafe_reason (chips_view (psu 0x2400 4 (replicate 1023 0 ++ 0x26 ∷ []) ∷ [])) []
    (at 0x27FF None registers (counters None None false false)) ≡ Some CodeNotHeldOnce
unfolding decoded known_effect register_writes unsafe_reason reasons chips_view
port_behind_chip = refl

-- ---- whether reads are answered

abbrev answered : List ℕ → List ChipSpec → Option ℕ → Bool → Bool
answered bytes more d0 p0 = is_fault_free (chips_view (psu 0 4 bytes ∷ more)) (at 0 None registers (counters d0 None true p0))

-- by a 3853 whether p0 holds or not, by a 3851 where it does, and by nobody
answered_by_smi : answered (0x16 ∷ []) (ram ∷ []) (Some 0x28FF) false ≡ true
unfolding decoded is_fault_free chips_view
answered_by_smi = refl

answered_by_psu : answered (0x16 ∷ []) (ram ∷ []) (Some 0x03FF) true ≡ true
unfolding decoded is_fault_free chips_view
answered_by_psu = refl

not_by_psu_apart : answered (0x16 ∷ []) (ram ∷ []) (Some 0x03FF) false ≡ false
unfolding decoded is_fault_free chips_view
not_by_psu_apart = refl

by_nobody : answered (0x0E ∷ []) (ram ∷ []) (Some 0x0400) true ≡ false
unfolding decoded is_fault_free chips_view
by_nobody = refl

-- a store needs no answer
store_needs_none : answered (0x17 ∷ []) [] None false ≡ true
unfolding decoded is_fault_free chips_view
store_needs_none = refl

-- an unknown D0 is answered where every address is held: here by a 3853 with void pages from 0400 on, or from 0500 on
abbrev void_from : ℕ → ℕ → List ChipSpec
void_from first count = Smi (map (page Void) (range_with_len first count)) [] false ∷ []

all_held : answered (0x16 ∷ []) (void_from 4 252) None true ≡ true
unfolding decoded is_fault_free chips_view holds_every_address
all_held = refl

all_held_apart : answered (0x16 ∷ []) (void_from 4 252) None false ≡ false
unfolding decoded is_fault_free chips_view holds_every_address
all_held_apart = refl

all_but_a_page : answered (0x16 ∷ []) (void_from 5 251) None true ≡ false
unfolding decoded is_fault_free chips_view holds_every_address
all_but_a_page = refl
