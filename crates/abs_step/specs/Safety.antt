-- Whether an abstract state is safe at its point: the twelve reasons against it, of which the first counts; and whether it is free of
-- faults besides.
use Rattle.std.specs.Prelude.{ℕ, Bool, true, false, not, ◌&&◌, ◌||◌, ◌==◌, nat_le, if◌then◌else◌, List, [], ◌∷◌, ◌++◌}
use Rattle.std.specs.Prelude.{Option, Some, None, is_none, option_and_then}
use Rattle.std.specs.List.{list_any}
use Rattle.f8_spec.specs.Words.{places_on}
use Rattle.f8_spec.specs.Instructions.{decoded, row_of, row_length}
use Rattle.f8_spec.specs.RegisterNumbers.{register_ku, register_kl, register_qu, register_ql}
use Rattle.f8_spec.specs.declared.chips.ChipKind.TheVariants.{Psu, Smi}
use Rattle.f8_spec.specs.declared.instructions.Op.{Op}
use Rattle.f8_spec.specs.declared.instructions.Row.{Row}
use Rattle.f8_spec.specs.declared.instructions.Row.TheVariants.{StackToK, StackFromK, CallK, JumpQ, DataToPair}
use Rattle.f8_spec.specs.declared.instructions.Row.TheVariants.{ReadData, StoreData, Return, PortIn, PortOut, ShortIn, ShortOut}
use Rattle.console_spec.specs.FlatMemory.{is_ram_sort}
use Rattle.console_spec.specs.Processor.{port_field}
use Rattle.memory_map.specs.MapKinds.{is_held_once}
use Rattle.abs_domain.specs.AbstractState.{KnownRegisters, KnownCounters}
use Rattle.abs_domain.specs.declared.reason.Reason.{Reason}
use Rattle.abs_domain.specs.declared.reason.Reason.TheVariants.{CodeNotHeldOnce, CodeInRam, ReservedOpcode, UnknownJump, UnknownReturn}
use Rattle.abs_domain.specs.declared.reason.Reason.TheVariants.{UnsetReturn, DataCountersApart, ReturnNotHeldOnce, BadPort}
use Rattle.abs_domain.specs.declared.reason.Reason.TheVariants.{UnknownVector, SharedDataAddress, TrackedRegisterBlurred}
use Rattle.abs_step.specs.Known.{known_word}
use Rattle.abs_step.specs.RegisterWrites.{RegisterWrite, known_register, target_allows, is_exact}
use Rattle.abs_step.specs.KnownResults.{register_writes}
use Rattle.abs_step.specs.MapView.{MapView, is_shared, holds_every_address}
use Rattle.abs_step.specs.Successors.{Invariant, inputs_at, state_after}
use Rattle.abs_step.specs.Vectors.{keeps_interrupts_out}

-- the first reason whose test holds
abbrev pub first_reason : List (Bool × Reason) → Option Reason
first_reason [] = None
first_reason (r ∷ rs) = if r.0 then Some r.1 else first_reason rs

-- ---- bytes of code: one chip holds them, and no store changes them

abbrev pub code_reasons : MapView → ℕ → List (Bool × Reason)
code_reasons m at = (not (is_held_once (m.sort at)), CodeNotHeldOnce) ∷ (is_ram_sort (m.sort at), CodeInRam) ∷ []

-- those of the bytes behind an opcode, by the instruction's length
abbrev pub operand_reasons : ℕ → MapView → ℕ → List (Bool × Reason)
operand_reasons length m at =
    (if nat_le 2 length then code_reasons m (places_on at 1) else []) ++ (if nat_le 3 length then code_reasons m (places_on at 2) else [])

-- ---- unknown ways

-- a call or a jump by a pair of registers of which a byte isn't known
abbrev pub jump_is_lost : Row → KnownRegisters → Bool
jump_is_lost CallK k = is_none (known_word (known_register register_ku k) (known_register register_kl k))
jump_is_lost JumpQ k = is_none (known_word (known_register register_qu k) (known_register register_ql k))
jump_is_lost row k = false

-- a return that is loaded with an unknown byte
abbrev pub return_is_lost : Row → KnownRegisters → Bool
return_is_lost StackFromK k = is_none (known_word (known_register register_ku k) (known_register register_kl k))
return_is_lost row k = false

-- a return at which the copies may differ
abbrev pub return_is_unset : Row → Option ℕ → Bool
return_is_unset Return ret = is_none ret
return_is_unset StackToK ret = is_none ret
return_is_unset row ret = false

-- ---- the data counters

-- the bus goes by D0
abbrev pub reads_at_data : Row → Bool
reads_at_data DataToPair = true
reads_at_data ReadData = true
reads_at_data row = false

abbrev pub goes_by_data : Row → Bool
goes_by_data StoreData = true
goes_by_data row = reads_at_data row

-- a 3851 may answer at its own DC0
abbrev pub may_be_held_by_psu : MapView → Option ℕ → Bool
may_be_held_by_psu m None = true
may_be_held_by_psu m (Some at) = m.held at Psu

-- a 3853's DC0 may be away from D0, or a 3851 whose DC0 may be away from it may answer
abbrev pub may_part : Row → MapView → KnownCounters → Bool
may_part row m k =
    (goes_by_data row && m.any Smi && not k.s0) || (reads_at_data row && m.any Psu && not k.p0 && may_be_held_by_psu m k.c)

-- two chips may hold D0
abbrev pub may_be_shared : MapView → Option ℕ → Bool
may_be_shared m None = m.overlaps
may_be_shared m (Some at) = is_shared (m.sort at)

-- ---- the return, ports and interrupts

-- a chip has to give the bytes of the return, and not exactly one holds it
abbrev pub return_is_unheld : Row → MapView → Option ℕ → Bool
return_is_unheld StackToK m None = true
return_is_unheld StackToK m (Some ret) = not (is_held_once (m.sort ret))
return_is_unheld row m ret = false

-- a port is known, and a test holds of it
abbrev pub port_fails : (ℕ → Bool) → Option ℕ → Bool
port_fails test None = false
port_fails test (Some port) = test port

-- a read of a port that isn't the data port of exactly one chip, and a write to one that several chips have
abbrev pub port_is_bad : Row → MapView → Option ℕ → ℕ → Bool
port_is_bad PortIn m operand field = port_fails (λ port. not (m.readers port == 1)) operand
port_is_bad ShortIn m operand field = not (m.readers field == 1)
port_is_bad PortOut m operand field = port_fails (λ port. nat_le 2 (m.takers port)) operand
port_is_bad ShortOut m operand field = nat_le 2 (m.takers field)
port_is_bad row m operand field = false

-- at the end an interrupt may be taken whose vector ports write
abbrev pub vector_is_lost : Op → MapView → Option Bool → Bool
vector_is_lost op m icb = not (keeps_interrupts_out op icb) && m.written

-- ---- tracked registers

-- it isn't known any more what a register holds: it may be written, and with what isn't known, or whether it is the one
abbrev pub blurs : RegisterWrite → ℕ → Bool
blurs w number = target_allows w.target number && (is_none w.value || not (is_exact w.target))

abbrev pub any_blurred : List RegisterWrite → List ℕ → Bool
any_blurred ws tracked = list_any (λ number. list_any (λ w. blurs w number) ws) tracked

-- what an instruction writes to the scratchpad
abbrev pub writes_of : Op → MapView → Invariant → List RegisterWrite
writes_of op m x = let i = inputs_at op m x in register_writes op i.stack_bytes i.counter_bytes x.state.registers

-- ---- the reasons against an instruction, in their order

-- the instruction at a point, where there is one
abbrev pub op_at : MapView → Invariant → Option Op
op_at m x = option_and_then decoded (m.byte x.point.at)

abbrev pub later_reasons : Op → MapView → List ℕ → Invariant → List (Bool × Reason)
later_reasons op m tracked x =
    (jump_is_lost (row_of op) x.state.registers, UnknownJump)
    ∷ (return_is_lost (row_of op) x.state.registers, UnknownReturn)
    ∷ (return_is_unset (row_of op) x.point.ret, UnsetReturn)
    ∷ (may_part (row_of op) m x.state.counters, DataCountersApart)
    ∷ (return_is_unheld (row_of op) m x.point.ret, ReturnNotHeldOnce)
    ∷ (port_is_bad (row_of op) m (m.byte (places_on x.point.at 1)) (port_field op), BadPort)
    ∷ (vector_is_lost op m (state_after op m x).registers.status.icb, UnknownVector)
    ∷ (goes_by_data (row_of op) && may_be_shared m x.state.counters.d0, SharedDataAddress)
    ∷ (any_blurred (writes_of op m x) tracked, TrackedRegisterBlurred)
    ∷ []

unfoldable pub reasons : Op → MapView → List ℕ → Invariant → List (Bool × Reason)
reasons op m tracked x = operand_reasons (row_length (row_of op)) m x.point.at ++ later_reasons op m tracked x

-- those of an opcode's byte, and then of its instruction; an opcode that no instruction has is reserved
abbrev pub instruction_reason : Option Op → MapView → List ℕ → Invariant → Option Reason
instruction_reason None m tracked x = Some ReservedOpcode
instruction_reason (Some op) m tracked x = first_reason (reasons op m tracked x)

abbrev pub reason_behind : Option Reason → MapView → List ℕ → Invariant → Option Reason
reason_behind None m tracked x = instruction_reason (op_at m x) m tracked x
reason_behind (Some reason) m tracked x = Some reason

-- The first reason against a state at its point. It is safe where there is none.
unfoldable pub unsafe_reason : MapView → List ℕ → Invariant → Option Reason
unsafe_reason m tracked x = reason_behind (first_reason (code_reasons m x.point.at)) m tracked x

-- ---- fault-free

-- some chip answers at D0; p0 says that a 3851's own DC0 is there
abbrev pub is_answered : MapView → Option ℕ → Bool → Bool
is_answered m None p0 = holds_every_address m && (not (m.any Psu) || p0)
is_answered m (Some at) p0 = m.held at Smi || (m.held at Psu && p0)

abbrev pub is_row_fault_free : Row → MapView → KnownCounters → Bool
is_row_fault_free row m k = not (reads_at_data row) || is_answered m k.d0 k.p0

abbrev pub is_op_fault_free : Option Op → MapView → KnownCounters → Bool
is_op_fault_free None m k = true
is_op_fault_free (Some op) m k = is_row_fault_free (row_of op) m k

-- A safe state is free of faults where each read at D0 is answered. Without an instruction there is no read.
unfoldable pub is_fault_free : MapView → Invariant → Bool
is_fault_free m x = is_op_fault_free (op_at m x) m x.state.counters
