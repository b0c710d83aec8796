-- Cases of entries, what they lead to, and what is found of small lists of entries, worked out by hand and computed from the definitions.
use Rattle.std.proofs.Common.{◌≡◌, ℕ, ◌-◌, Bool, true, false, List, [], ◌∷◌, ◌++◌, length, map, replicate, set, refl}
use Rattle.std.specs.Prelude.{flat_map, Option, Some, None}
use Rattle.std.specs.List.{list_all, range_with_len}
use Rattle.f8_spec.specs.Instructions.{decoded}
use Rattle.f8_spec.specs.declared.instructions.Op.{Op}
use Rattle.f8_spec.specs.declared.instructions.Op.TheVariants.{Inc, LrPK, Pk, Xdc, Ds, LrAR, LrRA, As, Ci}
use Rattle.chip_face.specs.declared.specification.ChipSpec.TheVariants.{Psu}
use Rattle.abs_domain.specs.AbstractState.{AbstractState}
use Rattle.abs_domain.specs.declared.points.Point.{Point}
use Rattle.abs_domain.specs.declared.reason.Reason.TheVariants.{CodeNotHeldOnce, ReservedOpcode}
use Rattle.abs_step.specs.Known.{agree}
use Rattle.abs_step.specs.RegisterWrites.{known_register}
use Rattle.abs_step.specs.KnownResults.{known_effect, register_writes}
use Rattle.abs_step.specs.MapView.{MapView, chips_view}
use Rattle.abs_step.specs.Successors.{start_point, start_state, successors}
use Rattle.abs_step.specs.Safety.{unsafe_reason, reasons, is_fault_free}
use Rattle.case_step.specs.Entries.{EntryView, register_values, start_entry}
use Rattle.case_step.specs.Effects.{parts_read, writes_accumulator, writes_flags, writes_isar, registers_written, copied}
use Rattle.case_step.specs.Cases.{plain_case, with_accumulator, with_register, spread_cases, cases_of}
use Rattle.case_step.specs.Results.{result, is_covered_by}
use Rattle.case_step.specs.CaseLists.{next_in, judged}
use Rattle.case_step.specs.declared.answer.CasesAnswer.TheVariants.{Whole, Agreed, NotClosed, Unsafe}

-- a point at which no return is set
abbrev point : ℕ → Point
point at = record start_point { at = at }

-- ---- cases

-- the accumulator has one of two values
abbrev few : EntryView
few = record start_entry { accumulator = Some (3 ∷ 5 ∷ []) }

-- Before it is read neither is known. D0 and D1 have one value, so that they are, and the flags are as they are.
plain_few : plain_case few ≡ start_state
plain_few = refl

cases_of_few : cases_of Inc few ≡ with_accumulator 3 start_state ∷ with_accumulator 5 start_state ∷ []
unfolding cases_of spread_cases parts_read
cases_of_few = refl

-- a return address of which the low byte is one of two
abbrev callers : EntryView
callers = record start_entry {
  scratchpad = set (set (replicate 64 None) 12 (Some (0x01 ∷ []))) 13 (Some (0x10 ∷ 0x20 ∷ []));
}

abbrev called_from : ℕ → AbstractState
called_from low = with_register 13 low (with_register 12 0x01 start_state)

both_callers : cases_of LrPK callers ≡ called_from 0x10 ∷ called_from 0x20 ∷ []
unfolding cases_of spread_cases parts_read
both_callers = refl

-- two bytes of which each may be any would be 65,536 cases: there is one, in which neither is known
sum_of_any : cases_of (As 3) start_entry ≡ start_state ∷ []
unfolding cases_of spread_cases parts_read
sum_of_any = refl

-- Where register 3 holds the accumulator's byte there are 256, in each of which both are the same.
abbrev doubled : EntryView
doubled = record start_entry { same = Some 3 }

abbrev is_doubled : AbstractState → Bool
is_doubled s = agree s.registers.accumulator (known_register 3 s.registers)

cases_of_doubled : length (cases_of (As 3) doubled) ≡ 256
unfolding cases_of spread_cases parts_read
cases_of_doubled = refl

all_doubled : list_all is_doubled (cases_of (As 3) doubled) ≡ true
unfolding cases_of spread_cases parts_read
all_doubled = refl

-- 16 values and any byte make the most cases that there may be; with 17 the bytes of a list alone are tried
abbrev of_values : ℕ → EntryView
of_values count = record start_entry { accumulator = Some (range_with_len 0 count) }

most_cases : length (cases_of (As 3) (of_values 16)) ≡ 4096
unfolding cases_of spread_cases parts_read
most_cases = refl

one_value_more : length (cases_of (As 3) (of_values 17)) ≡ 17
unfolding cases_of spread_cases parts_read
one_value_more = refl

-- and none where their values are apart
abbrev apart : EntryView
apart = record few { same = Some 3; scratchpad = set (replicate 64 None) 3 (Some (4 ∷ [])) }

no_case : cases_of Inc apart ≡ []
unfolding cases_of spread_cases parts_read
no_case = refl

-- ---- results

-- a 3851 with these bytes, and FF behind them
abbrev program : List ℕ → MapView
program bytes = chips_view (Psu 0 (bytes ++ replicate (1024 - length bytes) 255) 4 0 false ∷ [])

-- what the cases of an entry lead to
abbrev results_in : Op → MapView → EntryView → List EntryView
results_in op m e = flat_map (λ s. map (result op e s) (next_in op m e s)) (cases_of op e)

-- the accumulator and register 3 have these values, and a register may be named as holding the accumulator's byte
abbrev with_values : List ℕ → Option ℕ → EntryView
with_values values number = record start_entry {
  accumulator = Some values;
  same = number;
  scratchpad = set (replicate 64 None) 3 (Some values);
}

-- register 3 holds the accumulator's byte, which is one of two
abbrev copied_few : EntryView
copied_few = with_values (3 ∷ 5 ∷ []) (Some 3)

-- the accumulator is written, so that register 3 doesn't hold its byte any more; the register keeps its values
abbrev counted : ℕ → EntryView
counted value = record copied_few {
  at = 1;
  accumulator = Some (value ∷ []);
  status = record start_entry.status { sign = Some true };
  same = None;
}

after_inc : results_in Inc (program (0x1F ∷ [])) copied_few ≡ counted 4 ∷ counted 6 ∷ []
unfolding cases_of spread_cases parts_read successors chips_view known_effect register_writes
    result writes_accumulator writes_flags writes_isar registers_written copied
after_inc = refl

-- a load of register 3, which has two values, gives each to both, and names it
abbrev loaded : ℕ → EntryView
loaded value = record copied_few {
  at = 1;
  accumulator = Some (value ∷ []);
  scratchpad = set (replicate 64 None) 3 (Some (value ∷ []));
}

after_load : results_in (LrAR 3) (program (0x43 ∷ [])) (record copied_few { accumulator = None; same = None }) ≡ loaded 3 ∷ loaded 5 ∷ []
unfolding cases_of spread_cases parts_read successors chips_view known_effect register_writes
    result writes_accumulator writes_flags writes_isar registers_written copied
after_load = refl

-- register 3 still holds it where another register is written
abbrev beside_one : EntryView
beside_one = record copied_few { scratchpad = set copied_few.scratchpad 4 (Some (1 ∷ [])) }

after_decrement : map (λ e. e.same) (results_in (Ds 4) (program (0x34 ∷ [])) beside_one) ≡ Some 3 ∷ []
unfolding cases_of spread_cases parts_read successors chips_view known_effect register_writes
    result writes_accumulator writes_flags writes_isar registers_written copied
after_decrement = refl

-- XDC reads nothing, and exchanges the values of D0 and D1
abbrev with_counters : ℕ → List ℕ → List ℕ → EntryView
with_counters at d0 d1 = record start_entry { at = at; d0 = Some d0; d1 = Some d1 }

after_exchange : results_in Xdc (program (0x2C ∷ [])) (with_counters 0 (1 ∷ 2 ∷ []) (9 ∷ [])) ≡ with_counters 1 (9 ∷ []) (1 ∷ 2 ∷ []) ∷ []
unfolding cases_of spread_cases parts_read successors chips_view known_effect register_writes
    result writes_accumulator writes_flags writes_isar registers_written copied
after_exchange = refl

-- both callers are returns
after_return : map (λ e. e.ret) (results_in LrPK (program (0x09 ∷ [])) callers) ≡ Some 0x0110 ∷ Some 0x0120 ∷ []
unfolding cases_of spread_cases parts_read successors chips_view known_effect register_writes
    result writes_accumulator writes_flags writes_isar registers_written copied
after_return = refl

-- both callers are called, and each call returns behind it
after_call : map {B = ℕ × Option ℕ} (λ e. (e.at, e.ret)) (results_in Pk (program (0x0C ∷ [])) callers)
    ≡ (0x0110, Some 1) ∷ (0x0120, Some 1) ∷ []
unfolding cases_of spread_cases parts_read successors chips_view known_effect register_writes
    result writes_accumulator writes_flags writes_isar registers_written copied
after_call = refl

-- LR S,A writes the register of which ISAR is the number: one of two, and the other one keeps its byte
abbrev pointed : EntryView
pointed = record few {
  accumulator = Some (7 ∷ []);
  isar = 3 ∷ 5 ∷ [];
  scratchpad = set (set (replicate 64 None) 3 (Some (1 ∷ []))) 5 (Some (2 ∷ []));
}

after_store : map {B = List ℕ × (Option (List ℕ) × Option (List ℕ))} (λ e. (e.isar, (register_values 3 e, register_values 5 e)))
    (results_in (LrRA 12) (program (0x5C ∷ [])) pointed)
    ≡ (3 ∷ [], (Some (7 ∷ []), Some (2 ∷ []))) ∷ (5 ∷ [], (Some (1 ∷ []), Some (7 ∷ []))) ∷ []
unfolding cases_of spread_cases parts_read successors chips_view known_effect register_writes
    result writes_accumulator writes_flags writes_isar registers_written copied
after_store = refl

-- behind CI 9 the value is known where it was compared, with the flag that says so
after_compare : map {B = Option (List ℕ) × Option Bool} (λ e. (e.accumulator, e.status.zero))
    (results_in Ci (program (0x25 ∷ 0x09 ∷ [])) (record few { accumulator = Some (8 ∷ 9 ∷ []) }))
    ≡ (Some (8 ∷ []), Some false) ∷ (Some (9 ∷ []), Some true) ∷ []
unfolding cases_of spread_cases parts_read successors chips_view known_effect register_writes
    result writes_accumulator writes_flags writes_isar registers_written copied
after_compare = refl

-- ---- covers

-- an entry that says that register 3 holds the accumulator's byte covers one that gives both the same one value, and not one with more
one_is_same : is_covered_by (with_values (3 ∷ []) None) (with_values (3 ∷ 5 ∷ []) (Some 3)) ≡ true
unfolding is_covered_by
one_is_same = refl

two_may_differ : is_covered_by (with_values (3 ∷ 5 ∷ []) None) (with_values (3 ∷ 5 ∷ []) (Some 3)) ≡ false
unfolding is_covered_by
two_may_differ = refl

-- ---- lists of entries

-- CLR at 0, and at 1 a branch back to it
abbrev looped : MapView
looped = program (0x70 ∷ 0x90 ∷ 0xFE ∷ [])

abbrev cleared : EntryView
cleared = record start_entry { at = 1; accumulator = Some (0 ∷ []) }

loop_is_whole : judged looped (start_entry ∷ cleared ∷ []) ≡ Whole
unfolding judged decoded chips_view cases_of spread_cases parts_read unsafe_reason reasons is_fault_free successors known_effect
    register_writes result writes_accumulator writes_flags writes_isar registers_written copied is_covered_by
loop_is_whole = refl

-- the start isn't covered, or what CLR leads to isn't
start_is_open : judged looped (cleared ∷ []) ≡ NotClosed None start_point
unfolding judged decoded chips_view cases_of spread_cases parts_read unsafe_reason reasons is_fault_free successors known_effect
    register_writes result writes_accumulator writes_flags writes_isar registers_written copied is_covered_by
start_is_open = refl

clear_is_open : judged looped (start_entry ∷ []) ≡ NotClosed (Some 0) (point 1)
unfolding judged decoded chips_view cases_of spread_cases parts_read unsafe_reason reasons is_fault_free successors known_effect
    register_writes result writes_accumulator writes_flags writes_isar registers_written copied is_covered_by
clear_is_open = refl

-- a branch to 81 in place of it, where no instruction stands: without an entry there, and with one
abbrev strayed : MapView
strayed = program (0x70 ∷ 0x90 ∷ 0x7F ∷ [])

branch_is_open : judged strayed (start_entry ∷ cleared ∷ []) ≡ NotClosed (Some 1) (point 0x81)
unfolding judged decoded chips_view cases_of spread_cases parts_read unsafe_reason reasons is_fault_free successors known_effect
    register_writes result writes_accumulator writes_flags writes_isar registers_written copied is_covered_by
branch_is_open = refl

target_is_reserved : judged strayed (start_entry ∷ cleared ∷ record cleared { at = 0x81 } ∷ []) ≡ Unsafe 2 ReservedOpcode
unfolding judged decoded chips_view cases_of spread_cases parts_read unsafe_reason reasons is_fault_free successors known_effect
    register_writes result writes_accumulator writes_flags writes_isar registers_written copied is_covered_by
target_is_reserved = refl

-- a branch to itself at 0, and apart from it INC at 2 of 3 or 5, of which the entry behind it has lost one
value_is_taken : judged (program (0x90 ∷ 0xFF ∷ 0x1F ∷ []))
    (start_entry ∷ record few { at = 2 }
    ∷ record few { at = 3; accumulator = Some (4 ∷ []); status = record start_entry.status { sign = Some true } } ∷ [])
    ≡ NotClosed (Some 1) (point 3)
unfolding judged decoded chips_view cases_of spread_cases parts_read unsafe_reason reasons is_fault_free successors known_effect
    register_writes result writes_accumulator writes_flags writes_isar registers_written copied is_covered_by
value_is_taken = refl

-- no chip holds the start
nothing_held : judged (chips_view []) (start_entry ∷ []) ≡ Unsafe 0 CodeNotHeldOnce
unfolding judged decoded chips_view cases_of spread_cases parts_read unsafe_reason reasons is_fault_free successors known_effect
    register_writes result writes_accumulator writes_flags writes_isar registers_written copied is_covered_by
nothing_held = refl

-- a load of D0 with 1000, at which no chip answers, a read there, and a branch back to the load
abbrev unanswered : MapView
unanswered = program (0x2A ∷ 0x10 ∷ 0x00 ∷ 0x16 ∷ 0x90 ∷ 0xFB ∷ [])

abbrev data_at : ℕ → ℕ → EntryView
data_at at d0 = record start_entry { at = at; d0 = Some (d0 ∷ []); c = Some (d0 ∷ []); s0 = true; p0 = true }

read_is_agreed : judged unanswered (record start_entry { d0 = None } ∷ data_at 3 0x1000 ∷ data_at 4 0x1001 ∷ []) ≡ Agreed
unfolding judged decoded chips_view cases_of spread_cases parts_read unsafe_reason reasons is_fault_free successors known_effect
    register_writes result writes_accumulator writes_flags writes_isar registers_written copied is_covered_by
read_is_agreed = refl
