-- The cases of an entry under an instruction: abstract states in each of which the parts that the instruction reads have one value.
use Rattle.std.specs.Prelude.{ℕ, ◌+◌, ◌*◌, ◌/◌, ◌%◌, ◌==◌, nat_le, Bool, true, false, if◌then◌else◌, List, [], ◌∷◌, length, map, flat_map}
use Rattle.std.specs.Prelude.{replicate, slice_set, Option, Some, None, option_map}
use Rattle.std.specs.List.{range_with_len}
use Rattle.f8_spec.specs.declared.instructions.Op.{Op}
use Rattle.abs_domain.specs.AbstractState.{KnownStatus, AbstractState}
use Rattle.abs_step.specs.Known.{lift2}
use Rattle.abs_step.specs.RegisterWrites.{known_register}
use Rattle.abs_step.specs.Successors.{Invariant}
use Rattle.value_sets.specs.ValueSets.{has, only, single}
use Rattle.case_step.specs.Entries.{EntryView, register_values}
use Rattle.case_step.specs.Effects.{parts_read}
use Rattle.case_step.specs.declared.part.Part.{Part}
use Rattle.case_step.specs.declared.part.Part.TheVariants.{Accumulator, Isar, Sign, Carry, Zero, Overflow, Icb}
use Rattle.case_step.specs.declared.part.Part.TheVariants.{Register, Pointed, DataCounter}
use Rattle.case_step.specs.declared.spread.Spread.{Spread}
use Rattle.case_step.specs.declared.spread.Spread.TheVariants.{EachByte, ListedBytes, NoByte}

-- ---- the case before any part is given a value

-- A part of one value is known, the flags are as they are, and all else isn't known. Where every DC0 of a 3851 is D0, c is what D0 is.
abbrev pub plain_case : EntryView → AbstractState
plain_case e = record {
  registers = record {
    accumulator = single e.accumulator;
    high = option_map (λ number. number / 8) (only e.isar);
    low = option_map (λ number. number % 8) (only e.isar);
    status = e.status;
    scratchpad = map single e.scratchpad;
  };
  counters = record {
    d0 = single e.d0;
    d1 = single e.d1;
    c = if e.p0 then single e.d0 else single e.c;
    s0 = e.s0;
    s1 = e.s1;
    p0 = e.p0;
    p1 = e.p1;
  };
}

-- what holds at the entry's address and return; no register is tracked there
abbrev pub at_entry : EntryView → AbstractState → Invariant
at_entry e s = record { point = record { at = e.at; ret = e.ret; split = replicate 8 None }; state = s }

-- ---- a part with a value

-- the register that ISAR points to, where it is known
abbrev pub pointed_register : AbstractState → Option ℕ
pointed_register s = lift2 (λ high low. high * 8 + low) s.registers.high s.registers.low

-- the register that a part is
abbrev pub register_in : Part → AbstractState → Option ℕ
register_in (Register number) s = Some number
register_in Pointed s = pointed_register s
register_in part s = None

abbrev pub with_accumulator : ℕ → AbstractState → AbstractState
with_accumulator byte s = record s { registers = record s.registers { accumulator = Some byte } }

abbrev pub with_isar : ℕ → AbstractState → AbstractState
with_isar number s = record s { registers = record s.registers { high = Some (number / 8); low = Some (number % 8) } }

abbrev pub with_status : KnownStatus → AbstractState → AbstractState
with_status status s = record s { registers = record s.registers { status = status } }

abbrev pub with_register : ℕ → ℕ → AbstractState → AbstractState
with_register number byte s = record s { registers = record s.registers { scratchpad = slice_set s.registers.scratchpad number (Some byte) } }

-- c goes with D0 where every DC0 of a 3851 is D0
abbrev pub with_data_counter : ℕ → AbstractState → AbstractState
with_data_counter at s =
    record s { counters = record s.counters { d0 = Some at; c = if s.counters.p0 then Some at else s.counters.c } }

-- ---- the values of a part

-- those of a byte, by how far bytes are spread; none where the byte stays as it is
abbrev pub byte_spread : Spread → Option (List ℕ) → Option (List ℕ)
byte_spread EachByte None = Some (range_with_len 0 256)
byte_spread EachByte (Some bytes) = Some bytes
byte_spread ListedBytes bytes = bytes
byte_spread NoByte bytes = None

-- both values of a flag that isn't known
abbrev pub flag_spread : Option Bool → Option (List Bool)
flag_spread None = Some (false ∷ true ∷ [])
flag_spread (Some flag) = None

-- a case for each value, and the one case where none is given
abbrev pub each_case : {A : Type 0} → (A → AbstractState) → AbstractState → Option (List A) → List AbstractState
each_case with_value s None = s ∷ []
each_case with_value s (Some values) = map with_value values

-- A byte that another part has too has that part's value, and there is no case where its own values lack it.
abbrev pub byte_cases : Option ℕ → Spread → Option (List ℕ) → (ℕ → AbstractState) → AbstractState → List AbstractState
byte_cases None spread values with_value s = each_case with_value s (byte_spread spread values)
byte_cases (Some byte) spread values with_value s = if has values byte then with_value byte ∷ [] else []

-- the byte of the register that holds the accumulator's byte, and the accumulator's where a register is that one
abbrev pub same_register_byte : Option ℕ → AbstractState → Option ℕ
same_register_byte None s = None
same_register_byte (Some number) s = known_register number s.registers

abbrev pub same_accumulator : Option ℕ → ℕ → AbstractState → Option ℕ
same_accumulator None number s = None
same_accumulator (Some same) number s = if same == number then s.registers.accumulator else None

abbrev pub register_cases : Spread → EntryView → Option ℕ → AbstractState → List AbstractState
register_cases spread e None s = s ∷ []
register_cases spread e (Some number) s =
    byte_cases (same_accumulator e.same number s) spread (register_values number e) (λ byte. with_register number byte s) s

-- a case with one part more that has one value
abbrev pub part_cases : Spread → EntryView → Part → AbstractState → List AbstractState
part_cases spread e Accumulator s =
    byte_cases (same_register_byte e.same s) spread e.accumulator (λ byte. with_accumulator byte s) s
part_cases spread e Isar s = map (λ number. with_isar number s) e.isar
part_cases spread e Sign s = each_case (λ flag. with_status (record s.registers.status { sign = Some flag }) s) s (flag_spread e.status.sign)
part_cases spread e Carry s = each_case (λ flag. with_status (record s.registers.status { carry = Some flag }) s) s (flag_spread e.status.carry)
part_cases spread e Zero s = each_case (λ flag. with_status (record s.registers.status { zero = Some flag }) s) s (flag_spread e.status.zero)
part_cases spread e Overflow s =
    each_case (λ flag. with_status (record s.registers.status { overflow = Some flag }) s) s (flag_spread e.status.overflow)
part_cases spread e Icb s = each_case (λ flag. with_status (record s.registers.status { icb = Some flag }) s) s (flag_spread e.status.icb)
part_cases spread e (Register number) s = register_cases spread e (Some number) s
part_cases spread e Pointed s = register_cases spread e (pointed_register s) s
part_cases spread e DataCounter s = each_case (λ at. with_data_counter at s) s e.d0

-- ---- all cases

-- the most cases of an entry
abbrev pub most_cases : ℕ
most_cases = 4096

-- one part after another; none where there are too many cases behind some part
unfoldable pub spread_cases : Spread → EntryView → List Part → List AbstractState → Option (List AbstractState)
spread_cases spread e [] cases = Some cases
spread_cases spread e (part ∷ parts) cases =
    let more : List AbstractState = flat_map (part_cases spread e part) cases in
    if nat_le (length more) most_cases then spread_cases spread e parts more else None

-- Each byte that is read has one value, where there aren't too many cases; else bytes that may be any stay so; else no byte is given a value
-- but where it is the only one.
abbrev pub or_cases : Option (List AbstractState) → List AbstractState → List AbstractState
or_cases None later = later
or_cases (Some cases) later = cases

unfoldable pub cases_of : Op → EntryView → List AbstractState
cases_of op e =
    let from : Spread → Option (List AbstractState) = λ spread. spread_cases spread e (parts_read op) (plain_case e ∷ []) in
    or_cases (from EachByte) (or_cases (from ListedBytes) (or_cases (from NoByte) (plain_case e ∷ [])))

-- where no instruction is known there is one case
abbrev pub cases_at : Option Op → EntryView → List AbstractState
cases_at None e = plain_case e ∷ []
cases_at (Some op) e = cases_of op e
