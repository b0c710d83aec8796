-- What an entry leads to: the results of its cases, and the entries that cover them.
use Rattle.std.specs.Prelude.{ℕ, ◌==◌, Bool, true, false, ◌&&◌, ◌||◌, if◌then◌else◌, List, [], ◌∷◌, map, Option, Some, None}
use Rattle.std.specs.List.{list_any, range_with_len}
use Rattle.std.specs.Option.{option_eq}
use Rattle.f8_spec.specs.Instructions.{row_of}
use Rattle.f8_spec.specs.declared.instructions.Op.{Op}
use Rattle.f8_spec.specs.declared.instructions.Row.{Row}
use Rattle.f8_spec.specs.declared.instructions.Row.TheVariants.{Exchange}
use Rattle.abs_domain.specs.Lattice.{is_fact_below}
use Rattle.abs_domain.specs.AbstractState.{KnownStatus, AbstractState}
use Rattle.abs_domain.specs.Joins.{is_status_below}
use Rattle.abs_step.specs.Known.{agree}
use Rattle.abs_step.specs.RegisterWrites.{known_register}
use Rattle.abs_step.specs.Successors.{Invariant}
use Rattle.value_sets.specs.ValueSets.{are_among, is_within, is_each_within, single, set_of}
use Rattle.case_step.specs.Entries.{EntryView, register_values}
use Rattle.case_step.specs.Effects.{writes_accumulator, writes_flags, writes_isar, registers_written, writes_data, copied}
use Rattle.case_step.specs.Cases.{pointed_register, register_in}
use Rattle.case_step.specs.declared.part.Part.{Part}

-- ---- a part after an instruction

-- one that isn't written has the case's value, and the entry's where the case has none
abbrev pub kept : Option ℕ → Option (List ℕ) → Option (List ℕ)
kept None values = values
kept (Some x) values = Some (x ∷ [])

-- one that is written has what is known of it behind the step
abbrev pub values_after : Bool → Option ℕ → Option ℕ → Option (List ℕ) → Option (List ℕ)
values_after true after before values = set_of after
values_after false after before values = kept before values

-- the numbers that ISAR may have
abbrev pub numbers_or : List ℕ → Option ℕ → List ℕ
numbers_or numbers None = numbers
numbers_or numbers (Some number) = number ∷ []

abbrev pub isar_after : Bool → Option ℕ → Option ℕ → List ℕ → List ℕ
isar_after true after before numbers = numbers_or (range_with_len 0 64) after
isar_after false after before numbers = numbers_or numbers before

-- The case knows of a flag what its entry does, and more where the flag was read. The interrupt control bit is as it is behind the step.
abbrev pub status_after : Bool → KnownStatus → KnownStatus → KnownStatus
status_after true after before = after
status_after false after before = record before { icb = after.icb }

-- ---- registers

-- a part is this register, or may be
abbrev pub is_register : Option ℕ → ℕ → Bool
is_register None number = true
is_register (Some written) number = written == number

abbrev pub is_register_written : Op → AbstractState → ℕ → Bool
is_register_written op s number = list_any (λ part. is_register (register_in part s) number) (registers_written op)

abbrev pub register_after : Op → EntryView → AbstractState → AbstractState → ℕ → Option (List ℕ)
register_after op e before after number =
    values_after (is_register_written op before number) (known_register number after.registers) (known_register number before.registers)
    (register_values number e)

-- ---- the register that holds the accumulator's byte

abbrev pub copied_register : Option Part → AbstractState → Option ℕ
copied_register None s = None
copied_register (Some part) s = register_in part s

-- the one that held it still does where neither is written
abbrev pub same_kept : Op → AbstractState → Option ℕ → Option ℕ
same_kept op s None = None
same_kept op s (Some number) = if writes_accumulator op || is_register_written op s number then None else Some number

abbrev pub same_or : Option ℕ → Option ℕ → Option ℕ
same_or None later = later
same_or (Some number) later = Some number

abbrev pub same_after : Op → EntryView → AbstractState → Option ℕ
same_after op e s = same_or (copied_register (copied op) s) (same_kept op s e.same)

-- ---- the data counters; XDC exchanges D0 and D1

abbrev pub d0_after : Row → EntryView → AbstractState → AbstractState → Option (List ℕ)
d0_after Exchange e before after = kept before.counters.d1 e.d1
d0_after row e before after = values_after (writes_data row) after.counters.d0 before.counters.d0 e.d0

abbrev pub d1_after : Row → EntryView → AbstractState → Option (List ℕ)
d1_after Exchange e before = kept before.counters.d0 e.d0
d1_after row e before = kept before.counters.d1 e.d1

-- ---- results

-- the result of a case, by what holds next behind it: a part that is written has the value that is known there, or any; one that isn't has
-- the case's, or the entry's
unfoldable pub result : Op → EntryView → AbstractState → Invariant → EntryView
result op e before to =
    let after : AbstractState = to.state in
    record {
      at = to.point.at;
      ret = to.point.ret;
      accumulator =
          values_after (writes_accumulator op) after.registers.accumulator before.registers.accumulator e.accumulator;
      isar = isar_after (writes_isar op) (pointed_register after) (pointed_register before) e.isar;
      status = status_after (writes_flags op) after.registers.status before.registers.status;
      d0 = d0_after (row_of op) e before after;
      d1 = d1_after (row_of op) e before;
      c = values_after (writes_data (row_of op)) after.counters.c before.counters.c e.c;
      s0 = after.counters.s0;
      s1 = after.counters.s1;
      p0 = after.counters.p0;
      p1 = after.counters.p1;
      same = same_after op e before;
      scratchpad = map (register_after op e before after) (range_with_len 0 64);
    }

-- ---- entries that cover others

-- The upper one names no register as holding the accumulator's byte, or the lower one names that register too, or it gives both the same
-- single value.
abbrev pub is_same_below : EntryView → Option ℕ → Bool
is_same_below lower None = true
is_same_below lower (Some number) =
    option_eq (λ x y. x == y) lower.same (Some number) || agree (single lower.accumulator) (single (register_values number lower))

-- the upper entry is at the same address and return, and allows all that the lower does
unfoldable pub is_covered_by : EntryView → EntryView → Bool
is_covered_by lower upper =
    (lower.at == upper.at) && option_eq (λ x y. x == y) lower.ret upper.ret
    && is_within lower.accumulator upper.accumulator && are_among upper.isar lower.isar && is_status_below lower.status upper.status
    && is_within lower.d0 upper.d0 && is_within lower.d1 upper.d1 && is_within lower.c upper.c
    && is_fact_below lower.s0 upper.s0 && is_fact_below lower.s1 upper.s1
    && is_fact_below lower.p0 upper.p0 && is_fact_below lower.p1 upper.p1
    && is_same_below lower upper.same && is_each_within lower.scratchpad upper.scratchpad

-- some entry of a list does
abbrev pub is_covered : List EntryView → EntryView → Bool
is_covered entries lower = list_any (is_covered_by lower) entries
