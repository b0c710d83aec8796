-- A case that tells of a position what its entry does: the one before any part has a value, and some one with a part more.
use Rattle.std.proofs.Common.{◌≡◌, ◌<◌, ◌/◌, ◌%◌, ℕ, Bool, true, false, List, refl, ap, inl, inr, arith}
use Rattle.std.specs.Prelude.{Option, Some, None, slice_index, if◌then◌else◌, ◌==◌}
use Rattle.std.specs.Option.{ForSome}
use Rattle.f8_spec.specs.declared.chips.ChipKind.{ChipKind}
use Rattle.f8_spec.specs.declared.chips.ChipKind.TheVariants.{Psu, Smi, Pio}
use Rattle.console_spec.specs.Processor.{Flow, Registers}
use Rattle.console_spec.specs.CounterCopies.{Copy}
use Rattle.console_spec.specs.FreeRuns.{IsInRange}
use Rattle.console_spec.specs.Run.{Position}
use Rattle.abs_domain.specs.Lattice.{Below}
use Rattle.abs_domain.specs.AbstractState.{AbstractState, KnownStatus, KnownRegisters, StatusBelow}
use Rattle.abs_domain.proofs.Orders.{numbers_tell}
use Rattle.abs_step.specs.Concretization.{ChipTells, CopyTells, Holds, StandsFor, whole_status}
use Rattle.abs_step.proofs.Knowing.{below_map}
use Rattle.abs_step.proofs.Members.{SomeOf, all_map}
use Rattle.value_sets.specs.ValueSets.{has, only, single}
use Rattle.case_step.specs.Entries.{EntryView, Allows, CopyAllowed, HasValue, facts_of, register_values}
use Rattle.case_step.specs.Cases.{at_entry, plain_case, with_accumulator, with_isar, with_status, with_register, with_data_counter}
use Rattle.case_step.specs.Cases.{byte_spread, flag_spread, each_case, byte_cases, same_register_byte, same_accumulator, register_cases}
use Rattle.case_step.specs.Cases.{part_cases}
use Rattle.case_step.specs.Cases.{pointed_register}
use Rattle.case_step.specs.declared.part.Part.{Part}
use Rattle.case_step.specs.declared.part.Part.TheVariants.{Accumulator, Isar, Sign, Carry, Zero, Overflow, Icb}
use Rattle.case_step.specs.declared.part.Part.TheVariants.{Register, Pointed, DataCounter}
use Rattle.case_step.specs.declared.spread.Spread.{Spread}
use Rattle.case_step.specs.declared.spread.Spread.TheVariants.{EachByte, ListedBytes, NoByte}
use Rattle.case_step.proofs.SetLaws.{some_among, among_range, number_told, value_told, allowed_at, AreTold, told_at, told_allowed, told_set}

-- ---- what a case tells

-- all that holds of the position where it is a case of the entry
abbrev pub Tells : EntryView → Position → AbstractState → Type 0
Tells e here s = StandsFor (at_entry e s) here

-- ---- the case before any part has a value

-- c is what is known of D0 where the DC0 of each 3851 is D0
c_told : (goes_with : Bool) (d0 c : Option (List ℕ)) (flat own : ℕ) → has d0 flat ≡ true → has c own ≡ true → Holds goes_with (own ≡ flat) →
    Below (Some own) (if goes_with then single d0 else single c)
c_told true d0 c flat own p q same = rw same (value_told d0 flat p)
c_told false d0 c flat own p q same = value_told c own q

plain_chip : (e : EntryView) (kind : ChipKind) (r own : Flow) → has e.d0 r.d0 ≡ true → ChipTells kind (facts_of e) r own →
    HasValue kind e own → ChipTells kind (plain_case e).counters r own
plain_chip e Psu r own d0 tells value = record {
  value = c_told e.p0 e.d0 e.c r.d0 own.d0 d0 value tells.first;
  first = tells.first;
  second = tells.second;
}
plain_chip e Smi r own d0 tells value = record { first = tells.first; second = tells.second }
plain_chip e Pio r own d0 tells value = tt

pub plain_tells : (e : EntryView) (here : Position) → Allows e here → Tells e here (plain_case e)
plain_tells e here allows =
    let m = here.flat.state.registers in
    let r = here.flat.state.flow in
    record {
      at = allows.at;
      ret = allows.ret;
      registers = record {
        accumulator = value_told e.accumulator m.accumulator allows.accumulator;
        high = below_map (λ number. number / 8) (Some m.isar) (only e.isar) (number_told e.isar m.isar allows.isar);
        low = below_map (λ number. number % 8) (Some m.isar) (only e.isar) (number_told e.isar m.isar allows.isar);
        status = allows.status;
        scratchpad = told_allowed e.scratchpad m.scratchpad allows.scratchpad;
      };
      counters = record { d0 = value_told e.d0 r.d0 allows.d0; d1 = value_told e.d1 r.d1 allows.d1 };
      copies = all_map (CopyAllowed e r) (CopyTells e.ret (plain_case e).counters r) here.copies
          (λ (copy : Copy) allowed. record {
            at = allowed.tells.at;
            back = allowed.tells.back;
            chip = plain_chip e copy.seat.kind r copy.flow allows.d0 allowed.tells.chip allowed.value;
          }) allows.copies;
    }

-- ---- cases for the values of a part, one of which is the value that the position has

spread_has : (spread : Spread) (values : Option (List ℕ)) (byte : ℕ) → byte < 256 → has values byte ≡ true →
    has (byte_spread spread values) byte ≡ true
spread_has EachByte None byte small among = among_range 256 0 byte (omega arith) small
spread_has EachByte (Some bytes) byte small among = among
spread_has ListedBytes values byte small among = among
spread_has NoByte values byte small among = refl

module _ (P : AbstractState → Type 0) (s : AbstractState) (unread : P s) where
  each_found : (with_value : ℕ → AbstractState) (values : Option (List ℕ)) (x : ℕ) → has values x ≡ true → P (with_value x) →
      SomeOf P (each_case with_value s values)
  each_found with_value None x among read = inl unread
  each_found with_value (Some numbers) x among read = some_among P with_value numbers x among read

  flag_found : (with_flag : Bool → AbstractState) (known : Option Bool) (flag : Bool) → P (with_flag flag) →
      SomeOf P (each_case with_flag s (flag_spread known))
  flag_found with_flag None false read = inl read
  flag_found with_flag None true read = inr (inl read)
  flag_found with_flag (Some known) flag read = inl unread

  -- what is known of the byte that another part has is this byte
  byte_found : (tied : Option ℕ) (spread : Spread) (values : Option (List ℕ)) (with_byte : ℕ → AbstractState) (byte : ℕ) →
      Below (Some byte) tied → byte < 256 → has values byte ≡ true → P (with_byte byte) → SomeOf P (byte_cases tied spread values with_byte s)
  byte_found None spread values with_byte byte told small among read =
      each_found with_byte (byte_spread spread values) byte (spread_has spread values byte small among) read
  byte_found (Some other) spread values with_byte byte told small among read =
      let same : other ≡ byte = cc in
      rw (same, among) (inl read)

-- ---- what is known of a byte that two parts have

same_byte_told : (tied : Option ℕ) (m : Registers) (s : AbstractState) → AreTold m.scratchpad s.registers.scratchpad →
    ForSome tied (λ number. slice_index m.scratchpad number ≡ m.accumulator) → Below (Some m.accumulator) (same_register_byte tied s)
same_byte_told None m s told same = tt
same_byte_told (Some number) m s told same =
    rw (← same number refl) (told_at number m.scratchpad s.registers.scratchpad told)

same_accumulator_told : (tied : Option ℕ) (number : ℕ) (m : Registers) (s : AbstractState) → Below (Some m.accumulator) s.registers.accumulator →
    ForSome tied (λ n. slice_index m.scratchpad n ≡ m.accumulator) →
    Below (Some (slice_index m.scratchpad number)) (same_accumulator tied number s)
same_accumulator_told None number m s told same = tt
same_accumulator_told (Some tied) number m s told same = by (tied == number) refl
  where
    by : (b : Bool) → (tied == number) ≡ b →
        Below (Some (slice_index m.scratchpad number)) (if b then s.registers.accumulator else None)
    by false unlike = tt
    by true alike =
        let equal : tied ≡ number = (numbers_tell tied number).0 alike in
        rw (← equal, same tied refl) told

-- ---- c, where D0 is known

c_counted : (goes_with : Bool) (c : Option ℕ) (flat own : ℕ) → Below (Some own) c → Holds goes_with (own ≡ flat) →
    Below (Some own) (if goes_with then Some flat else c)
c_counted true c flat own told same = ap Some same
c_counted false c flat own told same = told

counted_chip : (s : AbstractState) (kind : ChipKind) (r own : Flow) → ChipTells kind s.counters r own →
    ChipTells kind (with_data_counter r.d0 s).counters r own
counted_chip s Psu r own tells = record {
  value = c_counted s.counters.p0 s.counters.c r.d0 own.d0 tells.value tells.first;
  first = tells.first;
  second = tells.second;
}
counted_chip s Smi r own tells = record { first = tells.first; second = tells.second }
counted_chip s Pio r own tells = tt

-- ---- a case with a part more

module _ (e : EntryView) (here : Position) (range : IsInRange here) (allows : Allows e here) where
  registers_tell : (s : AbstractState) (k : KnownRegisters) → Tells e here s → Below (Some here.flat.state.registers.accumulator) k.accumulator →
      Below (Some (here.flat.state.registers.isar / 8)) k.high → Below (Some (here.flat.state.registers.isar % 8)) k.low →
      StatusBelow (whole_status here.flat.state.registers.status) k.status → AreTold here.flat.state.registers.scratchpad k.scratchpad →
      Tells e here (record s { registers = k })
  registers_tell s k h byte high low flags bytes = record {
    at = h.at;
    ret = h.ret;
    registers = record { accumulator = byte; high = high; low = low; status = flags; scratchpad = bytes };
    counters = h.counters;
    copies = h.copies;
  }

  accumulator_tells : (s : AbstractState) → Tells e here s → Tells e here (with_accumulator here.flat.state.registers.accumulator s)
  accumulator_tells s h =
      let b = h.registers in
      registers_tell s (with_accumulator here.flat.state.registers.accumulator s).registers h refl b.high b.low b.status b.scratchpad

  isar_tells : (s : AbstractState) → Tells e here s → Tells e here (with_isar here.flat.state.registers.isar s)
  isar_tells s h =
      let b = h.registers in
      registers_tell s (with_isar here.flat.state.registers.isar s).registers h b.accumulator refl refl b.status b.scratchpad

  register_tells : (number : ℕ) (s : AbstractState) → Tells e here s →
      Tells e here (with_register number (slice_index here.flat.state.registers.scratchpad number) s)
  register_tells number s h =
      let b = h.registers in
      let bytes = here.flat.state.registers.scratchpad in
      registers_tell s (with_register number (slice_index bytes number) s).registers h b.accumulator b.high b.low b.status
      (told_set number bytes s.registers.scratchpad b.scratchpad)

  flags_tell : (s : AbstractState) (k : KnownStatus) → Tells e here s → Below (Some here.flat.state.registers.status.sign) k.sign →
      Below (Some here.flat.state.registers.status.carry) k.carry → Below (Some here.flat.state.registers.status.zero) k.zero →
      Below (Some here.flat.state.registers.status.overflow) k.overflow → Below (Some here.flat.state.registers.status.icb) k.icb →
      Tells e here (with_status k s)
  flags_tell s k h sign carry zero overflow icb =
      let b = h.registers in
      registers_tell s (with_status k s).registers h b.accumulator b.high b.low
      (record { sign = sign; carry = carry; zero = zero; overflow = overflow; icb = icb }) b.scratchpad

  counter_tells : (s : AbstractState) → Tells e here s → Tells e here (with_data_counter here.flat.state.flow.d0 s)
  counter_tells s h =
      let r = here.flat.state.flow in
      record {
        at = h.at;
        ret = h.ret;
        registers = h.registers;
        counters = record { d0 = refl; d1 = h.counters.d1 };
        copies = all_map (CopyTells e.ret s.counters r) (CopyTells e.ret (with_data_counter r.d0 s).counters r) here.copies
            (λ (copy : Copy) t. record { at = t.at; back = t.back; chip = counted_chip s copy.seat.kind r copy.flow t.chip }) h.copies;
      }

  register_found : (spread : Spread) (register : Option ℕ) (s : AbstractState) → Tells e here s →
      SomeOf (Tells e here) (register_cases spread e register s)
  register_found spread None s h = inl h
  register_found spread (Some number) s h =
      let m = here.flat.state.registers in
      byte_found (Tells e here) s h (same_accumulator e.same number s) spread (register_values number e) (λ byte. with_register number byte s)
      (slice_index m.scratchpad number) (same_accumulator_told e.same number m s h.registers.accumulator allows.same)
      (range.registers.scratchpad number) (allowed_at number e.scratchpad m.scratchpad allows.scratchpad) (register_tells number s h)

  -- some case with the part more tells it too
  pub part_found : (spread : Spread) (part : Part) (s : AbstractState) → Tells e here s → SomeOf (Tells e here) (part_cases spread e part s)
  part_found spread Accumulator s h =
      let m = here.flat.state.registers in
      byte_found (Tells e here) s h (same_register_byte e.same s) spread e.accumulator (λ byte. with_accumulator byte s) m.accumulator
      (same_byte_told e.same m s h.registers.scratchpad allows.same) range.registers.accumulator allows.accumulator (accumulator_tells s h)
  part_found spread Isar s h =
      some_among (Tells e here) (λ number. with_isar number s) e.isar here.flat.state.registers.isar allows.isar (isar_tells s h)
  part_found spread Sign s h =
      let b = h.registers.status in
      flag_found (Tells e here) s h _ e.status.sign here.flat.state.registers.status.sign (flags_tell s _ h refl b.carry b.zero b.overflow b.icb)
  part_found spread Carry s h =
      let b = h.registers.status in
      flag_found (Tells e here) s h _ e.status.carry here.flat.state.registers.status.carry (flags_tell s _ h b.sign refl b.zero b.overflow b.icb)
  part_found spread Zero s h =
      let b = h.registers.status in
      flag_found (Tells e here) s h _ e.status.zero here.flat.state.registers.status.zero (flags_tell s _ h b.sign b.carry refl b.overflow b.icb)
  part_found spread Overflow s h =
      let b = h.registers.status in
      flag_found (Tells e here) s h _ e.status.overflow here.flat.state.registers.status.overflow (flags_tell s _ h b.sign b.carry b.zero refl b.icb)
  part_found spread Icb s h =
      let b = h.registers.status in
      flag_found (Tells e here) s h _ e.status.icb here.flat.state.registers.status.icb (flags_tell s _ h b.sign b.carry b.zero b.overflow refl)
  part_found spread (Register number) s h = register_found spread (Some number) s h
  part_found spread Pointed s h = register_found spread (pointed_register s) s h
  part_found spread DataCounter s h =
      each_found (Tells e here) s h (λ at. with_data_counter at s) e.d0 here.flat.state.flow.d0 allows.d0 (counter_tells s h)
