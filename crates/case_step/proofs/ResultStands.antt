-- Behind an instruction, where a case stands for the position before it and what is said to hold next for the position behind it, the
-- result of the case stands for it too.
use Rattle.std.proofs.Common.{◌≡◌, ℕ, zero, suc, ◌+◌, Bool, true, false, ◌||◌, List, [], ◌∷◌, length, map, refl, ap, sym, ◌∙◌, subst, arith}
use Rattle.std.specs.Prelude.{Option, Some, None, if◌then◌else◌, slice_index, slice_index_or, slice_get}
use Rattle.std.specs.List.{AllByRecursion, AllZip, range_with_len}
use Rattle.std.specs.Option.{ForSome}
use Rattle.f8_spec.specs.Flags.{Status}
use Rattle.f8_spec.specs.Instructions.{InRange, row_of}
use Rattle.f8_spec.specs.declared.instructions.Op.{Op}
use Rattle.console_spec.specs.CounterCopies.{Copy, copy_after}
use Rattle.console_spec.specs.FreeRuns.{IsInRange}
use Rattle.console_spec.specs.InterruptRequests.{Mark}
use Rattle.console_spec.specs.Processor.{Registers, Inputs}
use Rattle.console_spec.specs.Run.{Position, gets_at, position_after, pulse_in}
use Rattle.console_spec.specs.Telling.{with_event, with_events}
use Rattle.console_spec.specs.declared.Event.{Event}
use Rattle.console_spec.specs.declared.Event.TheVariants.{Keys, Pulse}
use Rattle.abs_domain.specs.Lattice.{Below}
use Rattle.abs_domain.specs.AbstractState.{AbstractState, KnownStatus, KnownRegisters, RegistersBelow, StatusBelow}
use Rattle.abs_domain.proofs.Orders.{below_trans}
use Rattle.abs_step.specs.Concretization.{CopyTells, StandsFor, whole_registers, whole_status}
use Rattle.abs_step.specs.RegisterWrites.{known_register}
use Rattle.abs_step.specs.Successors.{Invariant}
use Rattle.abs_step.proofs.Exact.{register_whole}
use Rattle.abs_step.proofs.Members.{all_both, all_map, all_mapped, all_unmapped}
use Rattle.abs_step.proofs.RunRanges.{range_after}
use Rattle.abs_step.proofs.Scratchpads.{register_below}
use Rattle.value_sets.specs.ValueSets.{has}
use Rattle.case_step.specs.Entries.{EntryView, Allows, CopyAllowed, register_values}
use Rattle.case_step.specs.Effects.{writes_accumulator, writes_flags, writes_isar, copied}
use Rattle.case_step.specs.Cases.{at_entry}
use Rattle.case_step.specs.Results.{is_register_written, copied_register, register_after, result, same_after, same_kept, same_or}
use Rattle.case_step.specs.Results.{status_after}
use Rattle.case_step.proofs.CounterFrames.{copy_stands, d0_has, d1_has}
use Rattle.case_step.proofs.Frames.{accumulator_frame, copied_frame, flags_frame, flags_of, isar_frame, pointed_is, register_frame}
use Rattle.case_step.proofs.Frames.{both_clear}
use Rattle.case_step.proofs.KnownValues.{isar_has, values_have}

-- ---- events change key bytes and pulses alone

abbrev with_outside : List ℕ → List Mark → Position → Position
with_outside keys pulses x = record x { flat = record x.flat { state = record x.flat.state { keys = keys; pulses = pulses } } }

allows_outside : (e : EntryView) (keys : List ℕ) (pulses : List Mark) (x : Position) → Allows e x → Allows e (with_outside keys pulses x)
allows_outside e keys pulses x h = record {
  at = h.at;
  ret = h.ret;
  accumulator = h.accumulator;
  isar = h.isar;
  status = h.status;
  d0 = h.d0;
  d1 = h.d1;
  copies = h.copies;
  same = h.same;
  scratchpad = h.scratchpad;
}

stands_inside : (to : Invariant) (keys : List ℕ) (pulses : List Mark) (x : Position) → StandsFor to (with_outside keys pulses x) →
    StandsFor to x
stands_inside to keys pulses x h =
    record { at = h.at; ret = h.ret; registers = h.registers; counters = h.counters; copies = h.copies }

-- what an entry allows before them it allows behind them, and what holds behind them holds before them
record PassesBy (x y : Position) : Type 0 where
  pub allows : (e : EntryView) → Allows e x → Allows e y
  pub stands : (to : Invariant) → StandsFor to y → StandsFor to x

outside_passes : (keys : List ℕ) (pulses : List Mark) (x : Position) → PassesBy x (with_outside keys pulses x)
outside_passes keys pulses x =
    record { allows = λ e. allows_outside e keys pulses x; stands = λ to. stands_inside to keys pulses x }

pulse_passes : (o : Option ℕ) (x : Position) → PassesBy x (pulse_in o x)
pulse_passes None x = record { allows = λ e h. h; stands = λ to h. h }
pulse_passes (Some socket) x = outside_passes x.flat.state.keys _ x

event_passes : (event : Event) (x : Position) → PassesBy x (with_event event x)
event_passes (Keys port byte) x = outside_passes _ x.flat.state.pulses x
event_passes (Pulse chip) x = pulse_passes (slice_get x.chain chip) x

events_pass : (events : List Event) (x : Position) → PassesBy x (with_events events x)
events_pass [] x = record { allows = λ e h. h; stands = λ to h. h }
events_pass (event ∷ events) x =
    let one = event_passes event x in
    let rest = events_pass events (with_event event x) in
    record { allows = λ e h. rest.allows e (one.allows e h); stands = λ to h. one.stands to (rest.stands to h) }

-- ---- the status word

status_stands : (written : Bool) (after before : KnownStatus) (v w : Status) → (written ≡ false → flags_of w ≡ flags_of v) →
    StatusBelow (whole_status v) before → StatusBelow (whole_status w) after →
    StatusBelow (whole_status w) (status_after written after before)
status_stands true after before v w stays old new = new
status_stands false after before v w stays old new =
    let sign : w.sign ≡ v.sign = ap (λ (f : Status). f.sign) (stays refl) in
    let carry : w.carry ≡ v.carry = ap (λ (f : Status). f.carry) (stays refl) in
    let zero_flag : w.zero ≡ v.zero = ap (λ (f : Status). f.zero) (stays refl) in
    let overflow : w.overflow ≡ v.overflow = ap (λ (f : Status). f.overflow) (stays refl) in
    record {
      sign = rw sign old.sign;
      carry = rw carry old.carry;
      zero = rw zero_flag old.zero;
      overflow = rw overflow old.overflow;
      icb = new.icb;
    }

-- ---- the scratchpad

-- each byte has one of the values in its place
abbrev HaveEach : List (Option (List ℕ)) → List ℕ → Type 0
HaveEach values bytes = AllZip (λ vs byte. has vs byte ≡ true) values bytes

each_has : (values : List (Option (List ℕ))) (bytes : List ℕ) → HaveEach values bytes → (number : ℕ) →
    has (slice_index_or values number None) (slice_index bytes number) ≡ true
each_has [] [] h number = refl
each_has [] (byte ∷ bytes) h number = absurd h
each_has (vs ∷ values) [] h number = absurd h
each_has (vs ∷ values) (byte ∷ bytes) h zero = h.0
each_has (vs ∷ values) (byte ∷ bytes) h (suc number) = each_has values bytes h.1 number

have_each : (f : ℕ → Option (List ℕ)) (from n : ℕ) (bytes : List ℕ) → length bytes ≡ n →
    ((number place : ℕ) → number ≡ from + place → has (f number) (slice_index bytes place) ≡ true) →
    HaveEach (map f (range_with_len from n)) bytes
have_each f from zero [] size each = tt
have_each f from zero (byte ∷ bytes) size each = absurd (omega arith)
have_each f from (suc n) [] size each = absurd (omega arith)
have_each f from (suc n) (byte ∷ bytes) size each = (
  each from 0 (omega arith),
  have_each f (from + 1) n bytes (omega arith) (λ number place is. each number (suc place) (omega arith)),
)

same_place : (number place : ℕ) → number ≡ 0 + place → place ≡ number
same_place number place is = omega arith

known_byte : (number : ℕ) (m : Registers) (k : KnownRegisters) → RegistersBelow (whole_registers m) k →
    Below (Some (slice_index m.scratchpad number)) (known_register number k)
known_byte number m k below =
    below_trans (Some (slice_index m.scratchpad number)) (known_register number (whole_registers m)) (known_register number k)
    (register_whole number m) (register_below number (whole_registers m) k below)

-- ---- an instruction

module _ (op : Op) (e : EntryView) (s : AbstractState) (to : Invariant) (here : Position) (range : InRange op) (within : IsInRange here)
    (given : Allows e here) (old : StandsFor (at_entry e s) here) (new : StandsFor to (position_after op here)) where
  abbrev i : Inputs
  i = gets_at op here

  abbrev m : Registers
  m = here.flat.state.registers

  abbrev there : Position
  there = position_after op here

  abbrev after : Registers
  after = there.flat.state.registers

  same_holds : ForSome (same_after op e s) (λ number. slice_index after.scratchpad number ≡ after.accumulator)
  same_holds = by (copied_register (copied op) s) refl
    where
      unwritten : (number : ℕ) → slice_index m.scratchpad number ≡ m.accumulator →
          (writes_accumulator op || is_register_written op s number) ≡ false → slice_index after.scratchpad number ≡ after.accumulator
      unwritten number held neither =
          let apart = both_clear _ _ neither in
          register_frame op i m s old.registers number apart.1 ∙ held ∙ sym (accumulator_frame op i m apart.0)

      by_test : (number : ℕ) (b : Bool) → (writes_accumulator op || is_register_written op s number) ≡ b →
          slice_index m.scratchpad number ≡ m.accumulator →
          ForSome (if b then None else Some number) (λ n. slice_index after.scratchpad n ≡ after.accumulator)
      by_test number true test held n is = absurd (cc)
      by_test number false test held n is =
          let same : number ≡ n = cc in
          subst (λ (k : ℕ). slice_index after.scratchpad k ≡ after.accumulator) same (unwritten number held test)

      by_entry : (o : Option ℕ) → ForSome o (λ n. slice_index m.scratchpad n ≡ m.accumulator) →
          ForSome (same_kept op s o) (λ n. slice_index after.scratchpad n ≡ after.accumulator)
      by_entry None held n is = absurd (cc)
      by_entry (Some number) held n is =
          by_test number (writes_accumulator op || is_register_written op s number) refl (held number refl) n is

      by : (o : Option ℕ) → copied_register (copied op) s ≡ o →
          ForSome (same_or o (same_kept op s e.same)) (λ n. slice_index after.scratchpad n ≡ after.accumulator)
      by None none n is = by_entry e.same given.same n is
      by (Some number) some n is =
          copied_frame op i m s old.registers within.registers.size within.registers.isar range n (some ∙ is)

  copies_stand : AllByRecursion (CopyAllowed (result op e s to) there.flat.state.flow) there.copies
  copies_stand =
      let next = copy_after (row_of op) i in
      let flow = here.flat.state.flow in
      let flow_there = there.flat.state.flow in
      let told = all_unmapped next (CopyTells to.point.ret to.state.counters flow_there) here.copies new.copies in
      let all = all_both (CopyAllowed e flow) _ here.copies given.copies
      (all_both (CopyTells e.ret s.counters flow) (λ (c : Copy). CopyTells to.point.ret to.state.counters flow_there (next c)) here.copies
      old.copies told) in
      all_mapped next (CopyAllowed (result op e s to) flow_there) here.copies
      (all_map _ _ here.copies (λ (c : Copy) h. copy_stands op i e s to flow flow_there c h.0 h.1.0 h.1.1) all)

  registers_have : (number place : ℕ) → number ≡ 0 + place →
      has (register_after op e s to.state number) (slice_index after.scratchpad place) ≡ true
  registers_have number place is = rw (same_place number place is)
      (values_have (is_register_written op s number) (known_register number to.state.registers) (known_register number s.registers)
      (register_values number e) (slice_index m.scratchpad number) (slice_index after.scratchpad number)
      (register_frame op i m s old.registers number) (known_byte number m s.registers old.registers)
      (each_has e.scratchpad m.scratchpad given.scratchpad number) (known_byte number after to.state.registers new.registers))

  pub stands_behind : Allows (result op e s to) there
  unfolding result
  stands_behind =
      let in_range = range_after op here range within in
      record {
        at = new.at;
        ret = new.ret;
        accumulator = values_have (writes_accumulator op) to.state.registers.accumulator s.registers.accumulator e.accumulator
            m.accumulator after.accumulator (accumulator_frame op i m) old.registers.accumulator given.accumulator
            new.registers.accumulator;
        isar = isar_has (writes_isar op) _ _ e.isar m.isar after.isar (isar_frame op i m) (pointed_is m s old.registers) given.isar
            (pointed_is after to.state new.registers) in_range.registers.isar;
        status = status_stands (writes_flags op) to.state.registers.status s.registers.status m.status after.status (flags_frame op i m)
            old.registers.status new.registers.status;
        d0 = d0_has i e s to.state here.flat.state.flow old.counters given.d0 given.d1 (row_of op) new.counters.d0;
        d1 = d1_has i e s to.state here.flat.state.flow old.counters given.d0 given.d1 (row_of op);
        copies = copies_stand;
        same = same_holds;
        scratchpad = have_each (register_after op e s to.state) 0 64 after.scratchpad in_range.registers.size
            registers_have;
      }

pub result_stands : (op : Op) (e : EntryView) (s : AbstractState) (to : Invariant) (here : Position) (events : List Event) → InRange op →
    IsInRange here → Allows e here → StandsFor (at_entry e s) here → StandsFor to (with_events events (position_after op here)) →
    Allows (result op e s to) (with_events events (position_after op here))
result_stands op e s to here events range within given old new =
    let passes = events_pass events (position_after op here) in
    passes.allows (result op e s to) (stands_behind op e s to here range within given old (passes.stands to new))
