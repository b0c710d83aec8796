-- An instruction that doesn't read ISAR does the same, but for ISAR, where nothing is known of ISAR.
use Rattle.std.proofs.Common.{◌≡◌, ℕ, ◌<◌, ◌/◌, ◌%◌, arith, Bool, true, false, ◌||◌, List, [], ◌∷◌, ◌++◌, refl, ap, sym, subst, ◌∙◌}
use Rattle.std.specs.Prelude.{Option, Some, None, if◌then◌else◌, nat_lt, ◌==◌, option_map, bit_and, bit_xor}
use Rattle.std.specs.List.{list_any}
use Rattle.std.proofs.lemmas.Bool.{ltb-true, eqb-true}
use Rattle.f8_spec.specs.Words.{sum_value}
use Rattle.f8_spec.specs.Instructions.{row_of, row_length}
use Rattle.f8_spec.specs.declared.instructions.Op.{Op}
use Rattle.f8_spec.specs.declared.instructions.Op.TheVariants.{LrAIs, LrIsA, Ds, LrAR, LrRA, Lisu, Lisl, Br7, As, Asd, Xs, Ns}
use Rattle.f8_spec.specs.declared.instructions.Row.{Row}
use Rattle.f8_spec.specs.declared.instructions.Row.TheVariants.{StackFromK, CallK, JumpQ}
use Rattle.abs_domain.specs.AbstractState.{KnownRegisters, AbstractState}
use Rattle.abs_domain.specs.declared.reason.Reason.{Reason}
use Rattle.abs_step.specs.Known.{lift2}
use Rattle.abs_step.specs.KnownFlow.{KnownInputs, known_taken, known_used_byte, known_counters, exits}
use Rattle.abs_step.specs.KnownResults.{BytePair, known_after_sum, with_known_result, with_known_sum, with_known_decimal_sum}
use Rattle.abs_step.specs.KnownResults.{with_digit_stepped, known_effect, field_write, register_writes, known_result}
use Rattle.abs_step.specs.MapView.{MapView}
use Rattle.abs_step.specs.RegisterWrites.{known_field, Target, exactly, target_of, read_target, written_all}
use Rattle.abs_step.specs.Safety.{jump_is_lost, return_is_lost, first_reason, code_reasons, operand_reasons, later_reasons, reasons}
use Rattle.abs_step.specs.Safety.{reason_behind, op_at, unsafe_reason, is_fault_free}
use Rattle.abs_step.specs.Successors.{Invariant, inputs_at, state_after, exits_of}
use Rattle.abs_step.specs.Vectors.{vectors_let_in}
use Rattle.abs_step.specs.WaysOn.{ways_of}
use Rattle.case_step.specs.Effects.{named, pointer, steps_isar, parts_read, writes_isar}
use Rattle.case_step.specs.declared.part.Part.{Part}
use Rattle.case_step.specs.declared.part.Part.TheVariants.{Isar, Register, Pointed}
use Rattle.noted_cases.proofs.StepFrames.{digit_kept}
use Rattle.noted_cases.proofs.WaysAlike.{ways_at}

-- ---- ISAR

-- registers of which all but ISAR is known as it is
abbrev pub bare : KnownRegisters → KnownRegisters
bare k = record k { high = None; low = None }

abbrev pub without_isar : AbstractState → AbstractState
without_isar s = record s { registers = bare s.registers }

-- ISAR is among the parts that an instruction reads
abbrev pub is_isar : Part → Bool
is_isar Isar = true
is_isar part = false

abbrev pub reads_isar : Op → Bool
reads_isar op = list_any is_isar (parts_read op)

-- ---- registers by their fields: one that is named by its number alone

small_by : (b : Bool) (rest : List Part) → list_any is_isar ((if b then [] else Isar ∷ []) ++ rest) ≡ false → b ≡ true
small_by true rest apart = refl
small_by false rest apart = absurd (cc)

small_field : (field : ℕ) (rest : List Part) → list_any is_isar (pointer field ++ rest) ≡ false → nat_lt field 12 ≡ true
small_field field rest apart = small_by (nat_lt field 12) rest apart

small_within : (field : ℕ) (rest : List Part) → list_any is_isar ((pointer field ++ named field ∷ []) ++ rest) ≡ false →
    nat_lt field 12 ≡ true
small_within field rest apart = by (nat_lt field 12) apart
  where
    by : (b : Bool) → list_any is_isar (((if b then [] else Isar ∷ []) ++ (if b then Register field else Pointed) ∷ []) ++ rest) ≡ false →
        b ≡ true
    by true within = refl
    by false within = absurd (cc)

-- such a field doesn't step ISAR
small_is_kept : (field : ℕ) → nat_lt field 12 ≡ true → steps_isar field ≡ false
small_is_kept field small = by (field == 13) refl (field == 14) refl
  where
    low : field < 12
    low = ltb-true field 12 small

    by : (up : Bool) → (field == 13) ≡ up → (down : Bool) → (field == 14) ≡ down → (up || down) ≡ false
    by true first down second = let is : field ≡ 13 = eqb-true field 13 first in absurd (omega (arith, low))
    by false first true second = let is : field ≡ 14 = eqb-true field 14 second in absurd (omega (arith, low))
    by false first false second = refl

target_alike : (field : ℕ) (k : KnownRegisters) → nat_lt field 12 ≡ true → target_of field (bare k) ≡ target_of field k
target_alike field k small = by (nat_lt field 12) small
  where
    by : (b : Bool) → b ≡ true → (if b then exactly field else record { high = None; low = None })
        ≡ (if b then exactly field else record { high = k.high; low = k.low })
    by true is = refl
    by false is = absurd (cc)

field_alike : (field : ℕ) (k : KnownRegisters) → nat_lt field 12 ≡ true → known_field field (bare k) ≡ known_field field k
field_alike field k small = ap (λ (t : Target). read_target t k.scratchpad) (target_alike field k small)

-- ---- the registers but for the scratchpad

-- by what an instruction does with the register, which is apart from ISAR
stepped_apart : (field : ℕ) (k : KnownRegisters) (done : Option ℕ → KnownRegisters → KnownRegisters) → nat_lt field 12 ≡ true →
    ((byte : Option ℕ) → done byte (bare k) ≡ bare (done byte k)) →
    with_digit_stepped field (done (known_field field (bare k)) (bare k)) ≡ bare (with_digit_stepped field (done (known_field field k) k))
stepped_apart field k done small each =
    ap (λ (byte : Option ℕ). with_digit_stepped field (done byte (bare k))) (field_alike field k small)
    ∙ ap (with_digit_stepped field) (each (known_field field k))
    ∙ ap (λ (low : Option ℕ). record (done (known_field field k) k) { high = None; low = low })
    (digit_kept field None (small_is_kept field small))

effect_apart : (op : Op) (byte : Option ℕ) (k : KnownRegisters) → reads_isar op ≡ false → writes_isar op ≡ false →
    known_effect op byte (bare k) ≡ bare (known_effect op byte k)
unfolding known_effect parts_read writes_isar
effect_apart LrAIs byte k apart kept = absurd (cc)
effect_apart LrIsA byte k apart kept = absurd (cc)
effect_apart (Ds r) byte k apart kept =
    stepped_apart r k (λ b l. record l { status = known_after_sum l.status b (Some 255) (Some false) }) (small_field r _ apart) (λ b. refl)
effect_apart (LrAR r) byte k apart kept = stepped_apart r k (λ b l. record l { accumulator = b }) (small_field r _ apart) (λ b. refl)
effect_apart (LrRA r) byte k apart kept = stepped_apart r k (λ b l. l) (small_field r _ apart) (λ b. refl)
effect_apart (Lisu n) byte k apart kept = absurd (cc)
effect_apart (Lisl n) byte k apart kept = absurd (cc)
effect_apart (As r) byte k apart kept = stepped_apart r k (λ b l. with_known_sum b (Some false) l) (small_within r _ apart) (λ b. refl)
effect_apart (Asd r) byte k apart kept = stepped_apart r k with_known_decimal_sum (small_within r _ apart) (λ b. refl)
effect_apart (Xs r) byte k apart kept =
    stepped_apart r k (λ b l. with_known_result (lift2 bit_xor l.accumulator b) l) (small_within r _ apart) (λ b. refl)
effect_apart (Ns r) byte k apart kept =
    stepped_apart r k (λ b l. with_known_result (lift2 bit_and l.accumulator b) l) (small_within r _ apart) (λ b. refl)
effect_apart op byte k apart kept = refl

-- ---- writes to the scratchpad

write_alike : (field : ℕ) (k : KnownRegisters) (value other : Option ℕ) → nat_lt field 12 ≡ true → value ≡ other →
    field_write field value (bare k) ≡ field_write field other k
write_alike field k value other small same =
    λ i. record { target = target_alike field k small i; value = same i } ∷ []

writes_alike : (op : Op) (stack counter : BytePair) (k : KnownRegisters) → reads_isar op ≡ false →
    register_writes op stack counter (bare k) ≡ register_writes op stack counter k
unfolding register_writes parts_read
writes_alike (Ds r) stack counter k apart =
    let small = small_field r _ apart in
    write_alike r k _ _ small (ap (option_map (λ byte. sum_value byte 255 false)) (field_alike r k small))
writes_alike (LrRA r) stack counter k apart = write_alike r k k.accumulator k.accumulator (small_field r _ apart) refl
writes_alike op stack counter k apart = refl

result_apart : (op : Op) (byte : Option ℕ) (stack counter : BytePair) (k : KnownRegisters) → reads_isar op ≡ false →
    writes_isar op ≡ false → known_result op byte stack counter (bare k) ≡ bare (known_result op byte stack counter k)
result_apart op byte stack counter k apart kept = λ i. record (effect_apart op byte k apart kept i) {
  scratchpad = written_all (writes_alike op stack counter k apart i) k.scratchpad;
}

-- ---- what an instruction gets

taken_alike : (op : Op) (k : KnownRegisters) → reads_isar op ≡ false → known_taken op (bare k) ≡ known_taken op k
unfolding parts_read
taken_alike Br7 k apart = absurd (cc)
taken_alike op k apart = refl

-- LR IS,A alone writes ISAR and doesn't read it
alone : (op : Op) → reads_isar op ≡ false → writes_isar op ≡ true → op ≡ LrIsA
unfolding parts_read writes_isar
alone LrIsA apart wrote = refl
alone (Ds r) apart wrote = absurd (cc (small_is_kept r (small_field r _ apart)))
alone (LrAR r) apart wrote = absurd (cc (small_is_kept r (small_field r _ apart)))
alone (LrRA r) apart wrote = absurd (cc (small_is_kept r (small_field r _ apart)))
alone (Lisu n) apart wrote = absurd (cc)
alone (Lisl n) apart wrote = absurd (cc)
alone (As r) apart wrote = absurd (cc (small_is_kept r (small_within r _ apart)))
alone (Asd r) apart wrote = absurd (cc (small_is_kept r (small_within r _ apart)))
alone (Xs r) apart wrote = absurd (cc (small_is_kept r (small_within r _ apart)))
alone (Ns r) apart wrote = absurd (cc (small_is_kept r (small_within r _ apart)))
alone op apart wrote = absurd (cc)

jump_alike : (row : Row) (k : KnownRegisters) → jump_is_lost row (bare k) ≡ jump_is_lost row k
jump_alike CallK k = refl
jump_alike JumpQ k = refl
jump_alike row k = refl

back_alike : (row : Row) (k : KnownRegisters) → return_is_lost row (bare k) ≡ return_is_lost row k
back_alike StackFromK k = refl
back_alike row k = refl

-- ---- behind the instruction

-- what is known after an instruction, by what it gets
abbrev after_with : Op → AbstractState → KnownInputs → AbstractState
after_with op s i = record {
  registers = known_result op (known_used_byte (row_of op) i) i.stack_bytes i.counter_bytes s.registers;
  counters = known_counters (row_of op) i s.counters;
}

-- an invariant with nothing known of ISAR
abbrev pub apart_from : Invariant → Invariant
apart_from x = record x { state = without_isar x.state }

written_apart : (m : MapView) (x : Invariant) → state_after LrIsA m (apart_from x) ≡ state_after LrIsA m x
unfolding known_effect register_writes
written_apart m x = refl

written_digits : (m : MapView) (x : Invariant) →
    ((state_after LrIsA m x).registers.high ≡ None → (state_after LrIsA m x).registers.low ≡ None)
    × ((state_after LrIsA m x).registers.low ≡ None → (state_after LrIsA m x).registers.high ≡ None)
unfolding known_effect
written_digits m x = by x.state.registers.accumulator
  where
    by : (o : Option ℕ) →
        (option_map (λ a. a % 64 / 8) o ≡ None → option_map (λ a. a % 64 % 8) o ≡ None)
        × (option_map (λ a. a % 64 % 8) o ≡ None → option_map (λ a. a % 64 / 8) o ≡ None)
    by None = (λ e. refl, λ e. refl)
    by (Some a) = (λ e. absurd (cc), λ e. absurd (cc))

module _ (op : Op) (m : MapView) (x : Invariant) (apart : reads_isar op ≡ false) where
  inputs_alike : inputs_at op m (apart_from x) ≡ inputs_at op m x
  inputs_alike = λ i. record (inputs_at op m x) { taken = taken_alike op x.state.registers apart i }

  known_apart : writes_isar op ≡ false →
      after_with op (without_isar x.state) (inputs_at op m x) ≡ without_isar (state_after op m x)
  known_apart kept =
      let i : KnownInputs = inputs_at op m x in
      λ j. record {
        registers = result_apart op (known_used_byte (row_of op) i) i.stack_bytes i.counter_bytes x.state.registers apart kept j;
        counters = known_counters (row_of op) i x.state.counters;
      }

  pub apart_kept : writes_isar op ≡ false → state_after op m (apart_from x) ≡ without_isar (state_after op m x)
  apart_kept kept = ap (after_with op (without_isar x.state)) inputs_alike ∙ known_apart kept

  pub apart_written : writes_isar op ≡ true → state_after op m (apart_from x) ≡ state_after op m x
  apart_written wrote =
      subst (λ (o : Op). state_after o m (apart_from x) ≡ state_after o m x) (sym (alone op apart wrote)) (written_apart m x)

  -- both digits are known there, or none is
  pub both_or_none : writes_isar op ≡ true →
      ((state_after op m x).registers.high ≡ None → (state_after op m x).registers.low ≡ None)
      × ((state_after op m x).registers.low ≡ None → (state_after op m x).registers.high ≡ None)
  both_or_none wrote =
      subst (λ (o : Op). ((state_after o m x).registers.high ≡ None → (state_after o m x).registers.low ≡ None)
      × ((state_after o m x).registers.low ≡ None → (state_after o m x).registers.high ≡ None))
      (sym (alone op apart wrote)) (written_digits m x)

  icb_alike : (state_after op m (apart_from x)).registers.status.icb ≡ (state_after op m x).registers.status.icb
  icb_alike = by (writes_isar op) refl
    where
      by : (b : Bool) → writes_isar op ≡ b →
          (state_after op m (apart_from x)).registers.status.icb ≡ (state_after op m x).registers.status.icb
      by true wrote = ap (λ (s : AbstractState). s.registers.status.icb) (apart_written wrote)
      by false kept = ap (λ (s : AbstractState). s.registers.status.icb) (apart_kept kept)

  exits_alike : exits_of op m (apart_from x) ≡ exits_of op m x
  exits_alike = ap (λ (i : KnownInputs). exits (row_of op) i x.point.at x.point.ret) inputs_alike

  pub alike_ways : ways_at op m (apart_from x) ≡ ways_at op m x
  alike_ways = λ j. ways_of (vectors_let_in op m (icb_alike j)) (icb_alike j) (exits_alike j)

  -- ---- reasons

  later_alike : later_reasons op m [] (apart_from x) ≡ later_reasons op m [] x
  later_alike = rw (jump_alike (row_of op) x.state.registers, back_alike (row_of op) x.state.registers, icb_alike) refl

  reasons_alike : reasons op m [] (apart_from x) ≡ reasons op m [] x
  unfolding reasons
  reasons_alike = ap (λ (rs : List (Bool × Reason)). operand_reasons (row_length (row_of op)) m x.point.at ++ rs) later_alike

  pub alike_reasons : op_at m x ≡ Some op → unsafe_reason m [] (apart_from x) ≡ unsafe_reason m [] x
  unfolding unsafe_reason
  alike_reasons is = by (first_reason (code_reasons m x.point.at))
    where
      by : (o : Option Reason) → reason_behind o m [] (apart_from x) ≡ reason_behind o m [] x
      by None = rw is (ap first_reason reasons_alike)
      by (Some reason) = refl

-- whatever the instruction
pub alike_freedom : (m : MapView) (x : Invariant) → is_fault_free m (apart_from x) ≡ is_fault_free m x
unfolding is_fault_free
alike_freedom m x = refl
