-- What an instruction doesn't write of the registers stays as it is; and behind a copy between the accumulator and a register both hold
-- one byte.
use Rattle.std.proofs.Common.{◌≡◌, ℕ, ◌+◌, ◌*◌, ◌/◌, ◌%◌, ◌<◌, Bool, true, false, ◌||◌, List, length, refl, ap, sym, ◌∙◌, arith}
use Rattle.std.specs.Prelude.{Option, Some, None, if◌then◌else◌, nat_lt, ◌==◌, slice_index, slice_set}
use Rattle.std.specs.Option.{ForSome}
use Rattle.std.proofs.lemmas.Bool.{eqb-false}
use Rattle.std.proofs.lemmas.List.{get_or-set_same, get_or-set_other}
use Rattle.f8_spec.specs.Flags.{Status}
use Rattle.f8_spec.specs.Instructions.{InRange}
use Rattle.f8_spec.specs.declared.instructions.Op.{Op}
use Rattle.f8_spec.specs.declared.instructions.Op.TheVariants.{LrAKu, LrAKl, LrAQu, LrAQl, LrKuA, LrKlA, LrQuA, LrQlA}
use Rattle.f8_spec.specs.declared.instructions.Op.TheVariants.{LrKP, LrQDc, LrHDc, LrJW, Ds, LrAR, LrRA, As, Asd, Xs, Ns}
use Rattle.console_spec.specs.Processor.{Registers, Inputs, register_of, stepped_isar, effect, result_of, vectored_by, registers_after}
use Rattle.abs_domain.specs.Lattice.{Below}
use Rattle.abs_domain.specs.AbstractState.{AbstractState, RegistersBelow}
use Rattle.abs_step.specs.Known.{lift2}
use Rattle.abs_step.specs.Concretization.{whole_registers}
use Rattle.case_step.specs.Effects.{named, steps_isar, writes_accumulator, writes_flags, writes_isar, registers_written, copied}
use Rattle.case_step.specs.Cases.{pointed_register, register_in}
use Rattle.case_step.specs.declared.part.Part.TheVariants.{Register, Pointed}
use Rattle.case_step.specs.Results.{is_register, is_register_written, copied_register}

-- ---- the accumulator, the flags and ISAR

accumulator_stays : (op : Op) (i : Inputs) (m : Registers) → writes_accumulator op ≡ false → (result_of op i m).accumulator ≡ m.accumulator
unfolding effect writes_accumulator
accumulator_stays LrKP i m kept = refl
accumulator_stays op i m kept = cc

-- the status word but for the interrupt control bit
abbrev pub flags_of : Status → Status
flags_of w = record w { icb = false }

flags_stay : (op : Op) (i : Inputs) (m : Registers) → writes_flags op ≡ false → flags_of (result_of op i m).status ≡ flags_of m.status
unfolding effect writes_flags
flags_stay LrKP i m kept = refl
flags_stay op i m kept = cc

stepped_stays : (field isar : ℕ) → steps_isar field ≡ false → stepped_isar field isar ≡ isar
stepped_stays field isar kept = by (field == 13) (field == 14) kept
  where
    by : (up down : Bool) → (up || down) ≡ false →
        (if up then isar / 8 * 8 + (isar + 1) % 8 else if down then isar / 8 * 8 + (isar + 7) % 8 else isar) ≡ isar
    by true down neither = absurd (cc)
    by false true neither = absurd (cc)
    by false false neither = refl

isar_stays : (op : Op) (i : Inputs) (m : Registers) → writes_isar op ≡ false → (result_of op i m).isar ≡ m.isar
unfolding effect writes_isar
isar_stays (Ds r) i m kept = stepped_stays r m.isar kept
isar_stays (LrAR r) i m kept = stepped_stays r m.isar kept
isar_stays (LrRA r) i m kept = stepped_stays r m.isar kept
isar_stays (As r) i m kept = stepped_stays r m.isar kept
isar_stays (Asd r) i m kept = stepped_stays r m.isar kept
isar_stays (Xs r) i m kept = stepped_stays r m.isar kept
isar_stays (Ns r) i m kept = stepped_stays r m.isar kept
isar_stays op i m kept = cc

-- ---- the register that is named

pointed_by : (isar : ℕ) (high low : Option ℕ) → Below (Some (isar / 8)) high → Below (Some (isar % 8)) low →
    ForSome (lift2 (λ h l. h * 8 + l) high low) (λ number. isar ≡ number)
pointed_by isar None low p q number is = absurd (cc)
pointed_by isar (Some high) None p q number is = absurd (cc)
pointed_by isar (Some high) (Some low) p q number is =
    let upper : isar / 8 ≡ high = cc in
    let lower : isar % 8 ≡ low = cc in
    let sum : high * 8 + low ≡ number = cc in
    omega arith

pub both_clear : (x y : Bool) → (x || y) ≡ false → (x ≡ false) × (y ≡ false)
both_clear true y neither = absurd (cc)
both_clear false y neither = (refl, neither)

module _ (m : Registers) (s : AbstractState) (below : RegistersBelow (whole_registers m) s.registers) where
  pub pointed_is : ForSome (pointed_register s) (λ number. m.isar ≡ number)
  pointed_is = pointed_by m.isar s.registers.high s.registers.low below.high below.low

  named_is : (field : ℕ) → ForSome (register_in (named field) s) (λ number. register_of field m ≡ number)
  named_is field = by (nat_lt field 12)
    where
      by : (b : Bool) → ForSome (register_in (if b then Register field else Pointed) s) (λ number. (if b then field else m.isar) ≡ number)
      by true number is = cc
      by false number is = pointed_is number is

  -- one that is not written is another one than that which is
  not_it : (o : Option ℕ) (place number : ℕ) → ForSome o (λ it. place ≡ it) → is_register o number ≡ false → (place == number) ≡ false
  not_it None place number is other = absurd (cc)
  not_it (Some it) place number is other = rw (is it refl) other

  other_byte : (xs : List ℕ) (place number byte : ℕ) → (place == number) ≡ false →
      slice_index (slice_set xs place byte) number ≡ slice_index xs number
  other_byte xs place number byte other =
      get_or-set_other xs place number byte 0 (λ (same : number ≡ place). eqb-false place number other (sym same))

  -- by a register of a number, and by a field
  beside : (place number byte : ℕ) → ((place == number) || false) ≡ false →
      slice_index (slice_set m.scratchpad place byte) number ≡ slice_index m.scratchpad number
  beside place number byte other = other_byte m.scratchpad place number byte (both_clear _ _ other).0

  beside_pair : (high low number x y : ℕ) → ((high == number) || ((low == number) || false)) ≡ false →
      slice_index (slice_set (slice_set m.scratchpad high x) low y) number ≡ slice_index m.scratchpad number
  beside_pair high low number x y other =
      let apart = both_clear _ _ other in
      other_byte (slice_set m.scratchpad high x) low number y (both_clear _ _ apart.1).0
      ∙ other_byte m.scratchpad high number x apart.0

  beside_field : (field number byte : ℕ) → (is_register (register_in (named field) s) number || false) ≡ false →
      slice_index (slice_set m.scratchpad (register_of field m) byte) number ≡ slice_index m.scratchpad number
  beside_field field number byte other = other_byte m.scratchpad (register_of field m) number byte
      (not_it (register_in (named field) s) (register_of field m) number (named_is field) (both_clear _ _ other).0)

  register_stays : (op : Op) (i : Inputs) (number : ℕ) → is_register_written op s number ≡ false →
      slice_index (result_of op i m).scratchpad number ≡ slice_index m.scratchpad number
  unfolding effect registers_written
  register_stays LrKuA i number kept = beside 12 number _ kept
  register_stays LrKlA i number kept = beside 13 number _ kept
  register_stays LrQuA i number kept = beside 14 number _ kept
  register_stays LrQlA i number kept = beside 15 number _ kept
  register_stays LrKP i number kept = beside_pair 12 13 number _ _ kept
  register_stays LrQDc i number kept = beside_pair 14 15 number _ _ kept
  register_stays LrHDc i number kept = beside_pair 10 11 number _ _ kept
  register_stays LrJW i number kept = beside 9 number _ kept
  register_stays (Ds r) i number kept = beside_field r number _ kept
  register_stays (LrRA r) i number kept = beside_field r number _ kept
  register_stays op i number kept = refl

  -- ---- copies

  module _ (size : length m.scratchpad ≡ 64) (small : m.isar < 64) where
    set_byte : (place number byte : ℕ) → place < 64 → place ≡ number → slice_index (slice_set m.scratchpad place byte) number ≡ byte
    set_byte place number byte within is = rw (sym is) (get_or-set_same m.scratchpad place byte 0 (omega arith))

    within_field : (field : ℕ) → field < 15 → register_of field m < 64
    within_field field range = by (nat_lt field 12)
      where
        by : (b : Bool) → (if b then field else m.isar) < 64
        by true = omega arith
        by false = small

    copied_alike : (op : Op) (i : Inputs) → InRange op → ForSome (copied_register (copied op) s)
        (λ number. slice_index (result_of op i m).scratchpad number ≡ (result_of op i m).accumulator)
    unfolding effect copied
    copied_alike LrAKu i range number is = ap (slice_index m.scratchpad) cc
    copied_alike LrAKl i range number is = ap (slice_index m.scratchpad) cc
    copied_alike LrAQu i range number is = ap (slice_index m.scratchpad) cc
    copied_alike LrAQl i range number is = ap (slice_index m.scratchpad) cc
    copied_alike LrKuA i range number is = set_byte 12 number m.accumulator (omega arith) cc
    copied_alike LrKlA i range number is = set_byte 13 number m.accumulator (omega arith) cc
    copied_alike LrQuA i range number is = set_byte 14 number m.accumulator (omega arith) cc
    copied_alike LrQlA i range number is = set_byte 15 number m.accumulator (omega arith) cc
    copied_alike (LrAR r) i range number is = ap (slice_index m.scratchpad) (sym (named_is r number is))
    copied_alike (LrRA r) i range number is =
        set_byte (register_of r m) number m.accumulator (within_field r range) (named_is r number is)
    copied_alike op i range number is = absurd (cc)

-- ---- behind the interrupt at the end of an instruction, which clears the interrupt control bit alone

record SameButIcb (m n : Registers) : Type 0 where
  pub accumulator : m.accumulator ≡ n.accumulator
  pub isar : m.isar ≡ n.isar
  pub flags : flags_of m.status ≡ flags_of n.status
  pub scratchpad : m.scratchpad ≡ n.scratchpad

vectored_alike : (chosen : Option ℕ) (m : Registers) → SameButIcb (vectored_by chosen m) m
vectored_alike None m = record { accumulator = refl; isar = refl; flags = refl; scratchpad = refl }
vectored_alike (Some socket) m = record { accumulator = refl; isar = refl; flags = refl; scratchpad = refl }

module _ (op : Op) (i : Inputs) (m : Registers) where
  alike : SameButIcb (registers_after op i m) (result_of op i m)
  alike = vectored_alike i.chosen (result_of op i m)

  pub accumulator_frame : writes_accumulator op ≡ false → (registers_after op i m).accumulator ≡ m.accumulator
  accumulator_frame kept = alike.accumulator ∙ accumulator_stays op i m kept

  pub flags_frame : writes_flags op ≡ false → flags_of (registers_after op i m).status ≡ flags_of m.status
  flags_frame kept = alike.flags ∙ flags_stay op i m kept

  pub isar_frame : writes_isar op ≡ false → (registers_after op i m).isar ≡ m.isar
  isar_frame kept = alike.isar ∙ isar_stays op i m kept

  module _ (s : AbstractState) (below : RegistersBelow (whole_registers m) s.registers) where
    pub register_frame : (number : ℕ) → is_register_written op s number ≡ false →
        slice_index (registers_after op i m).scratchpad number ≡ slice_index m.scratchpad number
    register_frame number kept =
        ap (λ (xs : List ℕ). slice_index xs number) alike.scratchpad ∙ register_stays m s below op i number kept

    pub copied_frame : length m.scratchpad ≡ 64 → m.isar < 64 → InRange op → ForSome (copied_register (copied op) s)
        (λ number. slice_index (registers_after op i m).scratchpad number ≡ (registers_after op i m).accumulator)
    copied_frame size small range number is =
        ap (λ (xs : List ℕ). slice_index xs number) alike.scratchpad ∙ copied_alike m s below size small op i range number is
        ∙ sym alike.accumulator
