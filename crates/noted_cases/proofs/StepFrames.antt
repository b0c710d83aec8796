-- What an instruction doesn't write stays as it is known.
use Rattle.std.proofs.Common.{◌≡◌, ℕ, zero, suc, ◌+◌, ◌*◌, ◌/◌, ◌%◌, Bool, true, false, ◌&&◌, ◌||◌, List, [], ◌∷◌}
use Rattle.std.proofs.Common.{refl, ap, subst, ◌∙◌, arith}
use Rattle.std.specs.Prelude.{Option, Some, None, if◌then◌else◌, nat_lt, ◌==◌, option_map, slice_index_or}
use Rattle.std.proofs.lemmas.Bool.{eqb-true, eqb-false}
use Rattle.f8_spec.specs.Instructions.{row_of}
use Rattle.f8_spec.specs.declared.instructions.Op.{Op}
use Rattle.f8_spec.specs.declared.instructions.Op.TheVariants.{LrKuA, LrKlA, LrQuA, LrQlA, LrKP, LrQDc, LrHDc, LrJW}
use Rattle.f8_spec.specs.declared.instructions.Op.TheVariants.{Ds, LrAR, LrRA, As, Asd, Xs, Ns}
use Rattle.f8_spec.specs.declared.instructions.Row.{Row}
use Rattle.f8_spec.specs.declared.instructions.Row.TheVariants.{Exchange}
use Rattle.abs_domain.specs.AbstractState.{AbstractState, KnownStatus, KnownRegisters, KnownCounters}
use Rattle.abs_step.specs.Known.{lift2}
use Rattle.abs_step.specs.KnownFlow.{KnownInputs, known_used_byte, known_counters}
use Rattle.abs_step.specs.KnownResults.{BytePair, known_effect, stepped_digit, one_write, pair_writes, field_write, register_writes}
use Rattle.abs_step.specs.MapView.{MapView}
use Rattle.abs_step.specs.RegisterWrites.{known_register, exactly, target_of, target_allows}
use Rattle.abs_step.specs.RegisterWrites.{RegisterWrite, written_from, written_all}
use Rattle.abs_step.specs.Successors.{Invariant, inputs_at, state_after}
use Rattle.case_step.specs.Cases.{register_in}
use Rattle.case_step.specs.Effects.{named, steps_isar, writes_accumulator, writes_flags, writes_isar, registers_written, writes_data}
use Rattle.case_step.specs.Results.{is_register, is_register_written}
use Rattle.case_step.specs.declared.part.Part.TheVariants.{Register, Pointed}
use Rattle.case_step.proofs.Frames.{both_clear}

-- ---- the accumulator, the flags and ISAR

accumulator_kept : (op : Op) (byte : Option ℕ) (k : KnownRegisters) → writes_accumulator op ≡ false →
    (known_effect op byte k).accumulator ≡ k.accumulator
unfolding known_effect writes_accumulator
accumulator_kept LrKP byte k kept = refl
accumulator_kept op byte k kept = cc

-- the status word but for the interrupt control bit
abbrev flags_of : KnownStatus → KnownStatus
flags_of w = record w { icb = None }

flags_kept : (op : Op) (byte : Option ℕ) (k : KnownRegisters) → writes_flags op ≡ false →
    flags_of (known_effect op byte k).status ≡ flags_of k.status
unfolding known_effect writes_flags
flags_kept LrKP byte k kept = refl
flags_kept op byte k kept = cc

high_kept : (op : Op) (byte : Option ℕ) (k : KnownRegisters) → writes_isar op ≡ false → (known_effect op byte k).high ≡ k.high
unfolding known_effect writes_isar
high_kept LrKP byte k kept = refl
high_kept op byte k kept = cc

pub digit_kept : (field : ℕ) (low : Option ℕ) → steps_isar field ≡ false → stepped_digit field low ≡ low
digit_kept field low kept = by (field == 13) (field == 14) kept
  where
    by : (up down : Bool) → (up || down) ≡ false →
        (if up then option_map (λ digit. (digit + 1) % 8) low else if down then option_map (λ digit. (digit + 7) % 8) low else low) ≡ low
    by true down neither = absurd (cc)
    by false true neither = absurd (cc)
    by false false neither = refl

low_kept : (op : Op) (byte : Option ℕ) (k : KnownRegisters) → writes_isar op ≡ false → (known_effect op byte k).low ≡ k.low
unfolding known_effect writes_isar
low_kept (Ds r) byte k kept = digit_kept r k.low kept
low_kept (LrAR r) byte k kept = digit_kept r k.low kept
low_kept (LrRA r) byte k kept = digit_kept r k.low kept
low_kept (As r) byte k kept = digit_kept r k.low kept
low_kept (Asd r) byte k kept = digit_kept r k.low kept
low_kept (Xs r) byte k kept = digit_kept r k.low kept
low_kept (Ns r) byte k kept = digit_kept r k.low kept
low_kept op byte k kept = cc

-- ---- registers

-- a register that a write can't be to
module _ (w : RegisterWrite) where
  past : (b : Bool) (new old : Option ℕ) → b ≡ false → (if b then new else old) ≡ old
  past true new old other = absurd (cc)
  past false new old other = refl

  beside_from : (n k number : ℕ) (xs : List (Option ℕ)) → number ≡ n + k → target_allows w.target number ≡ false →
      slice_index_or (written_from n w xs) k None ≡ slice_index_or xs k None
  beside_from n k number [] at other = refl
  beside_from n zero number (x ∷ xs) at other =
      let here : number ≡ n = omega arith in
      past (target_allows w.target n) _ x (subst (λ (place : ℕ). target_allows w.target place ≡ false) here other)
  beside_from n (suc k) number (x ∷ xs) at other = beside_from (n + 1) k number xs (omega arith) other

  beside : (xs : List (Option ℕ)) (number : ℕ) → target_allows w.target number ≡ false →
      slice_index_or (written_from 0 w xs) number None ≡ slice_index_or xs number None
  beside xs number other = beside_from 0 number number xs (omega arith) other

-- two numbers differ in one of their octal digits
digits_apart : (high low number : ℕ) → (high * 8 + low == number) ≡ false → ((high == number / 8) && (low == number % 8)) ≡ false
digits_apart high low number other = by (high == number / 8) refl (low == number % 8) refl
  where
    by : (a : Bool) → (high == number / 8) ≡ a → (b : Bool) → (low == number % 8) ≡ b → (a && b) ≡ false
    by true upper true lower =
        let first : high ≡ number / 8 = eqb-true high (number / 8) upper in
        let second : low ≡ number % 8 = eqb-true low (number % 8) lower in
        absurd (eqb-false (high * 8 + low) number other (omega arith))
    by true upper false lower = refl
    by false upper b lower = refl

not_exactly : (place number : ℕ) → (place == number) ≡ false → target_allows (exactly place) number ≡ false
not_exactly place number other =
    let whole : place / 8 * 8 + place % 8 ≡ place = omega arith in
    digits_apart (place / 8) (place % 8) number (ap (λ (it : ℕ). it == number) whole ∙ other)

not_pointed : (high low : Option ℕ) (number : ℕ) → is_register (lift2 (λ h l. h * 8 + l) high low) number ≡ false →
    target_allows (record { high = high; low = low }) number ≡ false
not_pointed None low number other = absurd (cc)
not_pointed (Some high) None number other = absurd (cc)
not_pointed (Some high) (Some low) number other = digits_apart high low number other

module _ (s : AbstractState) (number : ℕ) where
  not_named : (field : ℕ) → is_register (register_in (named field) s) number ≡ false →
      target_allows (target_of field s.registers) number ≡ false
  not_named field other = by (nat_lt field 12) other
    where
      by : (b : Bool) → is_register (register_in (if b then Register field else Pointed) s) number ≡ false →
          target_allows (if b then exactly field else record { high = s.registers.high; low = s.registers.low }) number ≡ false
      by true beside_it = not_exactly field number beside_it
      by false beside_it = not_pointed s.registers.high s.registers.low number beside_it

  abbrev Keeps : List RegisterWrite → Type 0
  Keeps ws = slice_index_or (written_all ws s.registers.scratchpad) number None ≡ slice_index_or s.registers.scratchpad number None

  by_number : (place : ℕ) (value : Option ℕ) → ((place == number) || false) ≡ false → Keeps (one_write place value)
  by_number place value other =
      beside (record { target = exactly place; value = value }) s.registers.scratchpad number
      (not_exactly place number (both_clear _ _ other).0)

  by_pair : (place : ℕ) (bytes : BytePair) → ((place == number) || ((place + 1 == number) || false)) ≡ false →
      Keeps (pair_writes place bytes)
  by_pair place bytes other =
      let apart = both_clear _ _ other in
      let first : RegisterWrite = record { target = exactly place; value = bytes.high } in
      let second : RegisterWrite = record { target = exactly (place + 1); value = bytes.low } in
      beside second (written_from 0 first s.registers.scratchpad) number (not_exactly (place + 1) number (both_clear _ _ apart.1).0)
      ∙ beside first s.registers.scratchpad number (not_exactly place number apart.0)

  by_field : (field : ℕ) (value : Option ℕ) → (is_register (register_in (named field) s) number || false) ≡ false →
      Keeps (field_write field value s.registers)
  by_field field value other =
      beside (record { target = target_of field s.registers; value = value }) s.registers.scratchpad number
      (not_named field (both_clear _ _ other).0)

  register_kept : (op : Op) (stack counter : BytePair) → is_register_written op s number ≡ false →
      Keeps (register_writes op stack counter s.registers)
  unfolding register_writes registers_written
  register_kept LrKuA stack counter kept = by_number 12 _ kept
  register_kept LrKlA stack counter kept = by_number 13 _ kept
  register_kept LrQuA stack counter kept = by_number 14 _ kept
  register_kept LrQlA stack counter kept = by_number 15 _ kept
  register_kept LrKP stack counter kept = by_pair 12 _ kept
  register_kept LrQDc stack counter kept = by_pair 14 _ kept
  register_kept LrHDc stack counter kept = by_pair 10 _ kept
  register_kept LrJW stack counter kept = by_number 9 _ kept
  register_kept (Ds r) stack counter kept = by_field r _ kept
  register_kept (LrRA r) stack counter kept = by_field r _ kept
  register_kept op stack counter kept = refl

-- ---- the data counters

d0_kept : (row : Row) (i : KnownInputs) (k : KnownCounters) → writes_data row ≡ false → (row ≡ Exchange → ⊥) →
    (known_counters row i k).d0 ≡ k.d0
d0_kept Exchange i k kept other = absurd (other refl)
d0_kept row i k kept other = cc

c_kept : (row : Row) (i : KnownInputs) (k : KnownCounters) → writes_data row ≡ false → (known_counters row i k).c ≡ k.c
c_kept Exchange i k kept = refl
c_kept row i k kept = cc

d1_kept : (row : Row) (i : KnownInputs) (k : KnownCounters) → (row ≡ Exchange → ⊥) → (known_counters row i k).d1 ≡ k.d1
d1_kept Exchange i k other = absurd (other refl)
d1_kept row i k other = refl

-- ---- behind an instruction

module _ (op : Op) (m : MapView) (x : Invariant) where
  abbrev used : Option ℕ
  used = known_used_byte (row_of op) (inputs_at op m x)

  pub accumulator_stays : writes_accumulator op ≡ false → (state_after op m x).registers.accumulator ≡ x.state.registers.accumulator
  accumulator_stays kept = accumulator_kept op used x.state.registers kept

  pub sign_stays : writes_flags op ≡ false → (state_after op m x).registers.status.sign ≡ x.state.registers.status.sign
  sign_stays kept = ap (λ (w : KnownStatus). w.sign) (flags_kept op used x.state.registers kept)

  pub carry_stays : writes_flags op ≡ false → (state_after op m x).registers.status.carry ≡ x.state.registers.status.carry
  carry_stays kept = ap (λ (w : KnownStatus). w.carry) (flags_kept op used x.state.registers kept)

  pub zero_stays : writes_flags op ≡ false → (state_after op m x).registers.status.zero ≡ x.state.registers.status.zero
  zero_stays kept = ap (λ (w : KnownStatus). w.zero) (flags_kept op used x.state.registers kept)

  pub overflow_stays : writes_flags op ≡ false → (state_after op m x).registers.status.overflow ≡ x.state.registers.status.overflow
  overflow_stays kept = ap (λ (w : KnownStatus). w.overflow) (flags_kept op used x.state.registers kept)

  pub high_stays : writes_isar op ≡ false → (state_after op m x).registers.high ≡ x.state.registers.high
  high_stays kept = high_kept op used x.state.registers kept

  pub low_stays : writes_isar op ≡ false → (state_after op m x).registers.low ≡ x.state.registers.low
  low_stays kept = low_kept op used x.state.registers kept

  pub register_stays : (number : ℕ) → is_register_written op x.state number ≡ false →
      known_register number (state_after op m x).registers ≡ known_register number x.state.registers
  register_stays number kept =
      register_kept x.state number op (inputs_at op m x).stack_bytes (inputs_at op m x).counter_bytes kept

  pub d0_stays : writes_data (row_of op) ≡ false → (row_of op ≡ Exchange → ⊥) →
      (state_after op m x).counters.d0 ≡ x.state.counters.d0
  d0_stays kept other = d0_kept (row_of op) (inputs_at op m x) x.state.counters kept other

  pub c_stays : writes_data (row_of op) ≡ false → (state_after op m x).counters.c ≡ x.state.counters.c
  c_stays kept = c_kept (row_of op) (inputs_at op m x) x.state.counters kept

  pub d1_stays : (row_of op ≡ Exchange → ⊥) → (state_after op m x).counters.d1 ≡ x.state.counters.d1
  d1_stays other = d1_kept (row_of op) (inputs_at op m x) x.state.counters other

  -- XDC exchanges D0 and D1
  pub exchanged : row_of op ≡ Exchange →
      ((state_after op m x).counters.d0 ≡ x.state.counters.d1) × ((state_after op m x).counters.d1 ≡ x.state.counters.d0)
  exchanged is = rw is (refl, refl)
