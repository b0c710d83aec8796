-- What an instruction doesn't write is known behind it as before it, in a state that says no more than the one behind it.
use Rattle.std.proofs.Common.{◌≡◌, ℕ, Bool, true, false, ◌||◌, List, [], ◌∷◌, refl, ap, sym, ◌∙◌, subst, ◌⊎◌, inl, inr}
use Rattle.std.specs.Prelude.{Option}
use Rattle.std.specs.List.{list_any}
use Rattle.f8_spec.specs.Instructions.{row_of}
use Rattle.f8_spec.specs.declared.instructions.Op.{Op}
use Rattle.f8_spec.specs.declared.instructions.Row.TheVariants.{Exchange}
use Rattle.abs_domain.specs.Lattice.{Below}
use Rattle.abs_domain.specs.AbstractState.{AbstractState, StateBelow}
use Rattle.abs_domain.specs.declared.points.Point.{Point}
use Rattle.abs_domain.proofs.Orders.{below_refl, below_trans, fact_refl, status_refl, all_below_refl}
use Rattle.abs_step.specs.MapView.{MapView}
use Rattle.abs_step.specs.RegisterWrites.{known_register}
use Rattle.abs_step.specs.Successors.{Invariant, state_after}
use Rattle.abs_step.specs.Vectors.{with_icb}
use Rattle.abs_step.proofs.SafeBelow.{at_point, after_ordered}
use Rattle.abs_step.proofs.Scratchpads.{TargetBelow, register_below}
use Rattle.case_step.specs.Cases.{register_in}
use Rattle.case_step.specs.Effects.{writes_accumulator, writes_flags, writes_isar, writes_data, registers_written}
use Rattle.case_step.specs.Results.{is_register, is_register_written}
use Rattle.case_step.specs.declared.part.Part.{Part}
use Rattle.case_step.specs.declared.part.Part.TheVariants.{Register, Pointed}
use Rattle.noted_cases.proofs.CasesBelow.{IsCaseUnder, digits_of}
use Rattle.noted_cases.proofs.IsarApart.{reads_isar, without_isar}
use Rattle.noted_cases.proofs.NotedSteps.{untracked, upper_by, upper_of, digits_below, after_upper, after, afters_alike}
use Rattle.noted_cases.proofs.StepFrames.{accumulator_stays, sign_stays, carry_stays, zero_stays, overflow_stays, high_stays, low_stays}
use Rattle.noted_cases.proofs.StepFrames.{register_stays, d0_stays, c_stays, d1_stays, exchanged}

-- Of a part that isn't written under a case the last state says no more than the first one; XDC exchanges D0 and D1.
pub record KeepsParts (op : Op) (c s t : AbstractState) : Type 0 where
  pub accumulator : writes_accumulator op ≡ false → Below s.registers.accumulator t.registers.accumulator
  pub sign : writes_flags op ≡ false → Below s.registers.status.sign t.registers.status.sign
  pub carry : writes_flags op ≡ false → Below s.registers.status.carry t.registers.status.carry
  pub zero : writes_flags op ≡ false → Below s.registers.status.zero t.registers.status.zero
  pub overflow : writes_flags op ≡ false → Below s.registers.status.overflow t.registers.status.overflow
  pub isar : writes_isar op ≡ false → TargetBelow (digits_of s) (digits_of t)
  pub register : (number : ℕ) → is_register_written op c number ≡ false →
      Below (known_register number s.registers) (known_register number t.registers)
  pub d0 : writes_data (row_of op) ≡ false → (row_of op ≡ Exchange → ⊥) → Below s.counters.d0 t.counters.d0
  pub copies : writes_data (row_of op) ≡ false → Below s.counters.c t.counters.c
  pub d1 : (row_of op ≡ Exchange → ⊥) → Below s.counters.d1 t.counters.d1
  pub exchanged : row_of op ≡ Exchange → Below s.counters.d1 t.counters.d0 × Below s.counters.d0 t.counters.d1

-- ---- registers: which are written goes by the case's ISAR

-- the state with the case's ISAR
abbrev with_digits : AbstractState → AbstractState → AbstractState
with_digits c s = record s { registers = record s.registers { high = c.registers.high; low = c.registers.low } }

same_part : (c s : AbstractState) (part : Part) → register_in part (with_digits c s) ≡ register_in part c
same_part c s (Register number) = refl
same_part c s Pointed = refl
same_part c s part = refl

same_parts : (c s : AbstractState) (number : ℕ) (parts : List Part) →
    list_any (λ part. is_register (register_in part (with_digits c s)) number) parts
    ≡ list_any (λ part. is_register (register_in part c) number) parts
same_parts c s number [] = refl
same_parts c s number (part ∷ parts) =
    λ i. is_register (same_part c s part i) number || same_parts c s number parts i

digits_above : (op : Op) (s c : AbstractState) → IsCaseUnder op s c → StateBelow (with_digits c s) (upper_of op s)
digits_above op s c case = by (reads_isar op) refl
  where
    part_of : (t : AbstractState) → Below c.registers.high t.registers.high → Below c.registers.low t.registers.low →
        t ≡ record s { registers = record s.registers { high = t.registers.high; low = t.registers.low } } → StateBelow (with_digits c s) t
    part_of t high low same = subst (StateBelow (with_digits c s)) (sym same) (record {
      registers = record {
        accumulator = below_refl s.registers.accumulator;
        high = high;
        low = low;
        status = status_refl s.registers.status;
        scratchpad = all_below_refl s.registers.scratchpad;
      };
      counters = record {
        d0 = below_refl s.counters.d0;
        d1 = below_refl s.counters.d1;
        c = below_refl s.counters.c;
        s0 = fact_refl s.counters.s0;
        s1 = fact_refl s.counters.s1;
        p0 = fact_refl s.counters.p0;
        p1 = fact_refl s.counters.p1;
      };
    })

    by : (b : Bool) → reads_isar op ≡ b → StateBelow (with_digits c s) (upper_by b s)
    by false apart = part_of (without_isar s) tt tt refl
    by true reads = let digits = digits_below op s c case reads in part_of s digits.0 digits.1 refl

module _ (m : MapView) (p : Point) (s : AbstractState) (op : Op) (c : AbstractState) (case : IsCaseUnder op s c) where
  same_registers : (number : ℕ) →
      known_register number (after_upper m p s op).registers ≡ known_register number (after m p s op).registers
  same_registers number = by (afters_alike m p s op)
    where
      by : (after_upper m p s op ≡ after m p s op)
          ⊎ ((writes_isar op ≡ false) × (after_upper m p s op ≡ without_isar (after m p s op))) →
          known_register number (after_upper m p s op).registers ≡ known_register number (after m p s op).registers
      by (inl same) = ap (λ (t : AbstractState). known_register number t.registers) same
      by (inr same) = ap (λ (t : AbstractState). known_register number t.registers) same.1

  -- a register that the case doesn't write is known behind the state no more than before
  register_kept : (number : ℕ) → is_register_written op c number ≡ false →
      Below (known_register number s.registers) (known_register number (after m p s op).registers)
  register_kept number kept =
      let x : Invariant = at_point (untracked p) (with_digits c s) in
      let unwritten : is_register_written op (with_digits c s) number ≡ false = same_parts c s number (registers_written op) ∙ kept in
      let below = register_below number (state_after op m x).registers (after_upper m p s op).registers
      (after_ordered m (untracked p) (with_digits c s) (upper_of op s) (digits_above op s c case) op).registers in
      let own = subst (λ (o : Option ℕ). Below o (known_register number (after_upper m p s op).registers))
      (register_stays op m x number unwritten) below in
      subst (Below (known_register number s.registers)) (same_registers number) own

  pub keeps_parts : (icb : Option Bool) (t : AbstractState) → StateBelow (with_icb icb (after m p s op)) t → KeepsParts op c s t
  keeps_parts icb t below =
      let x : Invariant = at_point p s in
      let r = below.registers in
      let k = below.counters in
      record {
        accumulator = λ kept. subst (λ o. Below o t.registers.accumulator) (accumulator_stays op m x kept) r.accumulator;
        sign = λ kept. subst (λ o. Below o t.registers.status.sign) (sign_stays op m x kept) r.status.sign;
        carry = λ kept. subst (λ o. Below o t.registers.status.carry) (carry_stays op m x kept) r.status.carry;
        zero = λ kept. subst (λ o. Below o t.registers.status.zero) (zero_stays op m x kept) r.status.zero;
        overflow = λ kept. subst (λ o. Below o t.registers.status.overflow) (overflow_stays op m x kept) r.status.overflow;
        isar = λ kept. record {
          high = subst (λ o. Below o t.registers.high) (high_stays op m x kept) r.high;
          low = subst (λ o. Below o t.registers.low) (low_stays op m x kept) r.low;
        };
        register = λ number kept.
            below_trans (known_register number s.registers) (known_register number (after m p s op).registers)
            (known_register number t.registers)
            (register_kept number kept) (register_below number (with_icb icb (after m p s op)).registers t.registers r);
        d0 = λ kept other. subst (λ o. Below o t.counters.d0) (d0_stays op m x kept other) k.d0;
        copies = λ kept. subst (λ o. Below o t.counters.c) (c_stays op m x kept) k.c;
        d1 = λ other. subst (λ o. Below o t.counters.d1) (d1_stays op m x other) k.d1;
        exchanged = λ is.
            let both = exchanged op m x is in (
              subst (λ o. Below o t.counters.d0) both.0 k.d0,
              subst (λ o. Below o t.counters.d1) both.1 k.d1,
            );
      }
