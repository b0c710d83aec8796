-- Where all is known, what is known after an instruction is what the flat machine has; so that it is right of every state that less is
-- known of.
use Rattle.std.proofs.Common.{◌≡◌, ℕ, zero, suc, ◌+◌, ◌*◌, ◌/◌, ◌%◌, ◌<◌, Bool, true}
use Rattle.std.proofs.Common.{false, List, [], ◌∷◌, map, refl, ap, sym, subst, arith}
use Rattle.std.specs.Prelude.{Option, Some, None, nat_lt, if◌then◌else◌, slice_index}
use Rattle.std.specs.Prelude.{slice_index_or, slice_set, ◌==◌, bit_and, bit_xor, option_map}
use Rattle.std.specs.List.{AllZip}
use Rattle.std.proofs.lemmas.Bool.Decides.{nat_tests}
use Rattle.f8_spec.specs.Words.{sum_value}
use Rattle.f8_spec.specs.Instructions.{InRange, row_of}
use Rattle.f8_spec.specs.declared.instructions.Op.{Op}
use Rattle.f8_spec.specs.declared.instructions.Op.TheVariants.{LrAKu, LrAKl, LrAQu, LrAQl, LrKuA, LrKlA, LrQuA}
use Rattle.f8_spec.specs.declared.instructions.Op.TheVariants.{LrQlA, LrKP, LrAIs, LrQDc, LrHDc, LrWJ, LrJW, Ds, LrAR, LrRA}
use Rattle.f8_spec.specs.declared.instructions.Op.TheVariants.{Lisu, Lisl, As, Asd, Xs, Ns}
use Rattle.console_spec.specs.Processor.{Registers, Inputs, scratch_byte, register_of, field_byte, with_isar_stepped, stepped_isar}
use Rattle.console_spec.specs.Processor.{with_scratch, decremented, effect, used_byte, result_of}
use Rattle.abs_domain.specs.Lattice.{Below}
use Rattle.abs_domain.specs.AbstractState.{KnownRegisters, RegistersBelow}
use Rattle.abs_domain.proofs.Orders.{registers_refl, registers_trans, all_below_refl, status_refl}
use Rattle.abs_step.specs.RegisterWrites.{known_register, known_field, Target, exactly}
use Rattle.abs_step.specs.RegisterWrites.{target_of, RegisterWrite, target_allows, written_from}
use Rattle.abs_step.specs.KnownResults.{known_after_sum, known_effect, BytePair, register_writes, known_result, with_digit_stepped}
use Rattle.abs_step.specs.Concretization.{whole_status, whole_registers}
use Rattle.abs_step.proofs.Knowing.{below_map}
use Rattle.abs_step.proofs.Scratchpads.{written_from_below}
use Rattle.abs_step.proofs.Effects.{PairBelow, results_below}
use Rattle.abs_step.proofs.Effects.{with_accumulator, with_status, with_digits, status_of_below, sum_status, sum_below}
use Rattle.abs_step.proofs.Effects.{decimal_below, logic_below, stepped_below}

-- ---- the register that a number names

digits_of : (n : ℕ) → n / 8 * 8 + n % 8 ≡ n
digits_of n = omega arith

allows_itself : (n : ℕ) → target_allows (exactly n) n ≡ true
allows_itself n = grind (arith, nat_tests)

allows_no_other : (r n : ℕ) → n < r → target_allows (exactly r) n ≡ false
allows_no_other r n less = grind (arith, nat_tests)

allows_none_past : (r n : ℕ) → r < n → target_allows (exactly r) n ≡ false
allows_none_past r n less = grind (arith, nat_tests)

-- ---- reads

pub read_at : (n : ℕ) (xs : List ℕ) → Below (Some (slice_index xs n)) (slice_index_or (map Some xs) n None)
read_at n [] = tt
read_at zero (x ∷ xs) = refl
read_at (suc n) (x ∷ xs) = read_at n xs

pub register_whole : (n : ℕ) (m : Registers) → Below (Some (scratch_byte n m)) (known_register n (whole_registers m))
register_whole n m = read_at n m.scratchpad

pub target_whole : (field : ℕ) (m : Registers) → target_of field (whole_registers m) ≡ exactly (register_of field m)
target_whole field m = by (nat_lt field 12)
  where
    by : (b : Bool) → (if b then exactly field else record { high = Some (m.isar / 8); low = Some (m.isar % 8) })
        ≡ exactly (if b then field else m.isar)
    by true = refl
    by false = refl

pub field_whole : (field : ℕ) (m : Registers) → Below (Some (field_byte field m)) (known_field field (whole_registers m))
field_whole field m =
    rw (target_whole field m, digits_of (register_of field m)) (read_at (register_of field m) m.scratchpad)

-- ---- writes

abbrev known_write : ℕ → ℕ → RegisterWrite
known_write number byte = record { target = exactly number; value = Some byte }

written_past : (r n byte : ℕ) (xs : List ℕ) → r < n → written_from n (known_write r byte) (map Some xs) ≡ map Some xs
written_past r n byte [] less = refl
written_past r n byte (x ∷ xs) less = rw (allows_none_past r n less, written_past r (n + 1) byte xs (omega arith)) refl

-- k places on from n
written_at : (r n k byte : ℕ) (xs : List ℕ) → r ≡ n + k →
    written_from n (known_write r byte) (map Some xs) ≡ map Some (slice_set xs k byte)
written_at r n k byte [] e = refl
written_at r n zero byte (x ∷ xs) e =
    let here : r ≡ n = omega arith in
    rw (here, allows_itself n, written_past n (n + 1) byte xs (omega arith)) refl
written_at r n (suc k) byte (x ∷ xs) e =
    rw (allows_no_other r n (omega arith), written_at r (n + 1) k byte xs (omega arith)) refl

-- a write to the register, of the byte or of what is known of it
pub written_whole : (t : Target) (value : Option ℕ) (number byte : ℕ) (xs : List ℕ) → t ≡ exactly number → Below (Some byte) value →
    AllZip Below (map Some (slice_set xs number byte)) (written_from 0 (record { target = t; value = value }) (map Some xs))
written_whole t value number byte xs at p =
    subst (λ (ys : List (Option ℕ)). AllZip Below ys (written_from 0 (record { target = t; value = value }) (map Some xs)))
    (written_at number 0 number byte xs (omega arith))
    (written_from_below 0 (known_write number byte) (record { target = t; value = value }) (map Some xs) (map Some xs)
    (record { target = rw at (record { high = refl; low = refl }); value = p }) (all_below_refl (map Some xs)))

-- ---- ISAR

stepped_high : (field isar : ℕ) → stepped_isar field isar / 8 ≡ isar / 8
stepped_high field isar = by (field == 13) (field == 14)
  where
    by : (up down : Bool) →
        (if up then isar / 8 * 8 + (isar + 1) % 8 else if down then isar / 8 * 8 + (isar + 7) % 8 else isar) / 8 ≡ isar / 8
    by true down = omega arith
    by false true = omega arith
    by false false = refl

stepped_low : (field isar : ℕ) → Below (Some (stepped_isar field isar % 8))
    (if field == 13 then Some ((isar % 8 + 1) % 8) else if field == 14 then Some ((isar % 8 + 7) % 8) else Some (isar % 8))
stepped_low field isar = by (field == 13) (field == 14)
  where
    by : (up down : Bool) → Below
        (Some ((if up then isar / 8 * 8 + (isar + 1) % 8 else if down then isar / 8 * 8 + (isar + 7) % 8 else isar) % 8))
        (if up then Some ((isar % 8 + 1) % 8) else if down then Some ((isar % 8 + 7) % 8) else Some (isar % 8))
    by true down = ap Some (omega arith)
    by false true = ap Some (omega arith)
    by false false = refl

-- a field that steps ISAR, over registers that are told
stepped_over : (field : ℕ) (m : Registers) (k : KnownRegisters) → RegistersBelow (whole_registers m) k →
    RegistersBelow (whole_registers (with_isar_stepped field m)) (with_digit_stepped field k)
stepped_over field m k h = registers_trans (whole_registers (with_isar_stepped field m)) (with_digit_stepped field (whole_registers m)) _
    (record {
      accumulator = refl;
      high = ap Some (stepped_high field m.isar);
      low = stepped field m.isar;
      status = status_refl _;
      scratchpad = all_below_refl _;
    })
    (stepped_below field (whole_registers m) k h)
  where
    stepped : (field isar : ℕ) → Below (Some (stepped_isar field isar % 8))
        (if field == 13 then option_map (λ digit. (digit + 1) % 8) (Some (isar % 8)) else
        if field == 14 then option_map (λ digit. (digit + 7) % 8) (Some (isar % 8)) else Some (isar % 8))
    stepped field isar = stepped_low field isar

-- ---- instructions

-- with another accumulator, and with another scratchpad
accumulator_whole : (v : ℕ) (x : Option ℕ) (m : Registers) → Below (Some v) x →
    RegistersBelow (whole_registers (record m { accumulator = v })) (record (whole_registers m) { accumulator = x })
accumulator_whole v x m p = with_accumulator (Some v) x (whole_registers m) (whole_registers m) p (registers_refl (whole_registers m))

scratchpad_whole : (xs : List ℕ) (ys : List (Option ℕ)) (m : Registers) → AllZip Below (map Some xs) ys →
    RegistersBelow (whole_registers (record m { scratchpad = xs })) (record (whole_registers m) { scratchpad = ys })
scratchpad_whole xs ys m p = record { accumulator = refl; high = refl; low = refl; status = status_refl _; scratchpad = p }

one_whole : (number byte : ℕ) (x : Option ℕ) (m : Registers) → Below (Some byte) x →
    RegistersBelow (whole_registers (with_scratch number byte m))
    (record (whole_registers m) { scratchpad = written_from 0 (record { target = exactly number; value = x }) (map Some m.scratchpad) })
one_whole number byte x m p = scratchpad_whole _ _ m (written_whole (exactly number) x number byte m.scratchpad refl p)

pair_whole : (number high low : ℕ) (m : Registers) →
    RegistersBelow (whole_registers (with_scratch (number + 1) low (with_scratch number high m)))
    (record (whole_registers m) {
      scratchpad = written_from 0 (known_write (number + 1) low) (written_from 0 (known_write number high) (map Some m.scratchpad));
    })
pair_whole number high low m = scratchpad_whole _ _ m
    (rw (written_at number 0 number high m.scratchpad (omega arith))
    (written_whole (exactly (number + 1)) (Some low) (number + 1) low (slice_set m.scratchpad number high) refl refl))

-- a write by a field
field_written : (field byte : ℕ) (x : Option ℕ) (m : Registers) → Below (Some byte) x →
    AllZip Below (map Some (with_scratch (register_of field m) byte m).scratchpad)
    (written_from 0 (record { target = target_of field (whole_registers m); value = x }) (map Some m.scratchpad))
field_written field byte x m p =
    written_whole (target_of field (whole_registers m)) x (register_of field m) byte m.scratchpad (target_whole field m) p

-- a register less 1, before ISAR is stepped
abbrev known_decremented : ℕ → KnownRegisters → KnownRegisters
known_decremented field k = record k {
  status = known_after_sum k.status (known_field field k) (Some 255) (Some false);
  scratchpad = written_from 0
      (record { target = target_of field k; value = option_map (λ byte. sum_value byte 255 false) (known_field field k) }) k.scratchpad;
}

decrement_whole : (field : ℕ) (m : Registers) →
    RegistersBelow (whole_registers (decremented field m)) (known_decremented field (whole_registers m))
decrement_whole field m = record {
  accumulator = refl;
  high = refl;
  low = refl;
  status = sum_status (whole_status m.status) (whole_status m.status) (Some (field_byte field m)) (known_field field (whole_registers m))
      (Some 255) (Some 255) (Some false) (Some false) (status_refl (whole_status m.status)) (field_whole field m) refl refl;
  scratchpad = field_written field _ _ m
      (below_map (λ byte. sum_value byte 255 false) (Some (field_byte field m)) (known_field field (whole_registers m))
      (field_whole field m));
}

-- the two bytes, known
abbrev pub whole_pair : ℕ → ℕ → BytePair
whole_pair high low = record { high = Some high; low = Some low }

pub result_whole : (op : Op) (i : Inputs) (m : Registers) → InRange op →
    RegistersBelow (whole_registers (result_of op i m))
    (known_result op (Some (used_byte (row_of op) i)) (whole_pair i.stack_high i.stack_low) (whole_pair i.data_high i.data_low)
    (whole_registers m))
unfolding effect known_effect register_writes
result_whole LrAKu i m range = accumulator_whole _ _ m (register_whole 12 m)
result_whole LrAKl i m range = accumulator_whole _ _ m (register_whole 13 m)
result_whole LrAQu i m range = accumulator_whole _ _ m (register_whole 14 m)
result_whole LrAQl i m range = accumulator_whole _ _ m (register_whole 15 m)
result_whole LrKuA i m range = one_whole 12 m.accumulator (Some m.accumulator) m refl
result_whole LrKlA i m range = one_whole 13 m.accumulator (Some m.accumulator) m refl
result_whole LrQuA i m range = one_whole 14 m.accumulator (Some m.accumulator) m refl
result_whole LrQlA i m range = one_whole 15 m.accumulator (Some m.accumulator) m refl
result_whole LrKP i m range = pair_whole 12 i.stack_high i.stack_low m
result_whole LrQDc i m range = pair_whole 14 i.data_high i.data_low m
result_whole LrHDc i m range = pair_whole 10 i.data_high i.data_low m
result_whole LrAIs i m range = accumulator_whole _ _ m (ap Some (sym (digits_of m.isar)))
result_whole LrWJ i m range = with_status _ _ (whole_registers m) (whole_registers m)
    (status_of_below _ _ (register_whole 9 m)) (registers_refl (whole_registers m))
result_whole LrJW i m range = one_whole 9 _ (Some _) m refl
result_whole (Lisu n) i m range = with_digits _ _ _ _ (whole_registers m) (whole_registers m)
    (ap Some (omega arith)) (ap Some (omega arith)) (registers_refl (whole_registers m))
result_whole (Lisl n) i m range = with_digits _ _ _ _ (whole_registers m) (whole_registers m)
    (ap Some (omega arith)) (ap Some (omega arith)) (registers_refl (whole_registers m))
result_whole (Ds r) i m range = stepped_over r (decremented r m) (known_decremented r (whole_registers m)) (decrement_whole r m)
result_whole (LrAR r) i m range = stepped_over r _ _ (accumulator_whole _ _ m (field_whole r m))
result_whole (LrRA r) i m range = stepped_over r (with_scratch (register_of r m) m.accumulator m) _
    (scratchpad_whole _ _ m (field_written r m.accumulator (Some m.accumulator) m refl))
result_whole (As r) i m range = stepped_over r _ _
    (sum_below _ _ _ _ (whole_registers m) (whole_registers m) (field_whole r m) refl (registers_refl (whole_registers m)))
result_whole (Asd r) i m range = stepped_over r _ _
    (decimal_below _ _ (whole_registers m) (whole_registers m) (field_whole r m) (registers_refl (whole_registers m)))
result_whole (Xs r) i m range = stepped_over r _ _
    (logic_below bit_xor _ _ (whole_registers m) (whole_registers m) (field_whole r m) (registers_refl (whole_registers m)))
result_whole (Ns r) i m range = stepped_over r _ _
    (logic_below bit_and _ _ (whole_registers m) (whole_registers m) (field_whole r m) (registers_refl (whole_registers m)))
result_whole op i m range = registers_refl _

-- what is known above these is told of the registers after the instruction
pub results_tell : (op : Op) (i : Inputs) (m : Registers) (x : Option ℕ) (stack counter : BytePair) (k : KnownRegisters) → InRange op →
    Below (Some (used_byte (row_of op) i)) x → PairBelow (whole_pair i.stack_high i.stack_low) stack →
    PairBelow (whole_pair i.data_high i.data_low) counter → RegistersBelow (whole_registers m) k →
    RegistersBelow (whole_registers (result_of op i m)) (known_result op x stack counter k)
results_tell op i m x stack counter k range p q r h = registers_trans (whole_registers (result_of op i m)) _ _
    (result_whole op i m range) (results_below op _ x _ stack _ counter (whole_registers m) k p q r h)
