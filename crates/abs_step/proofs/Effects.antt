-- What is known after an instruction keeps the order: where less is known before it, no more is after it.
use Rattle.std.proofs.Common.{ℕ, ◌+◌, ◌-◌, ◌%◌, Bool, true, false, refl}
use Rattle.std.specs.Prelude.{Option, Some, bit_and, bit_or, bit_xor, option_map, ◌==◌, if◌then◌else◌}
use Rattle.std.specs.List.{AllZip}
use Rattle.f8_spec.specs.Words.{sum_value, sum_carry, sum_overflow, decimal_value}
use Rattle.f8_spec.specs.Flags.{is_positive, is_zero, status_of}
use Rattle.f8_spec.specs.declared.instructions.Op.{Op}
use Rattle.f8_spec.specs.declared.instructions.Op.TheVariants.{LrAKu, LrAKl, LrAQu, LrAQl, LrKuA, LrKlA, LrQuA}
use Rattle.f8_spec.specs.declared.instructions.Op.TheVariants.{LrQlA, LrKP, LrAIs, LrIsA, LrQDc, LrHDc, Sr1, Sl1, Sr4}
use Rattle.f8_spec.specs.declared.instructions.Op.TheVariants.{Sl4, Lm, Com, Lnk, Di, Ei, LrWJ, LrJW, Inc, Li, Ni, Oi}
use Rattle.f8_spec.specs.declared.instructions.Op.TheVariants.{Xi, Ai, Ci, In, Pi, Jmp, Ds, LrAR, LrRA, Lisu, Lisl, Lis}
use Rattle.f8_spec.specs.declared.instructions.Op.TheVariants.{Am, Amd, Nm, Om, Xm, Cm, Ins, As, Asd, Xs, Ns}
use Rattle.abs_domain.specs.Lattice.{Below}
use Rattle.abs_domain.specs.AbstractState.{KnownStatus, KnownRegisters, StatusBelow, RegistersBelow}
use Rattle.abs_domain.proofs.Orders.{below_refl}
use Rattle.abs_step.specs.Known.{lift2}
use Rattle.abs_step.specs.RegisterWrites.{known_field}
use Rattle.abs_step.specs.KnownResults.{known_after_sum, known_after_result, known_status_of, flags_byte, known_status_byte}
use Rattle.abs_step.specs.KnownResults.{with_known_result, with_known_sum, with_known_decimal_sum, known_compared}
use Rattle.abs_step.specs.KnownResults.{with_digit_stepped, known_effect, BytePair, one_write, pair_writes, field_write, register_writes}
use Rattle.abs_step.specs.KnownResults.{known_result}
use Rattle.abs_step.proofs.Knowing.{below_map, below_lift2, below_lift3}
use Rattle.abs_step.proofs.Scratchpads.{WriteBelow, exactly_below, target_below, register_below, field_below, written_all_below}

-- ---- parts of the registers

pub with_accumulator : (x y : Option ℕ) (k l : KnownRegisters) → Below x y → RegistersBelow k l →
    RegistersBelow (record k { accumulator = x }) (record l { accumulator = y })
with_accumulator x y k l p h = record { accumulator = p; high = h.high; low = h.low; status = h.status; scratchpad = h.scratchpad }

pub with_status : (w v : KnownStatus) (k l : KnownRegisters) → StatusBelow w v → RegistersBelow k l →
    RegistersBelow (record k { status = w }) (record l { status = v })
with_status w v k l p h = record { accumulator = h.accumulator; high = h.high; low = h.low; status = p; scratchpad = h.scratchpad }

pub with_digits : (high low upper lower : Option ℕ) (k l : KnownRegisters) → Below high upper → Below low lower → RegistersBelow k l →
    RegistersBelow (record k { high = high; low = low }) (record l { high = upper; low = lower })
with_digits high low upper lower k l p q h =
    record { accumulator = h.accumulator; high = p; low = q; status = h.status; scratchpad = h.scratchpad }

with_icb : (bit : Option Bool) (w v : KnownStatus) → StatusBelow w v → StatusBelow (record w { icb = bit }) (record v { icb = bit })
with_icb bit w v p = record { sign = p.sign; carry = p.carry; zero = p.zero; overflow = p.overflow; icb = below_refl bit }

-- ---- the status word

pub sum_status : (w v : KnownStatus) (a b x y : Option ℕ) (c d : Option Bool) → StatusBelow w v → Below a b → Below x y → Below c d →
    StatusBelow (known_after_sum w a x c) (known_after_sum v b y d)
sum_status w v a b x y c d h p q r = record {
  sign = below_lift3 (λ s t u. is_positive (sum_value s t u)) a b x y c d p q r;
  carry = below_lift3 sum_carry a b x y c d p q r;
  zero = below_lift3 (λ s t u. is_zero (sum_value s t u)) a b x y c d p q r;
  overflow = below_lift3 sum_overflow a b x y c d p q r;
  icb = h.icb;
}

result_status : (w v : KnownStatus) (x y : Option ℕ) → StatusBelow w v → Below x y →
    StatusBelow (known_after_result w x) (known_after_result v y)
result_status w v x y h p = record {
  sign = below_map is_positive x y p;
  carry = refl;
  zero = below_map is_zero x y p;
  overflow = refl;
  icb = h.icb;
}

pub status_of_below : (x y : Option ℕ) → Below x y → StatusBelow (known_status_of x) (known_status_of y)
status_of_below x y p = record {
  sign = below_map (λ b. (status_of b).sign) x y p;
  carry = below_map (λ b. (status_of b).carry) x y p;
  zero = below_map (λ b. (status_of b).zero) x y p;
  overflow = below_map (λ b. (status_of b).overflow) x y p;
  icb = below_map (λ b. (status_of b).icb) x y p;
}

status_byte_below : (w v : KnownStatus) → StatusBelow w v → Below (known_status_byte w) (known_status_byte v)
status_byte_below w v h =
    below_lift2 (λ (f : Bool → ℕ) icb. f icb) _ _ w.icb v.icb
    (below_lift2 (λ (f : Bool → Bool → ℕ) overflow. f overflow) _ _ w.overflow v.overflow
    (below_lift3 flags_byte w.sign v.sign w.carry v.carry w.zero v.zero h.sign h.carry h.zero) h.overflow) h.icb

-- ---- results

pub result_below : (x y : Option ℕ) (k l : KnownRegisters) → Below x y → RegistersBelow k l →
    RegistersBelow (with_known_result x k) (with_known_result y l)
result_below x y k l p h = record {
  accumulator = p;
  high = h.high;
  low = h.low;
  status = result_status k.status l.status x y h.status p;
  scratchpad = h.scratchpad;
}

-- of a function of the accumulator, and of one of the accumulator and a byte
alone_below : (f : ℕ → ℕ) (k l : KnownRegisters) → RegistersBelow k l →
    RegistersBelow (with_known_result (option_map f k.accumulator) k) (with_known_result (option_map f l.accumulator) l)
alone_below f k l h = result_below _ _ k l (below_map f k.accumulator l.accumulator h.accumulator) h

pub logic_below : (f : ℕ → ℕ → ℕ) (x y : Option ℕ) (k l : KnownRegisters) → Below x y → RegistersBelow k l →
    RegistersBelow (with_known_result (lift2 f k.accumulator x) k) (with_known_result (lift2 f l.accumulator y) l)
logic_below f x y k l p h = result_below _ _ k l (below_lift2 f k.accumulator l.accumulator x y h.accumulator p) h

pub sum_below : (x y : Option ℕ) (c d : Option Bool) (k l : KnownRegisters) → Below x y → Below c d → RegistersBelow k l →
    RegistersBelow (with_known_sum x c k) (with_known_sum y d l)
sum_below x y c d k l p q h = record {
  accumulator = below_lift3 sum_value k.accumulator l.accumulator x y c d h.accumulator p q;
  high = h.high;
  low = h.low;
  status = sum_status k.status l.status k.accumulator l.accumulator x y c d h.status h.accumulator p q;
  scratchpad = h.scratchpad;
}

pub decimal_below : (x y : Option ℕ) (k l : KnownRegisters) → Below x y → RegistersBelow k l →
    RegistersBelow (with_known_decimal_sum x k) (with_known_decimal_sum y l)
decimal_below x y k l p h = record {
  accumulator = below_lift2 decimal_value k.accumulator l.accumulator x y h.accumulator p;
  high = h.high;
  low = h.low;
  status = sum_status k.status l.status k.accumulator l.accumulator x y (Some false) (Some false) h.status h.accumulator p refl;
  scratchpad = h.scratchpad;
}

compared_below : (x y : Option ℕ) (k l : KnownRegisters) → Below x y → RegistersBelow k l →
    RegistersBelow (known_compared x k) (known_compared y l)
compared_below x y k l p h = with_status _ _ k l
    (sum_status k.status l.status x y _ _ (Some true) (Some true) h.status p
    (below_map (λ a. 255 - a) k.accumulator l.accumulator h.accumulator) refl) h

pub stepped_below : (field : ℕ) (k l : KnownRegisters) → RegistersBelow k l →
    RegistersBelow (with_digit_stepped field k) (with_digit_stepped field l)
stepped_below field k l h =
    record {
      accumulator = h.accumulator;
      high = h.high;
      low = by (field == 13) (field == 14);
      status = h.status;
      scratchpad = h.scratchpad;
    }
  where
    by : (up down : Bool) → Below
        (if up then option_map (λ digit. (digit + 1) % 8) k.low else if down then option_map (λ digit. (digit + 7) % 8) k.low else k.low)
        (if up then option_map (λ digit. (digit + 1) % 8) l.low else if down then option_map (λ digit. (digit + 7) % 8) l.low else l.low)
    by true down = below_map _ k.low l.low h.low
    by false true = below_map _ k.low l.low h.low
    by false false = h.low

-- ---- instructions, but for the scratchpad

pub effect_below : (op : Op) (x y : Option ℕ) (k l : KnownRegisters) → Below x y → RegistersBelow k l →
    RegistersBelow (known_effect op x k) (known_effect op y l)
unfolding known_effect
effect_below LrAKu x y k l p h = with_accumulator _ _ k l (register_below 12 k l h) h
effect_below LrAKl x y k l p h = with_accumulator _ _ k l (register_below 13 k l h) h
effect_below LrAQu x y k l p h = with_accumulator _ _ k l (register_below 14 k l h) h
effect_below LrAQl x y k l p h = with_accumulator _ _ k l (register_below 15 k l h) h
effect_below LrAIs x y k l p h = with_accumulator _ _ k l (below_lift2 _ k.high l.high k.low l.low h.high h.low) h
effect_below LrIsA x y k l p h = with_digits _ _ _ _ k l
    (below_map _ k.accumulator l.accumulator h.accumulator) (below_map _ k.accumulator l.accumulator h.accumulator) h
effect_below Sr1 x y k l p h = alone_below _ k l h
effect_below Sl1 x y k l p h = alone_below _ k l h
effect_below Sr4 x y k l p h = alone_below _ k l h
effect_below Sl4 x y k l p h = alone_below _ k l h
effect_below Lm x y k l p h = with_accumulator x y k l p h
effect_below Com x y k l p h = alone_below _ k l h
effect_below Lnk x y k l p h = sum_below (Some 0) (Some 0) k.status.carry l.status.carry k l refl h.status.carry h
effect_below Di x y k l p h = with_status _ _ k l (with_icb (Some false) k.status l.status h.status) h
effect_below Ei x y k l p h = with_status _ _ k l (with_icb (Some true) k.status l.status h.status) h
effect_below LrWJ x y k l p h = with_status _ _ k l (status_of_below _ _ (register_below 9 k l h)) h
effect_below Inc x y k l p h = sum_below (Some 1) (Some 1) (Some false) (Some false) k l refl refl h
effect_below Li x y k l p h = with_accumulator x y k l p h
effect_below Ni x y k l p h = logic_below bit_and x y k l p h
effect_below Oi x y k l p h = logic_below bit_or x y k l p h
effect_below Xi x y k l p h = logic_below bit_xor x y k l p h
effect_below Ai x y k l p h = sum_below x y (Some false) (Some false) k l p refl h
effect_below Ci x y k l p h = compared_below x y k l p h
effect_below In x y k l p h = result_below x y k l p h
effect_below Pi x y k l p h = with_accumulator x y k l p h
effect_below Jmp x y k l p h = with_accumulator x y k l p h
effect_below (Ds r) x y k l p h = stepped_below r _ _ (with_status _ _ k l
    (sum_status k.status l.status (known_field r k) (known_field r l) (Some 255) (Some 255) (Some false) (Some false)
    h.status (field_below r k l h) refl refl) h)
effect_below (LrAR r) x y k l p h = stepped_below r _ _ (with_accumulator _ _ k l (field_below r k l h) h)
effect_below (LrRA r) x y k l p h = stepped_below r k l h
effect_below (Lisu n) x y k l p h = with_digits (Some n) _ (Some n) _ k l refl h.low h
effect_below (Lisl n) x y k l p h = with_digits _ (Some n) _ (Some n) k l h.high refl h
effect_below (Lis n) x y k l p h = with_accumulator (Some n) (Some n) k l refl h
effect_below Am x y k l p h = sum_below x y (Some false) (Some false) k l p refl h
effect_below Amd x y k l p h = decimal_below x y k l p h
effect_below Nm x y k l p h = logic_below bit_and x y k l p h
effect_below Om x y k l p h = logic_below bit_or x y k l p h
effect_below Xm x y k l p h = logic_below bit_xor x y k l p h
effect_below Cm x y k l p h = compared_below x y k l p h
effect_below (Ins n) x y k l p h = result_below x y k l p h
effect_below (As r) x y k l p h =
    stepped_below r _ _ (sum_below _ _ (Some false) (Some false) k l (field_below r k l h) refl h)
effect_below (Asd r) x y k l p h = stepped_below r _ _ (decimal_below _ _ k l (field_below r k l h) h)
effect_below (Xs r) x y k l p h = stepped_below r _ _ (logic_below bit_xor _ _ k l (field_below r k l h) h)
effect_below (Ns r) x y k l p h = stepped_below r _ _ (logic_below bit_and _ _ k l (field_below r k l h) h)
effect_below op x y k l p h = h

-- ---- writes

pub record PairBelow (x y : BytePair) : Type 0 where
  pub high : Below x.high y.high
  pub low : Below x.low y.low

one_below : (number : ℕ) (x y : Option ℕ) → Below x y → AllZip WriteBelow (one_write number x) (one_write number y)
one_below number x y p = (record { target = exactly_below number; value = p }, tt)

pair_below : (number : ℕ) (x y : BytePair) → PairBelow x y → AllZip WriteBelow (pair_writes number x) (pair_writes number y)
pair_below number x y p = (
  record { target = exactly_below number; value = p.high },
  (record { target = exactly_below (number + 1); value = p.low }, tt),
)

field_write_below : (field : ℕ) (x y : Option ℕ) (k l : KnownRegisters) → Below x y → RegistersBelow k l →
    AllZip WriteBelow (field_write field x k) (field_write field y l)
field_write_below field x y k l p h = (record { target = target_below field k l h; value = p }, tt)

pub writes_below : (op : Op) (s t c d : BytePair) (k l : KnownRegisters) → PairBelow s t → PairBelow c d → RegistersBelow k l →
    AllZip WriteBelow (register_writes op s c k) (register_writes op t d l)
unfolding register_writes
writes_below LrKuA s t c d k l p q h = one_below 12 k.accumulator l.accumulator h.accumulator
writes_below LrKlA s t c d k l p q h = one_below 13 k.accumulator l.accumulator h.accumulator
writes_below LrQuA s t c d k l p q h = one_below 14 k.accumulator l.accumulator h.accumulator
writes_below LrQlA s t c d k l p q h = one_below 15 k.accumulator l.accumulator h.accumulator
writes_below LrKP s t c d k l p q h = pair_below 12 s t p
writes_below LrQDc s t c d k l p q h = pair_below 14 c d q
writes_below LrHDc s t c d k l p q h = pair_below 10 c d q
writes_below LrJW s t c d k l p q h = one_below 9 _ _ (status_byte_below k.status l.status h.status)
writes_below (Ds r) s t c d k l p q h = field_write_below r _ _ k l (below_map _ _ _ (field_below r k l h)) h
writes_below (LrRA r) s t c d k l p q h = field_write_below r _ _ k l h.accumulator h
writes_below op s t c d k l p q h = tt

-- ---- the registers after an instruction

pub results_below : (op : Op) (x y : Option ℕ) (s t c d : BytePair) (k l : KnownRegisters) →
    Below x y → PairBelow s t → PairBelow c d → RegistersBelow k l →
    RegistersBelow (known_result op x s c k) (known_result op y t d l)
results_below op x y s t c d k l p q r h =
    let e : RegistersBelow (known_effect op x k) (known_effect op y l) = effect_below op x y k l p h in
    record {
      accumulator = e.accumulator;
      high = e.high;
      low = e.low;
      status = e.status;
      scratchpad = written_all_below _ _ k.scratchpad l.scratchpad (writes_below op s t c d k l q r h) h.scratchpad;
    }
