-- What is known of the registers after an instruction: each part follows the flat machine where all that it needs is known.
use Rattle.std.specs.Prelude.{ℕ, ◌+◌, ◌-◌, ◌*◌, ◌/◌, ◌%◌, Bool, true, false, ◌==◌, if◌then◌else◌, bit_and, bit_or, bit_xor}
use Rattle.std.specs.Prelude.{List, [], ◌∷◌, Option, Some, option_map}
use Rattle.f8_spec.specs.Words.{sum_value, sum_carry, sum_overflow, decimal_value}
use Rattle.f8_spec.specs.Flags.{status_byte, status_of, is_positive, is_zero}
use Rattle.f8_spec.specs.declared.instructions.Op.{Op}
use Rattle.f8_spec.specs.declared.instructions.Op.TheVariants.{LrAKu, LrAKl, LrAQu, LrAQl, LrKuA, LrKlA, LrQuA}
use Rattle.f8_spec.specs.declared.instructions.Op.TheVariants.{LrQlA, LrKP, LrAIs, LrIsA, LrQDc, LrHDc, Sr1, Sl1, Sr4}
use Rattle.f8_spec.specs.declared.instructions.Op.TheVariants.{Sl4, Lm, Com, Lnk, Di, Ei, LrWJ, LrJW, Inc, Li, Ni, Oi}
use Rattle.f8_spec.specs.declared.instructions.Op.TheVariants.{Xi, Ai, Ci, In, Pi, Jmp, Ds, LrAR, LrRA, Lisu, Lisl, Lis}
use Rattle.f8_spec.specs.declared.instructions.Op.TheVariants.{Am, Amd, Nm, Om, Xm, Cm, Ins, As, Asd, Xs, Ns}
use Rattle.abs_domain.specs.AbstractState.{KnownStatus, KnownRegisters}
use Rattle.abs_step.specs.Known.{lift2, lift3}
use Rattle.abs_step.specs.RegisterWrites.{known_register, known_field, exactly, target_of, RegisterWrite, written_all}
use Rattle.f8_spec.specs.RegisterNumbers.{register_j, register_hu, register_ku, register_kl, register_qu, register_ql, up_field, down_field}

-- ---- the status word

-- after a sum all four flags are known where both numbers and the carry are
abbrev pub known_after_sum : KnownStatus → Option ℕ → Option ℕ → Option Bool → KnownStatus
known_after_sum w a b carry = record w {
  sign = lift3 (λ x y c. is_positive (sum_value x y c)) a b carry;
  carry = lift3 sum_carry a b carry;
  zero = lift3 (λ x y c. is_zero (sum_value x y c)) a b carry;
  overflow = lift3 sum_overflow a b carry;
}

-- after a logical result, a shift or a port read carry and overflow are known to be clear
abbrev pub known_after_result : KnownStatus → Option ℕ → KnownStatus
known_after_result w value = record w {
  sign = option_map is_positive value;
  carry = Some false;
  zero = option_map is_zero value;
  overflow = Some false;
}

-- the status word that a byte says
abbrev pub known_status_of : Option ℕ → KnownStatus
known_status_of byte = record {
  sign = option_map (λ b. (status_of b).sign) byte;
  carry = option_map (λ b. (status_of b).carry) byte;
  zero = option_map (λ b. (status_of b).zero) byte;
  overflow = option_map (λ b. (status_of b).overflow) byte;
  icb = option_map (λ b. (status_of b).icb) byte;
}

-- the status word as a byte, from five flags
abbrev pub flags_byte : Bool → Bool → Bool → Bool → Bool → ℕ
flags_byte sign carry none overflow icb =
    status_byte (record { sign = sign; carry = carry; zero = none; overflow = overflow; icb = icb })

abbrev pub known_status_byte : KnownStatus → Option ℕ
known_status_byte w =
    let lower : Option (Bool → Bool → ℕ) = lift3 flags_byte w.sign w.carry w.zero in
    let most : Option (Bool → ℕ) = lift2 (λ f overflow. f overflow) lower w.overflow in
    lift2 (λ f icb. f icb) most w.icb

-- ---- results

abbrev pub with_known_result : Option ℕ → KnownRegisters → KnownRegisters
with_known_result value k = record k { accumulator = value; status = known_after_result k.status value }

abbrev pub with_known_sum : Option ℕ → Option Bool → KnownRegisters → KnownRegisters
with_known_sum byte carry k = record k {
  accumulator = lift3 sum_value k.accumulator byte carry;
  status = known_after_sum k.status k.accumulator byte carry;
}

abbrev pub with_known_decimal_sum : Option ℕ → KnownRegisters → KnownRegisters
with_known_decimal_sum byte k = record k {
  accumulator = lift2 decimal_value k.accumulator byte;
  status = known_after_sum k.status k.accumulator byte (Some false);
}

abbrev pub known_compared : Option ℕ → KnownRegisters → KnownRegisters
known_compared byte k = record k {
  status = known_after_sum k.status byte (option_map (λ a. 255 - a) k.accumulator) (Some true);
}

-- The low digit of ISAR, stepped by the field 13 or 14. The high one stays.
abbrev pub stepped_digit : ℕ → Option ℕ → Option ℕ
stepped_digit field low =
    if field == up_field then option_map (λ digit. (digit + 1) % 8) low else
    if field == down_field then option_map (λ digit. (digit + 7) % 8) low else
    low

abbrev pub with_digit_stepped : ℕ → KnownRegisters → KnownRegisters
with_digit_stepped field k = record k { low = stepped_digit field k.low }

-- What is known after an instruction that uses one byte, but for the scratchpad.
unfoldable pub known_effect : Op → Option ℕ → KnownRegisters → KnownRegisters
known_effect LrAKu byte k = record k { accumulator = known_register register_ku k }
known_effect LrAKl byte k = record k { accumulator = known_register register_kl k }
known_effect LrAQu byte k = record k { accumulator = known_register register_qu k }
known_effect LrAQl byte k = record k { accumulator = known_register register_ql k }
known_effect LrAIs byte k = record k { accumulator = lift2 (λ high low. high * 8 + low) k.high k.low }
known_effect LrIsA byte k = record k {
  high = option_map (λ a. a % 64 / 8) k.accumulator;
  low = option_map (λ a. a % 64 % 8) k.accumulator;
}
known_effect Sr1 byte k = with_known_result (option_map (λ a. a / 2) k.accumulator) k
known_effect Sl1 byte k = with_known_result (option_map (λ a. a * 2 % 256) k.accumulator) k
known_effect Sr4 byte k = with_known_result (option_map (λ a. a / 16) k.accumulator) k
known_effect Sl4 byte k = with_known_result (option_map (λ a. a * 16 % 256) k.accumulator) k
known_effect Lm byte k = record k { accumulator = byte }
known_effect Com byte k = with_known_result (option_map (λ a. 255 - a) k.accumulator) k
known_effect Lnk byte k = with_known_sum (Some 0) k.status.carry k
known_effect Di byte k = record k { status = record k.status { icb = Some false } }
known_effect Ei byte k = record k { status = record k.status { icb = Some true } }
known_effect LrWJ byte k = record k { status = known_status_of (known_register register_j k) }
known_effect Inc byte k = with_known_sum (Some 1) (Some false) k
known_effect Li byte k = record k { accumulator = byte }
known_effect Ni byte k = with_known_result (lift2 bit_and k.accumulator byte) k
known_effect Oi byte k = with_known_result (lift2 bit_or k.accumulator byte) k
known_effect Xi byte k = with_known_result (lift2 bit_xor k.accumulator byte) k
known_effect Ai byte k = with_known_sum byte (Some false) k
known_effect Ci byte k = known_compared byte k
known_effect In byte k = with_known_result byte k
known_effect Pi byte k = record k { accumulator = byte }
known_effect Jmp byte k = record k { accumulator = byte }
known_effect (Ds r) byte k =
    with_digit_stepped r (record k { status = known_after_sum k.status (known_field r k) (Some 255) (Some false) })
known_effect (LrAR r) byte k = with_digit_stepped r (record k { accumulator = known_field r k })
known_effect (LrRA r) byte k = with_digit_stepped r k
known_effect (Lisu n) byte k = record k { high = Some n }
known_effect (Lisl n) byte k = record k { low = Some n }
known_effect (Lis n) byte k = record k { accumulator = Some n }
known_effect Am byte k = with_known_sum byte (Some false) k
known_effect Amd byte k = with_known_decimal_sum byte k
known_effect Nm byte k = with_known_result (lift2 bit_and k.accumulator byte) k
known_effect Om byte k = with_known_result (lift2 bit_or k.accumulator byte) k
known_effect Xm byte k = with_known_result (lift2 bit_xor k.accumulator byte) k
known_effect Cm byte k = known_compared byte k
known_effect (Ins n) byte k = with_known_result byte k
known_effect (As r) byte k = with_digit_stepped r (with_known_sum (known_field r k) (Some false) k)
known_effect (Asd r) byte k = with_digit_stepped r (with_known_decimal_sum (known_field r k) k)
known_effect (Xs r) byte k = with_digit_stepped r (with_known_result (lift2 bit_xor k.accumulator (known_field r k)) k)
known_effect (Ns r) byte k = with_digit_stepped r (with_known_result (lift2 bit_and k.accumulator (known_field r k)) k)
known_effect op byte k = k

-- ---- writes to the scratchpad

-- the two bytes of a counter
pub record BytePair : Type 0 where
  pub high : Option ℕ
  pub low : Option ℕ

abbrev pub one_write : ℕ → Option ℕ → List RegisterWrite
one_write number value = record { target = exactly number; value = value } ∷ []

abbrev pub pair_writes : ℕ → BytePair → List RegisterWrite
pair_writes number pair =
    record { target = exactly number; value = pair.high } ∷ record { target = exactly (number + 1); value = pair.low } ∷ []

abbrev pub field_write : ℕ → Option ℕ → KnownRegisters → List RegisterWrite
field_write field value k = record { target = target_of field k; value = value } ∷ []

-- what an instruction writes to the scratchpad, with the bytes of the stack register and of the data counter
unfoldable pub register_writes : Op → BytePair → BytePair → KnownRegisters → List RegisterWrite
register_writes LrKuA stack counter k = one_write 12 k.accumulator
register_writes LrKlA stack counter k = one_write 13 k.accumulator
register_writes LrQuA stack counter k = one_write 14 k.accumulator
register_writes LrQlA stack counter k = one_write 15 k.accumulator
register_writes LrKP stack counter k = pair_writes register_ku stack
register_writes LrQDc stack counter k = pair_writes register_qu counter
register_writes LrHDc stack counter k = pair_writes register_hu counter
register_writes LrJW stack counter k = one_write 9 (known_status_byte k.status)
register_writes (Ds r) stack counter k = field_write r (option_map (λ byte. sum_value byte 255 false) (known_field r k)) k
register_writes (LrRA r) stack counter k = field_write r k.accumulator k
register_writes op stack counter k = []

-- ---- the registers after an instruction

abbrev pub known_result : Op → Option ℕ → BytePair → BytePair → KnownRegisters → KnownRegisters
known_result op byte stack counter k = record (known_effect op byte k) {
  scratchpad = written_all (register_writes op stack counter k) k.scratchpad;
}
