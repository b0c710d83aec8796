-- The status word W of the 3850 (Fairchild F8 User's Guide): bit 0 sign, 1 carry, 2 zero, 3 overflow, 4 the interrupt control bit.
use Rattle.std.specs.Prelude.{ℕ, ◌+◌, ◌*◌, ◌/◌, ◌%◌, Bool, false, nat_lt, ◌==◌}
use Rattle.f8_spec.specs.Words.{bit_of, sum_value, sum_carry, sum_overflow}

pub record Status : Type 0 where
  pub sign : Bool
  pub carry : Bool
  pub zero : Bool
  pub overflow : Bool
  pub icb : Bool

-- all flags clear, and interrupts disabled
abbrev pub clear_status : Status
clear_status = record { sign = false; carry = false; zero = false; overflow = false; icb = false }

-- the status word as a byte
abbrev pub status_byte : Status → ℕ
status_byte w = bit_of w.sign + 2 * bit_of w.carry + 4 * bit_of w.zero + 8 * bit_of w.overflow + 16 * bit_of w.icb

-- the status word that the low five bits of a byte say
abbrev pub status_of : ℕ → Status
status_of byte = record {
  sign = byte % 2 == 1;
  carry = byte / 2 % 2 == 1;
  zero = byte / 4 % 2 == 1;
  overflow = byte / 8 % 2 == 1;
  icb = byte / 16 % 2 == 1;
}

-- the sign flag of a result is set where bit 7 is clear, and the zero flag where the result is 0
abbrev pub is_positive : ℕ → Bool
is_positive value = nat_lt value 128

abbrev pub is_zero : ℕ → Bool
is_zero value = value == 0

-- after a logical result, a shift or a port read: carry and overflow are cleared
abbrev pub after_result : Status → ℕ → Status
after_result w value = record w { sign = is_positive value; carry = false; zero = is_zero value; overflow = false }

-- after a sum of two bytes and a carry
abbrev pub after_sum : Status → ℕ → ℕ → Bool → Status
after_sum w a b carry = record w {
  sign = is_positive (sum_value a b carry);
  carry = sum_carry a b carry;
  zero = is_zero (sum_value a b carry);
  overflow = sum_overflow a b carry;
}
