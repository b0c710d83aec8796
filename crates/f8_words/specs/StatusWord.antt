-- The flags as the status word of f8_spec.
use Rattle.f8_spec.specs.Flags.{Status}
use Rattle.f8_words.specs.declared.status_word.Flags.{Flags}

abbrev pub status_of_flags : Flags → Status
status_of_flags flags = record {
  sign = flags.sign;
  carry = flags.carry;
  zero = flags.zero;
  overflow = flags.overflow;
  icb = flags.icb;
}
