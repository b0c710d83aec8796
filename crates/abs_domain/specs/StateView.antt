-- An abstract state as the program holds it: what it says.
use Rattle.std.specs.Prelude.{List, map, slice_index_or}
use Rattle.abs_domain.specs.AbstractState.{KnownStatus, KnownRegisters, KnownCounters, AbstractState}
use Rattle.abs_domain.specs.KnownParts.{known_byte, known_digit, known_bit, known_word}
use Rattle.abs_domain.specs.declared.values.Bit.{Bit}
use Rattle.abs_domain.specs.declared.values.Bit.TheVariants.{Any}
use Rattle.abs_domain.specs.declared.state.Abs.{Abs}

-- the five bits of the status word, from bit 0 on
abbrev pub status_of : List Bit → KnownStatus
status_of bits = record {
  sign = known_bit (slice_index_or bits 0 Any);
  carry = known_bit (slice_index_or bits 1 Any);
  zero = known_bit (slice_index_or bits 2 Any);
  overflow = known_bit (slice_index_or bits 3 Any);
  icb = known_bit (slice_index_or bits 4 Any);
}

abbrev pub registers_of : Abs → KnownRegisters
registers_of s = record {
  accumulator = known_byte s.a;
  high = known_digit s.hi;
  low = known_digit s.lo;
  status = status_of s.w;
  scratchpad = map known_byte s.regs;
}

abbrev pub counters_of : Abs → KnownCounters
counters_of s = record {
  d0 = known_word s.d0;
  d1 = known_word s.d1;
  c = known_word s.c;
  s0 = s.s0;
  s1 = s.s1;
  p0 = s.p0;
  p1 = s.p1;
}

abbrev pub state_of : Abs → AbstractState
state_of s = record { registers = registers_of s; counters = counters_of s }
