-- The order of abstract states as a test, their join, and the rank, which is how much a state says.
use Rattle.std.specs.Prelude.{ℕ, ◌+◌, Bool, ◌&&◌}
use Rattle.abs_domain.specs.Lattice.{is_below, is_fact_below, is_each_below, common, common_each, same_number, same_bool}
use Rattle.abs_domain.specs.Lattice.{known_count, fact_count, known_count_each}
use Rattle.abs_domain.specs.AbstractState.{KnownStatus, KnownRegisters, KnownCounters, AbstractState}

-- ---- whether the upper state says less

abbrev pub is_status_below : KnownStatus → KnownStatus → Bool
is_status_below lower upper =
    is_below same_bool lower.sign upper.sign &&
    is_below same_bool lower.carry upper.carry &&
    is_below same_bool lower.zero upper.zero &&
    is_below same_bool lower.overflow upper.overflow &&
    is_below same_bool lower.icb upper.icb

abbrev pub are_registers_below : KnownRegisters → KnownRegisters → Bool
are_registers_below lower upper =
    is_below same_number lower.accumulator upper.accumulator &&
    is_below same_number lower.high upper.high &&
    is_below same_number lower.low upper.low &&
    is_status_below lower.status upper.status &&
    is_each_below same_number lower.scratchpad upper.scratchpad

abbrev pub are_counters_below : KnownCounters → KnownCounters → Bool
are_counters_below lower upper =
    is_below same_number lower.d0 upper.d0 &&
    is_below same_number lower.d1 upper.d1 &&
    is_below same_number lower.c upper.c &&
    is_fact_below lower.s0 upper.s0 &&
    is_fact_below lower.s1 upper.s1 &&
    is_fact_below lower.p0 upper.p0 &&
    is_fact_below lower.p1 upper.p1

abbrev pub is_state_below : AbstractState → AbstractState → Bool
is_state_below lower upper = are_registers_below lower.registers upper.registers && are_counters_below lower.counters upper.counters

-- ---- what both states say

abbrev pub joined_status : KnownStatus → KnownStatus → KnownStatus
joined_status s t = record {
  sign = common same_bool s.sign t.sign;
  carry = common same_bool s.carry t.carry;
  zero = common same_bool s.zero t.zero;
  overflow = common same_bool s.overflow t.overflow;
  icb = common same_bool s.icb t.icb;
}

abbrev pub joined_registers : KnownRegisters → KnownRegisters → KnownRegisters
joined_registers s t = record {
  accumulator = common same_number s.accumulator t.accumulator;
  high = common same_number s.high t.high;
  low = common same_number s.low t.low;
  status = joined_status s.status t.status;
  scratchpad = common_each same_number s.scratchpad t.scratchpad;
}

abbrev pub joined_counters : KnownCounters → KnownCounters → KnownCounters
joined_counters s t = record {
  d0 = common same_number s.d0 t.d0;
  d1 = common same_number s.d1 t.d1;
  c = common same_number s.c t.c;
  s0 = s.s0 && t.s0;
  s1 = s.s1 && t.s1;
  p0 = s.p0 && t.p0;
  p1 = s.p1 && t.p1;
}

abbrev pub joined_state : AbstractState → AbstractState → AbstractState
joined_state s t = record {
  registers = joined_registers s.registers t.registers;
  counters = joined_counters s.counters t.counters;
}

-- ---- how much a state says

abbrev pub status_rank : KnownStatus → ℕ
status_rank s = known_count s.sign + known_count s.carry + known_count s.zero + known_count s.overflow + known_count s.icb

abbrev pub registers_rank : KnownRegisters → ℕ
registers_rank s = known_count s.accumulator + known_count s.high + known_count s.low + status_rank s.status + known_count_each s.scratchpad

abbrev pub counters_rank : KnownCounters → ℕ
counters_rank s =
    known_count s.d0 + known_count s.d1 + known_count s.c + fact_count s.s0 + fact_count s.s1 + fact_count s.p0 + fact_count s.p1

abbrev pub rank : AbstractState → ℕ
rank s = registers_rank s.registers + counters_rank s.counters
