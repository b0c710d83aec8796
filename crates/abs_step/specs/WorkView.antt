-- What the step computes with, as the definitions have it.
use Rattle.std.specs.Prelude.{Option, option_map, List, [], ◌∷◌}
use Rattle.f8_spec.specs.Flags.{is_positive, is_zero}
use Rattle.f8_words.specs.declared.sums.Sum.{Sum}
use Rattle.abs_domain.specs.AbstractState.{KnownStatus, KnownCounters}
use Rattle.abs_step.specs.RegisterWrites.{Target, RegisterWrite}
use Rattle.abs_step.specs.declared.status.Status.{Status}
use Rattle.abs_step.specs.declared.writes.Target.{Target as WriteTarget}
use Rattle.abs_step.specs.declared.writes.Write.{Write}
use Rattle.abs_step.specs.declared.writes.Writes.{Writes}
use Rattle.abs_step.specs.declared.writes.Writes.TheVariants.{Nothing, One, Two}
use Rattle.abs_step.specs.declared.pairs.Pair.{Pair}
use Rattle.abs_step.specs.declared.inputs.Inputs.{Inputs}
use Rattle.abs_step.specs.declared.counters.Counters.{Counters}
use Rattle.abs_step.specs.declared.exits.Exit.{Exit}
use Rattle.abs_step.specs.declared.exits.Exits.{Exits}
use Rattle.abs_step.specs.declared.exits.Exits.TheVariants.{Nowhere, One as OneExit, Two as TwoExits}
use Rattle.abs_step.specs.KnownResults.{BytePair}
use Rattle.abs_step.specs.KnownFlow.{KnownInputs}

-- ---- registers

abbrev pub status_view : Status → KnownStatus
status_view w = record { sign = w.sign; carry = w.carry; zero = w.zero; overflow = w.overflow; icb = w.icb }

-- the status word after a sum
abbrev pub status_after : KnownStatus → Option Sum → KnownStatus
status_after w sum = record w {
  sign = option_map (λ s. is_positive s.value) sum;
  carry = option_map (λ s. s.carry) sum;
  zero = option_map (λ s. is_zero s.value) sum;
  overflow = option_map (λ s. s.overflow) sum;
}

abbrev pub target_view : WriteTarget → Target
target_view t = record { high = t.high; low = t.low }

abbrev pub write_view : Write → RegisterWrite
write_view w = record { target = target_view w.target; value = w.value }

abbrev pub writes_view : Writes → List RegisterWrite
writes_view Nothing = []
writes_view (One w) = write_view w ∷ []
writes_view (Two v w) = write_view v ∷ write_view w ∷ []

abbrev pub pair_view : Pair → BytePair
pair_view p = record { high = p.high; low = p.low }

-- ---- an instruction

abbrev pub inputs_view : Inputs → KnownInputs
inputs_view i = record {
  taken = i.taken;
  operand = i.operand;
  second = i.second;
  data_byte = i.data_byte;
  counter_bytes = pair_view i.counter;
  stack_bytes = pair_view i.stack;
  accumulator = i.accumulator;
  k_high = i.k.high;
  k_low = i.k.low;
  q_high = i.q.high;
  q_low = i.q.low;
  h_high = i.h.high;
  h_low = i.h.low;
}

abbrev pub counters_view : Counters → KnownCounters
counters_view k = record { d0 = k.d0; d1 = k.d1; c = k.c; s0 = k.s0; s1 = k.s1; p0 = k.p0; p1 = k.p1 }

abbrev pub exits_view : Exits → List Exit
exits_view Nowhere = []
exits_view (OneExit e) = e ∷ []
exits_view (TwoExits d e) = d ∷ e ∷ []
