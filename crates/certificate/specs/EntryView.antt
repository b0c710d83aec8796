-- What is read of the data counters, as a state says it.
use Rattle.abs_domain.specs.AbstractState.{KnownCounters}
use Rattle.abs_domain.specs.KnownParts.{known_word}
use Rattle.certificate.specs.declared.entry.Counters.{Counters}

abbrev pub counters_view : Counters → KnownCounters
counters_view k = record {
  d0 = known_word k.d0;
  d1 = known_word k.d1;
  c = known_word k.c;
  s0 = k.s0;
  s1 = k.s1;
  p0 = k.p0;
  p1 = k.p1;
}
