-- The one set of counters as the flat machine's.
use Rattle.console_spec.specs.Processor.{Flow}
use Rattle.f8_isa.specs.declared.counters.Flow.{Flow as Kept}

abbrev pub flow_of : Kept → Flow
flow_of kept = record { p = kept.p; p1 = kept.p1; d0 = kept.d0; d1 = kept.d1 }
