-- Entries and cases of the program as the definitions have them.
use Rattle.std.specs.Prelude.{List, map}
use Rattle.abs_domain.specs.StateView.{state_of, status_of}
use Rattle.abs_domain.specs.AbstractState.{AbstractState}
use Rattle.abs_domain.specs.declared.state.Abs.{Abs}
use Rattle.value_sets.specs.SetViews.{byte_values, word_values}
use Rattle.case_step.specs.Entries.{EntryView}
use Rattle.case_step.specs.declared.entry.Entry.{Entry}

abbrev pub entry_view : Entry → EntryView
entry_view e = record {
  at = e.at;
  ret = e.ret;
  accumulator = byte_values e.a;
  isar = e.isar.items;
  status = status_of e.w;
  d0 = word_values e.d0;
  d1 = word_values e.d1;
  c = word_values e.c;
  s0 = e.s0;
  s1 = e.s1;
  p0 = e.p0;
  p1 = e.p1;
  same = e.same;
  scratchpad = map byte_values e.regs;
}

abbrev pub states_of : List Abs → List AbstractState
states_of cases = map state_of cases
