-- What is known at a point as an entry: each part that is known has one value there, and each other one any.
use Rattle.std.specs.Prelude.{ℕ, List, None, filter, map}
use Rattle.std.specs.List.{range_with_len}
use Rattle.abs_domain.specs.AbstractState.{AbstractState}
use Rattle.abs_domain.specs.declared.points.Point.{Point}
use Rattle.abs_step.specs.RegisterWrites.{Target, target_allows}
use Rattle.value_sets.specs.ValueSets.{set_of}
use Rattle.case_step.specs.Entries.{EntryView}

-- the numbers that ISAR may have by its two octal digits, each known or not
abbrev pub numbers_by : Target → List ℕ
numbers_by isar = filter (target_allows isar) (range_with_len 0 64)

-- The bytes of tracked registers aren't told: the point has none that the state doesn't know.
unfoldable pub noted_entry : Point × AbstractState → EntryView
noted_entry note =
    let s : AbstractState = note.1 in
    record {
      at = note.0.at;
      ret = note.0.ret;
      accumulator = set_of s.registers.accumulator;
      isar = numbers_by (record { high = s.registers.high; low = s.registers.low });
      status = s.registers.status;
      d0 = set_of s.counters.d0;
      d1 = set_of s.counters.d1;
      c = set_of s.counters.c;
      s0 = s.counters.s0;
      s1 = s.counters.s1;
      p0 = s.counters.p0;
      p1 = s.counters.p1;
      same = None;
      scratchpad = map set_of s.registers.scratchpad;
    }
