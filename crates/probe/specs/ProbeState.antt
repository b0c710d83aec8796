-- The probe as contracts see it: four counters that follow every bus step, and the byte last heard (Mostek 3851 and 3853 data sheets for
-- what a code does to counters; the probe is this project's own).
use Rattle.std.specs.Prelude.{ℕ, true, Some}
use Rattle.f8_spec.specs.BusCodes.{Count, count_at, moved_by}
use Rattle.f8_spec.specs.declared.bus.Counters.{Counters}

pub record ProbeState : Type 0 where
  pub count : Count
  pub last : ℕ

-- before the first step
abbrev pub new_probe : ProbeState
new_probe = record { count = count_at 0; last = 0 }

-- after a step with its byte: the probe has a second data counter, which the code 1D exchanges with the first
abbrev pub probe_after : ℕ → ℕ → ProbeState → ProbeState
probe_after romc byte p = record { count = moved_by romc byte true p.count; last = byte }

-- the counters that the probe tells
abbrev pub probe_counters : ProbeState → Counters
probe_counters p = record { pc0 = p.count.pc0; pc1 = p.count.pc1; dc0 = p.count.dc0; dc1 = Some p.count.dc1 }
