-- The 32 codes of a bus step, ROMC (Mostek 3850, 3851 and 3853 data sheets): who drives the byte, by which counter, and what the
-- step does to the four counters of a storage chip. Every chip follows every step on its own counters.
use Rattle.std.specs.Prelude.{ℕ, ◌||◌, ◌==◌, if◌then◌else◌, Bool, Option, Some, None}
use Rattle.f8_spec.specs.Words.{with_high, with_low, places_on, displaced}
use Rattle.f8_spec.specs.declared.bus.Driver.{Driver}
use Rattle.f8_spec.specs.declared.bus.Driver.TheVariants.{Memory, CounterByte, Vector, Port, Cpu, Nobody}
use Rattle.f8_spec.specs.declared.bus.Counter.{Counter}
use Rattle.f8_spec.specs.declared.bus.Counter.TheVariants.{Pc0, Pc1, Dc0, NoCounter}
use Rattle.f8_spec.specs.declared.bus.Counters.{Counters}

-- the four counters of a storage chip, or of the probe
pub record Count : Type 0 where
  pub pc0 : ℕ
  pub pc1 : ℕ
  pub dc0 : ℕ
  pub dc1 : ℕ

-- all four at one address
abbrev pub count_at : ℕ → Count
count_at at = record { pc0 = at; pc1 = at; dc0 = at; dc1 = at }

-- the counters as a chip tells them, by whether it has a second data counter
abbrev pub told_count : Bool → Count → Counters
told_count has_second c = record { pc0 = c.pc0; pc1 = c.pc1; dc0 = c.dc0; dc1 = if has_second then Some c.dc1 else None }

-- Who drives the byte. The code 1C alone does not tell whether the CPU places a byte there.
abbrev pub driver_of : ℕ → Driver
driver_of romc =
    if romc == 0x00 || romc == 0x01 || romc == 0x02 || romc == 0x03 || romc == 0x0C || romc == 0x0E || romc == 0x11 then Memory else
    if romc == 0x06 || romc == 0x07 || romc == 0x09 || romc == 0x0B || romc == 0x1E || romc == 0x1F then CounterByte else
    if romc == 0x0F || romc == 0x13 then Vector else
    if romc == 0x1B then Port else
    if romc == 0x04 || romc == 0x0D || romc == 0x10 || romc == 0x1D then Nobody else
    Cpu

-- the counter at which a byte is read or stored, or of which a byte is told
abbrev pub counter_of : ℕ → Counter
counter_of romc =
    if romc == 0x00 || romc == 0x01 || romc == 0x03 || romc == 0x0C || romc == 0x0E || romc == 0x11 || romc == 0x1E || romc == 0x1F then Pc0 else
    if romc == 0x07 || romc == 0x0B then Pc1 else
    if romc == 0x02 || romc == 0x05 || romc == 0x06 || romc == 0x09 then Dc0 else
    NoCounter

-- a counter's own address
abbrev pub counter_value : Counter → Count → Option ℕ
counter_value Pc0 c = Some c.pc0
counter_value Pc1 c = Some c.pc1
counter_value Dc0 c = Some c.dc0
counter_value NoCounter c = None

-- The counters after a step with its byte. The flag says that the set has a second data counter, which the code 1D exchanges with
-- the first; that a 3851 has none, and does nothing there, is this project's own.
abbrev pub moved_by : ℕ → ℕ → Bool → Count → Count
moved_by romc byte exchanges c =
    if romc == 0x00 || romc == 0x03 then record c { pc0 = places_on c.pc0 1 } else
    if romc == 0x01 then record c { pc0 = displaced c.pc0 byte } else
    if romc == 0x02 || romc == 0x05 then record c { dc0 = places_on c.dc0 1 } else
    if romc == 0x04 then record c { pc0 = c.pc1 } else
    if romc == 0x08 then record c { pc0 = 0; pc1 = c.pc0 } else
    if romc == 0x0A then record c { dc0 = displaced c.dc0 byte } else
    if romc == 0x0C || romc == 0x17 then record c { pc0 = with_low c.pc0 byte } else
    if romc == 0x0D then record c { pc1 = places_on c.pc0 1 } else
    if romc == 0x0E || romc == 0x19 then record c { dc0 = with_low c.dc0 byte } else
    if romc == 0x0F || romc == 0x12 then record c { pc0 = with_low c.pc0 byte; pc1 = c.pc0 } else
    if romc == 0x11 || romc == 0x16 then record c { dc0 = with_high c.dc0 byte } else
    if romc == 0x13 || romc == 0x14 then record c { pc0 = with_high c.pc0 byte } else
    if romc == 0x15 then record c { pc1 = with_high c.pc1 byte } else
    if romc == 0x18 then record c { pc1 = with_low c.pc1 byte } else
    if romc == 0x1D then (if exchanges then record c { dc0 = c.dc1; dc1 = c.dc0 } else c) else
    c
