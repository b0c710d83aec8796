-- Which accesses of an instruction are served, on the flat machine's counters and the copies of the chips, and how its bus steps go up to
-- the first that is not.
use Rattle.std.specs.Prelude.{ℕ, true, if◌then◌else◌, List, [], ◌∷◌, map, Option, Some, None}
use Rattle.std.specs.List.{enumerate_from}
use Rattle.f8_spec.specs.BusCodes.{count_at}
use Rattle.f8_spec.specs.ChipState.{has_counters, has_second_counter}
use Rattle.f8_spec.specs.BusArbitration.{PlacedSeat, Ruling, Served, Conflict as ConflictRuling, place_in}
use Rattle.f8_spec.specs.BusArbitration.{Undriven as UndrivenRuling, Astray as AstrayRuling, ruling}
use Rattle.f8_spec.specs.declared.bus.Party.{Party}
use Rattle.f8_spec.specs.declared.chips.ChipKind.{ChipKind}
use Rattle.console_spec.specs.Processor.{Flow}
use Rattle.console_spec.specs.CounterCopies.{Copy}
use Rattle.console_spec.specs.BusAccesses.{Access}

-- ---- one access

-- why an access is not served: its code, and several chips with their places; the address or the port where no chip answers; or a chip
-- with its place and the flat machine's
pub data Fault : Type 0 where
  Conflict : ℕ → List Party → Fault
  Undriven : ℕ → ℕ → Fault
  Astray : ℕ → ℕ → ℕ → ℕ → Fault

abbrev pub fault_by : ℕ → Ruling → Option Fault
fault_by romc (Served socket) = None
fault_by romc (ConflictRuling parties) = Some (Conflict romc parties)
fault_by romc (UndrivenRuling at) = Some (Undriven romc at)
fault_by romc (AstrayRuling socket at reference) = Some (Astray romc socket at reference)

-- A chip's own place of an access, by its set of counters. One without counters is at 0 where the step goes by a counter, and else at the
-- port, which the access names on every set.
abbrev pub own_place : Access → ChipKind → Flow → ℕ
own_place a kind c =
    if has_counters kind then a.place (has_second_counter kind) c else place_in a.romc (count_at 0) (a.place true c)

abbrev pub placed_copy : Access → Copy → PlacedSeat
placed_copy a c = record { seat = c.seat; at = own_place a c.seat.kind c.flow }

-- the bus rule on an access, on the flat machine's counters and the copies
abbrev pub access_ruling : Flow → List Copy → Access → Ruling
access_ruling c copies a = ruling a.romc None (a.place true c) (enumerate_from 0 (map (placed_copy a) copies))

abbrev pub access_fault : Flow → List Copy → Access → Option Fault
access_fault c copies a = fault_by a.romc (access_ruling c copies a)

-- the first of some accesses that is not served
abbrev pub or_later : Option Fault → Option Fault → Option Fault
or_later (Some fault) later = Some fault
or_later None later = later

abbrev pub first_fault : Flow → List Copy → List Access → Option Fault
first_fault c copies [] = None
first_fault c copies (a ∷ later) = or_later (access_fault c copies a) (first_fault c copies later)
