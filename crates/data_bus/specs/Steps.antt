-- A bus step on a rack: what it answers.
use Rattle.std.specs.Prelude.{ℕ, List, Option, Some, None, Result, Ok, Err}
use Rattle.f8_spec.specs.BusCodes.{driver_of}
use Rattle.f8_spec.specs.ChipState.{ChipState}
use Rattle.f8_spec.specs.BusArbitration.{Ruling, Served as ServedBy, Conflict, Undriven, Astray, place_in, judged, byte_by, bus_byte}
use Rattle.f8_spec.specs.BusArbitration.{view_ruling}
use Rattle.f8_spec.specs.declared.bus.BusRule.{BusRule}
use Rattle.f8_spec.specs.declared.bus.Party.{Party}
use Rattle.probe.specs.ProbeState.{ProbeState}
use Rattle.data_bus.specs.declared.cycle.Cycle.{Cycle}
use Rattle.data_bus.specs.declared.cycle.Served.{Served}
use Rattle.data_bus.specs.declared.decide.Ruling.{Ruling as Decided}
use Rattle.data_bus.specs.declared.decide.Ruling.TheVariants.{Served as ServedRuling, Conflict as ConflictRuling}
use Rattle.data_bus.specs.declared.decide.Ruling.TheVariants.{Undriven as UndrivenRuling, Astray as AstrayRuling}
use Rattle.data_bus.specs.declared.fault.BusFault.{BusFault}
use Rattle.data_bus.specs.declared.fault.BusFault.TheVariants.{Conflict as ConflictFault, Undriven as UndrivenFault, Astray as AstrayFault}
use Rattle.data_bus.specs.declared.poll.Poll.{Poll}
use Rattle.data_bus.specs.Racks.{named_views}

-- a ruling on a step with a code, and its byte where it is served
abbrev pub answered : ℕ → ℕ → Ruling → Result Served BusFault
answered romc byte (ServedBy socket) = Ok (record { byte = byte; socket = socket })
answered romc byte (Conflict parties) = Err (ConflictFault romc parties)
answered romc byte (Undriven at) = Err (UndrivenFault romc at)
answered romc byte (Astray socket at reference) = Err (AstrayFault romc socket at reference)

-- what the rule says, as a ruling: of which chips, and at which place of the probe
abbrev pub ruled : ℕ → List Party → Decided → Ruling
ruled reference parties (ServedRuling socket) = ServedBy socket
ruled reference parties ConflictRuling = Conflict parties
ruled reference parties UndrivenRuling = Undriven reference
ruled reference parties (AstrayRuling party) = Astray party.socket party.at reference

-- the step as it is served, and none where it isn't
abbrev pub served_of : Result Served BusFault → Option Served
served_of (Ok served) = Some served
served_of (Err fault) = None

-- the place by which the probe goes in a step
abbrev pub probe_place : ℕ → ProbeState → ℕ
probe_place romc p = place_in romc p.count p.last

-- what a step answers: the bus rule on the chips' states and the probe, before the step
abbrev pub step_answer : Cycle → ProbeState → List ChipState → Result Served BusFault
step_answer cycle probe states =
    answered cycle.romc (bus_byte cycle.romc cycle.first cycle.byte (named_views states))
    (view_ruling cycle.romc cycle.first (probe_place cycle.romc probe) (named_views states))

-- what it answers by what one pass over the chips gathered
abbrev pub poll_answer : BusRule → Cycle → ℕ → Poll → Result Served BusFault
poll_answer rule cycle reference poll =
    answered cycle.romc (byte_by (driver_of cycle.romc) cycle.byte poll.byte) (judged rule cycle.first reference poll.parties poll.bystander)

abbrev pub fault_number : BusFault → ℕ
fault_number (ConflictFault romc parties) = 1
fault_number (UndrivenFault romc at) = 2
fault_number (AstrayFault romc socket at reference) = 3
