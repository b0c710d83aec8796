-- How a run on a rack ends, as the program tells it, and what the rack is then; and how one on the flat instruction set alone ends.
use Rattle.std.specs.Prelude.{◌≡◌, ◌≢◌, ℕ, ◌<◌, List, [], ◌∷◌, ◌++◌, length, map, Option, Some, None}
use Rattle.std.specs.List.{sum_by}
use Rattle.f8_spec.specs.ChipState.{ChipState}
use Rattle.f8_spec.specs.declared.chips.PowerOn.{PowerOn}
use Rattle.console_spec.specs.declared.PortWrite.{PortWrite}
use Rattle.console_spec.specs.Processor.{State, told_regs}
use Rattle.console_spec.specs.Run.{Stop, Done, Unserved, Reserved as ReservedStop, Ending as FlatEnding}
use Rattle.console_spec.specs.Scripts.{Script}
use Rattle.console_spec.specs.Telling.{Moment, Telling, played_by, referred_by, told_in}
use Rattle.chip_face.specs.declared.specification.ChipSpec.{ChipSpec}
use Rattle.memory_map.specs.MapOf.{views_of}
use Rattle.data_bus.specs.Racks.{views}
use Rattle.f8_machine.specs.Faults.{fault_of}
use Rattle.f8_machine.specs.Rounds.{RackPowers, RackRuns, heard_of}
use Rattle.outside.specs.SinkRules.{Output, Adds, AddsPart}
use Rattle.rack_run.specs.Asking.{codes_up_to}
use Rattle.rack_run.specs.Lives.{Lives}
use Rattle.rack_run.specs.Texts.{is_traced, text_in}
use Rattle.rack_run.specs.declared.detail.Detail.{Detail}
use Rattle.rack_run.specs.declared.detail.Detail.TheVariants.{Writes}
use Rattle.rack_run.specs.declared.ending.Ending.{Ending}
use Rattle.rack_run.specs.declared.ending.Halt.{Halt}
use Rattle.rack_run.specs.declared.ending.Halt.TheVariants.{Fault, Reserved}
use Rattle.rack_run.specs.declared.on_flat.ReferFault.{ReferFault}
use Rattle.rack_run.specs.declared.on_flat.ReferFault.TheVariants.{Memory, Sink}

abbrev pub stop_of : Halt → Stop
stop_of (Fault fault) = Unserved (fault_of fault)
stop_of (Reserved at code) = ReservedStop at code

abbrev pub stop_at : Option Halt → Stop
stop_at None = Done
stop_at (Some halt) = stop_of halt

-- the sum of the bytes that ports took
abbrev pub bytes_written : List PortWrite → ℕ
bytes_written writes = sum_by (λ w. w.byte) writes

-- a state and a stop are told with registers, instructions, clocks and writes
pub record Tells (told : Ending) (state : State) (stop : Stop) : Type 0 where
  pub regs : told.regs ≡ told_regs state
  pub isar : told.regs.isar < 64
  pub halt : stop_at told.halt ≡ stop
  pub count : told.count ≡ state.count
  pub phi : told.phi ≡ state.phi
  pub writes : told.writes ≡ length state.writes
  pub bytes : told.bytes ≡ bytes_written state.writes

-- a run is told as it ends
abbrev pub TellsEnd : Ending → FlatEnding → Type 0
TellsEnd told ending = Tells told ending.position.flat.state ending.stop

-- ---- on a rack

abbrev pub run_on : Detail → Script → List ℕ → List PowerOn → List ChipState → Telling
run_on detail script chain powers states = played_by (views states) chain powers (is_traced detail) script

-- the run to its end: every chip is powered and lives through the moments of the run, and the sink was given all that is told
pub record Plays (detail : Detail) (script : Script) (chain : List ℕ) (powers : List PowerOn) (told : Ending)
    (olds news : List ChipState) (old new : Output) : Type 0 where
  pub powered : List ChipState
  pub power_on : RackPowers script.power chain powers olds powered
  pub lived : Lives chain (run_on detail script chain powers olds).moments powered news
  pub tells : TellsEnd told (run_on detail script chain powers olds).ending
  pub lines : Adds old new (text_in detail (told_in (run_on detail script chain powers olds).moments))

-- The sink failed at a line of one of some moments: those before it were lived through and told, its bus steps were heard, and no event
-- behind it came.
pub record CutShort (detail : Detail) (chain : List ℕ) (ms : List Moment) (olds news : List ChipState) (old new : Output) : Type 0 where
  pub before : List Moment
  pub at : Moment
  pub behind : List Moment
  pub are : ms ≡ before ++ at ∷ behind
  pub some : text_in detail at.told ≢ []
  pub mids : List ChipState
  pub lived : Lives chain before olds mids
  pub heard : RackRuns (map heard_of at.heard) mids news
  pub between : Output
  pub lines : Adds old between (text_in detail (told_in before))
  pub part : AddsPart between new (text_in detail at.told)

-- the run up to there, with what was asked by then
pub record PlaysPart (Asks : List ℕ → Type 0) (detail : Detail) (script : Script) (chain : List ℕ) (powers : List PowerOn)
    (olds news : List ChipState) (old new : Output) : Type 0 where
  pub powered : List ChipState
  pub power_on : RackPowers script.power chain powers olds powered
  pub cut : CutShort detail chain (run_on detail script chain powers olds).moments powered news old new
  pub part : AddsPart old new (text_in detail (told_in (run_on detail script chain powers olds).moments))
  pub asks : Asks (codes_up_to cut.before cut.at cut.behind (run_on detail script chain powers olds).ending.stop)

-- ---- without a chip

-- the run of a description's chips, each fitted without a patch and powered as is said of it
abbrev pub flat_run : Script → List ChipSpec → List PowerOn → Telling
flat_run script chips powers = referred_by (views_of chips) powers script

-- A whole run on the flat instruction set alone: the sink was given all that is told.
pub record Refers (script : Script) (told : Ending) (chips : List ChipSpec) (powers : List PowerOn) (old new : Output) : Type 0 where
  pub tells : TellsEnd told (flat_run script chips powers).ending
  pub lines : Adds old new (text_in Writes (told_in (flat_run script chips powers).moments))

-- where it came to no end: nothing was put where memory was wanting, and a first part where the sink failed
abbrev pub ReferFails : ReferFault → Script → List ChipSpec → List PowerOn → (old new : Output) → Type 0
ReferFails Memory script chips powers old new = new ≡ old
ReferFails Sink script chips powers old new = AddsPart old new (text_in Writes (told_in (flat_run script chips powers).moments))
