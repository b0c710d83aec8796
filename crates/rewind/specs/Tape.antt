-- A tape as contracts see it, and what it and its rack stand for.
use Rattle.std.specs.Prelude.{ℕ, ◌≡◌, ◌≤◌, ◌+◌, ◌-◌, ◌*◌, Bool, true, false, List, [], ◌∷◌, ◌++◌, Option, Some, None, is_some, slice_get}
use Rattle.f8_spec.specs.ChipState.{ChipView, ChipState}
use Rattle.f8_spec.specs.declared.chips.PowerOn.{PowerOn}
use Rattle.f8_ops.specs.declared.table.TheConstants.{MOST_INTERRUPTED_PHI, RESET_PHI}
use Rattle.console_spec.specs.Processor.{with_write}
use Rattle.console_spec.specs.Run.{Stop, Unserved, Reserved as ReservedStop}
use Rattle.console_spec.specs.declared.Event.{Event}
use Rattle.console_spec.specs.declared.Event.TheVariants.{Keys, Pulse}
use Rattle.console_spec.specs.declared.PortWrite.{PortWrite}
use Rattle.data_bus.specs.Racks.{views}
use Rattle.f8_machine.specs.Advancing.{Advances, Follows, Halts, StaysStopped}
use Rattle.f8_machine.specs.Faults.{fault_of}
use Rattle.f8_machine.specs.Keying.{RackKeyed, keyed_machine}
use Rattle.f8_machine.specs.MachineState.{MachineState, IsReset, steps_in}
use Rattle.f8_machine.specs.RequestsHeld.{RackPulsed}
use Rattle.f8_machine.specs.declared.outcome.Mode.TheVariants.{Stopped}
use Rattle.f8_machine.specs.declared.outcome.Outcome.{Outcome}
use Rattle.f8_machine.specs.declared.outcome.Outcome.TheVariants.{Done, Fault, Reserved}
use Rattle.f8_machine.specs.declared.outcome.StoppedBy.{StoppedBy}
use Rattle.rewind.specs.Asking.{AsksBetween}
use Rattle.rewind.specs.LogEntries.{LogState, instructions_in}
use Rattle.rewind.specs.PowerAlike.{PowerAlike}
use Rattle.rewind.specs.Reached.{Reached, next_steps, reached_by, started, turned}
use Rattle.rewind.specs.Standing.{HasReached}
use Rattle.rewind.specs.declared.entry.Entry.{Entry}
use Rattle.rewind.specs.declared.entry.Entry.TheVariants.{Happens, Instruction}
use Rattle.rewind.specs.declared.tape_mode.TapeMode.{TapeMode}
use Rattle.rewind.specs.declared.tape_mode.TapeMode.TheVariants.{Going, Unbegun, Faulted}

-- the machine, the power byte, what is said of the power-on of each chip described, the log of what was done since power-on, and whether
-- reset was done and no fault has stopped the machine since
pub record TapeState : Type 0 where
  pub machine : MachineState
  pub fill : ℕ
  pub powers : List PowerOn
  pub log : LogState
  pub mode : TapeMode

-- The machine was reset, and its clocks are at most those of reset and of the instructions that were played.
pub record IsInTime (m : MachineState) (log : LogState) : Type 0 where
  pub reset : IsReset m.mode
  pub clocks : m.phi ≤ RESET_PHI + MOST_INTERRUPTED_PHI * instructions_in log.played

-- ---- outcomes

-- what stops a machine by an outcome, if anything does
abbrev pub stop_in : Outcome → Option Stop
stop_in (Done wrote steps) = None
stop_in (Fault fault long steps) = Some (Unserved (fault_of fault))
stop_in (Reserved at code) = Some (ReservedStop at code)

-- the port writes after an outcome, with its own, if it has one
abbrev pub writes_with : Outcome → List PortWrite → List PortWrite
writes_with (Done wrote steps) writes = with_write wrote writes
writes_with (Fault fault long steps) writes = writes
writes_with (Reserved at code) writes = writes

-- an outcome is of a long step that wasn't served
abbrev pub is_long_fault : Outcome → Bool
is_long_fault (Done wrote steps) = false
is_long_fault (Fault fault long steps) = long
is_long_fault (Reserved at code) = false

-- an outcome is that of power-on and reset: its served bus steps, what it stops by, which can only be the short fetch, and no write
pub record IsStartOf (outcome : Outcome) (r : Reached) : Type 0 where
  pub steps : steps_in outcome ≡ r.heard
  pub stop : stop_in outcome ≡ r.stop
  pub short : is_long_fault outcome ≡ false
  pub wrote : writes_with outcome [] ≡ r.position.flat.state.writes

-- an outcome is that of the next instruction: its served bus steps, what it stops by, and its write
pub record IsOutcomeOf (outcome : Outcome) (r : Reached) : Type 0 where
  pub steps : steps_in outcome ≡ next_steps r
  pub stop : stop_in outcome ≡ (turned r).stop
  pub wrote : writes_with outcome r.position.flat.state.writes ≡ (turned r).position.flat.state.writes

-- ---- where it stands

-- power-on and reset of the chips as they were at first
abbrev pub begin : TapeState → List ChipView → Reached
begin t first = started t.fill t.machine.chain t.powers first

-- what the entries that were played lead to
abbrev pub played_from : TapeState → List ChipView → Reached
played_from t first = reached_by t.log.played (begin t first)

-- and a fault behind them
abbrev pub come_by : TapeMode → Reached → Reached
come_by Going r = r
come_by Unbegun r = r
come_by Faulted r = turned r

abbrev pub come : TapeState → List ChipView → Reached
come t first = come_by t.mode (played_from t first)

-- all entries, played and left
abbrev pub entries_of : LogState → List Entry
entries_of log = log.played ++ log.left

-- reset wasn't done, and there are no entries
pub record IsUnbegun (log : LogState) (begun : Reached) : Type 0 where
  pub stops : is_some begun.stop ≡ true
  pub none : entries_of log ≡ []

-- all entries were played, and the instruction behind them stops the machine
pub record HasFaulted (log : LogState) (begun : Reached) : Type 0 where
  pub goes : (reached_by log.played begun).stop ≡ None
  pub stops : is_some (turned (reached_by log.played begun)).stop ≡ true
  pub ended : log.left ≡ []

-- All entries are done, from where reset has led: the events came, and no instruction stopped the machine. Where reset wasn't done there
-- are none, and only behind all of them may a fault have stopped it.
abbrev pub AreDone : TapeMode → LogState → Reached → Type 0
AreDone Going log begun = (reached_by (entries_of log) begun).stop ≡ None
AreDone Unbegun log begun = IsUnbegun log begun
AreDone Faulted log begun = HasFaulted log begun

-- The machine and its rack are where the entries that were played lead, from power-on and reset of the chips as they were at first; and
-- power-on would make of the chips now what it made of them at first.
pub record IsTaped (t : TapeState) (states : List ChipState) (first : List ChipView) : Type 0 where
  pub at : HasReached t.machine states (come t first)
  pub entries : AreDone t.mode t.log (begin t first)
  pub alike : PowerAlike (views states) first

-- ---- what calls make of it

-- whether reset was done, by its outcome
abbrev pub mode_begun : Outcome → TapeMode
mode_begun (Done wrote steps) = Going
mode_begun (Fault fault long steps) = Unbegun
mode_begun (Reserved at code) = Unbegun

-- a fault stops a machine that went on
abbrev pub mode_faulted : TapeMode → TapeMode
mode_faulted Going = Faulted
mode_faulted Unbegun = Unbegun
mode_faulted Faulted = Faulted

abbrev pub mode_with : Outcome → TapeMode → TapeMode
mode_with (Done wrote steps) mode = mode
mode_with (Fault fault long steps) mode = mode_faulted mode
mode_with (Reserved at code) mode = mode

abbrev pub is_begun : TapeMode → Bool
is_begun Going = true
is_begun Unbegun = false
is_begun Faulted = true

-- before all entries no fault has stopped it
abbrev pub mode_rewound : TapeMode → TapeMode
mode_rewound Going = Going
mode_rewound Unbegun = Unbegun
mode_rewound Faulted = Going

-- what an instruction adds to the entries: itself, where it is done
abbrev pub log_with : Outcome → LogState → LogState
log_with (Done wrote steps) log = record log { played = log.played ++ Instruction ∷ [] }
log_with (Fault fault long steps) log = log
log_with (Reserved at code) log = log

-- and what an event does
abbrev pub log_with_event : Event → LogState → LogState
log_with_event event log =
    record { played = log.played ++ Happens event ∷ []; left = []; spare = log.spare - 1 }

-- a tape after an instruction
abbrev pub tape_after : Outcome → MachineState → TapeState → TapeState
tape_after outcome m t =
    record t { machine = m; log = log_with outcome t.log; mode = mode_with outcome t.mode }

-- all that an instruction of a machine promises of it and its rack
pub record Instructs (outcome : Outcome) (old new : MachineState) (olds news : List ChipState) : Type 0 where
  pub advances : Advances outcome old new olds news
  pub follows : Follows outcome old new olds news
  pub halts : Halts outcome old new
  pub stopped : (why : StoppedBy) → old.mode ≡ Stopped why → StaysStopped why outcome old new olds news

-- a key byte or a pulse has come to a machine and its rack
abbrev pub HasCome : Event → (old new : MachineState) → (olds news : List ChipState) → Type 0
HasCome (Keys port byte) old new olds news = (new ≡ keyed_machine port byte old) × RackKeyed port byte olds news
HasCome (Pulse chip) old new olds news = (new ≡ old) × RackPulsed (slice_get old.chain chip) olds news

-- ---- an instruction that is done again

abbrev pub is_done : Outcome → Bool
is_done (Done wrote steps) = true
is_done (Fault fault long steps) = false
is_done (Reserved at code) = false

-- the events up to the next instruction, and that one, were played
pub record Forwards (old new : LogState) : Type 0 where
  pub events : List Entry
  pub none : instructions_in events ≡ 0
  pub left : old.left ≡ events ++ Instruction ∷ new.left
  pub played : new.played ≡ (old.played ++ events) ++ Instruction ∷ []
  pub spare : new.spare ≡ old.spare

-- and the instruction is done, as it was; a tape with the new machine and log stands where it leads
pub record IsForward (outcome : Outcome) (old new : TapeState) (news : List ChipState) (first : List ChipView)
    (before after : ℕ) : Type 0 where
  pub moves : Forwards old.log new.log
  pub done : is_done outcome ≡ true
  pub answers : IsOutcomeOf outcome (reached_by (old.log.played ++ moves.events) (begin old first))
  pub taped : IsTaped new news first
  pub asked : AsksBetween (come old first) (come new first) before after
