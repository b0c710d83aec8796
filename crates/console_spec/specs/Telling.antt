-- A run by a script: what it tells as it goes, and where it ends. At the end of an instruction come, in this order, its bus steps where they
-- are traced, its write, its frame where one falls and is shown, the end of the run, and the events of that frame.
use Rattle.std.specs.Prelude.{ℕ, zero, suc, false, ◌==◌, nat_le, Bool, if◌then◌else◌, List, [], ◌∷◌, ◌++◌, length, take, map, flat_map}
use Rattle.std.specs.Prelude.{Option, Some, None}
use Rattle.std.specs.List.{list_any}
use Rattle.f8_spec.specs.ChipState.{ChipView}
use Rattle.f8_spec.specs.declared.chips.PowerOn.{PowerOn}
use Rattle.console_spec.specs.declared.PortWrite.{PortWrite}
use Rattle.console_spec.specs.Processor.{State, with_key}
use Rattle.console_spec.specs.Services.{Fault, Conflict, Undriven, Astray}
use Rattle.console_spec.specs.BusTrace.{TracedStep, Course}
use Rattle.console_spec.specs.Run.{Position, Turn, Goes, Stops, Done, Ending, power_position, chain_in_order}
use Rattle.console_spec.specs.Run.{position_after_reset, reset_fault, reset_course, goes_unless, next, flat_next}
use Rattle.console_spec.specs.Run.{turn_course, with_pulse_at}
use Rattle.console_spec.specs.Scripts.{Script, frames_by, events_at, most_instructions}
use Rattle.console_spec.specs.declared.Event.{Event}
use Rattle.console_spec.specs.declared.Event.TheVariants.{Keys, Pulse}
use Rattle.console_spec.specs.declared.End.{End}
use Rattle.console_spec.specs.declared.End.TheVariants.{Frames, Steps}

-- ---- events

-- A pulse names its chip by its place among those described.
abbrev pub with_event : Event → Position → Position
with_event (Keys port byte) x = record x { flat = record x.flat { state = with_key port byte x.flat.state } }
with_event (Pulse chip) x = with_pulse_at chip x

abbrev pub with_events : List Event → Position → Position
with_events [] x = x
with_events (e ∷ es) x = with_events es (with_event e x)

-- ---- frames

-- the frame that falls at the end of an instruction, if one does
abbrev pub fallen : State → State → Option ℕ
fallen before after = if frames_by after.phi == frames_by before.phi then None else Some (frames_by after.phi)

abbrev pub is_over_at : End → State → Bool
is_over_at (Steps n) s = s.count == n
is_over_at (Frames n) s = nat_le n (frames_by s.phi)

abbrev pub is_over : Script → Position → Bool
is_over script x = is_over_at script.end x.flat.state

-- the events of the frame that falls, but for the one at which the run ends
abbrev pub events_fallen : Script → Option ℕ → Position → List Event
events_fallen script None y = []
events_fallen script (Some frame) y = if is_over script y then [] else events_at frame script.events

-- the events that come behind a turn
abbrev pub events_behind : Script → Position → Turn → List Event
events_behind script x (Stops stop) = []
events_behind script x (Goes y) = events_fallen script (fallen x.flat.state y.flat.state) y

-- ---- what is told

pub data Told : Type 0 where
  -- a bus step that is served, and one that is not by its code and whether it is a long one
  Traced : TracedStep → Told
  TracedFault : ℕ → Bool → Told
  -- a port took a byte
  Wrote : PortWrite → Told
  -- a shown frame, with its number, the clocks at the end of its instruction, and the writes so far
  Shown : ℕ → ℕ → List PortWrite → Told

abbrev pub code_of : Fault → ℕ
code_of (Conflict romc parties) = romc
code_of (Undriven romc at) = romc
code_of (Astray romc socket at reference) = romc

abbrev pub told_fault : Option (Fault × Bool) → List Told
told_fault None = []
told_fault (Some x) = TracedFault (code_of x.0) x.1 ∷ []

abbrev pub told_course : Course → List Told
told_course course = map Traced course.steps ++ told_fault course.fault

-- the write that the state after an instruction has more
abbrev pub told_write : State → State → List Told
told_write before after = if length after.writes == length before.writes then [] else map Wrote (take 1 after.writes)

abbrev pub told_frame : Script → State → Option ℕ → List Told
told_frame script after None = []
told_frame script after (Some frame) = if list_any (λ f. f == frame) script.shows then Shown frame after.phi after.writes ∷ [] else []

abbrev pub told_turn : Script → Position → Turn → List Told
told_turn script x (Stops stop) = []
told_turn script x (Goes y) = told_write x.flat.state y.flat.state ++ told_frame script y.flat.state (fallen x.flat.state y.flat.state)

-- ---- a run, moment by moment

-- power-on, reset or an instruction: the bus steps that the chips hear, what is told, and the events that come behind
pub record Moment : Type 0 where
  pub heard : List TracedStep
  pub told : List Told
  pub events : List Event

-- its moments, and where it ends
pub record Telling : Type 0 where
  pub moments : List Moment
  pub ending : Ending

-- all that is told in some moments
abbrev pub told_in : List Moment → List Told
told_in moments = flat_map (λ m. m.told) moments

-- how a run goes on: an instruction, its bus steps, and whether they are told
pub record Way : Type 0 where
  pub step : Position → Turn
  pub course : Position → Course
  pub traced : Bool

abbrev pub told_steps : Bool → Course → List Told
told_steps traced course = if traced then told_course course else []

abbrev pub moment_of : Way → Script → Position → Turn → Moment
moment_of way script x turn = record {
  heard = (way.course x).steps;
  told = told_steps way.traced (way.course x) ++ told_turn script x turn;
  events = events_behind script x turn;
}

abbrev pub telling_on : Script → Position → Moment → (Position → Telling) → Turn → Telling
telling_on script x moment rest (Stops stop) = record { moments = moment ∷ []; ending = record { position = x; stop = stop } }
telling_on script x moment rest (Goes y) =
    let later = rest (with_events (events_behind script x (Goes y)) y) in
    record { moments = moment ∷ later.moments; ending = later.ending }

-- So many instructions at most; the end of the script is tried first.
unfoldable pub telling : Way → Script → ℕ → Position → Telling
telling way script zero x = record { moments = []; ending = record { position = x; stop = Done } }
telling way script (suc n) x =
    if is_over script x then record { moments = []; ending = record { position = x; stop = Done } }
    else telling_on script x (moment_of way script x (way.step x)) (λ z. telling way script n z) (way.step x)

-- ---- ways

abbrev pub on_rack : Bool → Way
on_rack traced = record { step = next; course = turn_course; traced = traced }

abbrev pub on_flat : Way
on_flat = record { step = flat_next; course = λ x. record { steps = []; fault = None }; traced = false }

-- the events of frame 0 come behind power-on
abbrev pub power_moment : Script → Moment
power_moment script = record { heard = []; told = []; events = events_at 0 script.events }

abbrev pub begun : List ChipView → List ℕ → List PowerOn → Script → Position
begun vs chain powers script = with_events (events_at 0 script.events) (power_position vs chain powers script.power)

abbrev pub reset_moment : Bool → Position → Moment
reset_moment traced x = record { heard = (reset_course x).steps; told = told_steps traced (reset_course x); events = [] }

-- a run from reset on
abbrev pub telling_behind : Position → (Position → Telling) → Turn → Telling
telling_behind x rest (Stops stop) = record { moments = []; ending = record { position = x; stop = stop } }
telling_behind x rest (Goes y) = rest y

-- a whole run on a rack of chips that are fitted, with the chain of those described and what is said of their power-on
unfoldable pub played_by : List ChipView → List ℕ → List PowerOn → Bool → Script → Telling
played_by vs chain powers traced script =
    let x = begun vs chain powers script in
    let later = telling_behind x (telling (on_rack traced) script (most_instructions script.end)) (goes_unless (reset_fault x) (position_after_reset x)) in
    record { moments = power_moment script ∷ reset_moment traced x ∷ later.moments; ending = later.ending }

-- a whole run on the flat instruction set alone, of chips that are all described
unfoldable pub referred_by : List ChipView → List PowerOn → Script → Telling
referred_by vs powers script =
    telling on_flat script (most_instructions script.end) (position_after_reset (begun vs (chain_in_order vs) powers script))
