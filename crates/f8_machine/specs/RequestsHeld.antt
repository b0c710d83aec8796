-- What the chips of a rack hold of the history of a run: their timers, their requests, and the vectors that ports write.
use Rattle.std.specs.Prelude.{◌≡◌, ℕ, ◌+◌, ◌<◌, Bool, true, false, ◌==◌, List, slice_get, Option, Some, None}
use Rattle.f8_spec.specs.ChipState.{ChipView, ChipState, HeardStep, TakesPulse, has_fixed_vector, is_asking}
use Rattle.console_spec.specs.InterruptRequests.{History, ArePastWrites, ArePastMarks, IsPast}
use Rattle.console_spec.specs.InterruptChoice.{written_vector}
use Rattle.console_spec.specs.Writes.{latch_of}
use Rattle.console_spec.specs.declared.PortWrite.{PortWrite}
use Rattle.data_bus.specs.Racks.{NumberedZip}
use Rattle.f8_machine.specs.Requests.{IsDevice, device_of}

-- ---- one chip

-- a chip without ports never asks
pub record IsIdle (v : ChipView) : Type 0 where
  pub control_byte : v.control ≡ 0
  pub silent : v.request ≡ false

-- the vector whose halves ports write, of a chip with its first port
pub record IsVector (first : ℕ) (writes : List PortWrite) (v : ChipView) : Type 0 where
  pub halves : v.vector ≡ written_vector (Some first) writes
  pub low : latch_of (first + 1) writes < 256

abbrev pub HasVector : Bool → ℕ → List PortWrite → ChipView → Type 0
HasVector true first writes v = Unit {0}
HasVector false first writes v = IsVector first writes v

-- the chip in a socket with its first port is as the history up to a time says
pub record IsRequesting (first socket : ℕ) (h : History) (time : ℕ) (v : ChipView) : Type 0 where
  pub device : IsDevice first socket h time (device_of v)
  pub vector : HasVector (has_fixed_vector v.kind) first h.writes v

abbrev pub HasRequests : Option ℕ → ℕ → History → ℕ → ChipView → Type 0
HasRequests None socket h time v = IsIdle v
HasRequests (Some first) socket h time v = IsRequesting first socket h time v

-- ---- a rack

-- each chip of a rack is
abbrev pub HoldRequests : ℕ → History → List ChipView → Type 0
HoldRequests time h vs = (socket : ℕ) (v : ChipView) → slice_get vs socket ≡ Some v → HasRequests v.ports socket h time v

-- and the history ends with that time
pub record IsInTime (time : ℕ) (h : History) (vs : List ChipView) : Type 0 where
  pub past : IsPast time h
  pub requests : HoldRequests time h vs

-- no write and no acknowledgement of a history lies after a time
pub record IsSettledBy (time : ℕ) (h : History) : Type 0 where
  pub writes : ArePastWrites time h.writes
  pub acknowledged : ArePastMarks time h.acknowledged

-- the chip of a socket asks; where there is no chip, none does
abbrev pub is_asking_seated : Option ChipView → Bool
is_asking_seated None = false
is_asking_seated (Some v) = is_asking v

-- ---- what chips hear and take

-- a bus step as the chip in a socket hears it, by the socket of the chip whose interrupt is acknowledged
abbrev pub marked_step : ℕ → ℕ → ℕ → Bool → HeardStep
marked_step romc byte clocks marked = record { romc = romc; byte = byte; clocks = clocks; first = marked }

-- an external pulse comes to the chip in one socket, and every other stays as it is
abbrev pub PulsesIf : Bool → ChipState → ChipState → Type 0
PulsesIf true old new = TakesPulse old new
PulsesIf false old new = new ≡ old

abbrev pub PulsesInSocket : ℕ → ℕ → ChipState → ChipState → Type 0
PulsesInSocket chosen socket old new = PulsesIf (chosen == socket) old new

abbrev pub RackPulses : ℕ → List ChipState → List ChipState → Type 0
RackPulses chosen olds news = NumberedZip (PulsesInSocket chosen) 0 olds news

-- a pulse at a chip that is described, and none at another
abbrev pub RackPulsed : Option ℕ → List ChipState → List ChipState → Type 0
RackPulsed None olds news = news ≡ olds
RackPulsed (Some chosen) olds news = RackPulses chosen olds news
