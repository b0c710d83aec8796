-- What the instruction set keeps of the requests of each chip described, in place of all writes, acknowledgements and pulses and of a
-- timer that runs. The rules of a request are this project's own.
use Rattle.std.specs.Prelude.{ℕ, ◌≡◌, ◌+◌, ◌-◌, ◌/◌, ◌%◌, ◌<◌, ◌≢◌, Bool, true, false, ◌&&◌, ◌||◌, ◌==◌, nat_lt, nat_le, if◌then◌else◌}
use Rattle.std.specs.Prelude.{AllPairs, List, [], ◌∷◌, map, position, slice_get, slice_set, slice_index, Option, Some, None, unwrap_or}
use Rattle.f8_spec.specs.Words.{word}
use Rattle.f8_spec.specs.ChipState.{has_fixed_vector, vector_under}
use Rattle.f8_spec.specs.ShiftTimer.{cycle_period, timer_loaded, clocks_to_expiry, next_in_cycle}
use Rattle.f8_spec.specs.BusArbitration.{Seat}
use Rattle.console_spec.specs.Writes.{latch_of}
use Rattle.console_spec.specs.InterruptRequests.{History, IsPast, time_of, last_load, last_write_time, has_expiry, has_mark}
use Rattle.console_spec.specs.InterruptRequests.{control_port, timer_port, since_of, request_by}
use Rattle.console_spec.specs.declared.PortWrite.{PortWrite}
use Rattle.chip_face.specs.Fitting.{fitted}
use Rattle.chip_face.specs.declared.specification.ChipSpec.{ChipSpec}
use Rattle.chip_face.specs.declared.specification.ChipSpec.TheVariants.{Blank, Psu, Smi, Pio}
use Rattle.f8_isa.specs.declared.requests.ChipRequests.{ChipRequests}

-- ---- power-on

-- the vector that is a part of the chip, and none where ports write it
abbrev pub fixed_vector_of : ChipSpec → Option ℕ
fixed_vector_of (Blank kind) = None
fixed_vector_of (Psu base rom ports vector wired) = Some vector
fixed_vector_of (Smi pages rom wired) = None
fixed_vector_of (Pio ports vector wired) = Some vector

abbrev pub first_requests : ChipSpec → ChipRequests
first_requests chip = record {
  first_port = unwrap_or (fitted None chip).ports 0;
  wired = (fitted None chip).wired;
  fixed_vector = fixed_vector_of chip;
  control = 0;
  since = 0;
  to_expiry = None;
  load_time = 0;
  expired = false;
  pulsed = false;
}

-- ---- what a chip asks for

-- a timer expires after one time and up to another, by the clocks from its load to its first expiry and the time of the load
abbrev pub expires_by : Option ℕ → ℕ → ℕ → ℕ → Bool
expires_by None load_time since until = false
expires_by (Some clocks) load_time since until = nat_le (next_in_cycle (load_time + clocks) since) until

-- how many expiries lie up to a time, by the first one
abbrev pub expiries_up_to : ℕ → ℕ → ℕ
expiries_up_to first time = if nat_lt time first then 0 else (time - first) / cycle_period + 1

-- the timer has expired by a time, since what the chip asked for was ended last
abbrev pub has_expired : ℕ → ChipRequests → Bool
has_expired until k = k.expired || expires_by k.to_expiry k.load_time k.since until

abbrev pub asks_at : ℕ → ChipRequests → Bool
asks_at time k = request_by k.control (has_expired time k) k.pulsed

-- a chip that can interrupt asks while it has a request
abbrev pub is_asking : ℕ → ChipRequests → Bool
is_asking time k = k.wired && asks_at time k

-- the place of the first chip that asks
abbrev pub asking_place : ℕ → List ChipRequests → Option ℕ
asking_place time ks = position (is_asking time) ks

-- ---- the vector

-- A vector that ports write stands in the first two ports of a 3853.
abbrev pub kept_vector : List ℕ → Option ℕ → ℕ
kept_vector latches (Some vector) = vector
kept_vector latches None = word (slice_index latches 0x0C) (slice_index latches 0x0D)

-- the vector that a chip gives
abbrev pub chip_vector : List ℕ → ChipRequests → ℕ
chip_vector latches k = vector_under k.control (kept_vector latches k.fixed_vector)

abbrev pub vector_from : Option ChipRequests → List ℕ → ℕ
vector_from None latches = 0
vector_from (Some k) latches = chip_vector latches k

-- the vector that the chip in a place gives
abbrev pub place_vector : ℕ → List ℕ → List ChipRequests → ℕ
place_vector place latches ks = vector_from (slice_get ks place) latches

-- ---- what comes to a chip

-- what it asked for is ended at a time, as by an acknowledgement
abbrev pub ended_at : ℕ → ChipRequests → ChipRequests
ended_at time k = record k { since = time; expired = false; pulsed = false }

-- a control write, a load of the timer, and a write to one port or another
abbrev pub after_control : PortWrite → ChipRequests → ChipRequests
after_control w k = record (ended_at (time_of w) k) { control = w.byte }

abbrev pub after_load : PortWrite → ChipRequests → ChipRequests
after_load w k = record k {
  to_expiry = clocks_to_expiry (timer_loaded w.byte);
  load_time = time_of w;
  expired = has_expired (time_of w) k;
}

abbrev pub after_port_write : PortWrite → ChipRequests → ChipRequests
after_port_write w k =
    if w.port == control_port k.first_port then after_control w k else
    if w.port == timer_port k.first_port then after_load w k else
    k

abbrev pub with_pulse : ChipRequests → ChipRequests
with_pulse k = record k { pulsed = true }

-- ---- what comes to the chips described

abbrev pub all_after_write : Option PortWrite → List ChipRequests → List ChipRequests
all_after_write None ks = ks
all_after_write (Some w) ks = map (after_port_write w) ks

abbrev pub pulse_from : Option ChipRequests → ℕ → List ChipRequests → List ChipRequests
pulse_from None chip ks = ks
pulse_from (Some k) chip ks = slice_set ks chip (with_pulse k)

-- a pulse at the chip in a place of the description, and none where there is no such chip
abbrev pub pulse_at_place : ℕ → List ChipRequests → List ChipRequests
pulse_at_place chip ks = pulse_from (slice_get ks chip) chip ks

abbrev pub ended_from : Option ChipRequests → ℕ → ℕ → List ChipRequests → List ChipRequests
ended_from None time place ks = ks
ended_from (Some k) time place ks = slice_set ks place (ended_at time k)

-- an interrupt of the chip in a place that is acknowledged
abbrev pub acknowledged_at_place : ℕ → ℕ → List ChipRequests → List ChipRequests
acknowledged_at_place time place ks = ended_from (slice_get ks place) time place ks

-- ---- beside the history

-- It is what the history up to a time says of the chip in a socket. A pulse is known of where control lets it in.
pub record KnowsRequests (socket : ℕ) (h : History) (time : ℕ) (k : ChipRequests) : Type 0 where
  pub control_byte : k.control ≡ latch_of (control_port k.first_port) h.writes
  pub ended : k.since ≡ since_of k.first_port socket h
  pub ended_before : k.since < time
  pub clocks : k.to_expiry ≡ clocks_to_expiry (timer_loaded (last_load (timer_port k.first_port) h.writes))
  pub load : k.load_time ≡ last_write_time (timer_port k.first_port) h.writes
  pub expiries : (until : ℕ) → has_expiry (timer_port k.first_port) k.since until h.writes ≡ has_expired until k
  pub pulse : k.control % 4 ≡ 1 → k.pulsed ≡ has_mark socket k.since time h.pulses

-- the vector that is a part of the chip, or the chip's ports are those that write one
abbrev pub IsVectorOf : Option ℕ → Seat → Type 0
IsVectorOf (Some vector) seat = (has_fixed_vector seat.kind ≡ true) × (seat.vector ≡ vector)
IsVectorOf None seat = (has_fixed_vector seat.kind ≡ false) × (seat.ports ≡ Some 0x0C)

-- what is kept of a chip and never changes is what its seat says
pub record FitsSeat (first_port : ℕ) (wired : Bool) (fixed_vector : Option ℕ) (seat : Seat) : Type 0 where
  pub ports : seat.ports ≡ Some first_port
  pub wiring : wired ≡ seat.wired
  pub vector : IsVectorOf fixed_vector seat

-- and that chip sits in the socket
pub record KnowsChip (seats : List Seat) (h : History) (time : ℕ) (k : ChipRequests) (socket : ℕ) : Type 0 where
  pub seat : Seat
  pub sits : slice_get seats socket ≡ Some seat
  pub fits : FitsSeat k.first_port k.wired k.fixed_vector seat
  pub knows : KnowsRequests socket h time k

abbrev pub KnowsEach : List Seat → History → ℕ → List ChipRequests → List ℕ → Type 0
KnowsEach seats h time [] [] = Unit {0}
KnowsEach seats h time (k ∷ ks) (socket ∷ chain) = KnowsChip seats h time k socket × KnowsEach seats h time ks chain
KnowsEach seats h time [] (socket ∷ chain) = ⊥
KnowsEach seats h time (k ∷ ks) [] = ⊥

-- it knows the requests of all chips of a chain, which are in sockets of their own, and nothing of the history lies after this time
pub record KnowsChain (seats : List Seat) (h : History) (time : ℕ) (ks : List ChipRequests) (chain : List ℕ) : Type 0 where
  pub past : IsPast time h
  pub distinct : AllPairs (λ one other. one ≢ other) chain
  pub each : KnowsEach seats h time ks chain
