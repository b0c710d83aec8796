-- Which chip's interrupt is taken, and where it leads (Mostek 3851 and 3853 data sheets for the vector). That the first chip of the
-- description goes first is this project's own.
use Rattle.std.specs.Prelude.{ℕ, ◌+◌, Bool, false, ◌&&◌, if◌then◌else◌, List, [], ◌∷◌, slice_get}
use Rattle.std.specs.Prelude.{Option, Some, None}
use Rattle.f8_spec.specs.Words.{word}
use Rattle.f8_spec.specs.ChipState.{has_fixed_vector, vector_under}
use Rattle.f8_spec.specs.BusArbitration.{Seat}
use Rattle.console_spec.specs.Writes.{latch_of}
use Rattle.console_spec.specs.InterruptRequests.{History, control_port, has_request}
use Rattle.console_spec.specs.declared.PortWrite.{PortWrite}

-- ---- who asks

-- a request of a chip by its first port; a chip without ports has none
abbrev pub has_request_by : Option ℕ → ℕ → History → ℕ → Bool
has_request_by None socket h time = false
has_request_by (Some first) socket h time = has_request first socket h time

-- a chip that can interrupt asks while it has a request
abbrev pub is_asking_in : Option Seat → ℕ → History → ℕ → Bool
is_asking_in None socket h time = false
is_asking_in (Some seat) socket h time = seat.wired && has_request_by seat.ports socket h time

-- the chip in a socket asks
abbrev pub is_asking_at : List Seat → History → ℕ → ℕ → Bool
is_asking_at seats h time socket = is_asking_in (slice_get seats socket) socket h time

-- the first of some sockets whose chip asks
abbrev pub first_asking : List Seat → History → ℕ → List ℕ → Option ℕ
first_asking seats h time [] = None
first_asking seats h time (socket ∷ later) =
    if is_asking_at seats h time socket then Some socket else first_asking seats h time later

-- ---- the vector

-- the byte last written to the control port of a chip
abbrev pub control_of : Option ℕ → List PortWrite → ℕ
control_of None writes = 0
control_of (Some first) writes = latch_of (control_port first) writes

-- the vector whose halves stand in a chip's first two ports
abbrev pub written_vector : Option ℕ → List PortWrite → ℕ
written_vector None writes = 0
written_vector (Some first) writes = word (latch_of first writes) (latch_of (first + 1) writes)

-- the vector that a chip gives
abbrev pub seat_vector : Seat → List PortWrite → ℕ
seat_vector seat writes = vector_under (control_of seat.ports writes)
    (if has_fixed_vector seat.kind then seat.vector else written_vector seat.ports writes)

abbrev pub vector_in : Option Seat → List PortWrite → ℕ
vector_in None writes = 0
vector_in (Some seat) writes = seat_vector seat writes

-- the vector of the chip that is chosen, and 0 where none is
abbrev pub vector_of : Option ℕ → List Seat → List PortWrite → ℕ
vector_of None seats writes = 0
vector_of (Some socket) seats writes = vector_in (slice_get seats socket) writes
