-- Which chip's interrupt is taken at the end of the instruction held, as the machine finds it on its rack.
use Rattle.std.specs.Prelude.{ℕ, Bool, false, not, ◌&&◌, if◌then◌else◌, List, [], ◌∷◌, slice_get, Option, Some, None}
use Rattle.f8_spec.specs.ChipState.{ChipState}
use Rattle.f8_spec.specs.Instructions.{is_shielding}
use Rattle.f8_spec.specs.declared.instructions.Op.{Op}
use Rattle.data_bus.specs.Racks.{views}
use Rattle.f8_machine.specs.RequestsHeld.{is_asking_seated}

-- the chip in a socket asks
abbrev pub asks_in : List ChipState → ℕ → Bool
asks_in states socket = is_asking_seated (slice_get (views states) socket)

-- the first of some sockets whose chip asks
abbrev pub first_in : List ChipState → List ℕ → Option ℕ
first_in states [] = None
first_in states (socket ∷ later) = if asks_in states socket then Some socket else first_in states later

-- an interrupt may be taken at the end of an instruction: it doesn't shield its end, and the interrupt control bit is set
abbrev pub is_open : Option Op → Bool → Bool
is_open None icb = false
is_open (Some op) icb = not (is_shielding op) && icb

abbrev pub chosen_by : Option Op → Bool → List ChipState → List ℕ → Option ℕ
chosen_by held icb states chain = if is_open held icb then first_in states chain else None
