-- How the chip in a socket is powered on: as its description says, and where that says nothing, as all chips are. That counters begin by the
-- socket is this project's own.
use Rattle.std.specs.Prelude.{ℕ, ◌+◌, ◌*◌, ◌%◌, ◌==◌, List, position, option_map, unwrap_or}
use Rattle.f8_spec.specs.Powers.{said_of, usual_power}
use Rattle.f8_spec.specs.declared.chips.PowerOn.{PowerOn}

-- what is said of the chip in a socket, by the chain, which has the sockets of the chips described in the order of what is said of them
abbrev pub power_in : List ℕ → List PowerOn → ℕ → PowerOn
power_in chain powers socket = unwrap_or (option_map (said_of powers) (position (λ s. s == socket) chain)) usual_power

-- the address at which every counter of a chip stands where nothing is said: the power byte in both halves, and the socket added
abbrev pub power_start : ℕ → ℕ → ℕ
power_start fill socket = (fill * 257 + socket) % 65536

-- the byte in all RAM of the chip in a socket
abbrev pub fill_in : ℕ → List ℕ → List PowerOn → ℕ → ℕ
fill_in fill chain powers socket = unwrap_or (power_in chain powers socket).fill fill

-- the address at which its counters stand
abbrev pub start_in : ℕ → List ℕ → List PowerOn → ℕ → ℕ
start_in fill chain powers socket = unwrap_or (power_in chain powers socket).start (power_start fill socket)
