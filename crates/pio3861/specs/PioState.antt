-- What contracts see of a 3861.
use Rattle.std.specs.Prelude.{ℕ, None}
use Rattle.f8_spec.specs.ChipState.{ChipView, ChipState, blank_view}
use Rattle.f8_spec.specs.declared.chips.ChipKind.TheVariants.{Pio as PioKind}
use Rattle.f8_counters.specs.IoPortsView.{with_ports}
use Rattle.pio3861.specs.declared.chip.Pio.{Pio}

-- it holds no page, and its counters are 0
abbrev pub pio_view : Pio → ChipView
pio_view p = with_ports p.ports (record (blank_view PioKind) { last = p.last })

-- a 3861 tells no step that it heard, and has no patch
abbrev pub pio_state : Pio → ChipState
pio_state p = record { view = pio_view p; heard_steps = None; patch = None }

-- the state of a chip of its kind that has no port
abbrev pub blank_pio : ChipState
blank_pio = record { view = blank_view PioKind; heard_steps = None; patch = None }

-- how many questions were put to it
abbrev pub pio_queries : Pio → ℕ
pio_queries p = p.asked
