-- What contracts see of a 3851.
use Rattle.std.specs.Prelude.{ℕ, ◌==◌, if◌then◌else◌, List, [], None}
use Rattle.f8_spec.specs.ChipState.{ChipView, ChipState, blank_view}
use Rattle.f8_spec.specs.declared.chips.ChipKind.TheVariants.{Psu as PsuKind}
use Rattle.f8_spec.specs.declared.chips.Page.{Page}
use Rattle.f8_counters.specs.IoPortsView.{with_ports}
use Rattle.chip_face.specs.Fitting.{psu_pages}
use Rattle.psu3851.specs.declared.chip.Psu.{Psu}

-- a blank chip has no page and no byte
abbrev pub held_pages : Psu → List Page
held_pages p = if p.size == 0 then [] else psu_pages p.base

abbrev pub held_bytes : Psu → List ℕ
held_bytes p = if p.size == 0 then [] else p.rom

abbrev pub psu_view : Psu → ChipView
psu_view p = with_ports p.ports (record (blank_view PsuKind) {
  pages = held_pages p;
  bytes = held_bytes p;
  counters = p.registers;
  last = p.last;
})

-- a 3851 tells no step that it heard, and has no patch
abbrev pub psu_state : Psu → ChipState
psu_state p = record { view = psu_view p; heard_steps = None; patch = None }

-- the state of a chip of its kind that holds no address and has no port
abbrev pub blank_psu : ChipState
blank_psu = record { view = blank_view PsuKind; heard_steps = None; patch = None }

-- how many questions were put to it
abbrev pub psu_queries : Psu → ℕ
psu_queries p = p.asked
