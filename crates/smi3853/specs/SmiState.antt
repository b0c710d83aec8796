-- What contracts see of a 3853.
use Rattle.std.specs.Prelude.{ℕ, List, [], Option, Some, None, option_map}
use Rattle.f8_spec.specs.ChipState.{ChipView, ChipState, blank_view}
use Rattle.f8_spec.specs.declared.chips.ChipKind.TheVariants.{Smi as SmiKind}
use Rattle.f8_spec.specs.declared.chips.Page.{Page}
use Rattle.smi3853.specs.Spaces.{Contents}
use Rattle.smi3853.specs.declared.chip.Smi.{Smi}

-- a blank chip has no page, no byte and no port
abbrev pub held_pages : Option Contents → List Page
held_pages None = []
held_pages (Some contents) = contents.pages

abbrev pub held_bytes : Option Contents → List ℕ
held_bytes None = []
held_bytes (Some contents) = contents.bytes

abbrev pub smi_view : Smi → ChipView
smi_view s = record {
  kind = SmiKind;
  pages = held_pages s.space;
  bytes = held_bytes s.space;
  counters = s.registers;
  latches = [];
  key_bytes = [];
  control = s.interrupts.control;
  timer = s.interrupts.timer.state;
  phase = s.interrupts.timer.phase;
  vector = s.vector;
  ports = option_map (λ _. 0x0C) s.space;
  wired = s.interrupts.wired;
  request = s.interrupts.request;
  last = s.last;
}

-- a 3853 tells no step that it heard, and has no patch
abbrev pub smi_state : Smi → ChipState
smi_state s = record { view = smi_view s; heard_steps = None; patch = None }

-- the state of a chip of its kind that holds no address and has no port
abbrev pub blank_smi : ChipState
blank_smi = record { view = blank_view SmiKind; heard_steps = None; patch = None }

-- how many questions were put to it
abbrev pub smi_queries : Smi → ℕ
smi_queries s = s.asked
