-- What contracts see of a chip's four ports where two of them are data ports.
use Rattle.f8_spec.specs.ChipState.{ChipView, blank_view}
use Rattle.f8_spec.specs.declared.chips.ChipKind.TheVariants.{Pio}
use Rattle.f8_counters.specs.declared.io_ports.IoPorts.{IoPorts}

-- the view of a chip with these ports, by what it has beside them
abbrev pub with_ports : IoPorts → ChipView → ChipView
with_ports p v = record v {
  latches = p.latches;
  key_bytes = p.key_bytes;
  control = p.interrupts.control;
  timer = p.interrupts.timer.state;
  phase = p.interrupts.timer.phase;
  vector = p.vector;
  ports = p.first;
  wired = p.interrupts.wired;
  request = p.interrupts.request;
}

-- the view of a chip that has these ports alone, as a 3861
abbrev pub ports_view : IoPorts → ChipView
ports_view p = with_ports p (blank_view Pio)
