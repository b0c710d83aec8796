-- The chip that takes the pulse is that of the socket.
use Rattle.bus_rows.proofs.Indexed.{fits_pulsed}
use Rattle.bus_rows.proofs.bus.pulse.Goals as goal

pub returns : goal.returns
returns g c = record {
  fits = fits_pulsed (λ b. (goal.Chip-dyn g (b.vtable, b.value)).state b.value) c.args.bus.now.index c.args.bus.now.probe
      c.args.rack.now.items c.args.socket c.index_mut.result.now c.pulse_at.new.chip c.requires.seated
      (rw c.index_mut.ensures.value at c.pulse_at.ensures) c.requires.fits;
}
