-- A pulse keeps what the machine and the rack stand for.
use Rattle.std.proofs.Common.{◌≡◌, Some, None, refl, slice_get, sym}
use Rattle.f8_machine.proofs.FitMachines.{pulsed_fits}
use Rattle.f8_machine.proofs.Pulsed.{represents_pulsed, powered_pulsed}
use Rattle.f8_machine.proofs.machine.Machine.pulse.Goals as goal
use Rattle.f8_machine.proofs.machine.Machine.pulse.Goals.{in-Some, in_default}

pub returns-clause-pulsed : goal.returns-clause-pulsed
returns-clause-pulsed g c = elim c.match-get.branch [
  | in-Some w ↦
      let found : slice_get c.args.self.now.chain c.args.chip ≡ Some w.in-Some.socket =
      rw (← c.self.view_is, ← c.from.ensures) (sym w.in-Some.ensures) in
      rw (w.rack-is, found) w.pulse_at.ensures.pulsed
  | in_default w ↦
      let none : slice_get c.args.self.now.chain c.args.chip ≡ None =
      rw (← c.self.view_is, ← c.from.ensures) (sym w.in_default.ensures) in
      rw (w.rack-is, none) refl
]

pub returns-clause-powered : goal.returns-clause-powered
returns-clause-powered g c = λ x p. powered_pulsed c.args.self.now _ _ x c.args.chip (returns-clause-pulsed g c) p

pub returns-clause-running : goal.returns-clause-running
returns-clause-running g c = λ x r. represents_pulsed c.args.self.now _ _ x c.args.chip (returns-clause-pulsed g c) r

pub returns-clause-fits : goal.returns-clause-fits
returns-clause-fits g c =
    pulsed_fits (slice_get c.args.self.now.chain c.args.chip) c.args.self.now.index c.args.self.now.probe _ _ (returns-clause-pulsed g c)
    c.requires.fits
