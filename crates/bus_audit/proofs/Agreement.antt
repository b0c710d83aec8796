-- Positions that differ in inputs alone agree in all that no input is.
use Rattle.std.proofs.Common.{◌≡◌, ℕ, Bool, true, false, List, Some, refl, sym, subst}
use Rattle.std.specs.Prelude.{if◌then◌else◌}
use Rattle.f8_spec.specs.ChipState.{admits_pulses, admits_expiries}
use Rattle.console_spec.specs.InterruptChoice.{control_of}
use Rattle.console_spec.specs.InterruptRequests.{Mark, has_expiry, has_mark, since_of, timer_port}
use Rattle.console_spec.specs.Processor.{history_of}
use Rattle.console_spec.specs.Run.{Position}
use Rattle.bus_audit.specs.Determinacy.{with_free, DiffersInInputs, AgreesBesideInputs}

-- without a control that lets pulses in they don't count
unpulsed : (timer pin expired first second : Bool) → pin ≡ false →
    (if timer then expired else if pin then second else false) ≡ (if timer then expired else if pin then first else false)
unpulsed true pin expired first second none = refl
unpulsed false true expired first second none = absurd (cc)
unpulsed false false expired first second none = refl

agrees_with_free : (keys : List ℕ) (pulses : List Mark) (y : Position) → AgreesBesideInputs y (with_free keys pulses y)
agrees_with_free keys pulses y = record {
  registers = refl;
  counters = refl;
  copies = refl;
  bytes = refl;
  instructions = refl;
  clocks = refl;
  latches = λ port. refl;
  controls = λ ports. refl;
  vectors = λ seat. refl;
  loads = λ port. refl;
  load_times = λ port. refl;
  timer_requests = λ first socket time none.
      let writes = y.flat.state.writes in
      let since = since_of first socket (history_of y.flat.state) in
      let control = control_of (Some first) writes in
      unpulsed (admits_expiries control) (admits_pulses control) (has_expiry (timer_port first) since time writes)
      (has_mark socket since time y.flat.state.pulses) (has_mark socket since time pulses) none;
}

pub agrees : (y z : Position) → DiffersInInputs y z → AgreesBesideInputs y z
agrees y z differs =
    subst (AgreesBesideInputs y) (sym differs.same) (agrees_with_free z.flat.state.keys z.flat.state.pulses y)
