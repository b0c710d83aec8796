-- A served bus step as a machine tells it, and as the definitions of a run have it.
use Rattle.std.specs.Prelude.{◌<◌, List}
use Rattle.std.specs.List.{AllByRecursion}
use Rattle.console_spec.specs.BusTrace.{TracedStep}
use Rattle.f8_machine.specs.declared.heard.Heard.{Heard}

abbrev pub step_of : Heard → TracedStep
step_of h = record { romc = h.romc; long = h.long; byte = h.byte; who = h.who; taker = h.taker }

-- the bytes of steps are bytes
abbrev pub HaveBytes : List Heard → Type 0
HaveBytes steps = AllByRecursion (λ h. h.byte < 256) steps
