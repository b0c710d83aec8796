-- What contracts see of a recorder.
use Rattle.std.specs.Prelude.{◌≤◌, if◌then◌else◌, map, length, Some, None, vec_capacity}
use Rattle.f8_spec.specs.ChipState.{HeardStep}
use Rattle.chip_fakes.specs.Recording.{Recording}
use Rattle.chip_fakes.specs.declared.recorder.Heard.{Heard}
use Rattle.chip_fakes.specs.declared.recorder.Recorder.TheInside.{Inside}

abbrev pub heard_step : Heard → HeardStep
heard_step h = record { romc = h.romc; byte = h.byte; clocks = h.phi; first = h.first }

abbrev pub recording : Inside → Recording
recording r = record { room = r.room; steps = if r.tells then Some (map heard_step r.steps.items) else None }

-- the room was taken, and is not passed
pub record HasRoom (r : Inside) : Type 0 where
  pub reserved : r.room ≤ vec_capacity r.steps
  pub within : length r.steps.items ≤ r.room
