-- What contracts see of a listener: the chip in it, and the steps that it heard while it tells them.
use Rattle.std.specs.Prelude.{ℕ, Some, None, []}
use Rattle.f8_spec.specs.ChipState.{ChipState, blank_view}
use Rattle.f8_spec.specs.declared.chips.ChipKind.{ChipKind}
use Rattle.chip_fakes.specs.Recording.{Recording}
use Rattle.chip_fakes.specs.Rounds.{round_state, round_queries}
use Rattle.chip_fakes.specs.declared.listener.Listener.{Listener}

abbrev pub listener_state : Listener → ChipState
listener_state l = record { view = (round_state l.chip).view; heard_steps = l.recorder.steps; patch = None }

-- the steps that it tells, with its room
abbrev pub recording_of : Listener → Recording
recording_of l = l.recorder

-- a blank chip of a kind that has heard nothing, and tells so
abbrev pub blank_listener : ChipKind → ChipState
blank_listener kind = record { view = blank_view kind; heard_steps = Some []; patch = None }

-- how many questions were put to it
abbrev pub listener_queries : Listener → ℕ
listener_queries l = round_queries l.chip
