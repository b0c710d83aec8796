-- What a run is given from outside: its power-on byte, when it ends, what comes at which frame, and which frames are shown. All of it is
-- this project's own.
use Rattle.std.specs.Prelude.{ℕ, ◌*◌, ◌/◌, ◌==◌, if◌then◌else◌, List, [], ◌∷◌}
use Rattle.console_spec.specs.declared.Event.{Event}
use Rattle.console_spec.specs.declared.At.{At}
use Rattle.console_spec.specs.declared.End.{End}
use Rattle.console_spec.specs.declared.End.TheVariants.{Frames, Steps}

pub record Script : Type 0 where
  pub power : ℕ
  pub end : End
  pub events : List At
  pub shows : List ℕ

-- the clocks of a frame, in Φ
abbrev pub frame_clocks : ℕ
frame_clocks = 29830

-- how many frames have fallen, by the clocks so far
abbrev pub frames_by : ℕ → ℕ
frames_by phi = phi / frame_clocks

-- the events of a frame, in the order of the text
abbrev pub events_at : ℕ → List At → List Event
events_at frame [] = []
events_at frame (a ∷ later) = if a.frame == frame then a.event ∷ events_at frame later else events_at frame later

-- at least as many instructions as a run can have, each of which takes 4 clocks at least
abbrev pub most_instructions : End → ℕ
most_instructions (Steps n) = n
most_instructions (Frames n) = n * frame_clocks
