-- A board as contracts see it, and how it counts frames.
use Rattle.std.specs.Prelude.{◌≡◌, ℕ, ◌+◌, ◌*◌}
use Rattle.console_spec.specs.Scripts.{frame_clocks, frames_by}
use Rattle.video.specs.ScreenState.{Shown}

-- what is shown, and the clocks at the last look for a frame, in Φ
pub record BoardState : Type 0 where
  pub screen : Shown
  pub phi : ℕ

-- how many frames have fallen by the clocks, and the clocks at which the next one falls
abbrev pub CountsFrames : (phi frames next_frame : ℕ) → Type 0
CountsFrames phi frames next_frame = (frames ≡ frames_by phi) × (next_frame ≡ (frames + 1) * frame_clocks)
