-- What a run keeps beside its machine: what is shown, and what was counted so far.
use Rattle.std.specs.Prelude.{◌≡◌, ℕ, ◌+◌, ◌==◌, nat_le, Bool, if◌then◌else◌, length, Option, Some, None}
use Rattle.console_spec.specs.declared.PortWrite.{PortWrite}
use Rattle.console_spec.specs.Processor.{State}
use Rattle.console_spec.specs.Scripts.{frames_by}
use Rattle.console_spec.specs.declared.End.{End}
use Rattle.console_spec.specs.declared.End.TheVariants.{Frames, Steps}
use Rattle.video.specs.ScreenState.{Shown, screen_after, after_write}
use Rattle.rack_run.specs.Endings.{bytes_written}

-- the screen, the clocks so far in Φ, the instructions done, the writes that ports took, and the sum of their bytes
pub record ProgressState : Type 0 where
  pub screen : Shown
  pub phi : ℕ
  pub count : ℕ
  pub writes : ℕ
  pub bytes : ℕ

-- it is that of a run which has come to a state
pub record Keeps (p : ProgressState) (s : State) : Type 0 where
  pub screen : p.screen ≡ screen_after s.writes
  pub phi : p.phi ≡ s.phi
  pub count : p.count ≡ s.count
  pub writes : p.writes ≡ length s.writes
  pub bytes : p.bytes ≡ bytes_written s.writes

abbrev pub screen_with : Option PortWrite → Shown → Shown
screen_with None s = s
screen_with (Some w) s = after_write w.port w.byte s

abbrev pub writes_with : Option PortWrite → ℕ → ℕ
writes_with None n = n
writes_with (Some w) n = n + 1

abbrev pub byte_sum_with : Option PortWrite → ℕ → ℕ
byte_sum_with None n = n
byte_sum_with (Some w) n = n + w.byte

-- after one more instruction, with its write and the clocks at its end
abbrev pub progress_with : Option PortWrite → ℕ → ProgressState → ProgressState
progress_with wrote phi p = record {
  screen = screen_with wrote p.screen;
  phi = phi;
  count = p.count + 1;
  writes = writes_with wrote p.writes;
  bytes = byte_sum_with wrote p.bytes;
}

-- the frame that falls where the clocks come to these
abbrev pub frame_at : ProgressState → ℕ → Option ℕ
frame_at p phi = if frames_by phi == frames_by p.phi then None else Some (frames_by phi)

-- the run ends there
abbrev pub ends_at : End → ProgressState → Bool
ends_at (Steps n) p = p.count == n
ends_at (Frames n) p = nat_le n (frames_by p.phi)
