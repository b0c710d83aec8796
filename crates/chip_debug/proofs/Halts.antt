-- A session that nothing stopped, and one that has stopped.
use Rattle.std.proofs.Common.{◌≡◌, Bool, true, false, List, refl, sym, ap, ◌∙◌}
use Rattle.std.specs.Prelude.{Option, Some, None, is_some, option_map}
use Rattle.f8_spec.specs.ChipState.{ChipState}
use Rattle.console_spec.specs.Run.{Stop}
use Rattle.f8_machine.specs.declared.outcome.Outcome.{Outcome}
use Rattle.f8_machine.specs.declared.outcome.Outcome.TheVariants.{Done, Fault, Reserved}
use Rattle.rack_run.specs.Endings.{stop_of}
use Rattle.rewind.specs.Tape.{stop_in}
use Rattle.chip_debug.specs.Scenes.{Scene, has_stopped, reached}
use Rattle.chip_debug.specs.Standing.{SessionState, IsAt, halt_in}

pub none_of : {A : Type 0} → (o : Option A) → is_some o ≡ false → o ≡ None
none_of None e = refl
none_of (Some x) e = cc

some_mapped : {A B : Type 0} → (f : A → B) (o : Option A) → is_some (option_map f o) ≡ is_some o
some_mapped f None = refl
some_mapped f (Some x) = refl

-- what stops it by an outcome is what the tape says of that
pub halt_told : (outcome : Outcome) → option_map stop_of (halt_in outcome) ≡ stop_in outcome
halt_told (Done wrote steps) = refl
halt_told (Fault fault long steps) = refl
halt_told (Reserved address code) = refl

pub runs_at : (s : SessionState) (states : List ChipState) (scene : Scene) → IsAt s states scene → s.halt ≡ None →
    (reached scene).stop ≡ None
runs_at s states scene at none = sym at.stop ∙ ap (option_map stop_of) none

-- the scene has stopped where the session has
pub stops_as : (s : SessionState) (states : List ChipState) (scene : Scene) → IsAt s states scene →
    has_stopped scene ≡ is_some s.halt
stops_as s states scene at =
    ap (λ (stop : Option Stop). is_some stop) (sym at.stop) ∙ some_mapped stop_of s.halt

-- and where it hasn't, no instruction has stopped it
pub not_stopped : (s : SessionState) (states : List ChipState) (scene : Scene) → IsAt s states scene → is_some s.halt ≡ false →
    scene.stopped ≡ false
not_stopped s states scene at running = by scene.stopped at.stopped
  where
    by : (b : Bool) → (b ≡ true → has_stopped scene ≡ true) → b ≡ false
    by true stops = absurd (let stopped = stops refl in let runs = stops_as s states scene at ∙ running in cc)
    by false stops = refl
