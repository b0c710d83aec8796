-- What becomes of the chips of a rack in the moments of a run: each hears the bus steps, and takes the events behind them.
use Rattle.std.specs.Prelude.{◌≡◌, ℕ, List, [], ◌∷◌, map, slice_get}
use Rattle.f8_spec.specs.ChipState.{ChipState}
use Rattle.console_spec.specs.Telling.{Moment}
use Rattle.console_spec.specs.declared.Event.{Event}
use Rattle.console_spec.specs.declared.Event.TheVariants.{Keys, Pulse}
use Rattle.f8_machine.specs.Keying.{RackKeyed}
use Rattle.f8_machine.specs.RequestsHeld.{RackPulsed}
use Rattle.f8_machine.specs.Rounds.{RackRuns, heard_of}

-- A key byte comes to the chips that have its port. A pulse comes to the chip that it names, by the sockets of the chips described.
abbrev pub ComesTo : List ℕ → Event → List ChipState → List ChipState → Type 0
ComesTo chain (Keys port byte) olds news = RackKeyed port byte olds news
ComesTo chain (Pulse chip) olds news = RackPulsed (slice_get chain chip) olds news

-- one event after another
abbrev pub Come : List ℕ → List Event → List ChipState → List ChipState → Type 0
Come chain [] olds news = news ≡ olds
Come chain (e ∷ es) olds news = (mids : List ChipState) × ComesTo chain e olds mids × Come chain es mids news

pub record LivesMoment (chain : List ℕ) (m : Moment) (olds news : List ChipState) : Type 0 where
  pub between : List ChipState
  pub heard : RackRuns (map heard_of m.heard) olds between
  pub came : Come chain m.events between news

-- one moment after another
abbrev pub Lives : List ℕ → List Moment → List ChipState → List ChipState → Type 0
Lives chain [] olds news = news ≡ olds
Lives chain (m ∷ ms) olds news =
    (mids : List ChipState) × LivesMoment chain m olds mids × Lives chain ms mids news
