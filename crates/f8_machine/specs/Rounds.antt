-- What the chips of a rack are after the bus steps of a record, and what those that tell it heard.
use Rattle.std.specs.Prelude.{◌≡◌, ℕ, Bool, false, ◌==◌, ◌&&◌, ◌||◌, List, [], ◌∷◌, ◌++◌, map, Option, Some}
use Rattle.f8_spec.specs.ChipState.{ChipView, ChipState, HeardStep, PowersOn, after_step, told_step}
use Rattle.f8_spec.specs.Instructions.{step_clocks}
use Rattle.data_bus.specs.Racks.{NumberedZip}
use Rattle.f8_spec.specs.declared.chips.PowerOn.{PowerOn}
use Rattle.console_spec.specs.Powering.{fill_in, start_in}
use Rattle.console_spec.specs.BusTrace.{TracedStep}
use Rattle.console_spec.specs.declared.Who.{Who}
use Rattle.console_spec.specs.declared.Who.TheVariants.{Cpu, Socket, Nobody}
use Rattle.f8_machine.specs.declared.heard.Heard.{Heard}

-- a step of the definitions' trace, as a machine tells it
abbrev pub heard_of : TracedStep → Heard
heard_of t = record { romc = t.romc; long = t.long; byte = t.byte; who = t.who; taker = t.taker }

abbrev pub is_socket : ℕ → Who → Bool
is_socket socket Cpu = false
is_socket socket (Socket driver) = driver == socket
is_socket socket Nobody = false

-- a step of a record as the chip in a socket hears it: in the two codes of an acknowledgement it is marked where it gave its vector
abbrev pub heard_in : ℕ → Heard → HeardStep
heard_in socket h = record {
  romc = h.romc;
  byte = h.byte;
  clocks = step_clocks h.long;
  first = (h.romc == 0x0F || h.romc == 0x13) && is_socket socket h.who;
}

-- the chip in a socket after the steps
abbrev pub after_steps : ℕ → List Heard → ChipView → ChipView
after_steps socket [] v = v
after_steps socket (h ∷ later) v = after_steps socket later (after_step (heard_in socket h) v)

-- where the steps heard are told afterwards, they were told before, and have gained these
pub record HearsSteps (socket : ℕ) (steps : List Heard) (old new : Option (List HeardStep)) : Type 0 where
  pub told : (now : List HeardStep) → new ≡ Some now →
      (before : List HeardStep) × (old ≡ Some before) × (now ≡ before ++ map (λ h. told_step (heard_in socket h)) steps)

-- a chip after the steps of a record; its patch stays
pub record Runs (steps : List Heard) (socket : ℕ) (old new : ChipState) : Type 0 where
  pub view : new.view ≡ after_steps socket steps old.view
  pub heard : HearsSteps socket steps old.heard_steps new.heard_steps
  pub patch : new.patch ≡ old.patch

abbrev pub RackRuns : List Heard → List ChipState → List ChipState → Type 0
RackRuns steps olds news = NumberedZip (Runs steps) 0 olds news

-- power-on of the chip in a socket, by the byte that fills its RAM and the address at which its counters stand
abbrev pub PowersInSocket : (ℕ → ℕ) → (ℕ → ℕ) → ℕ → ChipState → ChipState → Type 0
PowersInSocket fill start socket old new = PowersOn (fill socket) (start socket) old new

-- power-on of a rack, with the chain of the chips described and what is said of each
abbrev pub RackPowers : ℕ → List ℕ → List PowerOn → List ChipState → List ChipState → Type 0
RackPowers fill chain powers olds news =
    NumberedZip (PowersInSocket (fill_in fill chain powers) (start_in fill chain powers)) 0 olds news
