-- Logs worked out by hand.
use Rattle.std.proofs.Common.{◌≡◌, List, [], ◌∷◌, drop, take, refl}
use Rattle.console_spec.specs.declared.Event.{Event}
use Rattle.console_spec.specs.declared.Event.TheVariants.{Keys, Pulse}
use Rattle.rewind.specs.LogEntries.{events_in, instructions_in}
use Rattle.rewind.specs.LogView.{entries}
use Rattle.rewind.specs.declared.entry.Entry.TheVariants.{Happens, Instruction}
use Rattle.rewind.specs.declared.log.Mark.{Mark}

-- The key byte 30 comes to port 04 before the first of three instructions, and a pulse to chip 0 and the key byte 55 behind the second.
abbrev early : Event
early = Keys 0x04 0x30

abbrev pulse : Event
pulse = Pulse 0

abbrev late : Event
late = Keys 0x04 0x55

abbrev marks : List Mark
marks = record { after = 0; event = early } ∷ record { after = 2; event = pulse } ∷ record { after = 2; event = late } ∷ []

-- all of it
whole : entries marks 0 3 ≡ Happens early ∷ Instruction ∷ Instruction ∷ Happens pulse ∷ Happens late ∷ Instruction ∷ []
whole = refl

counted : instructions_in (entries marks 0 3) ≡ 3
counted = refl

events_counted : events_in (entries marks 0 3) ≡ 3
events_counted = refl

-- two instructions were played, and of the events behind them the pulse alone
played : entries (take 2 marks) 0 2 ≡ Happens early ∷ Instruction ∷ Instruction ∷ Happens pulse ∷ []
played = refl

left : entries (drop 2 marks) 2 3 ≡ Happens late ∷ Instruction ∷ []
left = refl

-- what an instruction adds
added : entries marks 0 4 ≡ Happens early ∷ Instruction ∷ Instruction ∷ Happens pulse ∷ Happens late ∷ Instruction ∷ Instruction ∷ []
added = refl

-- no event at all
plain : entries [] 0 2 ≡ Instruction ∷ Instruction ∷ []
plain = refl
