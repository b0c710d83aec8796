-- What one pass over the chips gathers in a bus step: the chips that drive or take, the byte, and the lowest chip that stands by.
use Rattle.std.specs.Prelude.{ℕ, ◌+◌, Bool, true, false, if◌then◌else◌, List, [], ◌∷◌, ◌++◌, Option, None, Some}
use Rattle.f8_spec.specs.BusCodes.{counter_of}
use Rattle.f8_spec.specs.ChipState.{ChipView, offered, told_counters}
use Rattle.f8_spec.specs.BusArbitration.{is_first, seat_of, would_answer}
use Rattle.f8_spec.specs.declared.bus.BusRule.{BusRule}
use Rattle.f8_spec.specs.declared.bus.BusRule.TheVariants.{Read, Store, PortRead, PortWrite, Vector, NoChip}
use Rattle.f8_spec.specs.declared.bus.Counter.{Counter}
use Rattle.f8_spec.specs.declared.bus.Counter.TheVariants.{Pc0, Pc1, Dc0, NoCounter}
use Rattle.f8_spec.specs.declared.bus.Counters.{Counters}
use Rattle.f8_spec.specs.declared.bus.Party.{Party}
use Rattle.f8_spec.specs.declared.chips.Offer.{Offer}
use Rattle.data_bus.specs.declared.poll.Poll.{Poll}
use Rattle.data_bus.specs.declared.ask.Answer.{Answer}
use Rattle.data_bus.specs.declared.ask.Answer.TheVariants.{TakesPart, StandsBy, Passes}

-- the address in a counter that a chip tells
abbrev pub told_place : Counter → Counters → ℕ
told_place Pc0 c = c.pc0
told_place Pc1 c = c.pc1
told_place Dc0 c = c.dc0
told_place NoCounter c = 0

-- a chip that offers nothing stands by where it holds the probe's place
abbrev pub answer_by : Option Offer → Bool → ℕ → Answer
answer_by (Some offer) is_there at = TakesPart offer
answer_by None is_there at = if is_there then StandsBy at else Passes

-- an acknowledgement is the named chip's alone
abbrev pub is_asked : BusRule → Bool → Bool
is_asked Read mark = true
is_asked Store mark = true
is_asked PortRead mark = true
is_asked PortWrite mark = true
is_asked Vector mark = mark
is_asked NoChip mark = false

-- what a chip answers in a step
abbrev pub answer_of : BusRule → ℕ → ℕ → Bool → ChipView → Answer
answer_of rule romc reference mark v =
    if is_asked rule mark
    then answer_by (offered romc mark v) (would_answer rule (seat_of v) reference) (told_place (counter_of romc) (told_counters v))
    else Passes

abbrev pub no_poll : Poll
no_poll = record { parties = []; byte = 0; bystander = None }

-- the byte of the only party so far
abbrev pub counted_byte : List Party → ℕ → ℕ
counted_byte [] byte = byte
counted_byte (p ∷ ps) byte = 0

abbrev pub counted_bystander : Option Party → Party → Option Party
counted_bystander None q = Some q
counted_bystander (Some p) q = Some p

-- a poll with one more chip's answer
abbrev pub counted : ℕ → Answer → Poll → Poll
counted socket (TakesPart offer) poll = record {
  parties = poll.parties ++ record { socket = socket; at = offer.at } ∷ [];
  byte = counted_byte poll.parties offer.byte;
  bystander = poll.bystander;
}
counted socket (StandsBy at) poll = record poll { bystander = counted_bystander poll.bystander (record { socket = socket; at = at }) }
counted socket Passes poll = poll

-- a poll with the answers of the chips from a socket on
abbrev pub polled : BusRule → ℕ → ℕ → Option ℕ → ℕ → List ChipView → Poll → Poll
polled rule romc reference first n [] poll = poll
polled rule romc reference first n (v ∷ vs) poll =
    polled rule romc reference first (n + 1) vs (counted n (answer_of rule romc reference (is_first first n) v) poll)
