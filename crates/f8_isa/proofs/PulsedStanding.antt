-- A pulse leaves the instruction set beside the flat machine.
use Rattle.std.proofs.Common.{◌≡◌, ℕ, ◌+◌, List, refl, sym, ap, subst, arith}
use Rattle.std.specs.Prelude.{slice_get, Option, Some, None}
use Rattle.console_spec.specs.InterruptRequests.{History, with_mark}
use Rattle.console_spec.specs.Processor.{history_of}
use Rattle.console_spec.specs.FlatMachine.{FlatState}
use Rattle.console_spec.specs.CounterCopies.{Copy}
use Rattle.console_spec.specs.Run.{Position, seats_of, pulse_in, with_pulse_at, position_after_reset}
use Rattle.f8_isa.specs.Ports.{AreLatches, KnowsPorts}
use Rattle.f8_isa.specs.Requests.{KnowsChain, pulse_at_place}
use Rattle.f8_isa.specs.IsaState.{IsaState, KnowsRam, StandsAt, TakesPulse, TakesEarlyPulse, flat_of}
use Rattle.f8_isa.proofs.RequestChains.{with_pulse_in, chain-pulsed, chain-early}

-- from a position that is written out
stands_out : (chip : ℕ) (isa : IsaState) (count : ℕ) (h : History) (copies : List Copy) (chain : List ℕ) (found : Option ℕ) →
    KnowsRam isa.ram_pages (seats_of copies) → KnowsPorts isa.ports (seats_of copies) → AreLatches isa.ports.latches h.writes →
    KnowsChain (seats_of copies) (with_pulse_in found isa.phi h) isa.phi (pulse_at_place chip isa.requests) chain →
    StandsAt (record isa { requests = pulse_at_place chip isa.requests }) count
    (pulse_in found (record { flat = flat_of isa count h; copies = copies; chain = chain }))
stands_out chip isa count h copies chain None ram ports latches requests =
    record { flat = refl; ram = ram; ports = ports; latches = latches; requests = requests }
stands_out chip isa count h copies chain (Some socket) ram ports latches requests =
    record { flat = refl; ram = ram; ports = ports; latches = latches; requests = requests }

pub takes-pulse : (chip : ℕ) (isa : IsaState) → TakesPulse chip isa (record isa { requests = pulse_at_place chip isa.requests })
takes-pulse chip isa count x stands =
    let h = history_of x.flat.state in
    subst (λ (f : FlatState). StandsAt (record isa { requests = pulse_at_place chip isa.requests }) count
    (with_pulse_at chip (record { flat = f; copies = x.copies; chain = x.chain }))) (sym stands.flat)
    (stands_out chip isa count h x.copies x.chain (slice_get x.chain chip) stands.ram stands.ports stands.latches
    (chain-pulsed (seats_of x.copies) chip h isa.phi isa.requests x.chain (slice_get x.chain chip) refl stands.requests))

-- before reset
early_out : (chip : ℕ) (isa : IsaState) (count : ℕ) (x : Position) (found : Option ℕ) → StandsAt isa count (position_after_reset x) →
    KnowsChain (seats_of x.copies) (with_pulse_in found x.flat.state.phi (history_of x.flat.state)) isa.phi (pulse_at_place chip isa.requests) x.chain →
    StandsAt (record isa { requests = pulse_at_place chip isa.requests }) count (position_after_reset (pulse_in found x))
early_out chip isa count x None stands requests =
    record { flat = stands.flat; ram = stands.ram; ports = stands.ports; latches = stands.latches; requests = requests }
early_out chip isa count x (Some socket) stands requests = record {
  flat = ap (marked socket x.flat.state.phi) stands.flat;
  ram = stands.ram;
  ports = stands.ports;
  latches = stands.latches;
  requests = requests;
}
  where
    marked : ℕ → ℕ → FlatState → FlatState
    marked socket phi f = record f { state = record f.state { pulses = with_mark socket phi f.state.pulses } }

pub takes-early_pulse : (chip : ℕ) (isa : IsaState) → TakesEarlyPulse chip isa (record isa { requests = pulse_at_place chip isa.requests })
takes-early_pulse chip isa count x none stands =
    let clocks : x.flat.state.phi + 14 ≡ isa.phi = ap (λ (f : FlatState). f.state.phi) stands.flat in
    early_out chip isa count x (slice_get x.chain chip) stands
    (chain-early (seats_of x.copies) chip x.flat.state.phi (history_of x.flat.state) isa.phi isa.requests x.chain (slice_get x.chain chip) refl
    (omega (arith, clocks)) none stands.requests)
