-- What an answer of the bus says of the bus rule.
use Rattle.std.proofs.Common.{◌≡◌, ℕ, true, false, List, [], ◌∷◌, ◌++◌, refl, ap, ◌∙◌, sym}
use Rattle.std.specs.Prelude.{Option, Some, None, Ok, Err}
use Rattle.f8_spec.specs.ChipState.{ChipState}
use Rattle.f8_spec.specs.BusArbitration.{Ruling, Served as ServedBy, Conflict, Undriven, Astray, rule_by}
use Rattle.f8_spec.specs.declared.bus.Driver.{Driver}
use Rattle.f8_spec.specs.declared.bus.Driver.TheVariants.{Memory, CounterByte, Vector, Port, Cpu, Nobody}
use Rattle.console_spec.specs.BusTrace.{taker_by}
use Rattle.console_spec.specs.Services.{fault_by}
use Rattle.probe.specs.ProbeState.{ProbeState, probe_after}
use Rattle.cpu3850.specs.declared.steps.Step.{Step}
use Rattle.data_bus.specs.Racks.{ChosenAsks, RackSettles, RackStays}
use Rattle.data_bus.specs.Steps.{answered, step_answer}
use Rattle.data_bus.specs.declared.cycle.Served.{Served}
use Rattle.data_bus.specs.declared.fault.BusFault.{BusFault}
use Rattle.f8_machine.specs.BusSteps.{IsPlain, IsServedBy, IsRefusedBy, heard_served}
use Rattle.f8_machine.specs.Faults.{fault_of}
use Rattle.f8_machine.specs.declared.heard.Heard.{Heard}

pub answered_served : (romc byte : ℕ) (v : Ruling) (served : Served) → Ok served ≡ answered romc byte v →
    v ≡ ServedBy served.socket
answered_served romc byte (ServedBy socket) served e = let same : served ≡ record { byte = byte; socket = socket } =
    cc in ap (λ (s : Served). ServedBy s.socket) (sym same)
answered_served romc byte (Conflict parties) served e = cc
answered_served romc byte (Undriven at) served e = cc
answered_served romc byte (Astray socket at reference) served e = cc

pub answered_byte : (romc byte : ℕ) (v : Ruling) (served : Served) → Ok served ≡ answered romc byte v →
    served.byte ≡ byte
answered_byte romc byte (ServedBy socket) served e = let same : served ≡ record { byte = byte; socket = socket } = cc in
    ap (λ (s : Served). s.byte) same
answered_byte romc byte (Conflict parties) served e = cc
answered_byte romc byte (Undriven at) served e = cc
answered_byte romc byte (Astray socket at reference) served e = cc

pub answered_fault : (romc byte : ℕ) (v : Ruling) (fault : BusFault) → Err fault ≡ answered romc byte v →
    fault_by romc v ≡ Some (fault_of fault)
answered_fault romc byte (ServedBy socket) fault e = cc
answered_fault romc byte (Conflict parties) fault e = let same : fault ≡ BusFault.Conflict romc parties = cc in
    ap (λ (f : BusFault). Some (fault_of f)) (sym same)
answered_fault romc byte (Undriven at) fault e = let same : fault ≡ BusFault.Undriven romc at = cc in
    ap (λ (f : BusFault). Some (fault_of f)) (sym same)
answered_fault romc byte (Astray socket at reference) fault e =
    let same : fault ≡ BusFault.Astray romc socket at reference = cc in
    ap (λ (f : BusFault). Some (fault_of f)) (sym same)

-- a step that the bus serves
pub served_by : (first : Option ℕ) (step : Step) (placed : ℕ) (before after : ProbeState) (olds news : List ChipState)
    (earlier now : List Heard) (served : Served) →
    Ok served ≡ step_answer (record { romc = step.romc; long = step.long; byte = placed; first = first }) before olds →
    RackSettles step.romc step.long first served.byte olds news → after ≡ probe_after step.romc served.byte before →
    now ≡ earlier ++ heard_served step served.byte served.socket ∷ [] →
    IsServedBy first step placed before after olds news earlier now served.byte
served_by first step placed before after olds news earlier now served answer settled heard recorded = record {
  socket = served.socket;
  ruling = answered_served _ _ _ served answer;
  driven = answered_byte _ _ _ served answer;
  settled = settled;
  heard = heard;
  recorded = recorded;
}

-- and one that it does not
pub refused_by : (first : Option ℕ) (step : Step) (placed : ℕ) (before after : ProbeState) (olds news : List ChipState)
    (earlier now : List Heard) (fault : BusFault) →
    Err fault ≡ step_answer (record { romc = step.romc; long = step.long; byte = placed; first = first }) before olds →
    RackStays olds news → after ≡ before → now ≡ earlier →
    IsRefusedBy first step fault before after olds news earlier now
refused_by first step placed before after olds news earlier now fault answer stays unheard recorded = record {
  ruling = answered_fault _ _ _ fault answer;
  stays = stays;
  unheard = unheard;
  recorded = recorded;
}

-- where no acknowledgement comes no chip has to ask
pub none_chosen : (romc : ℕ) (states : List ChipState) → IsPlain romc → ChosenAsks romc None states
none_chosen romc states plain acknowledged = let no : true ≡ false = sym acknowledged ∙ plain in cc

-- a chip takes a byte in a store and in a port write alone
pub taker_none : (d : Driver) (socket : Option ℕ) → taker_by (rule_by d) socket ≡ None
taker_none Memory socket = refl
taker_none CounterByte socket = refl
taker_none Vector socket = refl
taker_none Port socket = refl
taker_none Cpu socket = refl
taker_none Nobody socket = refl
