-- An instruction and an event of the flat instruction set, and a whole run on it, which needs no chip.
use Rattle.std.proofs.Common.{◌≡◌, ℕ, ◌+◌, ◌≤◌, Bool, true, false, List, [], ◌∷◌, length, Option, refl, sym, ap}
use Rattle.std.proofs.Common.{◌∙◌, subst, arith}
use Rattle.console_spec.specs.FlatMachine.{FlatState}
use Rattle.std.specs.Prelude.{Some, None, slice_get}
use Rattle.f8_spec.specs.Instructions.{decoded}
use Rattle.f8_spec.specs.declared.instructions.Op.{Op}
use Rattle.console_spec.specs.Run.{Position, Goes, Stops, decided, flat_next, chain_in_order, opcode_at, position_after}
use Rattle.console_spec.specs.Run.{position_after_reset, power_position, with_pulse_at}
use Rattle.console_spec.specs.declared.Event.{Event}
use Rattle.console_spec.specs.declared.Event.TheVariants.{Keys, Pulse}
use Rattle.f8_machine.specs.RequestsHeld.{RackPulsed}
use Rattle.rack_run.specs.Lives.{ComesTo}
use Rattle.console_spec.specs.Scripts.{Script, events_at}
use Rattle.console_spec.specs.Telling.{Telling, begun, told_in, on_flat, referred_by}
use Rattle.console_spec.specs.declared.PortWrite.{PortWrite}
use Rattle.f8_isa.specs.IsaState.{IsaState, StandsAt, LeadsTo, TakesPulse, TakesEarlyPulse}
use Rattle.f8_machine.proofs.RackLaws.{rack_runs_none}
use Rattle.f8_machine.specs.Keying.{RackKeyed, RackKeyedBy, is_own}
use Rattle.f8_spec.specs.declared.chips.PowerOn.{PowerOn}
use Rattle.f8_spec.specs.ChipState.{ChipState, ChipView}
use Rattle.outside.specs.SinkRules.{Output, Adds, AddsPart}
use Rattle.outside.proofs.SinkLaws.{adds_none}
use Rattle.rack_run.specs.Endings.{TellsEnd, stop_of}
use Rattle.rack_run.specs.Machines.{BeginsAt, flat_readout, flat_reads}
use Rattle.rack_run.specs.Progressing.{Keeps}
use Rattle.rack_run.specs.Texts.{text_in}
use Rattle.rack_run.specs.Turns.{Readout, StepsDone, StepsHalt, RunsOut, RunsShort, rest_on}
use Rattle.rack_run.specs.declared.detail.Detail.{Detail}
use Rattle.rack_run.specs.declared.detail.Detail.TheVariants.{Writes}
use Rattle.rack_run.specs.declared.ending.Ending.{Ending}
use Rattle.rack_run.specs.declared.ending.Halt.{Halt}
use Rattle.rack_run.proofs.EventLaws.{event_writes}
use Rattle.rack_run.proofs.PlayLaws.{cut_part, new_progress, keeps_new}
use Rattle.rack_run.proofs.ToldTexts.{text_in-nil}
use Rattle.rack_run.proofs.TurnLaws.{events_quiet}

count_there : (isa : IsaState) (count : ℕ) (y : Position) → StandsAt isa count y → y.flat.state.count ≡ count
count_there isa count y stands = ap (λ (f : FlatState). f.state.count) stands.flat

-- ---- an instruction, with no bus step

-- it stays on its chain
decided_chain : (x y : Position) (at code : ℕ) (found : Option Op) →
    decided (λ op. Goes (position_after op x)) at code found ≡ Goes y → y.chain ≡ x.chain
decided_chain x y at code None e = cc
decided_chain x y at code (Some op) e =
    let same : position_after op x ≡ y = cc in
    ap (λ (z : Position). z.chain) (sym same)

flat_chain : (x y : Position) → flat_next x ≡ Goes y → y.chain ≡ x.chain
flat_chain x y e = decided_chain x y x.flat.state.flow.p (opcode_at x) (decoded (opcode_at x)) e

pub flat_steps_done : (detail : Detail) (isa : IsaState) (wrote : Option PortWrite) (states : List ChipState)
    (a : Output) (x : Position) →
    LeadsTo x isa (x.flat.state.count + 1) wrote →
    StepsDone detail on_flat (λ y. StandsAt isa y.flat.state.count y) wrote states states a a x
flat_steps_done detail isa wrote states a x leads =
    let counts = count_there isa (x.flat.state.count + 1) leads.next leads.stands in
    record {
      there = leads.next;
      turns = leads.goes;
      at = subst (λ (n : ℕ). StandsAt isa n leads.next) (sym counts) leads.stands;
      same_chain = flat_chain x leads.next leads.goes;
      counts = counts;
      writes = leads.gains;
      heard = rack_runs_none 0 states;
      lines = rw (text_in-nil detail) (adds_none a);
    }

pub flat_steps_halt : (detail : Detail) (isa : IsaState) (states : List ChipState) (a : Output) (x : Position)
    (halt : Halt) →
    StandsAt isa x.flat.state.count x → flat_next x ≡ Stops (stop_of halt) →
    StepsHalt detail on_flat (flat_readout isa) states states a a x halt
flat_steps_halt detail isa states a x halt stands stops = record {
  turns = stops;
  state = flat_reads isa states x stands;
  heard = rack_runs_none 0 states;
  lines = rw (text_in-nil detail) (adds_none a);
}

-- ---- a pulse

pub pulsed_begins : (chip : ℕ) (before after : IsaState) (x : Position) → BeginsAt before x →
    TakesEarlyPulse chip before after → BeginsAt after (with_pulse_at chip x)
pulsed_begins chip before after x begins takes = record {
  unwritten = event_writes (Pulse chip) x ∙ begins.unwritten;
  stands = takes 0 x begins.unwritten begins.stands;
}

pub pulsed_stands : (chip : ℕ) (before after : IsaState) (x : Position) → StandsAt before x.flat.state.count x →
    TakesPulse chip before after → StandsAt after (with_pulse_at chip x).flat.state.count (with_pulse_at chip x)
pulsed_stands chip before after x stands takes =
    subst (λ (n : ℕ). StandsAt after n (with_pulse_at chip x)) (sym (events_quiet (Pulse chip ∷ []) x).1)
    (takes x.flat.state.count x stands)

-- ---- a key byte comes to no chip

keyed_by : (own : Bool) (port byte : ℕ) (states : List ChipState) → length states ≤ 0 →
    RackKeyedBy own port byte states states
keyed_by true port byte states none = refl
keyed_by false port byte [] none = tt
keyed_by false port byte (s ∷ states) none = absurd (some_chip none)
  where
    some_chip : length (s ∷ states) ≤ 0 → ⊥
    some_chip none = omega (arith, none)

pub no_chip_keyed : (port byte : ℕ) (states : List ChipState) → length states ≤ 0 → RackKeyed port byte states states
no_chip_keyed port byte states none = keyed_by (is_own port) port byte states none

-- nor does a pulse
pulsed_by : (socket : Option ℕ) (states : List ChipState) → length states ≤ 0 → RackPulsed socket states states
pulsed_by None states none = refl
pulsed_by (Some socket) [] none = tt
pulsed_by (Some socket) (s ∷ states) none = absurd (some_chip none)
  where
    some_chip : length (s ∷ states) ≤ 0 → ⊥
    some_chip none = omega (arith, none)

-- so that an event comes to no chip
pub no_chip_comes : (event : Event) (chain : List ℕ) (states : List ChipState) → length states ≤ 0 →
    ComesTo chain event states states
no_chip_comes (Keys port byte) chain states none = no_chip_keyed port byte states none
no_chip_comes (Pulse chip) chain states none = pulsed_by (slice_get chain chip) states none

-- ---- a whole run

abbrev pub start_of : List ChipView → List PowerOn → Script → Position
start_of vs powers script = position_after_reset (begun vs (chain_in_order vs) powers script)

referred_is : (vs : List ChipView) (powers : List PowerOn) (script : Script) →
    referred_by vs powers script ≡ rest_on on_flat script (start_of vs powers script)
unfolding referred_by
referred_is vs powers script = refl

module _ (vs : List ChipView) (powers : List PowerOn) (script : Script) (olds news : List ChipState) (a b : Output) where
  pub tells_whole : (ending : Ending) → RunsOut Writes on_flat script ending olds news a b (start_of vs powers script) →
      TellsEnd ending (referred_by vs powers script).ending
  tells_whole ending out = subst (λ (t : Telling). TellsEnd ending t.ending) (sym (referred_is vs powers script)) out.tells

  pub lines_whole : (ending : Ending) → RunsOut Writes on_flat script ending olds news a b (start_of vs powers script) →
      Adds a b (text_in Writes (told_in (referred_by vs powers script).moments))
  lines_whole ending out =
      subst (λ (t : Telling). Adds a b (text_in Writes (told_in t.moments))) (sym (referred_is vs powers script)) out.lines

  pub lines_cut : (Asks : List ℕ → Type 0) → RunsShort Asks Writes on_flat script olds news a b (start_of vs powers script) →
      AddsPart a b (text_in Writes (told_in (referred_by vs powers script).moments))
  lines_cut Asks short =
      subst (λ (t : Telling). AddsPart a b (text_in Writes (told_in t.moments))) (sym (referred_is vs powers script))
      (cut_part Writes (start_of vs powers script).chain (rest_on on_flat script (start_of vs powers script)).moments olds news a b short.cut)

-- after power-on, reset and the events of frame 0
pub stands_at_start : (isa : IsaState) (vs : List ChipView) (powers : List PowerOn) (script : Script) → StandsAt isa 0 (start_of vs powers script) →
    StandsAt isa (start_of vs powers script).flat.state.count (start_of vs powers script)
stands_at_start isa vs powers script stands =
    subst (λ (n : ℕ). StandsAt isa n (start_of vs powers script)) (sym (count_there isa 0 (start_of vs powers script) stands)) stands

pub keeps_at_start : (isa : IsaState) (vs : List ChipView) (powers : List PowerOn) (script : Script) (phi : ℕ) →
    StandsAt isa 0 (start_of vs powers script) →
    phi ≡ isa.phi → Keeps (new_progress phi) (start_of vs powers script).flat.state
keeps_at_start isa vs powers script phi stands same =
    let quiet = events_quiet (events_at 0 script.events) (power_position vs (chain_in_order vs) powers script.power) in
    keeps_new phi (start_of vs powers script).flat.state quiet.0 quiet.1
    (same ∙ ap (λ (r : Readout). r.phi) (flat_reads isa [] (start_of vs powers script) (stands_at_start isa vs powers script stands)))
