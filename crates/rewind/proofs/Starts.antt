-- Where power-on and reset lead.
use Rattle.std.proofs.Common.{◌≡◌, ℕ, Bool, false, ◌+◌, ◌*◌, ◌<◌, ◌≤◌, List, [], ◌++◌, length, refl, sym, ap, subst, ◌∙◌, arith}
use Rattle.std.proofs.lemmas.List.{length-map}
use Rattle.std.specs.Prelude.{Option, Some, None}
use Rattle.f8_spec.specs.ChipState.{ChipView, ChipState, powered}
use Rattle.f8_spec.specs.BusArbitration.{Ruling, Served, Conflict as ConflictRuling, Undriven as UndrivenRuling, Astray as AstrayRuling}
use Rattle.f8_spec.specs.Powers.{ArePowers}
use Rattle.f8_spec.specs.declared.chips.PowerOn.{PowerOn}
use Rattle.console_spec.specs.BusTrace.{Course}
use Rattle.console_spec.specs.Powering.{fill_in, start_in}
use Rattle.console_spec.specs.Processor.{with_write}
use Rattle.console_spec.specs.Run.{Turn, Unserved, goes_unless, position_after_reset}
use Rattle.console_spec.specs.Run.{reset_access, reset_course, reset_fault}
use Rattle.console_spec.specs.Services.{Fault, access_ruling}
use Rattle.data_bus.specs.KnownAgreement.{no_marks}
use Rattle.data_bus.specs.Racks.{views}
use Rattle.data_bus.specs.declared.index.Index.{Index}
use Rattle.console_spec.proofs.PowerLaws.{fill_small}
use Rattle.f8_machine.specs.Advancing.{Follows}
use Rattle.f8_machine.specs.Faults.{fault_of}
use Rattle.f8_machine.specs.Fitting.{Fits, tried}
use Rattle.f8_machine.specs.HeardSteps.{HaveBytes}
use Rattle.f8_machine.specs.MachineState.{MachineState, powered_machine, steps_in}
use Rattle.f8_machine.specs.Questions.{allowances}
use Rattle.f8_machine.specs.Refinement.{IsPowered, ResetRefines}
use Rattle.f8_machine.specs.Rounds.{PowersInSocket, RackPowers}
use Rattle.f8_machine.specs.declared.heard.Heard.{Heard}
use Rattle.f8_machine.specs.declared.outcome.Outcome.{Outcome}
use Rattle.f8_machine.specs.declared.outcome.Outcome.TheVariants.{Done, Fault as FaultOutcome, Reserved}
use Rattle.rack_run.proofs.MachineTurns.{reads_kept}
use Rattle.rack_run.proofs.Outcomes.{reset_heard}
use Rattle.rack_run.proofs.PlayLaws.{powered_reads}
use Rattle.rewind.specs.Reached.{Reached, hearing, led_by, powered_on, reset_of, served_steps, started}
use Rattle.rewind.specs.Standing.{HasFollowed, HasReached, IsReady, IsStoppedBy}
use Rattle.rewind.specs.Tape.{IsStartOf, is_long_fault, stop_in, writes_with}
use Rattle.rewind.proofs.KeptChips.{powers_keeps}
use Rattle.rewind.proofs.KeptHearing.{powers_heard}
use Rattle.rewind.proofs.KeptRacks.{views_by, ready_stays}
use Rattle.rewind.specs.Asking.{allowed_since_power}
use Rattle.rewind.proofs.AskingLaws.{followed_none, steps_ask}
use Rattle.rewind.proofs.ReachedLaws.{Shows, shows_heard, goes_at, stops_at, led_heard}

-- ---- power-on

-- what power-on makes of the machine and of the chips
pub powered_shows : (fill : ℕ) (chain : List ℕ) (powers : List PowerOn) (index : Index) (m : MachineState)
    (olds news : List ChipState) →
    fill < 256 → ArePowers powers → index.marks ≡ no_marks → m ≡ powered_machine fill chain index →
    RackPowers fill chain powers olds news → IsReady olds →
    Shows m news (powered_on fill chain powers (views olds))
powered_shows fill chain powers index m olds news small are unknown is all ready = record {
  chain = ap (λ (n : MachineState). n.chain) is;
  probe = ap (λ (n : MachineState). n.probe) is;
  chips =
      views_by (PowersInSocket (fill_in fill chain powers) (start_in fill chain powers))
      (λ k v. powered (fill_in fill chain powers k) (start_in fill chain powers k) v) (λ k a b is. is.view) 0 olds news all;
  heard = powers_heard (fill_in fill chain powers) (start_in fill chain powers) 0 olds news all;
  index = subst (λ (i : Index). HasFollowed [] i) (sym (ap (λ (n : MachineState). n.index) is)) (followed_none index unknown);
  ready =
      ready_stays (PowersInSocket (fill_in fill chain powers) (start_in fill chain powers))
      (powers_keeps (fill_in fill chain powers) (start_in fill chain powers) (fill_small fill chain powers small are)) olds news all ready;
}

-- so much is allowed for power-on alone
from_power : (p q r n rooms all : ℕ) → q ≤ p + 512 * n → r + (512 * rooms + 0) ≤ q + all → rooms ≡ n → r ≤ p + all
from_power p q r n rooms all power begun size = omega arith

-- ---- reset

-- the step that wasn't served is a long one
abbrev long_in : Option (Fault × Bool) → Bool
long_in None = false
long_in (Some fault) = fault.1

module _ (r : Reached) (m after : MachineState) (mids news : List ChipState) (shows : Shows m mids r) (running : r.stop ≡ None)
    (begins : IsPowered m mids r.position) where
  abbrev turn : Turn
  turn = goes_unless (reset_fault r.position) (position_after_reset r.position)

  reset_by : (outcome : Outcome) → ResetRefines outcome m after news r.position →
      Shows after news (hearing (served_steps (reset_course r.position)) r) → HasReached after news (reset_of r)
  reset_by (Done wrote steps) done heard =
      goes_at after news (hearing (served_steps (reset_course r.position)) r)
      (goes_unless (reset_fault r.position) (position_after_reset r.position)) done.after done.turns heard running done.represents
  reset_by (FaultOutcome fault long steps) faulted heard =
      stops_at after news (hearing (served_steps (reset_course r.position)) r)
      (goes_unless (reset_fault r.position) (position_after_reset r.position)) (Unserved (fault_of fault)) faulted.turns heard
      (record {
        reads = reads_kept m after (ap (λ (n : MachineState). n.flow) faulted.kept) (ap (λ (n : MachineState). n.cpu) faulted.kept)
            (ap (λ (n : MachineState). n.phi) faulted.kept) ∙ powered_reads m mids r.position begins;
        stopped = subst (λ (n : MachineState). IsStoppedBy (Unserved (fault_of fault)) n.mode) (sym faulted.kept) refl;
      })
  reset_by (Reserved at code) refines heard = absurd refines

  pub reset_at : (outcome : Outcome) → Follows outcome m after mids news → HaveBytes (steps_in outcome) →
      ResetRefines outcome m after news r.position → HasReached after news (reset_of r)
  reset_at outcome follows bytes refines =
      reset_by outcome refines
      (shows_heard outcome m after mids news r (reset_course r.position) shows follows bytes
      (reset_heard outcome m after news r.position refines))

  reset_stop : (outcome : Outcome) → ResetRefines outcome m after news r.position → stop_in outcome ≡ (reset_of r).stop
  reset_stop (Done wrote steps) done =
      sym running
      ∙ sym (ap (λ (t : Turn). (led_by t (hearing (served_steps (reset_course r.position)) r)).stop) done.turns)
  reset_stop (FaultOutcome fault long steps) faulted =
      sym (ap (λ (t : Turn). (led_by t (hearing (served_steps (reset_course r.position)) r)).stop) faulted.turns)
  reset_stop (Reserved at code) refines = absurd refines

  reset_writes : (outcome : Outcome) → ResetRefines outcome m after news r.position →
      writes_with outcome [] ≡ (reset_of r).position.flat.state.writes
  reset_writes (Done wrote steps) done =
      ap (with_write wrote) (sym begins.unwritten) ∙ sym done.written
      ∙ sym (ap (λ (t : Turn). (led_by t (hearing (served_steps (reset_course r.position)) r)).position.flat.state.writes) done.turns)
  reset_writes (FaultOutcome fault long steps) faulted =
      sym begins.unwritten
      ∙ sym (ap (λ (t : Turn). (led_by t (hearing (served_steps (reset_course r.position)) r)).position.flat.state.writes)
      faulted.turns)
  reset_writes (Reserved at code) refines = absurd refines

  -- the one step that may not be served is short
  short_course : (ruling : Ruling) → access_ruling r.position.flat.state.flow r.position.copies reset_access ≡ ruling →
      long_in (reset_course r.position).fault ≡ false
  short_course (Served socket) is = rw is refl
  short_course (ConflictRuling parties) is = rw is refl
  short_course (UndrivenRuling at) is = rw is refl
  short_course (AstrayRuling socket at reference) is = rw is refl

  reset_short : (outcome : Outcome) → ResetRefines outcome m after news r.position → is_long_fault outcome ≡ false
  reset_short (Done wrote steps) done = refl
  reset_short (FaultOutcome fault long steps) faulted =
      sym (ap (λ (c : Course). long_in c.fault) faulted.trace)
      ∙ short_course (access_ruling r.position.flat.state.flow r.position.copies reset_access) refl
  reset_short (Reserved at code) refines = absurd refines

  -- the outcome is that of power-on and reset
  pub reset_outcome : (outcome : Outcome) → ResetRefines outcome m after news r.position → r.heard ≡ [] →
      IsStartOf outcome (reset_of r)
  reset_outcome outcome refines none = record {
    steps = reset_heard outcome m after news r.position refines
        ∙ sym (led_heard turn (hearing (served_steps (reset_course r.position)) r)
        ∙ ap (λ (l : List Heard). l ++ served_steps (reset_course r.position)) none);
    stop = reset_stop outcome refines;
    short = reset_short outcome refines;
    wrote = reset_writes outcome refines;
  }

-- power-on and then the steps of reset ask so many questions
pub start_asks : (n fill : ℕ) (chain : List ℕ) (powers : List PowerOn) (outcome : Outcome) (m after : MachineState)
    (olds mids news : List ChipState) → length mids ≡ n → length news ≡ n →
    Shows m mids (powered_on fill chain powers (views olds)) → Follows outcome m after mids news →
    ResetRefines outcome m after news (powered_on fill chain powers (views olds)).position →
    HasReached after news (started fill chain powers (views olds)) → IsStartOf outcome (started fill chain powers (views olds)) →
    Fits m mids → Fits after news → (p q r : ℕ) → q ≤ p + 512 * n →
    r ≤ q + allowances n m.index (tried m.mode outcome) →
    r ≤ p + allowed_since_power (started fill chain powers (views olds))
start_asks n fill chain powers outcome m after olds mids news long kept shows follows refines at is fits fit p q r power few =
    let on = powered_on fill chain powers (views olds) in
    let begun : r + allowed_since_power on ≤ q + allowed_since_power (started fill chain powers (views olds)) =
    steps_ask n m after mids news on (started fill chain powers (views olds)) outcome long kept shows.chips at.chips fits fit
    shows.index follows.index refl (sym is.steps) is.stop q r few in
    let size : length on.chips ≡ n =
    ap (λ (vs : List ChipView). length vs) (sym shows.chips) ∙ length-map mids (λ (s : ChipState). s.view) ∙ long in
    from_power p q r n (length on.chips) (allowed_since_power (started fill chain powers (views olds))) power begun size
