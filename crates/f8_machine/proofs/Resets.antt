-- The bus steps of reset, one by one.
use Rattle.std.proofs.Common.{◌≡◌, ℕ, Bool, List, [], ◌∷◌, Some, None, refl, sym, ap, subst, ◌∙◌}
use Rattle.std.specs.Prelude.{Result, Ok, Err, IfOk, OnErr}
use Rattle.f8_spec.specs.BusCodes.{driver_of}
use Rattle.f8_spec.specs.ChipState.{ChipState}
use Rattle.f8_spec.specs.MicroSteps.{Step, Opcode, short_step, reset_steps}
use Rattle.console_spec.specs.CounterCopies.{fetched}
use Rattle.console_spec.specs.Processor.{byte_of}
use Rattle.console_spec.specs.Run.{Position, reset_gets}
use Rattle.cpu3850.specs.CpuSteps.{bus_step}
use Rattle.cpu3850.specs.Reaching.{is_placed_by, Places}
use Rattle.probe.specs.ProbeState.{ProbeState}
use Rattle.data_bus.specs.Racks.{views}
use Rattle.data_bus.specs.declared.fault.BusFault.{BusFault}
use Rattle.cpu3850.specs.declared.steps.Step.{Step as Cpu3850Step}
use Rattle.f8_machine.specs.BusSteps.{IsPlain, IsServed, IsRefused, heard_served}
use Rattle.f8_machine.specs.Faults.{fault_of}
use Rattle.f8_machine.specs.Rounds.{RackRuns}
use Rattle.f8_machine.proofs.RackLaws.{rack_runs_more, rack_runs_stays, plain_marks}
use Rattle.f8_machine.proofs.Slots.{rack_stays_same}
use Rattle.f8_machine.specs.Resetting.{IsAtPower, IsFetched, IsNotFetched}
use Rattle.f8_machine.specs.declared.heard.Heard.{Heard}
use Rattle.f8_machine.proofs.Copies.{copies_same}
use Rattle.f8_machine.proofs.Remains.{OnBus, bus_byte_is, on_bus_more, on_bus_stops}
use Rattle.f8_machine.proofs.Starts.{reset_aim, reset-starts, along-ends}

module _ (x : Position) where
  -- what is left of reset
  abbrev pub Left : List Step → ProbeState → List ChipState → List Heard → Type 0
  Left rest probe states steps = OnBus (reset_gets x.flat.memory) x (reset_aim x) rest probe states steps

  pub reset_first : (probe : ProbeState) (states : List ChipState) → IsAtPower probe states x →
      Left reset_steps probe states []
  reset_first probe states at = record {
    so_far = [];
    recorded = refl;
    along = reset-starts x probe states at.rack at.whole;
  }

  -- a step before the fetch
  pub reset_more : (s : Step) (rest : List Step) → IsPlain s.romc → (probe probe_now : ProbeState) (states states_now : List ChipState)
      (steps steps_now : List Heard) (byte : ℕ) →
      Places (is_placed_by (driver_of s.romc)) 0 (byte_of (reset_gets x.flat.memory) s.source) →
      IsServed (bus_step s) 0 probe probe_now states states_now steps steps_now byte →
      Left (s ∷ rest) probe states steps → Left rest probe_now states_now steps_now
  reset_more s rest plain probe probe_now states states_now steps steps_now byte places served left =
      on_bus_more (reset_gets x.flat.memory) x
      (reset_aim x) s rest probe states steps left plain 0 byte probe_now states_now steps_now places served

  -- the fetch
  pub reset_last : (probe probe_now : ProbeState) (states states_now : List ChipState) (steps steps_now : List Heard)
      (byte : ℕ) →
      IsServed (bus_step (short_step 0x00 Opcode)) 0 probe probe_now states states_now steps steps_now byte →
      Left (short_step 0x00 Opcode ∷ []) probe states steps →
      IsFetched byte probe_now states_now steps_now x
  reset_last probe probe_now states states_now steps steps_now byte served left =
      let i = reset_gets x.flat.memory in
      let bus = on_bus_more i x (reset_aim x) (short_step 0x00 Opcode) [] probe states steps left refl 0 byte
      probe_now states_now steps_now tt served in
      let ended = along-ends i x (reset_aim x) probe_now (views states_now) bus.so_far bus.along in
      record {
        opcode_is = bus_byte_is i x (reset_aim x)
            (short_step 0x00 Opcode) [] probe states steps left refl 0 byte probe_now states_now steps_now tt served;
        rack = record {
          reference = ended.reference;
          copies = copies_same ended.now (λ second c. fetched (record c { p = 0 })) probe_now.last x.copies
              (views states_now)
              ended.moves ended.copies;
          flat = ended.flat;
          ports = ended.ports;
          in_time = ended.in_time;
        };
        served = ended.fault;
        so_far = bus.so_far;
        recorded = bus.recorded;
        trace = ended.course;
      }

  -- a step that is not served
  pub reset_stops : (s : Step) (rest : List Step) (probe probe_now : ProbeState) (states states_now : List ChipState)
      (steps steps_now : List Heard) (fault : BusFault) (long : Bool) →
      IsRefused (bus_step s) fault probe probe_now states states_now steps steps_now → long ≡ s.long →
      Left (s ∷ rest) probe states steps → IsNotFetched steps_now fault long x
  reset_stops s rest probe probe_now states states_now steps steps_now fault long refused is left =
      let stops = on_bus_stops (reset_gets x.flat.memory) x
      (reset_aim x) s rest probe states steps left fault probe_now states_now steps_now refused in
      record {
        unserved = stops.fault_is;
        so_far = stops.so_far;
        recorded = stops.recorded;
        trace = stops.course_is ∙ ap (λ (b : Bool). record { steps = stops.so_far; fault = Some (fault_of fault, b) })
            (sym is);
      }

-- ---- what a step that is served or not leaves

-- a clause on an answer, said otherwise
pub if_ok : {A E : Type 0} (P Q : A → Type 0) (r : Result A E) → ((a : A) → P a → Q a) → IfOk r P → IfOk r Q
if_ok P Q (Ok a) f p = f a p
if_ok P Q (Err e) f p = p

-- what holds anyhow holds of a refusal
pub on_err : {A E : Type 0} (r : Result A E) (P : Type 0) → P → OnErr r P
on_err (Ok a) P p = tt
on_err (Err e) P p = p

-- two clauses on a refusal
pub on_err_both : {A E : Type 0} (P R Q : Type 0) (r : Result A E) → (P → R → Q) → OnErr r P → OnErr r R → OnErr r Q
on_err_both P R Q (Ok a) f p q = p
on_err_both P R Q (Err e) f p q = f p q

-- the rack after a step that is served
pub rack_served : (step : Cpu3850Step) → IsPlain step.romc → (byte : ℕ) (probe probe_now : ProbeState) (olds mids news : List ChipState)
    (steps steps_now : List Heard) → RackRuns steps olds mids →
    IsServed step 0 probe probe_now mids news steps steps_now byte → RackRuns steps_now olds news
rack_served step plain byte probe probe_now olds mids news steps steps_now ran served =
    subst (λ (l : List Heard). RackRuns l olds news) (sym served.recorded)
    (rack_runs_more None 0 steps (heard_served step byte served.socket) olds mids news
    (plain_marks (heard_served step byte served.socket) plain) ran served.settled)

-- and after one that is served or not
pub rack_ran : {E : Type 0} (step : Cpu3850Step) → IsPlain step.romc → (r : Result ℕ E) (fault : BusFault) (probe probe_now : ProbeState)
    (olds mids news : List ChipState) (steps steps_now : List Heard) → RackRuns steps olds mids →
    IfOk r (λ byte. IsServed step 0 probe probe_now mids news steps steps_now byte) →
    OnErr r (IsRefused step fault probe probe_now mids news steps steps_now) →
    RackRuns steps_now olds news
rack_ran step plain (Ok byte) fault probe probe_now olds mids news steps steps_now ran served refused =
    rack_served step plain byte probe probe_now olds mids news steps steps_now ran served
rack_ran step plain (Err e) fault probe probe_now olds mids news steps steps_now ran served refused =
    subst (λ (l : List Heard). RackRuns l olds news) (sym refused.recorded)
    (rack_runs_stays steps olds mids news ran (rack_stays_same mids news refused.stays))
