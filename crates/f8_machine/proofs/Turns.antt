-- A bus step takes one step of what is left of an instruction or of reset, or stops it.
use Rattle.std.proofs.Common.{◌≡◌, ℕ, ◌+◌, ◌<◌, Bool, true, false, List, [], ◌∷◌, ◌++◌, map, refl, ap, ◌∙◌, sym, subst}
use Rattle.std.proofs.Common.{arith, eq-eqb}
use Rattle.std.specs.Prelude.{◌==◌, if◌then◌else◌, Option, Some, None}
use Rattle.std.specs.List.{enumerate_from}
use Rattle.std.proofs.lemmas.List.Sums.{sum_by-cons}
use Rattle.f8_spec.specs.BusCodes.{Count, driver_of, moved_by}
use Rattle.f8_spec.specs.ChipState.{ChipView, after_step}
use Rattle.f8_spec.specs.BusArbitration.{Ruling, Served, place_in, rule_of, view_ruling, bus_byte}
use Rattle.f8_spec.specs.Instructions.{step_clocks}
use Rattle.f8_spec.specs.MicroSteps.{Step, clocks_along}
use Rattle.f8_spec.specs.ShiftTimer.{step_period}
use Rattle.console_spec.specs.Processor.{Flow, Inputs, byte_of}
use Rattle.console_spec.specs.FlatMemory.{stored_at}
use Rattle.console_spec.specs.BusAccesses.{Access}
use Rattle.console_spec.specs.Services.{Fault, fault_by, access_ruling, or_later, first_fault}
use Rattle.console_spec.specs.BusTrace.{TracedStep, traced, with_step, course_by, course_of, is_access}
use Rattle.console_spec.specs.BusTrace.{unaccessed}
use Rattle.console_spec.specs.InterruptRequests.{Mark}
use Rattle.console_spec.specs.declared.PortWrite.{PortWrite}
use Rattle.f8_machine.specs.BusSteps.{IsPlain}
use Rattle.f8_machine.specs.RackViews.{AreCopies, HoldsFlat, HoldsPorts}
use Rattle.f8_machine.specs.RequestsHeld.{IsInTime}
use Rattle.f8_machine.proofs.RequestSteps.{in_time_more}
use Rattle.f8_machine.proofs.StepTests.{no_vector_rule, no_end, puts_later, put_accumulator, put_clocks}
use Rattle.f8_machine.proofs.StepTests.{accumulator_byte}
use Rattle.console_spec.specs.Run.{Position, seats_of}
use Rattle.cpu3850.specs.Reaching.{is_placed_by, Places}
use Rattle.probe.specs.ProbeState.{ProbeState, probe_after}
use Rattle.f8_machine.proofs.Places.{places_along, with_place, named_place}
use Rattle.f8_machine.proofs.Bounds.{AreAt}
use Rattle.f8_machine.proofs.Slots.{plain_step}
use Rattle.f8_machine.proofs.Copies.{ruling_same, copies_more, seats_same, all_heard}
use Rattle.f8_machine.proofs.PortValues.{PortIs, writes_by}
use Rattle.f8_machine.proofs.PortReads.{served_port}
use Rattle.f8_machine.proofs.PortSteps.{ports_more}
use Rattle.f8_spec.specs.declared.bus.Driver.{Driver}
use Rattle.f8_spec.specs.declared.bus.Driver.TheVariants.{Port}
use Rattle.console_spec.specs.Writes.{chip_port_byte}
use Rattle.f8_machine.proofs.Along.{Aim, Along, AtAccess, at_access, with_steps, with_steps-step, with_steps-stop}
use Rattle.f8_machine.proofs.Along.{fault_stops, no_fault, no_access, course_idle, course_access, flat_more, long_more}
use Rattle.f8_machine.proofs.Along.{byte_is, history_with, acknowledged_by, unaccessed_none}

-- the bus rule on a step
abbrev pub step_ruling : Step → ProbeState → List ChipView → Ruling
step_ruling s probe vs = view_ruling s.romc None (place_in s.romc probe.count probe.last) (enumerate_from 0 vs)

-- the chips after a step with its byte
abbrev pub chips_after_step : Step → ℕ → ℕ → List ChipView → List ChipView
chips_after_step s byte clocks vs = map (after_step (plain_step s.romc byte clocks)) vs

-- a step is shorter than the timer's
pub step_small : (long : Bool) → step_clocks long < step_period
step_small true = omega arith
step_small false = omega arith

module _ (i : Inputs) (x : Position) (aim : Aim) (s : Step) (later : List Step) (probe : ProbeState)
    (vs : List ChipView) (so_far : List TracedStep) where
  -- the step as an access, or as none
  accessed : (left : Along i x aim (s ∷ later) probe vs so_far) → is_access (rule_of s.romc) ≡ true →
      AtAccess i s later left.now probe.last left.accesses
  accessed left e = at_access i s later left.now probe.last x.flat.state.flow left.accesses
      (λ second c. subst (λ (b : Bool). with_place b (s.romc, place_in s.romc (left.now second c) probe.last)
      (places_along second i later (moved_by s.romc (byte_of i s.source) second (left.now second c))
      (byte_of i s.source)) ≡ map (named_place second c) left.accesses) e (left.places second c))

  idle_places : (left : Along i x aim (s ∷ later) probe vs so_far) → is_access (rule_of s.romc) ≡ false →
      (second : Bool) (c : Flow) →
      places_along second i later (moved_by s.romc (byte_of i s.source) second (left.now second c)) (byte_of i s.source)
      ≡ map (named_place second c) left.accesses
  idle_places left e second c =
      subst (λ (b : Bool). with_place b (s.romc, place_in s.romc (left.now second c) probe.last)
      (places_along second i later (moved_by s.romc (byte_of i s.source) second (left.now second c))
      (byte_of i s.source)) ≡ map (named_place second c) left.accesses) e (left.places second c)

  same_place : (left : Along i x aim (s ∷ later) probe vs so_far) (e : is_access (rule_of s.romc) ≡ true) →
      place_in s.romc probe.count probe.last ≡ (accessed left e).a.place true x.flat.state.flow
  same_place left e = ap (λ (c : Count). place_in s.romc c probe.last) left.reference
      ∙ (accessed left e).place true x.flat.state.flow

  same_ruling : (left : Along i x aim (s ∷ later) probe vs so_far) (e : is_access (rule_of s.romc) ≡ true) →
      step_ruling s probe vs ≡ access_ruling x.flat.state.flow x.copies (accessed left e).a
  same_ruling left e =
      let at = accessed left e in
      ruling_same left.now probe.last s.romc (place_in s.romc probe.count probe.last) at.a x.flat.state.flow x.copies
      vs at.code at.place (same_place left e) left.copies

  pub idle_ruling : is_access (rule_of s.romc) ≡ false → step_ruling s probe vs ≡ Served None
  idle_ruling e = no_access (rule_of s.romc) s.romc (place_in s.romc probe.count probe.last) _ e

  -- the faults that are left, by those of the step
  access_faults : (left : Along i x aim (s ∷ later) probe vs so_far) (e : is_access (rule_of s.romc) ≡ true) →
      or_later (fault_by s.romc (step_ruling s probe vs))
      (first_fault x.flat.state.flow x.copies (accessed left e).behind) ≡ aim.fault
  access_faults left e =
      let at = accessed left e in
      ap (λ (v : Ruling). or_later (fault_by s.romc v) (first_fault x.flat.state.flow x.copies at.behind))
      (same_ruling left e)
      ∙ ap (λ (romc : ℕ). or_later (fault_by romc (access_ruling x.flat.state.flow x.copies at.a))
      (first_fault x.flat.state.flow x.copies at.behind)) (sym at.code)
      ∙ ap (λ (l : List Access). first_fault x.flat.state.flow x.copies l) (sym at.are)
      ∙ left.fault

  access_course : (left : Along i x aim (s ∷ later) probe vs so_far) (e : is_access (rule_of s.romc) ≡ true) →
      with_steps so_far (course_by i s (step_ruling s probe vs)
      (course_of i x.flat.state.flow x.copies later (accessed left e).behind)) ≡ aim.course
  access_course left e =
      let at = accessed left e in
      ap (λ (v : Ruling). with_steps so_far (course_by i s v (course_of i x.flat.state.flow x.copies later at.behind)))
      (same_ruling left e)
      ∙ ap (with_steps so_far) (sym (course_access i x.flat.state.flow x.copies s later at.a at.behind e))
      ∙ ap (λ (l : List Access). with_steps so_far (course_of i x.flat.state.flow x.copies (s ∷ later) l)) (sym at.are)
      ∙ left.course

  -- ---- a step that is not served

  pub record Stopped (fault : Fault) : Type 0 where
    pub fault_is : aim.fault ≡ Some fault
    pub course_is : aim.course ≡ record { steps = so_far; fault = Some (fault, s.long) }

  stops_by : (b : Bool) → is_access (rule_of s.romc) ≡ b → Along i x aim (s ∷ later) probe vs so_far → (fault : Fault) →
      fault_by s.romc (step_ruling s probe vs) ≡ Some fault → Stopped fault
  stops_by true e left fault f = record {
    fault_is = sym (access_faults left e) ∙ ap (λ (o : Option Fault). or_later o
        (first_fault x.flat.state.flow x.copies (accessed left e).behind)) f;
    course_is = sym (access_course left e)
        ∙ ap (with_steps so_far) (fault_stops i s (step_ruling s probe vs)
        (course_of i x.flat.state.flow x.copies later (accessed left e).behind) fault f)
        ∙ with_steps-stop so_far fault s.long;
  }
  stops_by false e left fault f =
      let none : fault_by s.romc (step_ruling s probe vs) ≡ None =
      no_fault s.romc (step_ruling s probe vs) None (idle_ruling e) in cc

  pub along-stops : Along i x aim (s ∷ later) probe vs so_far → (fault : Fault) →
      fault_by s.romc (step_ruling s probe vs) ≡ Some fault → Stopped fault
  along-stops left fault f = stops_by (is_access (rule_of s.romc)) refl left fault f

  -- ---- a step that is served

  -- the byte of a port
  port_byte : (left : Along i x aim (s ∷ later) probe vs so_far) → (placed : ℕ) (socket : Option ℕ) →
      driver_of s.romc ≡ Port →
      step_ruling s probe vs ≡ Served socket → bus_byte s.romc None placed (enumerate_from 0 vs) ≡ byte_of i s.source
  port_byte left placed socket by_port served =
      let is : PortIs Port (seats_of x.copies) x.flat.state.keys left.writes probe.last (byte_of i s.source) =
      subst (λ (d : Driver). PortIs d (seats_of x.copies) x.flat.state.keys left.writes probe.last (byte_of i s.source))
      by_port left.port_values.0 in
      served_port probe.last vs (all_heard left.now probe.last x.copies vs left.copies) s.romc placed
      (place_in s.romc probe.count probe.last) socket x.flat.state.keys left.writes by_port left.ports served
      ∙ ap (λ seats. chip_port_byte probe.last seats x.flat.state.keys left.writes)
      (seats_same left.now probe.last x.copies vs left.copies)
      ∙ sym is

  pub along-byte : Along i x aim (s ∷ later) probe vs so_far → IsPlain s.romc → (placed : ℕ) (socket : Option ℕ) →
      Places (is_placed_by (driver_of s.romc)) placed (byte_of i s.source) →
      step_ruling s probe vs ≡ Served socket → bus_byte s.romc None placed (enumerate_from 0 vs) ≡ byte_of i s.source
  along-byte left plain placed socket places served =
      byte_is (driver_of s.romc) s.romc placed (byte_of i s.source)
      (place_in s.romc probe.count probe.last) socket vs left.memory plain refl places left.values.0 left.flat
      (λ reads. let e : is_access (rule_of s.romc) ≡ true = ap is_access reads in
      let at = accessed left e in
      let small = subst (λ (l : List Access). AreAt x.flat.state.flow l) at.are left.small in
      subst (λ (n : ℕ). n < 65536) (sym (same_place left e)) (small.0 (ap rule_of at.code ∙ reads)))
      (λ by_port. port_byte left placed socket by_port served)
      served

  -- the socket that is told of a step: that of the chip which answers the access, or which gives its vector
  abbrev pub IsSocketBy : Bool → Option ℕ → Type 0
  IsSocketBy true socket = step_ruling s probe vs ≡ Served socket
  IsSocketBy false socket = unaccessed (rule_of s.romc) i ≡ socket

  -- a served step of no acknowledgement
  plain_socket : IsPlain s.romc → (socket : Option ℕ) → step_ruling s probe vs ≡ Served socket →
      (b : Bool) → is_access (rule_of s.romc) ≡ b → IsSocketBy b socket
  plain_socket plain socket served true e = served
  plain_socket plain socket served false e =
      let none : Served None ≡ Served socket = sym (idle_ruling e) ∙ served in
      let same : None ≡ socket = cc in
      unaccessed_none (rule_of s.romc) i e (no_vector_rule s.romc plain) ∙ same

  -- what an access, or a step that is none, leaves of the accesses
  pub record Behind (left : Along i x aim (s ∷ later) probe vs so_far) (socket : Option ℕ) : Type 0 where
    pub accesses : List Access
    pub places : (second : Bool) (c : Flow) → places_along second i later
        (moved_by s.romc (byte_of i s.source) second (left.now second c)) (byte_of i s.source)
        ≡ map (named_place second c) accesses
    pub small : AreAt x.flat.state.flow accesses
    pub fault : first_fault x.flat.state.flow x.copies accesses ≡ aim.fault
    pub course : with_steps (so_far ++ traced i s socket ∷ []) (course_of i x.flat.state.flow x.copies later accesses)
        ≡ aim.course

  pub behind_by : (b : Bool) → is_access (rule_of s.romc) ≡ b →
      (left : Along i x aim (s ∷ later) probe vs so_far) (socket : Option ℕ) → IsSocketBy b socket →
      Behind left socket
  behind_by true e left socket served =
      let at = accessed left e in
      let small : AreAt x.flat.state.flow (at.a ∷ at.behind) =
      subst (λ (l : List Access). AreAt x.flat.state.flow l) at.are left.small in
      record {
        accesses = at.behind;
        places = at.places;
        small = small.1;
        fault = ap (λ (o : Option Fault). or_later o (first_fault x.flat.state.flow x.copies at.behind))
            (sym (no_fault s.romc (step_ruling s probe vs) socket served)) ∙ access_faults left e;
        course = sym (with_steps-step so_far (traced i s socket)
            (course_of i x.flat.state.flow x.copies later at.behind))
            ∙ ap (λ (v : Ruling). with_steps so_far
            (course_by i s v (course_of i x.flat.state.flow x.copies later at.behind))) (sym served)
            ∙ access_course left e;
      }
  behind_by false e left socket same = record {
    accesses = left.accesses;
    places = idle_places left e;
    small = left.small;
    fault = left.fault;
    course = sym (with_steps-step so_far (traced i s socket)
        (course_of i x.flat.state.flow x.copies later left.accesses))
        ∙ ap (λ (o : Option ℕ). with_steps so_far
        (with_step (traced i s o) (course_of i x.flat.state.flow x.copies later left.accesses))) (sym same)
        ∙ ap (with_steps so_far) (sym (course_idle i x.flat.state.flow x.copies s later left.accesses e))
        ∙ left.course;
  }

  -- the counters, the memory, the writes and the acknowledgements after the step
  abbrev pub now_after : (left : Along i x aim (s ∷ later) probe vs so_far) → Bool → Flow → Count
  now_after left second c = moved_by s.romc (byte_of i s.source) second (left.now second c)

  abbrev pub memory_after : (left : Along i x aim (s ∷ later) probe vs so_far) → List ℕ
  memory_after left = if s.romc == 0x05 then stored_at (seats_of x.copies) (place_in s.romc probe.count probe.last)
      (byte_of i s.source) left.memory else left.memory

  abbrev pub writes_after : (left : Along i x aim (s ∷ later) probe vs so_far) → List PortWrite
  writes_after left = writes_by s.romc (seats_of x.copies) aim.phi probe.last (byte_of i s.source) left.writes

  abbrev pub acknowledged_after : (left : Along i x aim (s ∷ later) probe vs so_far) → List Mark
  acknowledged_after left = acknowledged_by i.chosen aim.phi s.romc left.acknowledged

  -- what the chips hold after the step
  pub record ChipsHold (left : Along i x aim (s ∷ later) probe vs so_far) (vs_now : List ChipView) : Type 0 where
    pub copies : AreCopies (now_after left) (byte_of i s.source) x.copies vs_now
    pub flat : HoldsFlat (memory_after left) vs_now
    pub ports : HoldsPorts x.flat.state.keys (writes_after left) vs_now

  -- with their requests
  pub record ChipsAfter (left : Along i x aim (s ∷ later) probe vs so_far) (vs_now : List ChipView) : Type 0 where
    pub held : ChipsHold left vs_now
    pub in_time : IsInTime (left.time + step_clocks s.long)
        (history_with x (writes_after left) (acknowledged_after left)) vs_now

  -- the clocks from the end of the step on
  pub spent_later : (left : Along i x aim (s ∷ later) probe vs so_far) →
      left.time + step_clocks s.long + clocks_along later ≡ aim.phi
  spent_later left =
      let all = left.ends in
      let split = sum_by-cons (λ (step : Step). step_clocks step.long) s later in
      omega (arith, all, split)

  pub along_by : (left : Along i x aim (s ∷ later) probe vs so_far) (socket : Option ℕ) → Behind left socket →
      (vs_now : List ChipView) → ChipsAfter left vs_now →
      Along i x aim later (probe_after s.romc (byte_of i s.source) probe) vs_now (so_far ++ traced i s socket ∷ [])
  along_by left socket behind vs_now chips = record {
    now = now_after left;
    memory = memory_after left;
    accesses = behind.accesses;
    places = behind.places;
    moves = left.moves;
    reference = ap (moved_by s.romc (byte_of i s.source) true) left.reference;
    copies = chips.held.copies;
    writes = writes_after left;
    ports = chips.held.ports;
    port_values = left.port_values.1;
    writes_later = left.writes_later;
    flat = chips.held.flat;
    whole = long_more (s.romc == 0x05) (seats_of x.copies) (place_in s.romc probe.count probe.last)
        (byte_of i s.source) left.memory left.whole;
    values = left.values.1;
    small = behind.small;
    fault = behind.fault;
    course = behind.course;
    later = left.later;
    time = left.time + step_clocks s.long;
    acknowledged = acknowledged_after left;
    in_time = chips.in_time;
    ends = spent_later left;
    late = puts_later s later left.late;
    accumulator = left.accumulator;
    acknowledged_later = left.acknowledged_later;
  }

  -- ---- a step in which no interrupt is acknowledged

  -- the byte of a port write
  put_small : (left : Along i x aim (s ∷ later) probe vs so_far) → s.romc ≡ 0x1A → byte_of i s.source < 256
  put_small left put =
      let same : byte_of i s.source ≡ i.accumulator =
      accumulator_byte s.source i (put_accumulator s later left.late (eq-eqb s.romc 0x1A put)) in
      subst (λ (n : ℕ). n < 256) (sym same) left.accumulator

  -- and its time
  put_ends : (left : Along i x aim (s ∷ later) probe vs so_far) → s.romc ≡ 0x1A →
      aim.phi ≡ left.time + step_clocks s.long + 4
  put_ends left put =
      let clocks : clocks_along later ≡ 4 = put_clocks s later left.late (rw put refl) in
      let all = spent_later left in
      omega (arith, clocks, all)

  not_ended : (left : Along i x aim (s ∷ later) probe vs so_far) → (s.romc == 0x13) ≡ false →
      acknowledged_after left ≡ left.acknowledged
  not_ended left other = rw other refl

  -- what the chips hold where they heard the step as one that acknowledges nothing
  pub plain_held : (left : Along i x aim (s ∷ later) probe vs so_far) → (socket : Option ℕ) →
      step_ruling s probe vs ≡ Served socket →
      ChipsHold left (chips_after_step s (byte_of i s.source) (step_clocks s.long) vs)
  plain_held left socket served = record {
    copies = copies_more left.now probe.last s.romc (byte_of i s.source) (step_clocks s.long) x.copies vs left.copies;
    flat = flat_more (s.romc == 0x05) i s (step_clocks s.long) socket left.now probe x.copies vs left.memory refl
        left.copies left.whole left.flat served;
    ports = ports_more s.romc (byte_of i s.source) (step_clocks s.long) aim.phi
        (place_in s.romc probe.count probe.last) left.now probe.last socket x.copies vs x.flat.state.keys
        left.writes left.copies left.ports served;
  }

  pub plain_chips : (left : Along i x aim (s ∷ later) probe vs so_far) → (s.romc == 0x13) ≡ false → (socket : Option ℕ) →
      step_ruling s probe vs ≡ Served socket →
      ChipsAfter left (chips_after_step s (byte_of i s.source) (step_clocks s.long) vs)
  plain_chips left other socket served = record {
    held = plain_held left socket served;
    in_time = subst (λ (ms : List Mark). IsInTime (left.time + step_clocks s.long)
        (history_with x (writes_after left) ms) (chips_after_step s (byte_of i s.source) (step_clocks s.long) vs))
        (sym (not_ended left other))
        (in_time_more s.romc (byte_of i s.source) (step_clocks s.long) left.time aim.phi
        (place_in s.romc probe.count probe.last) left.now probe.last socket x.copies vs
        (history_with x left.writes left.acknowledged) (step_small s.long) (put_small left) (put_ends left) left.copies
        served left.in_time);
  }

  pub along-more : Along i x aim (s ∷ later) probe vs so_far → IsPlain s.romc → (socket : Option ℕ) →
      step_ruling s probe vs ≡ Served socket →
      Along i x aim later (probe_after s.romc (byte_of i s.source) probe)
      (chips_after_step s (byte_of i s.source) (step_clocks s.long) vs) (so_far ++ traced i s socket ∷ [])
  along-more left plain socket served =
      along_by left socket (behind_by (is_access (rule_of s.romc)) refl left socket
      (plain_socket plain socket served (is_access (rule_of s.romc)) refl)) _
      (plain_chips left (no_end s.romc plain) socket served)
