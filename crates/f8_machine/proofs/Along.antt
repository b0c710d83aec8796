-- What is left of an instruction or of reset, on the bus: from here the steps that are left lead to the end, or to the first access that
-- is not served. The bus rule is never opened here.
use Rattle.std.proofs.Common.{append-nil, eqb-true, ◌≡◌, ℕ, ◌+◌, ◌<◌, Bool, true, false, List, [], ◌∷◌, ◌++◌, length, map}
use Rattle.std.proofs.Common.{refl, ap, ◌∙◌, sym, subst}
use Rattle.std.specs.Prelude.{◌==◌, if◌then◌else◌, Option, Some, None}
use Rattle.std.specs.List.{enumerate_from}
use Rattle.std.proofs.lemmas.List.{append_assoc}
use Rattle.f8_spec.specs.BusCodes.{Count, driver_of, moved_by}
use Rattle.f8_spec.specs.ChipState.{ChipView, after_step}
use Rattle.f8_spec.specs.BusArbitration.{Ruling, Served, Conflict, Undriven, Astray, Seat, PlacedSeat, place_in}
use Rattle.f8_spec.specs.BusArbitration.{parties, bystanders, lowest, judged, rule_by, rule_of, view_ruling, bus_byte}
use Rattle.f8_spec.specs.MicroSteps.{Step, clocks_along}
use Rattle.f8_spec.specs.declared.bus.Driver.{Driver}
use Rattle.f8_spec.specs.declared.bus.Driver.TheVariants.{Memory, CounterByte, Vector as VectorDriver, Port, Cpu}
use Rattle.f8_spec.specs.declared.bus.Driver.TheVariants.{Nobody}
use Rattle.f8_spec.specs.declared.bus.BusRule.{BusRule}
use Rattle.f8_spec.specs.declared.bus.BusRule.TheVariants.{Read, Store, PortRead, PortWrite as WriteRule, Vector}
use Rattle.f8_spec.specs.declared.bus.BusRule.TheVariants.{NoChip}
use Rattle.console_spec.specs.Processor.{Flow, Inputs, byte_of}
use Rattle.console_spec.specs.FlatMemory.{stored_at}
use Rattle.console_spec.specs.FlatStep.{with_acknowledged}
use Rattle.console_spec.specs.InterruptRequests.{Mark, History}
use Rattle.f8_machine.specs.BusSteps.{IsPlain}
use Rattle.f8_machine.specs.RequestsHeld.{IsInTime}
use Rattle.f8_machine.proofs.StepTests.{puts_last, no_vector}
use Rattle.console_spec.specs.CounterCopies.{Copy}
use Rattle.console_spec.specs.BusAccesses.{Access}
use Rattle.console_spec.specs.Services.{Fault, fault_by, access_ruling, first_fault}
use Rattle.console_spec.specs.BusTrace.{TracedStep, Course, with_step, stopped_by, course_by, course_of}
use Rattle.console_spec.specs.BusTrace.{is_access, with_unaccessed, unaccessed}
use Rattle.console_spec.specs.Run.{Position, seats_of}
use Rattle.console_spec.specs.CounterCopies.{fetched}
use Rattle.console_spec.proofs.Walks.{moved_along}
use Rattle.cpu3850.specs.Reaching.{is_placed_by, Places}
use Rattle.probe.specs.ProbeState.{ProbeState}
use Rattle.f8_machine.specs.RackViews.{HoldsFlat, HoldsPorts, AreCopies}
use Rattle.console_spec.specs.declared.PortWrite.{PortWrite}
use Rattle.f8_machine.proofs.PortValues.{PortValues, writes_along}
use Rattle.f8_machine.proofs.Places.{places_along, named_place}
use Rattle.f8_machine.proofs.Values.{Values, ValueIs, memory_along}
use Rattle.f8_machine.proofs.Bounds.{AreAt}
use Rattle.f8_machine.proofs.ServedReads.{read_value, served_read}
use Rattle.f8_machine.proofs.Slots.{plain_step}
use Rattle.f8_machine.proofs.Stores.{keeps_flat, store_keeps_flat, stored_long}
use Rattle.f8_machine.proofs.Copies.{seats_same, all_filled}

-- steps before others in a course
abbrev pub with_steps : List TracedStep → Course → Course
with_steps steps rest = record rest { steps = steps ++ rest.steps }

-- where the steps lead to
pub record Aim : Type 0 where
  pub fault : Option Fault
  pub course : Course
  pub memory : List ℕ
  pub writes : List PortWrite
  pub acknowledged : List Mark
  pub phi : ℕ
  pub flow : Bool → Flow → Flow

-- the history so far, and how it goes on
abbrev pub history_with : Position → List PortWrite → List Mark → History
history_with x writes acknowledged =
    record { writes = writes; acknowledged = acknowledged; pulses = x.flat.state.pulses }

abbrev pub acknowledged_by : Option ℕ → ℕ → ℕ → List Mark → List Mark
acknowledged_by chosen phi romc marks = if romc == 0x13 then with_acknowledged chosen phi marks else marks

abbrev pub acknowledged_along : Option ℕ → ℕ → List Step → List Mark → List Mark
acknowledged_along chosen phi [] marks = marks
acknowledged_along chosen phi (s ∷ later) marks =
    acknowledged_along chosen phi later (acknowledged_by chosen phi s.romc marks)

pub record Along (i : Inputs) (x : Position) (aim : Aim) (rest : List Step) (probe : ProbeState) (vs : List ChipView)
    (so_far : List TracedStep) : Type 0 where
  -- the counters after the steps so far, as a function of a set; the memory and the writes after them; and the accesses that are left
  pub now : Bool → Flow → Count
  pub memory : List ℕ
  pub writes : List PortWrite
  pub accesses : List Access
  pub places : (second : Bool) (c : Flow) → places_along second i rest (now second c) probe.last
      ≡ map (named_place second c) accesses
  pub moves : (second : Bool) (c : Flow) → moved_along second i rest (now second c) ≡ fetched (aim.flow second c)
  pub reference : probe.count ≡ now true x.flat.state.flow
  pub copies : AreCopies now probe.last x.copies vs
  pub flat : HoldsFlat memory vs
  pub ports : HoldsPorts x.flat.state.keys writes vs
  pub whole : length memory ≡ 65536
  pub values : Values (seats_of x.copies) i rest probe.count probe.last memory
  pub port_values : PortValues (seats_of x.copies) x.flat.state.keys aim.phi i rest probe.last writes
  pub small : AreAt x.flat.state.flow accesses
  pub fault : first_fault x.flat.state.flow x.copies accesses ≡ aim.fault
  pub course : with_steps so_far (course_of i x.flat.state.flow x.copies rest accesses) ≡ aim.course
  pub later : memory_along (seats_of x.copies) i rest probe.count probe.last memory ≡ aim.memory
  pub writes_later : writes_along (seats_of x.copies) aim.phi i rest probe.last writes ≡ aim.writes
  -- the time, and the acknowledgements so far, beside which the chips stand
  pub time : ℕ
  pub acknowledged : List Mark
  pub in_time : IsInTime time (history_with x writes acknowledged) vs
  pub ends : time + clocks_along rest ≡ aim.phi
  pub late : puts_last rest ≡ true
  pub accumulator : i.accumulator < 256
  pub acknowledged_later : acknowledged_along i.chosen aim.phi rest acknowledged ≡ aim.acknowledged

-- ---- the access of a step

cons_head : {A : Type 0} (x y : A) (xs ys : List A) → x ∷ xs ≡ y ∷ ys → x ≡ y
cons_head x y xs ys e = cc

cons_tail : {A : Type 0} (x y : A) (xs ys : List A) → x ∷ xs ≡ y ∷ ys → xs ≡ ys
cons_tail x y xs ys e = cc

-- the first of the accesses that are left is that of the step
pub record AtAccess (i : Inputs) (s : Step) (later : List Step) (now : Bool → Flow → Count) (last : ℕ)
    (accesses : List Access) : Type 0 where
  pub a : Access
  pub behind : List Access
  pub are : accesses ≡ a ∷ behind
  pub code : a.romc ≡ s.romc
  pub place : (second : Bool) (c : Flow) → place_in s.romc (now second c) last ≡ a.place second c
  pub places : (second : Bool) (c : Flow) → places_along second i later
      (moved_by s.romc (byte_of i s.source) second (now second c)) (byte_of i s.source)
      ≡ map (named_place second c) behind

pub at_access : (i : Inputs) (s : Step) (later : List Step) (now : Bool → Flow → Count) (last : ℕ) (c : Flow)
    (accesses : List Access) →
    ((second : Bool) (c : Flow) → (s.romc, place_in s.romc (now second c) last) ∷
    places_along second i later (moved_by s.romc (byte_of i s.source) second (now second c)) (byte_of i s.source)
    ≡ map (named_place second c) accesses) →
    AtAccess i s later now last accesses
at_access i s later now last c [] places = let none = places true c in cc
at_access i s later now last c (a ∷ behind) places = record {
  a = a;
  behind = behind;
  are = refl;
  code = sym (ap (λ (z : ℕ × ℕ). z.0) (cons_head _ _ _ _ (places true c)));
  place = λ second d. ap (λ (z : ℕ × ℕ). z.1) (cons_head _ _ _ _ (places second d));
  places = λ second d. cons_tail _ _ _ _ (places second d);
}

-- ---- one step of what is left

pub fault_stops : (i : Inputs) (s : Step) (v : Ruling) (rest : Course) (fault : Fault) →
    fault_by s.romc v ≡ Some fault → course_by i s v rest ≡ stopped_by fault s.long
fault_stops i s (Served socket) rest fault e = cc
fault_stops i s (Conflict parties) rest fault e = let same : Fault.Conflict s.romc parties ≡ fault = cc in
    ap (λ (f : Fault). stopped_by f s.long) same
fault_stops i s (Undriven at) rest fault e = let same : Fault.Undriven s.romc at ≡ fault = cc in
    ap (λ (f : Fault). stopped_by f s.long) same
fault_stops i s (Astray socket at reference) rest fault e =
    let same : Fault.Astray s.romc socket at reference ≡ fault = cc in ap (λ (f : Fault). stopped_by f s.long) same

pub no_fault : (romc : ℕ) (v : Ruling) (socket : Option ℕ) → v ≡ Served socket → fault_by romc v ≡ None
no_fault romc v socket e = ap (fault_by romc) e

-- a step that is no access is served
pub no_access : (rule : BusRule) (romc reference : ℕ) (xs : List (ℕ × PlacedSeat)) → is_access rule ≡ false →
    judged rule None reference (parties rule xs) (lowest (bystanders rule reference xs)) ≡ Served None
no_access Read romc reference xs e = cc
no_access Store romc reference xs e = cc
no_access PortRead romc reference xs e = cc
no_access WriteRule romc reference xs e = cc
no_access Vector romc reference xs e = refl
no_access NoChip romc reference xs e = refl

-- a step of no acknowledgement that is no access names no chip
pub unaccessed_none : (rule : BusRule) (i : Inputs) → is_access rule ≡ false → (rule ≡ Vector → ⊥) →
    unaccessed rule i ≡ None
unaccessed_none Read i idle other = cc
unaccessed_none Store i idle other = cc
unaccessed_none PortRead i idle other = cc
unaccessed_none WriteRule i idle other = cc
unaccessed_none Vector i idle other = absurd (other refl)
unaccessed_none NoChip i idle other = refl

-- the course of a step that is no access
pub course_idle : (i : Inputs) (c : Flow) (copies : List Copy) (s : Step) (later : List Step) (accesses : List Access) →
    is_access (rule_of s.romc) ≡ false →
    course_of i c copies (s ∷ later) accesses ≡ with_unaccessed i s (course_of i c copies later accesses)
course_idle i c copies s later [] e = refl
course_idle i c copies s later (a ∷ behind) e = rw e refl

-- and of one that is
pub course_access : (i : Inputs) (c : Flow) (copies : List Copy) (s : Step) (later : List Step) (a : Access)
    (behind : List Access) → is_access (rule_of s.romc) ≡ true →
    course_of i c copies (s ∷ later) (a ∷ behind)
    ≡ course_by i s (access_ruling c copies a) (course_of i c copies later behind)
course_access i c copies s later a behind e = rw e refl

pub with_steps-step : (so_far : List TracedStep) (t : TracedStep) (rest : Course) →
    with_steps so_far (with_step t rest) ≡ with_steps (so_far ++ t ∷ []) rest
with_steps-step so_far t rest = ap (λ steps. record rest { steps = steps })
    (sym (append_assoc so_far (t ∷ []) rest.steps))

pub with_steps-stop : (so_far : List TracedStep) (fault : Fault) (long : Bool) →
    with_steps so_far (stopped_by fault long) ≡ record { steps = so_far; fault = Some (fault, long) }
with_steps-stop so_far fault long = ap (λ steps. record { steps = steps; fault = Some (fault, long) })
    (append-nil so_far)

-- ---- the memory after a step

pub flat_more : (b : Bool) (i : Inputs) (s : Step) (clocks : ℕ) (socket : Option ℕ) (now : Bool → Flow → Count)
    (probe : ProbeState) (cs : List Copy) (vs : List ChipView) (memory : List ℕ) →
    (s.romc == 0x05) ≡ b → AreCopies now probe.last cs vs → length memory ≡ 65536 → HoldsFlat memory vs →
    view_ruling s.romc None (place_in s.romc probe.count probe.last) (enumerate_from 0 vs) ≡ Served socket →
    HoldsFlat (if b then stored_at (seats_of cs) (place_in s.romc probe.count probe.last)
    (byte_of i s.source) memory else memory)
    (map (after_step (plain_step s.romc (byte_of i s.source) clocks)) vs)
flat_more true i s clocks socket now probe cs vs memory is copies whole flat served =
    let code : s.romc ≡ 0x05 = eqb-true s.romc 0x05 is in
    rw code (subst (λ seats. HoldsFlat (stored_at seats (place_in 0x05 probe.count probe.last)
    (byte_of i s.source) memory) (map (after_step (plain_step 0x05 (byte_of i s.source) clocks)) vs))
    (seats_same now probe.last cs vs copies)
    (store_keeps_flat (byte_of i s.source) clocks (place_in 0x05 probe.count probe.last) socket vs memory whole
    (all_filled now probe.last cs vs copies) flat (rw code at served)))
flat_more false i s clocks socket now probe cs vs memory is copies whole flat served =
    keeps_flat s.romc (byte_of i s.source) clocks vs memory is flat

pub long_more : (b : Bool) (seats : List Seat) (at byte : ℕ) (memory : List ℕ) → length memory ≡ 65536 →
    length (if b then stored_at seats at byte memory else memory) ≡ 65536
long_more true seats at byte memory whole = stored_long seats at byte memory ∙ whole
long_more false seats at byte memory whole = whole

-- ---- the byte of a step

read_rule : (b c : Bool) (romc : ℕ) (d : Driver) → (romc == 0x05) ≡ b → (romc == 0x1A) ≡ c → driver_of romc ≡ d →
    rule_by d ≡ Read → rule_of romc ≡ Read
read_rule true c romc d five port driver read =
    let code : romc ≡ 0x05 = eqb-true romc 0x05 five in
    let cpu : Cpu ≡ d = subst (λ (n : ℕ). driver_of n ≡ d) code driver in
    let none : rule_by Cpu ≡ Read = ap rule_by cpu ∙ read in cc
read_rule false true romc d five port driver read =
    let code : romc ≡ 0x1A = eqb-true romc 0x1A port in
    let cpu : Cpu ≡ d = subst (λ (n : ℕ). driver_of n ≡ d) code driver in
    let none : rule_by Cpu ≡ Read = ap rule_by cpu ∙ read in cc
read_rule false false romc d five port driver read = rw (five, port, driver) read

pub byte_is : (d : Driver) (romc placed value reference : ℕ) (socket : Option ℕ) (vs : List ChipView)
    (memory : List ℕ) → IsPlain romc →
    driver_of romc ≡ d → Places (is_placed_by d) placed value → ValueIs d romc memory reference value →
    HoldsFlat memory vs →
    (rule_of romc ≡ Read → reference < 65536) →
    (driver_of romc ≡ Port → bus_byte romc None placed (enumerate_from 0 vs) ≡ value) →
    view_ruling romc None reference (enumerate_from 0 vs) ≡ Served socket →
    bus_byte romc None placed (enumerate_from 0 vs) ≡ value
byte_is Memory romc placed value reference socket vs memory plain driver places is flat small port served =
    let rule : rule_of romc ≡ Read = read_rule (romc == 0x05) (romc == 0x1A) romc Memory refl refl driver refl in
    served_read romc placed reference socket vs memory rule (small rule) flat served
    ∙ ap (λ (d : Driver). read_value d romc memory reference) driver ∙ sym is
byte_is CounterByte romc placed value reference socket vs memory plain driver places is flat small port served =
    let rule : rule_of romc ≡ Read = read_rule (romc == 0x05) (romc == 0x1A) romc CounterByte refl refl driver refl in
    served_read romc placed reference socket vs memory rule (small rule) flat served
    ∙ ap (λ (d : Driver). read_value d romc memory reference) driver ∙ sym is
byte_is VectorDriver romc placed value reference socket vs memory plain driver places is flat small port served =
    absurd (no_vector romc VectorDriver driver plain refl)
byte_is Port romc placed value reference socket vs memory plain driver places is flat small port served = port driver
byte_is Cpu romc placed value reference socket vs memory plain driver places is flat small port served = rw driver places
byte_is Nobody romc placed value reference socket vs memory plain driver places is flat small port served = rw driver (sym is)
