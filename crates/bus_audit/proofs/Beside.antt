-- The dictated run stays beside every free run whose record stands first in the trace.
use Rattle.std.proofs.Common.{◌≡◌, ℕ, zero, suc, ◌<◌, Bool, List, [], ◌++◌, length, map, drop, Option, Some, None, refl, ◌∙◌, ap, sym}
use Rattle.std.proofs.Common.{subst}
use Rattle.std.proofs.Common.{arith, append_assoc, append-nil, drop_at}
use Rattle.std.proofs.lemmas.List.{length-map, map-append}
use Rattle.f8_spec.specs.Instructions.{decoded}
use Rattle.f8_spec.specs.MicroSteps.{reset_steps}
use Rattle.f8_spec.specs.declared.instructions.Op.{Op}
use Rattle.console_spec.specs.BusTrace.{TracedStep, Course}
use Rattle.console_spec.specs.InterruptRequests.{Mark}
use Rattle.console_spec.specs.Run.{Position, opcode_at, instruction_course, instruction_fault, position_after, power_position}
use Rattle.console_spec.specs.Run.{position_after_reset, reset_course, reset_fault}
use Rattle.console_spec.specs.Scripts.{Script, events_at}
use Rattle.console_spec.specs.Services.{Fault}
use Rattle.console_spec.specs.Telling.{fallen, with_events}
use Rattle.console_spec.specs.declared.Event.{Event}
use Rattle.bus_audit.specs.PlainSteps.{HaveBytes, plain, plain_course, plain_fault, behind}
use Rattle.bus_audit.specs.declared.step.TraceStep.{TraceStep}
use Rattle.bus_audit.specs.FreeRuns.{Setup, own_events, own_fallen, own_behind, own_begun, BeginsFreely, GoesFreely, IsFreelyAt}
use Rattle.bus_audit.specs.Choices.{key_choice, pulse_choice, choice_for, choice, with_choice}
use Rattle.bus_audit.specs.DictatedRuns.{Onward, next_by, next_for, next_dictated, dictated_begun, start_dictated, IsDictatedAt}
use Rattle.bus_audit.specs.Determinacy.{with_free, DiffersInInputs}
use Rattle.bus_audit.proofs.FreeInputs.{keys_after, pulses_after, events_with, events_on, length-keys_after, free_leaves, events_alike}
use Rattle.bus_audit.proofs.FreeInputs.{own_unpulsed}
use Rattle.bus_audit.proofs.Courses.{none_in, instruction_faults, reset_faults, reset_tells}
use Rattle.bus_audit.proofs.FreeChoices.{choice-with_free, choice-after_reset, no_first_pulse, choice_free}
use Rattle.bus_audit.proofs.Shadows.{IsSteady, Shadow, steps_same, fault_same, after_same, shadow_after}
use Rattle.bus_audit.proofs.Behind.{behind-append, bytes_behind}

-- ---- told steps without a fault, and what is chosen

pub plain_served : (course : Course) → course.fault ≡ None → plain_course course ≡ map plain course.steps
plain_served course none =
    ap (λ (fault : Option (Fault × Bool)). map plain course.steps ++ plain_fault fault) none ∙ append-nil (map plain course.steps)

-- a position with what is chosen, by that of which no input is read
pub choice_as : (rest : List TraceStep) (keys : List ℕ) (pulses : List Mark) (x : Position) →
    with_choice rest (with_free keys pulses x)
    ≡ with_free (keys_after (choice rest x) keys) (pulses_after x.chain x.flat.state.phi (choice rest x) pulses) x
choice_as rest keys pulses x =
    ap (λ (events : List Event). with_events events (with_free keys pulses x)) (choice-with_free keys pulses x rest)
    ∙ events_with (choice rest x) keys pulses x

pub own_fallen_unpulsed : (script : Script) (chain : List ℕ) (phi : ℕ) (frame : Option ℕ) (marks : List Mark) →
    pulses_after chain phi (own_fallen script frame) marks ≡ marks
own_fallen_unpulsed script chain phi None marks = refl
own_fallen_unpulsed script chain phi (Some frame) marks = own_unpulsed chain phi (events_at frame script.events) marks

-- ---- the two runs, one beside the other

pub record Beside (setup : Setup) (trace : List TraceStep) (n : ℕ) (y : Position) (rest : List TraceStep) : Type 0 where
  pub keys : List ℕ
  pub pulses : List Mark
  pub shadow : Shadow y keys pulses
  pub dictated : IsDictatedAt setup trace n (with_choice rest (with_free keys pulses y)) rest

-- ---- reset

abbrev pub powered_at : Setup → Position
powered_at setup = power_position setup.chips setup.chain setup.powers setup.script.power

abbrev pub first_keys : Setup → List ℕ
first_keys setup = keys_after (own_events setup.script 0) (powered_at setup).flat.state.keys

pub begun_is : (setup : Setup) → own_begun setup ≡ with_free (first_keys setup) [] (powered_at setup)
begun_is setup =
    events_on (own_events setup.script 0) (powered_at setup)
    ∙ ap (λ (marks : List Mark). with_free (first_keys setup) marks (powered_at setup))
    (own_unpulsed setup.chain 0 (events_at 0 setup.script.events) [])

-- with any events behind power-on
pub freely_begun : (setup : Setup) (events : List Event) →
    with_events events (own_begun setup)
    ≡ with_free (keys_after events (first_keys setup)) (pulses_after setup.chain 0 events []) (powered_at setup)
freely_begun setup events = ap (with_events events) (begun_is setup) ∙ events_with events (first_keys setup) [] (powered_at setup)

-- with what a trace dictates
pub dictated_begun_is : (setup : Setup) (trace rest : List TraceStep) → drop (length reset_steps) trace ≡ rest →
    dictated_begun setup trace ≡ with_free (keys_after (choice rest (powered_at setup)) (first_keys setup)) [] (powered_at setup)
dictated_begun_is setup trace rest is =
    let p = powered_at setup in
    ap (λ (later : List TraceStep). with_choice later (own_begun setup)) is
    ∙ ap (with_choice rest) (begun_is setup)
    ∙ choice_as rest (first_keys setup) [] p
    ∙ ap (λ (marks : List Mark). with_free (keys_after (choice rest p) (first_keys setup)) marks p) (no_first_pulse 0 p rest [] refl)

module _ (setup : Setup) (y : Position) (steps : List TracedStep) (begins : BeginsFreely setup y steps) (trace rest : List TraceStep)
    (is : map plain steps ++ rest ≡ trace) where
  begun_at : y ≡ with_free (keys_after begins.free (first_keys setup)) (pulses_after setup.chain 0 begins.free [])
      (position_after_reset (powered_at setup))
  begun_at = begins.at ∙ ap position_after_reset (freely_begun setup begins.free)

  reset_served : reset_fault (powered_at setup) ≡ None
  reset_served = ap reset_fault (sym (freely_begun setup begins.free)) ∙ begins.served

  reset_told : steps ≡ (reset_course (powered_at setup)).steps
  reset_told = begins.told ∙ ap (λ (x : Position). (reset_course x).steps) (freely_begun setup begins.free)

  no_fault : (reset_course (powered_at setup)).fault ≡ None
  no_fault = none_in (reset_course (powered_at setup)).fault (reset_faults (powered_at setup) ∙ reset_served)

  trace_is : trace ≡ plain_course (reset_course (powered_at setup)) ++ rest
  trace_is =
      sym is
      ∙ ap (λ (ss : List TracedStep). map plain ss ++ rest) reset_told
      ∙ ap (λ (told : List TraceStep). told ++ rest) (sym (plain_served (reset_course (powered_at setup)) no_fault))

  pub behind_reset : drop (length reset_steps) trace ≡ rest
  behind_reset =
      ap (drop (length reset_steps)) (sym is)
      ∙ drop_at (map plain steps) rest (length reset_steps)
      (length-map steps plain ∙ ap (λ (ss : List TracedStep). length ss) reset_told ∙ reset_tells (powered_at setup) no_fault)

  abbrev reset_keys : List ℕ
  reset_keys = keys_after (choice rest (powered_at setup)) (first_keys setup)

  starts : start_dictated setup trace ≡ Onward (with_free reset_keys [] (position_after_reset (powered_at setup))) rest
  starts =
      let p = powered_at setup in
      ap (λ (x : Position). next_by (reset_fault x) (behind (plain_course (reset_course x)) trace) (λ later. position_after_reset x) trace)
      (dictated_begun_is setup trace rest behind_reset)
      ∙ ap (λ (fault : Option Fault). next_by fault (behind (plain_course (reset_course p)) trace)
      (λ later. with_free reset_keys [] (position_after_reset p)) trace) reset_served
      ∙ ap (λ (found : Option (List TraceStep)). next_by None found (λ later. with_free reset_keys [] (position_after_reset p)) trace)
      (ap (behind (plain_course (reset_course p))) trace_is ∙ behind-append (plain_course (reset_course p)) rest)

  -- the choice is the same behind reset
  chosen_behind : with_choice rest (with_free (first_keys setup) [] y) ≡ with_free reset_keys [] (position_after_reset (powered_at setup))
  chosen_behind =
      let r = position_after_reset (powered_at setup) in
      ap (λ (x : Position). with_choice rest (with_free (first_keys setup) [] x)) begun_at
      ∙ choice_as rest (first_keys setup) [] r
      ∙ ap (λ (marks : List Mark). with_free (keys_after (choice rest r) (first_keys setup)) marks r)
      (no_first_pulse r.flat.state.phi r rest [] refl)
      ∙ ap (λ (events : List Event). with_free (keys_after events (first_keys setup)) [] r) (choice-after_reset (powered_at setup) rest)

  first_size : length (first_keys setup) ≡ 256
  first_size = length-keys_after (own_events setup.script 0) (powered_at setup).flat.state.keys ∙ refl

  first_steady : IsSteady (position_after_reset (powered_at setup)).flat.state
  first_steady =
      let clocks : (position_after_reset (powered_at setup)).flat.state.phi ≡ 14 = refl in
      record {
        writes = λ port. omega (arith, clocks);
        acknowledged = λ chip. omega (arith, clocks);
      }

  first_shadow : Shadow y (first_keys setup) []
  first_shadow =
      subst (λ (x : Position). Shadow x (first_keys setup) []) (sym begun_at) (record {
        steady = record { writes = first_steady.writes; acknowledged = first_steady.acknowledged };
        spent = tt;
        size = first_size;
        free_size = length-keys_after begins.free (first_keys setup) ∙ first_size;
        alike = λ n within. sym (free_leaves begins.free (first_keys setup) n begins.are_free within);
      })

  pub begins_beside : Beside setup trace zero y rest
  begins_beside = record {
    keys = first_keys setup;
    pulses = [];
    shadow = first_shadow;
    dictated = starts ∙ ap (λ (x : Position). Onward x rest) (sym chosen_behind);
  }

-- ---- an instruction

module _ (y : Position) (keys : List ℕ) (pulses : List Mark) (shadow : Shadow y keys pulses) (op : Op) (is : decoded (opcode_at y) ≡ Some op)
    (trace more : List TraceStep) (small : HaveBytes trace) (told : trace ≡ plain_course (instruction_course op y) ++ more) where
  abbrev pub now_keys : List ℕ
  now_keys = keys_after (key_choice op y trace ++ pulse_choice op y trace) keys

  abbrev pub now_pulses : List Mark
  now_pulses = pulses_after y.chain y.flat.state.phi (key_choice op y trace ++ pulse_choice op y trace) pulses

  chosen_now : with_choice trace (with_free keys pulses y) ≡ with_free now_keys now_pulses y
  chosen_now =
      choice_as trace keys pulses y
      ∙ ap (λ (events : List Event). with_free (keys_after events keys) (pulses_after y.chain y.flat.state.phi events pulses) y)
      (ap (λ (o : Option Op). choice_for o y trace) is)

  -- its course is what stands next, and the dictated run goes by why it is not done
  pub next_is : (script : Script) (fault : Option Fault) → instruction_fault op y ≡ fault →
      next_dictated script (with_choice trace (with_free keys pulses y)) trace
      ≡ next_by fault (Some more)
      (λ later. with_choice later (own_behind script (with_free now_keys now_pulses y) (position_after op (with_free now_keys now_pulses y)))) trace
  next_is script fault because =
      let z = with_free now_keys now_pulses y in
      let onward : List TraceStep → Position = λ later. with_choice later (own_behind script z (position_after op z)) in
      ap (λ (x : Position). next_dictated script x trace) chosen_now
      ∙ ap (λ (o : Option Op). next_for o script z trace) is
      ∙ ap (λ (why : Option Fault). next_by why (behind (plain_course (instruction_course op z)) trace) onward trace)
      (fault_same y keys pulses shadow op trace more small told ∙ because)
      ∙ ap (λ (found : Option (List TraceStep)). next_by fault found onward trace)
      (ap (λ (course : Course). behind (plain_course course) trace) (steps_same y keys pulses shadow op trace more small told)
      ∙ ap (behind (plain_course (instruction_course op y))) told
      ∙ behind-append (plain_course (instruction_course op y)) more)

module _ (setup : Setup) (y x : Position) (earlier steps : List TracedStep) (goes : GoesFreely setup.script y x earlier steps)
    (keys : List ℕ) (pulses : List Mark) (shadow : Shadow y keys pulses) (before rest : List TraceStep) (small : HaveBytes before)
    (is : before ≡ map plain (instruction_course goes.op y).steps ++ rest) where
  abbrev next_at : Position
  next_at = position_after goes.op y

  told_next : before ≡ plain_course (instruction_course goes.op y) ++ rest
  told_next =
      let course = instruction_course goes.op y in
      is ∙ ap (λ (told : List TraceStep). told ++ rest)
      (sym (plain_served course (none_in course.fault (instruction_faults goes.op y ∙ goes.served))))

  abbrev own_next : List Event
  own_next = own_fallen setup.script (fallen y.flat.state next_at.flat.state)

  abbrev keys_next : List ℕ
  keys_next = now_keys y keys pulses shadow goes.op goes.is before rest small told_next

  abbrev pulses_next : List Mark
  pulses_next = now_pulses y keys pulses shadow goes.op goes.is before rest small told_next

  free_next : x ≡ with_free (keys_after goes.free (keys_after own_next next_at.flat.state.keys))
      (pulses_after next_at.chain next_at.flat.state.phi goes.free
      (pulses_after next_at.chain next_at.flat.state.phi own_next next_at.flat.state.pulses)) next_at
  free_next =
      goes.at
      ∙ ap (with_events goes.free) (events_on own_next next_at)
      ∙ events_with goes.free (keys_after own_next next_at.flat.state.keys)
      (pulses_after next_at.chain next_at.flat.state.phi own_next next_at.flat.state.pulses) next_at

  own_is : own_behind setup.script (with_free keys_next pulses_next y) (position_after goes.op (with_free keys_next pulses_next y))
      ≡ with_free (keys_after own_next keys_next) pulses_next x
  own_is =
      ap (own_behind setup.script (with_free keys_next pulses_next y))
      (after_same y keys pulses shadow goes.op before rest small told_next goes.served)
      ∙ events_with own_next keys_next pulses_next next_at
      ∙ ap (λ (marks : List Mark). with_free (keys_after own_next keys_next) marks next_at)
      (own_fallen_unpulsed setup.script next_at.chain next_at.flat.state.phi (fallen y.flat.state next_at.flat.state) pulses_next)
      ∙ ap (λ (q : Position). with_free (keys_after own_next keys_next) pulses_next q) (sym free_next)

  shadow_next : Shadow x (keys_after own_next keys_next) pulses_next
  shadow_next =
      let s : Shadow next_at keys_next pulses_next = shadow_after y keys pulses shadow goes.op before rest small told_next goes.served in
      subst (λ (q : Position). Shadow q (keys_after own_next keys_next) pulses_next) (sym free_next) (record {
        steady = record { writes = s.steady.writes; acknowledged = s.steady.acknowledged };
        spent = s.spent;
        size = length-keys_after own_next keys_next ∙ s.size;
        free_size =
            length-keys_after goes.free (keys_after own_next next_at.flat.state.keys)
            ∙ length-keys_after own_next next_at.flat.state.keys ∙ s.free_size;
        alike = λ n within.
            events_alike own_next keys_next next_at.flat.state.keys n (s.size ∙ sym s.free_size) (low n keys_next s.size within) (s.alike n within)
            ∙ sym (free_leaves goes.free (keys_after own_next next_at.flat.state.keys) n goes.are_free within);
      })
    where
      low : (n : ℕ) (ks : List ℕ) → length ks ≡ 256 → n < 2 → n < length ks
      low n ks size within = omega arith

  pub goes_beside : (trace : List TraceStep) (n : ℕ) → IsDictatedAt setup trace n (with_choice before (with_free keys pulses y)) before →
      Beside setup trace (suc n) x rest
  goes_beside trace n at = record {
    keys = keys_after own_next keys_next;
    pulses = pulses_next;
    shadow = shadow_next;
    dictated = (
      with_choice before (with_free keys pulses y),
      before,
      at,
      next_is y keys pulses shadow goes.op goes.is before rest small told_next setup.script None goes.served
          ∙ ap (λ (q : Position). Onward (with_choice rest q) rest) own_is,
    );
  }

-- ---- all instructions

pub beside : (setup : Setup) (trace : List TraceStep) → HaveBytes trace → (n : ℕ) (y : Position) (steps : List TracedStep) (rest : List TraceStep) →
    IsFreelyAt setup n y steps → map plain steps ++ rest ≡ trace → Beside setup trace n y rest
beside setup trace small zero y steps rest at is = begins_beside setup y steps at trace rest is
beside setup trace small (suc n) x steps rest at is =
    let y : Position = at.0 in
    let earlier : List TracedStep = at.1 in
    let goes : GoesFreely setup.script y x earlier steps = at.3 in
    let told : List TraceStep = map plain (instruction_course goes.op y).steps in
    let split : map plain earlier ++ (told ++ rest) ≡ trace =
    sym (append_assoc (map plain earlier) told rest)
    ∙ ap (λ (all : List TraceStep). all ++ rest) (sym (map-append plain earlier (instruction_course goes.op y).steps))
    ∙ ap (λ (ss : List TracedStep). map plain ss ++ rest) (sym goes.told)
    ∙ is in
    let b : Beside setup trace n y (told ++ rest) = beside setup trace small n y earlier (told ++ rest) at.2 split in
    goes_beside setup y x earlier steps goes b.keys b.pulses b.shadow (told ++ rest) rest
    (bytes_behind (map plain earlier) (told ++ rest) (subst HaveBytes (sym split) small)) refl trace n b.dictated

-- and where they differ
pub differs : (y : Position) (keys : List ℕ) (pulses : List Mark) (rest : List TraceStep) → Shadow y keys pulses → HaveBytes rest →
    DiffersInInputs y (with_choice rest (with_free keys pulses y))
differs y keys pulses rest shadow small =
    subst (DiffersInInputs y) (sym (choice_as rest keys pulses y)) (record {
      same = refl;
      own_keys = λ port within. free_leaves (choice rest y) keys port (choice_free y rest small) within ∙ shadow.alike port within;
    })
