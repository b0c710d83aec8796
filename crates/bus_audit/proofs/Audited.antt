-- A run with the inputs that are read off the trace is a free run as long as its steps are what stands next, and it leaves the trace where the
-- dictated run does.
use Rattle.std.proofs.Common.{◌≡◌, ℕ, suc, ◌<◌, ◌⊎◌, List, [], ◌++◌, length, map, drop, Option, Some, None}
use Rattle.std.proofs.Common.{refl, ◌∙◌, ap, sym, subst, inl, inr, append_assoc}
use Rattle.std.proofs.lemmas.List.{map-append}
use Rattle.std.specs.Prelude.{slice_index}
use Rattle.f8_spec.specs.Instructions.{decoded}
use Rattle.f8_spec.specs.MicroSteps.{reset_steps}
use Rattle.f8_spec.specs.declared.instructions.Op.{Op}
use Rattle.console_spec.specs.BusTrace.{TracedStep, Course}
use Rattle.console_spec.specs.InterruptRequests.{Mark}
use Rattle.console_spec.specs.Processor.{history_of}
use Rattle.console_spec.specs.Run.{Position, opcode_at, instruction_course, instruction_fault, position_after}
use Rattle.console_spec.specs.Run.{position_after_reset, reset_course, reset_fault}
use Rattle.console_spec.specs.Services.{Fault}
use Rattle.console_spec.specs.Telling.{fallen, with_events}
use Rattle.console_spec.specs.declared.Event.{Event}
use Rattle.bus_audit.specs.PlainSteps.{HaveBytes, plain, plain_course, behind}
use Rattle.bus_audit.specs.declared.step.TraceStep.{TraceStep}
use Rattle.bus_audit.specs.FreeRuns.{Setup, own_events, own_fallen, own_behind, BeginsFreely, IsFreelyAt}
use Rattle.bus_audit.specs.Choices.{choice_for, choice, with_choice}
use Rattle.bus_audit.specs.DictatedRuns.{Over, next_by, next_for, next_dictated, dictated_begun}
use Rattle.bus_audit.specs.DictatedRuns.{DictatedEnd, end_by, dictated_from, dictated}
use Rattle.bus_audit.specs.Determinacy.{with_free}
use Rattle.bus_audit.specs.ReadInputs.{read_key, read_pulse, read_inputs}
use Rattle.bus_audit.specs.Turns.{read_begun}
use Rattle.bus_audit.proofs.FreeInputs.{keys_after, pulses_after, events_with, events_on, length-keys_after, free_leaves}
use Rattle.bus_audit.proofs.Courses.{none_in, instruction_faults, reset_faults, served_before}
use Rattle.bus_audit.proofs.SameSteps.{before_at, own_at, chosen_with}
use Rattle.bus_audit.proofs.Asking.{AreSpent}
use Rattle.bus_audit.proofs.Shadows.{Shadow, chosen_same, chosen_pulses}
use Rattle.bus_audit.proofs.Behind.{behind_is, bytes_behind}
use Rattle.bus_audit.proofs.FreeChoices.{choice_free, no_first_pulse}
use Rattle.bus_audit.proofs.Beside.{Beside, beside, plain_served, choice_as, own_fallen_unpulsed, powered_at, first_keys}
use Rattle.bus_audit.proofs.Beside.{freely_begun, dictated_begun_is, behind_reset, next_is}
use Rattle.bus_audit.proofs.Exact.{Reaches, reaches, at_end, nothing_left, over_by, over_now, bytes_drop}
use Rattle.bus_audit.proofs.ReadInputs.{read_key_free, read_free, read_key_unpulsed, read_keys, read_pulses, read_steps}
use Rattle.bus_audit.proofs.ReadInputs.{pulse_serves, read_spent}

-- ---- a run that reads its inputs

-- Which pulses have come: those before, and what was read; at the beginning none.
abbrev pub HasPulses : Position → List TraceStep → List Mark → Type 0
HasPulses y rest pulses =
    (y.flat.state.pulses ≡ pulses_after y.chain y.flat.state.phi (read_pulse y.chain rest) pulses)
    ⊎ ((y.flat.state.writes ≡ []) × (y.flat.state.pulses ≡ []) × (pulses ≡ []))

-- It is a free run whose steps begin the trace, and its last inputs are those that were read off the rest. The pulses before are spent.
pub record Reads (setup : Setup) (trace : List TraceStep) (n : ℕ) (y : Position) (rest : List TraceStep) : Type 0 where
  pub steps : List TracedStep
  pub at : IsFreelyAt setup n y steps
  pub is : map plain steps ++ rest ≡ trace
  pub keys : List ℕ
  pub size : length keys ≡ 256
  pub keys_are : y.flat.state.keys ≡ keys_after (read_key rest) keys
  pub pulses : List Mark
  pub spent : AreSpent y.flat.state.acknowledged pulses
  pub pulses_are : HasPulses y rest pulses

module _ (setup : Setup) (trace : List TraceStep) (small : HaveBytes trace) (n : ℕ) (y : Position) (rest : List TraceStep)
    (reads : Reads setup trace n y rest) where
  -- the dictated run beside it
  abbrev dictates : Beside setup trace n y rest
  dictates = beside setup trace small n y reads.steps rest reads.at reads.is

  abbrev there : Position
  there = with_choice rest (with_free dictates.keys dictates.pulses y)

  small_rest : HaveBytes rest
  small_rest = bytes_behind (map plain reads.steps) rest (subst HaveBytes (sym reads.is) small)

  comes_there : Reaches setup trace n there rest
  comes_there = reaches setup trace n there rest dictates.dictated

  abbrev keys_there : List ℕ
  keys_there = keys_after (choice rest y) dictates.keys

  abbrev pulses_there : List Mark
  pulses_there = pulses_after y.chain y.flat.state.phi (choice rest y) dictates.pulses

  abbrev shown : Position
  shown = with_free keys_there pulses_there y

  there_is : there ≡ shown
  there_is = choice_as rest dictates.keys dictates.pulses y

  own_read : (port : ℕ) → port < 2 → slice_index reads.keys port ≡ slice_index y.flat.state.keys port
  own_read port within =
      sym (ap (λ (keys : List ℕ). slice_index keys port) reads.keys_are
      ∙ free_leaves (read_key rest) reads.keys port (read_key_free rest small_rest) within)

  own_there : (port : ℕ) → port < 2 → slice_index reads.keys port ≡ slice_index keys_there port
  own_there port within =
      own_read port within
      ∙ sym (dictates.shadow.alike port within)
      ∙ sym (free_leaves (choice rest y) dictates.keys port (choice_free y rest small_rest) within)

  shadow_here : Shadow y reads.keys reads.pulses
  shadow_here = record {
    steady = dictates.shadow.steady;
    spent = reads.spent;
    size = reads.size;
    free_size = dictates.shadow.free_size;
    alike = λ port within. own_read port within;
  }

  shadow_there : Shadow shown reads.keys reads.pulses
  shadow_there = record {
    steady = record { writes = dictates.shadow.steady.writes; acknowledged = dictates.shadow.steady.acknowledged };
    spent = reads.spent;
    size = reads.size;
    free_size = length-keys_after (choice rest y) dictates.keys ∙ dictates.shadow.size;
    alike = λ port within. own_there port within;
  }

  -- ---- the same steps, where those of the dictated run are what stands next

  module _ (op : Op) (opcode : decoded (opcode_at y) ≡ Some op) where
    chosen_there : (more : List TraceStep) → rest ≡ plain_course (instruction_course op shown) ++ more → (before_at op shown).fault ≡ None →
        chosen_with op shown (history_of (with_free reads.keys y.flat.state.pulses shown).flat.state) (own_at op shown)
        ≡ chosen_with op shown (history_of shown.flat.state) (own_at op shown)
    chosen_there more is served = elim reads.pulses_are [
      | inl e ↦
          ap (λ (marks : List Mark). chosen_with op shown (history_of (with_free reads.keys marks shown).flat.state) (own_at op shown)) e
          ∙ pulse_serves shown reads.keys reads.pulses shadow_there op rest more is served
      | inr p ↦
          ap (λ (marks : List Mark). chosen_with op shown (history_of (with_free reads.keys marks shown).flat.state) (own_at op shown))
          (p.1 ∙ sym p.2 ∙ sym (unpulsed p.0))
          ∙ chosen_same shown reads.keys reads.pulses shadow_there op rest more small_rest is served
    ]
      where
        unpulsed : y.flat.state.writes ≡ [] → chosen_pulses shown reads.keys reads.pulses shadow_there op rest more small_rest is ≡ reads.pulses
        unpulsed unwritten =
            ap (λ (o : Option Op). pulses_after y.chain y.flat.state.phi (choice_for o shown rest) reads.pulses) (sym opcode)
            ∙ no_first_pulse y.flat.state.phi shown rest reads.pulses unwritten

    course_there : (more : List TraceStep) → rest ≡ plain_course (instruction_course op shown) ++ more →
        instruction_course op y ≡ instruction_course op shown
    course_there more is =
        ap (λ (keys : List ℕ). instruction_course op (with_free keys y.flat.state.pulses y)) reads.keys_are
        ∙ read_steps shown reads.keys reads.pulses y.flat.state.pulses shadow_there op rest more small_rest is (chosen_there more is)

    -- so where its own steps are not what stands next, those of the dictated run aren't either
    none_there : behind (plain_course (instruction_course op y)) rest ≡ None → behind (plain_course (instruction_course op shown)) rest ≡ None
    none_there none = by (behind (plain_course (instruction_course op shown)) rest) refl
      where
        by : (found : Option (List TraceStep)) → behind (plain_course (instruction_course op shown)) rest ≡ found → found ≡ None
        by None e = refl
        by (Some more) e =
            let is = behind_is (plain_course (instruction_course op shown)) rest more e in
            let same : behind (plain_course (instruction_course op y)) rest ≡ Some more =
            ap (λ (course : Course). behind (plain_course course) rest) (course_there more is) ∙ e in
            absurd (cc)

    -- ---- the run is over

    pub apart_here : 0 < length rest → behind (plain_course (instruction_course op y)) rest ≡ None → dictated setup trace ≡ at_end n rest
    apart_here some none =
        let r = comes_there in
        let onward : List TraceStep → Position = λ later. with_choice later (own_behind setup.script shown (position_after op shown)) in
        r.is ∙ over_now setup.script n r.more there rest rest some r.enough
        (ap (λ (x : Position). next_dictated setup.script x rest) there_is
        ∙ ap (λ (o : Option Op). next_for o setup.script shown rest) opcode
        ∙ ap (λ (found : Option (List TraceStep)). next_by (instruction_fault op shown) found onward rest) (none_there none)
        ∙ over (instruction_fault op shown) onward)
      where
        over : (fault : Option Fault) (onward : List TraceStep → Position) → next_by fault None onward rest ≡ Over rest
        over None onward = refl
        over (Some fault) onward = refl

    pub cut_here : (fault : Fault) (later : List TraceStep) → 0 < length rest → instruction_fault op y ≡ Some fault →
        behind (plain_course (instruction_course op y)) rest ≡ Some later → dictated setup trace ≡ at_end n later
    cut_here fault later some cuts stands =
        let r = comes_there in
        r.is ∙ over_now setup.script n r.more there rest later some r.enough
        (next_is y dictates.keys dictates.pulses dictates.shadow op opcode rest later small_rest
        (behind_is (plain_course (instruction_course op y)) rest later stands) setup.script (Some fault) cuts)

    -- ---- the run goes on

    module _ (served : instruction_fault op y ≡ None) (later : List TraceStep)
        (stands : behind (plain_course (instruction_course op y)) rest ≡ Some later) where
      told_here : rest ≡ plain_course (instruction_course op y) ++ later
      told_here = behind_is (plain_course (instruction_course op y)) rest later stands

      small_later : HaveBytes later
      small_later = bytes_behind (plain_course (instruction_course op y)) later (subst HaveBytes told_here small_rest)

      abbrev next_at : Position
      next_at = position_after op y

      abbrev own_next : List Event
      own_next = own_fallen setup.script (fallen y.flat.state next_at.flat.state)

      abbrev own_keys : List ℕ
      own_keys = keys_after own_next y.flat.state.keys

      abbrev behind_own : Position
      behind_own = with_free own_keys y.flat.state.pulses next_at

      behind_own_is : own_behind setup.script y next_at ≡ behind_own
      behind_own_is =
          events_on own_next next_at
          ∙ ap (λ (marks : List Mark). with_free own_keys marks next_at)
          (own_fallen_unpulsed setup.script y.chain next_at.flat.state.phi (fallen y.flat.state next_at.flat.state) y.flat.state.pulses)

      abbrev read_next : List Event
      read_next = read_inputs y.chain later

      abbrev reading_on : Position
      reading_on = with_free (keys_after read_next own_keys) (pulses_after y.chain next_at.flat.state.phi read_next y.flat.state.pulses) next_at

      reading_on_is : with_events read_next (own_behind setup.script y next_at) ≡ reading_on
      reading_on_is = ap (with_events read_next) behind_own_is ∙ events_with read_next own_keys y.flat.state.pulses next_at

      steps_on : map plain (reads.steps ++ (instruction_course op y).steps) ++ later ≡ trace
      steps_on =
          let course = instruction_course op y in
          ap (λ (l : List TraceStep). l ++ later) (map-append plain reads.steps course.steps)
          ∙ append_assoc (map plain reads.steps) (map plain course.steps) later
          ∙ ap (λ (l : List TraceStep). map plain reads.steps ++ (l ++ later))
          (sym (plain_served course (none_in course.fault (instruction_faults op y ∙ served))))
          ∙ ap (λ (l : List TraceStep). map plain reads.steps ++ l) (sym told_here)
          ∙ reads.is

      spent_on : AreSpent next_at.flat.state.acknowledged y.flat.state.pulses
      spent_on = elim reads.pulses_are [
        | inl e ↦
            subst (AreSpent next_at.flat.state.acknowledged) (sym e)
            (read_spent y reads.keys reads.pulses shadow_here op rest later told_here (served_before op y served))
        | inr p ↦ subst (AreSpent next_at.flat.state.acknowledged) (sym p.1) tt
      ]

      pub reads_on : Reads setup trace (suc n) (with_events (read_inputs y.chain later) (own_behind setup.script y (position_after op y))) later
      reads_on = subst (λ (x : Position). Reads setup trace (suc n) x later) (sym reading_on_is) (record {
        steps = reads.steps ++ (instruction_course op y).steps;
        at = (
          y,
          reads.steps,
          reads.at,
          record {
            op = op;
            is = opcode;
            served = served;
            free = read_next;
            are_free = read_free y.chain later small_later;
            at = sym reading_on_is;
            told = refl;
          },
        );
        is = steps_on;
        keys = own_keys;
        size = length-keys_after own_next y.flat.state.keys ∙ dictates.shadow.free_size;
        keys_are = read_keys y.chain later own_keys;
        pulses = y.flat.state.pulses;
        spent = spent_on;
        pulses_are = inl (read_pulses y.chain next_at.flat.state.phi later y.flat.state.pulses);
      })

  pub reserved_here : 0 < length rest → decoded (opcode_at y) ≡ None → dictated setup trace ≡ at_end n rest
  reserved_here some reserved =
      let r = comes_there in
      r.is ∙ over_now setup.script n r.more there rest rest some r.enough
      (ap (λ (x : Position). next_dictated setup.script x rest) there_is ∙ ap (λ (o : Option Op). next_for o setup.script shown rest) reserved)

  pub all_told : rest ≡ [] → dictated setup trace ≡ at_end n []
  all_told none =
      let r = comes_there in
      r.is
      ∙ ap (dictated_from setup.script n r.more there) none
      ∙ nothing_left setup.script n r.more there

-- ---- reset

module _ (setup : Setup) (trace : List TraceStep) (small : HaveBytes trace) where
  abbrev begun : Position
  begun = read_begun setup trace

  abbrev first_read : List Event
  first_read = read_key (drop (length reset_steps) trace)

  read_begun_is : begun ≡ with_free (keys_after first_read (first_keys setup)) [] (powered_at setup)
  read_begun_is =
      freely_begun setup first_read
      ∙ ap (λ (marks : List Mark). with_free (keys_after first_read (first_keys setup)) marks (powered_at setup))
      (read_key_unpulsed setup.chain 0 (drop (length reset_steps) trace) [])

  course_first : reset_course (dictated_begun setup trace) ≡ reset_course begun
  course_first = ap reset_course (dictated_begun_is setup trace (drop (length reset_steps) trace) refl) ∙ sym (ap reset_course read_begun_is)

  fault_first : reset_fault (dictated_begun setup trace) ≡ reset_fault begun
  fault_first = ap reset_fault (dictated_begun_is setup trace (drop (length reset_steps) trace) refl) ∙ sym (ap reset_fault read_begun_is)

  abbrev later_end : Position → List TraceStep → DictatedEnd
  later_end x rest = dictated_from setup.script 0 (length trace) x rest

  abbrev after_first : List TraceStep → Position
  after_first rest = position_after_reset (dictated_begun setup trace)

  found_first : (found : Option (List TraceStep)) → behind (plain_course (reset_course begun)) trace ≡ found →
      dictated setup trace ≡ end_by 0 (next_by (reset_fault (dictated_begun setup trace)) found after_first trace) later_end
  found_first found is =
      ap (λ (o : Option (List TraceStep)). end_by 0 (next_by (reset_fault (dictated_begun setup trace)) o after_first trace) later_end)
      (ap (λ (course : Course). behind (plain_course course) trace) course_first ∙ is)

  pub apart_first : behind (plain_course (reset_course begun)) trace ≡ None → dictated setup trace ≡ at_end 0 trace
  apart_first none = found_first None none ∙ over_by 0 (reset_fault (dictated_begun setup trace)) after_first trace later_end

  pub cut_first : (fault : Fault) (later : List TraceStep) → reset_fault begun ≡ Some fault →
      behind (plain_course (reset_course begun)) trace ≡ Some later → dictated setup trace ≡ at_end 0 later
  cut_first fault later cuts stands =
      found_first (Some later) stands
      ∙ ap (λ (why : Option Fault). end_by 0 (next_by why (Some later) after_first trace) later_end) (fault_first ∙ cuts)

  module _ (served : reset_fault begun ≡ None) (later : List TraceStep)
      (stands : behind (plain_course (reset_course begun)) trace ≡ Some later) where
    begins_reading : BeginsFreely setup (position_after_reset begun) (reset_course begun).steps
    begins_reading = record {
      free = first_read;
      are_free = read_key_free (drop (length reset_steps) trace) (bytes_drop (length reset_steps) trace small);
      served = served;
      at = refl;
      told = refl;
    }

    steps_first : map plain (reset_course begun).steps ++ later ≡ trace
    steps_first =
        let course = reset_course begun in
        ap (λ (l : List TraceStep). l ++ later) (sym (plain_served course (none_in course.fault (reset_faults begun ∙ served))))
        ∙ sym (behind_is (plain_course course) trace later stands)

    rest_first : drop (length reset_steps) trace ≡ later
    rest_first = behind_reset setup (position_after_reset begun) (reset_course begun).steps begins_reading trace later steps_first

    pub reads_first : Reads setup trace 0 (position_after_reset begun) later
    reads_first = record {
      steps = (reset_course begun).steps;
      at = begins_reading;
      is = steps_first;
      keys = first_keys setup;
      size = length-keys_after (own_events setup.script 0) (powered_at setup).flat.state.keys ∙ refl;
      keys_are =
          ap (λ (x : Position). (position_after_reset x).flat.state.keys) read_begun_is
          ∙ ap (λ (l : List TraceStep). keys_after (read_key l) (first_keys setup)) rest_first;
      pulses = [];
      spent = tt;
      pulses_are = inr (
        ap (λ (x : Position). (position_after_reset x).flat.state.writes) read_begun_is,
        ap (λ (x : Position). (position_after_reset x).flat.state.pulses) read_begun_is,
        refl,
      );
    }
