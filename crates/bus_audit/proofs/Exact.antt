-- The dictated run leaves nothing of a trace just where that is the whole record of a free run.
use Rattle.std.proofs.Common.{◌≡◌, ℕ, zero, suc, ◌+◌, ◌<◌, ◌≤◌, Bool, true, false, List, [], ◌∷◌, ◌++◌, length, map, drop, refl, ◌∙◌, ap}
use Rattle.std.proofs.Common.{sym, subst}
use Rattle.std.proofs.Common.{Option, Some, None, arith, append_assoc, append-nil, add-one, length-append}
use Rattle.std.proofs.lemmas.List.{map-append}
use Rattle.std.specs.Prelude.{if◌then◌else◌}
use Rattle.f8_spec.specs.BusArbitration.{Ruling, Served, Conflict, Undriven, Astray, rule_of}
use Rattle.f8_spec.specs.Instructions.{decoded, row_of}
use Rattle.f8_spec.specs.MicroSteps.{Step, NoByte, long_step, last_fetch, interrupt_steps, reset_steps, steps_before_fetch}
use Rattle.f8_spec.specs.declared.instructions.Op.{Op}
use Rattle.f8_spec.specs.declared.instructions.Row.{Row}
use Rattle.console_spec.specs.BusAccesses.{Access, accesses_of}
use Rattle.console_spec.specs.BusTrace.{TracedStep, Course, course_by, course_of, is_access, with_unaccessed, ending_steps}
use Rattle.console_spec.specs.CounterCopies.{Copy}
use Rattle.console_spec.specs.Processor.{Flow, Inputs}
use Rattle.console_spec.specs.Run.{Position, opcode_at, gets_all_at, instruction_course, instruction_fault, position_after}
use Rattle.console_spec.specs.Run.{position_after_reset, reset_course, reset_fault}
use Rattle.console_spec.specs.Scripts.{Script}
use Rattle.console_spec.specs.Services.{Fault, access_ruling}
use Rattle.console_spec.specs.Telling.{with_events}
use Rattle.console_spec.specs.declared.Event.{Event}
use Rattle.bus_audit.specs.PlainSteps.{HaveBytes, plain, plain_course, behind}
use Rattle.bus_audit.specs.declared.step.TraceStep.{TraceStep}
use Rattle.bus_audit.specs.FreeRuns.{Setup, AreFree, own_behind, own_begun, BeginsFreely, GoesFreely, IsFreelyAt, IsRecord, broken_off}
use Rattle.bus_audit.specs.FreeRuns.{reset_cut, cut}
use Rattle.bus_audit.specs.Choices.{choice, with_choice}
use Rattle.bus_audit.specs.DictatedRuns.{Next, Onward, Over, next_by, next_for, next_dictated, dictated_begun, start_dictated, IsDictatedAt}
use Rattle.bus_audit.specs.DictatedRuns.{DictatedEnd, end_by, dictated_from, dictated}
use Rattle.bus_audit.specs.Determinacy.{with_free}
use Rattle.bus_audit.proofs.Courses.{none_in, instruction_faults, reset_faults}
use Rattle.bus_audit.proofs.FreeChoices.{choice_free}
use Rattle.bus_audit.proofs.Behind.{behind-append, behind_is, bytes_behind}
use Rattle.bus_audit.proofs.Beside.{Beside, beside, plain_served, freely_begun, powered_at, next_is}

-- ---- each instruction tells a step

ruling_some : (i : Inputs) (s : Step) (v : Ruling) (rest : Course) → 0 < length (plain_course (course_by i s v rest))
ruling_some i s (Served socket) rest = omega arith
ruling_some i s (Conflict parties) rest = omega arith
ruling_some i s (Undriven at) rest = omega arith
ruling_some i s (Astray socket at reference) rest = omega arith

course_some : (i : Inputs) (c : Flow) (copies : List Copy) (s : Step) (later : List Step) (accesses : List Access) →
    0 < length (plain_course (course_of i c copies (s ∷ later) accesses))
course_some i c copies s later [] = omega arith
course_some i c copies s later (a ∷ accesses) = by (is_access (rule_of s.romc))
  where
    by : (b : Bool) → 0 < length (plain_course (if b
        then course_by i s (access_ruling c copies a) (course_of i c copies later accesses)
        else with_unaccessed i s (course_of i c copies later (a ∷ accesses))))
    by true = ruling_some i s (access_ruling c copies a) (course_of i c copies later accesses)
    by false = omega arith

steps_some : (i : Inputs) (c : Flow) (copies : List Copy) (steps : List Step) (row : Row) (chosen : Option ℕ) (accesses : List Access) →
    0 < length (plain_course (course_of i c copies (steps ++ ending_steps row chosen) accesses))
steps_some i c copies [] row None accesses = course_some i c copies (last_fetch row) [] accesses
steps_some i c copies [] row (Some socket) accesses = course_some i c copies (long_step 0x10 NoByte) (drop 1 interrupt_steps) accesses
steps_some i c copies (s ∷ steps) row chosen accesses = course_some i c copies s (steps ++ ending_steps row chosen) accesses

pub tells_some : (op : Op) (x : Position) → 0 < length (plain_course (instruction_course op x))
tells_some op x =
    let i = gets_all_at op x in
    steps_some i x.flat.state.flow x.copies (steps_before_fetch (row_of op) i.taken) (row_of op) i.chosen (accesses_of op i)

-- ---- where the run goes on

record GoesOn (fault : Option Fault) (found : Option (List TraceStep)) (rest : List TraceStep) : Type 0 where
  served : fault ≡ None
  left : found ≡ Some rest

goes_on : (fault : Option Fault) (found : Option (List TraceStep)) (onward : List TraceStep → Position) (trace : List TraceStep) (z : Position)
    (rest : List TraceStep) → next_by fault found onward trace ≡ Onward z rest → GoesOn fault found rest
goes_on None None onward trace z rest is = absurd (cc)
goes_on (Some why) None onward trace z rest is = absurd (cc)
goes_on None (Some later) onward trace z rest is = record { served = refl; left = let same : later ≡ rest = cc in ap (λ (l : List TraceStep). Some l) same }
goes_on (Some why) (Some later) onward trace z rest is = absurd (cc)

-- an instruction leaves less of the trace, and reset no more
next_shorter : (script : Script) (y z : Position) (trace rest : List TraceStep) → next_dictated script y trace ≡ Onward z rest →
    length rest < length trace
next_shorter script y z trace rest is = by (decoded (opcode_at y)) is
  where
    by : (o : Option Op) → next_for o script y trace ≡ Onward z rest → length rest < length trace
    by None e = absurd (cc)
    by (Some op) e =
        let told = plain_course (instruction_course op y) in
        let g = goes_on (instruction_fault op y) (behind told trace) (λ later. with_choice later (own_behind script y (position_after op y))) trace z rest e in
        let size : length trace ≡ length told + length rest =
        ap (λ (l : List TraceStep). length l) (behind_is told trace rest g.left) ∙ length-append told rest in
        let some = tells_some op y in
        omega (arith, size, some)

start_shorter : (setup : Setup) (trace : List TraceStep) (z : Position) (rest : List TraceStep) → start_dictated setup trace ≡ Onward z rest →
    length rest ≤ length trace
start_shorter setup trace z rest is =
    let x = dictated_begun setup trace in
    let told = plain_course (reset_course x) in
    let g = goes_on (reset_fault x) (behind told trace) (λ later. position_after_reset x) trace z rest is in
    let size : length trace ≡ length told + length rest =
    ap (λ (l : List TraceStep). length l) (behind_is told trace rest g.left) ∙ length-append told rest in
    omega (arith, size)

-- so the number of instructions at most is never met
pub record Reaches (setup : Setup) (trace : List TraceStep) (n : ℕ) (z : Position) (rest : List TraceStep) : Type 0 where
  pub more : ℕ
  pub enough : length rest ≤ more
  pub is : dictated setup trace ≡ dictated_from setup.script n more z rest

onward_more : (setup : Setup) (trace : List TraceStep) (n : ℕ) (y z : Position) (before rest : List TraceStep) (more : ℕ) →
    length before ≤ more → length rest < length before → dictated setup trace ≡ dictated_from setup.script n more y before →
    next_dictated setup.script y before ≡ Onward z rest → Reaches setup trace (suc n) z rest
unfolding dictated_from
onward_more setup trace n y z before rest zero enough shorter is next = absurd (omega arith)
onward_more setup trace n y z before rest (suc more) enough shorter is next = record {
  more = more;
  enough = omega arith;
  is =
      is
      ∙ ap (λ (nx : Next). end_by n nx (λ q later. dictated_from setup.script (n + 1) more q later)) next
      ∙ ap (λ (count : ℕ). dictated_from setup.script count more z rest) (add-one n);
}

pub reaches : (setup : Setup) (trace : List TraceStep) (n : ℕ) (z : Position) (rest : List TraceStep) → IsDictatedAt setup trace n z rest →
    Reaches setup trace n z rest
reaches setup trace zero z rest at = record {
  more = length trace;
  enough = start_shorter setup trace z rest at;
  is = ap (λ (nx : Next). end_by 0 nx (λ q later. dictated_from setup.script 0 (length trace) q later)) at;
}
reaches setup trace (suc n) z rest at =
    let y : Position = at.0 in
    let before : List TraceStep = at.1 in
    let r : Reaches setup trace n y before = reaches setup trace n y before at.2 in
    onward_more setup trace n y z before rest r.more r.enough (next_shorter setup.script y z before rest at.3) r.is at.3

-- ---- where nothing is left

abbrev pub at_end : ℕ → List TraceStep → DictatedEnd
at_end n rest = record { count = n; rest = rest }

abbrev pub whole_in : ℕ → DictatedEnd
whole_in n = at_end n []

none_behind : (steps : List TraceStep) → 0 < length steps → behind steps [] ≡ None
none_behind [] some = absurd (omega arith)
none_behind (s ∷ steps) some = refl

pub over_by : (n : ℕ) (fault : Option Fault) (onward : List TraceStep → Position) (trace : List TraceStep)
    (k : Position → List TraceStep → DictatedEnd) → end_by n (next_by fault None onward trace) k ≡ at_end n trace
over_by n None onward trace k = refl
over_by n (Some fault) onward trace k = refl

pub nothing_left : (script : Script) (n more : ℕ) (z : Position) → dictated_from script n more z [] ≡ whole_in n
unfolding dictated_from
nothing_left script n zero z = refl
nothing_left script n (suc more) z = by (decoded (opcode_at z))
  where
    by : (o : Option Op) → end_by n (next_for o script z []) (λ q later. dictated_from script (n + 1) more q later) ≡ whole_in n
    by None = refl
    by (Some op) =
        let onward : List TraceStep → Position = λ later. with_choice later (own_behind script z (position_after op z)) in
        let k : Position → List TraceStep → DictatedEnd = λ q later. dictated_from script (n + 1) more q later in
        ap (λ (found : Option (List TraceStep)). end_by n (next_by (instruction_fault op z) found onward []) k)
        (none_behind (plain_course (instruction_course op z)) (tells_some op z))
        ∙ over_by n (instruction_fault op z) onward [] k

-- ---- a record leaves nothing

pub over_now : (script : Script) (n more : ℕ) (z : Position) (trace left : List TraceStep) → 0 < length trace → length trace ≤ more →
    next_dictated script z trace ≡ Over left → dictated_from script n more z trace ≡ at_end n left
unfolding dictated_from
over_now script n zero z trace left some enough is = absurd (omega arith)
over_now script n (suc more) z trace left some enough is =
    ap (λ (nx : Next). end_by n nx (λ q later. dictated_from script (n + 1) more q later)) is

reset_over : (setup : Setup) (free : List Event) (fault : Fault) → reset_fault (with_events free (own_begun setup)) ≡ Some fault →
    dictated setup (plain_course (reset_course (with_events free (own_begun setup)))) ≡ whole_in 0
reset_over setup free fault cuts =
    let p = powered_at setup in
    let told = plain_course (reset_course (with_events free (own_begun setup))) in
    let k : Position → List TraceStep → DictatedEnd = λ q later. dictated_from setup.script 0 (length told) q later in
    let x = dictated_begun setup told in
    let as_powered = freely_begun setup (choice (drop (length reset_steps) told) (own_begun setup)) in
    let told_is : told ≡ plain_course (reset_course p) ++ [] =
    ap (λ (q : Position). plain_course (reset_course q)) (freely_begun setup free) ∙ sym (append-nil (plain_course (reset_course p))) in
    let cut_at : reset_fault p ≡ Some fault = ap reset_fault (sym (freely_begun setup free)) ∙ cuts in
    ap (λ (q : Position). end_by 0 (next_by (reset_fault q) (behind (plain_course (reset_course q)) told) (λ later. position_after_reset x) told) k)
    as_powered
    ∙ ap (λ (why : Option Fault). end_by 0 (next_by why (behind (plain_course (reset_course p)) told) (λ later. position_after_reset x) told) k)
    cut_at
    ∙ ap (λ (found : Option (List TraceStep)). end_by 0 (next_by (Some fault) found (λ later. position_after_reset x) told) k)
    (ap (behind (plain_course (reset_course p))) told_is ∙ behind-append (plain_course (reset_course p)) [])

pub complete : (setup : Setup) {n : ℕ} {trace : List TraceStep} → IsRecord setup n trace → HaveBytes trace → dictated setup trace ≡ whole_in n
complete setup (broken_off n x steps at) small =
    let trace = map plain steps in
    let b : Beside setup trace n x [] = beside setup trace small n x steps [] at (append-nil trace) in
    let z = with_choice [] (with_free b.keys b.pulses x) in
    let r : Reaches setup trace n z [] = reaches setup trace n z [] b.dictated in
    r.is ∙ nothing_left setup.script n r.more z
complete setup (reset_cut free fault are cuts) small = reset_over setup free fault cuts
complete setup (cut n x steps op fault at is cuts) small =
    let told = plain_course (instruction_course op x) in
    let trace = map plain steps ++ told in
    let b : Beside setup trace n x told = beside setup trace small n x steps told at refl in
    let z = with_choice told (with_free b.keys b.pulses x) in
    let r : Reaches setup trace n z told = reaches setup trace n z told b.dictated in
    let next : next_dictated setup.script z told ≡ Over [] =
    next_is x b.keys b.pulses b.shadow op is told [] (bytes_behind (map plain steps) told small) (sym (append-nil told)) setup.script (Some fault) cuts in
    r.is ∙ over_now setup.script n r.more z told [] (tells_some op x) r.enough next

-- ---- and nothing else does

module _ (setup : Setup) (m : ℕ) (trace : List TraceStep) where
  -- a run that is broken off here
  off_here : (n : ℕ) (z : Position) (steps : List TracedStep) (rest : List TraceStep) → IsFreelyAt setup n z steps →
      map plain steps ++ rest ≡ trace → at_end n rest ≡ whole_in m → IsRecord setup m trace
  off_here n z steps rest at is ends =
      let none : rest ≡ [] = ap (λ (e : DictatedEnd). e.rest) ends in
      subst (λ (count : ℕ). IsRecord setup count trace) (ap (λ (e : DictatedEnd). e.count) ends)
      (subst (IsRecord setup n) (sym (append-nil (map plain steps)) ∙ ap (λ (l : List TraceStep). map plain steps ++ l) (sym none) ∙ is)
      (broken_off n z steps at))

  -- an instruction that is not done is the last
  cut_here : (n : ℕ) (z : Position) (steps : List TracedStep) (rest later : List TraceStep) (op : Op) (fault : Fault) →
      IsFreelyAt setup n z steps → map plain steps ++ rest ≡ trace → decoded (opcode_at z) ≡ Some op → instruction_fault op z ≡ Some fault →
      rest ≡ plain_course (instruction_course op z) ++ later → at_end n later ≡ whole_in m → IsRecord setup m trace
  cut_here n z steps rest later op fault at is opcode cuts told ends =
      let course = plain_course (instruction_course op z) in
      let none : later ≡ [] = ap (λ (e : DictatedEnd). e.rest) ends in
      let whole : rest ≡ course = told ∙ ap (λ (l : List TraceStep). course ++ l) none ∙ append-nil course in
      subst (λ (count : ℕ). IsRecord setup count trace) (ap (λ (e : DictatedEnd). e.count) ends)
      (subst (IsRecord setup n) (ap (λ (l : List TraceStep). map plain steps ++ l) (sym whole) ∙ is) (cut n z steps op fault at opcode cuts))

  -- one that is done leads on
  module _ (n : ℕ) (z : Position) (steps : List TracedStep) (rest later : List TraceStep) (op : Op) (at : IsFreelyAt setup n z steps)
      (is : map plain steps ++ rest ≡ trace) (opcode : decoded (opcode_at z) ≡ Some op) (served : instruction_fault op z ≡ None)
      (told : rest ≡ plain_course (instruction_course op z) ++ later) (small : HaveBytes rest) where
    small_later : HaveBytes later
    small_later = bytes_behind (plain_course (instruction_course op z)) later (subst HaveBytes told small)

    abbrev onward_at : Position
    onward_at = with_choice later (own_behind setup.script z (position_after op z))

    abbrev onward_steps : List TracedStep
    onward_steps = steps ++ (instruction_course op z).steps

    goes_freely : GoesFreely setup.script z onward_at steps onward_steps
    goes_freely = record {
      op = op;
      is = opcode;
      served = served;
      free = choice later (own_behind setup.script z (position_after op z));
      are_free = choice_free (own_behind setup.script z (position_after op z)) later small_later;
      at = refl;
      told = refl;
    }

    onward_told : map plain onward_steps ++ later ≡ trace
    onward_told =
        let course = instruction_course op z in
        ap (λ (l : List TraceStep). l ++ later) (map-append plain steps course.steps)
        ∙ append_assoc (map plain steps) (map plain course.steps) later
        ∙ ap (λ (l : List TraceStep). map plain steps ++ (l ++ later))
        (sym (plain_served course (none_in course.fault (instruction_faults op z ∙ served))))
        ∙ ap (λ (l : List TraceStep). map plain steps ++ l) (sym told)
        ∙ is

  -- what is left to show where an instruction is done
  abbrev Onwards : ℕ → ℕ → Type 0
  Onwards more n = (x : Position) (told : List TracedStep) (later : List TraceStep) →
      (IsFreelyAt setup (suc n) x told) × (map plain told ++ later ≡ trace) → HaveBytes later →
      dictated_from setup.script (suc n) more x later ≡ whole_in m → IsRecord setup m trace

  sound_from : (more n : ℕ) (z : Position) (steps : List TracedStep) (rest : List TraceStep) → IsFreelyAt setup n z steps →
      map plain steps ++ rest ≡ trace → HaveBytes rest → dictated_from setup.script n more z rest ≡ whole_in m → IsRecord setup m trace
  unfolding dictated_from
  sound_from zero n z steps rest at is small ends = off_here n z steps rest at is ends
  sound_from (suc more) n z steps rest at is small ends =
      by (decoded (opcode_at z)) refl ends
      (λ x told later onward_is onward_small e. sound_from more (suc n) x told later onward_is.0 onward_is.1 onward_small e)
    where
      by_op : (op : Op) → decoded (opcode_at z) ≡ Some op → (fault : Option Fault) (found : Option (List TraceStep)) →
          instruction_fault op z ≡ fault → behind (plain_course (instruction_course op z)) rest ≡ found →
          end_by n (next_by fault found (λ later. with_choice later (own_behind setup.script z (position_after op z))) rest)
          (λ q later. dictated_from setup.script (n + 1) more q later) ≡ whole_in m → Onwards more n → IsRecord setup m trace
      by_op op opcode None None why left e onwards = off_here n z steps rest at is e
      by_op op opcode (Some fault) None why left e onwards = off_here n z steps rest at is e
      by_op op opcode (Some fault) (Some later) why left e onwards =
          cut_here n z steps rest later op fault at is opcode why (behind_is (plain_course (instruction_course op z)) rest later left) e
      by_op op opcode None (Some later) why left e onwards =
          let told = behind_is (plain_course (instruction_course op z)) rest later left in
          let x = onward_at n z steps rest later op at is opcode why told small in
          onwards x (onward_steps n z steps rest later op at is opcode why told small) later (
            (z, steps, at, goes_freely n z steps rest later op at is opcode why told small),
            onward_told n z steps rest later op at is opcode why told small,
          )
          (small_later n z steps rest later op at is opcode why told small)
          (ap (λ (count : ℕ). dictated_from setup.script count more x later) (sym (add-one n)) ∙ e)

      by : (o : Option Op) → decoded (opcode_at z) ≡ o →
          end_by n (next_for o setup.script z rest) (λ q later. dictated_from setup.script (n + 1) more q later) ≡ whole_in m →
          Onwards more n → IsRecord setup m trace
      by None opcode e onwards = off_here n z steps rest at is e
      by (Some op) opcode e onwards =
          by_op op opcode (instruction_fault op z) (behind (plain_course (instruction_course op z)) rest) refl refl e onwards

pub bytes_drop : (n : ℕ) (trace : List TraceStep) → HaveBytes trace → HaveBytes (drop n trace)
bytes_drop zero trace small = small
bytes_drop (suc n) [] small = small
bytes_drop (suc n) (s ∷ trace) small = bytes_drop n trace small.1

-- what is chosen before reset
abbrev first_choice : Setup → List TraceStep → List Event
first_choice setup trace = choice (drop (length reset_steps) trace) (own_begun setup)

first_free : (setup : Setup) (trace : List TraceStep) → HaveBytes trace → AreFree (first_choice setup trace)
first_free setup trace small =
    choice_free (own_begun setup) (drop (length reset_steps) trace) (bytes_drop (length reset_steps) trace small)

some_left : (n m : ℕ) (s : TraceStep) (later : List TraceStep) → at_end n (s ∷ later) ≡ whole_in m → ⊥
some_left n m s later ends = let none : (s ∷ later) ≡ [] = ap (λ (e : DictatedEnd). e.rest) ends in cc

sound_by : (setup : Setup) (m : ℕ) (s : TraceStep) (later : List TraceStep) → HaveBytes (s ∷ later) → (fault : Option Fault)
    (found : Option (List TraceStep)) → reset_fault (dictated_begun setup (s ∷ later)) ≡ fault →
    behind (plain_course (reset_course (dictated_begun setup (s ∷ later)))) (s ∷ later) ≡ found →
    end_by 0 (next_by fault found (λ rest. position_after_reset (dictated_begun setup (s ∷ later))) (s ∷ later))
    (λ q rest. dictated_from setup.script 0 (length (s ∷ later)) q rest) ≡ whole_in m → IsRecord setup m (s ∷ later)
sound_by setup m s later small None None why left ends = absurd (some_left 0 m s later ends)
sound_by setup m s later small (Some fault) None why left ends = absurd (some_left 0 m s later ends)
sound_by setup m s later small (Some fault) (Some rest) why left ends =
    let trace : List TraceStep = s ∷ later in
    let told = plain_course (reset_course (dictated_begun setup trace)) in
    let none : rest ≡ [] = ap (λ (e : DictatedEnd). e.rest) ends in
    subst (λ (count : ℕ). IsRecord setup count trace) (ap (λ (e : DictatedEnd). e.count) ends)
    (subst (IsRecord setup zero) (sym (behind_is told trace rest left ∙ ap (λ (l : List TraceStep). told ++ l) none ∙ append-nil told))
    (reset_cut (first_choice setup trace) fault (first_free setup trace small) why))
sound_by setup m s later small None (Some rest) why left ends =
    let trace : List TraceStep = s ∷ later in
    let x = dictated_begun setup trace in
    let course = reset_course x in
    let told = behind_is (plain_course course) trace rest left in
    let served : course.fault ≡ None = none_in course.fault (reset_faults x ∙ why) in
    let begins : BeginsFreely setup (position_after_reset x) course.steps = record {
      free = first_choice setup trace;
      are_free = first_free setup trace small;
      served = why;
      at = refl;
      told = refl;
    } in
    sound_from setup m trace (length trace) 0 (position_after_reset x) course.steps rest begins
    (ap (λ (l : List TraceStep). l ++ rest) (sym (plain_served course served)) ∙ sym told)
    (bytes_behind (plain_course course) rest (subst HaveBytes told small)) ends

pub sound : (setup : Setup) (m : ℕ) (s : TraceStep) (later : List TraceStep) → HaveBytes (s ∷ later) →
    dictated setup (s ∷ later) ≡ whole_in m → IsRecord setup m (s ∷ later)
sound setup m s later small ends =
    let trace : List TraceStep = s ∷ later in
    let x = dictated_begun setup trace in
    sound_by setup m s later small (reset_fault x) (behind (plain_course (reset_course x)) trace) refl refl ends
