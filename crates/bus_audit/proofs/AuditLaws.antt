-- The loop of the audit: the machine follows the trace with the inputs that are read off it, up to where the dictated run is over.
use Rattle.std.proofs.Common.{◌≡◌, ◌↔◌, ℕ, zero, suc, ◌+◌, ◌-◌, ◌<◌, ◌≤◌, List, [], ◌∷◌, length, map, take, drop, Option, Some, None}
use Rattle.std.proofs.Common.{refl, ◌∙◌, ap, sym, subst, arith, length-append, length-drop, add-one}
use Rattle.std.proofs.lemmas.List.{length-map, drop_all}
use Rattle.std.specs.Prelude.{slice_get}
use Rattle.f8_spec.specs.ChipState.{ChipState}
use Rattle.console_spec.specs.BusTrace.{TracedStep}
use Rattle.console_spec.specs.Run.{Position, instruction_course, position_after}
use Rattle.console_spec.specs.Run.{position_after_reset, reset_course}
use Rattle.console_spec.specs.Scripts.{Script}
use Rattle.console_spec.specs.Telling.{fallen, with_events}
use Rattle.console_spec.specs.declared.Event.{Event}
use Rattle.f8_machine.specs.MachineState.{MachineState}
use Rattle.f8_machine.specs.Refinement.{Represents}
use Rattle.bus_audit.specs.Answers.{Trace, steps_of, line_at, answer_by, answer_in}
use Rattle.bus_audit.specs.Audits.{LeavesNone}
use Rattle.bus_audit.specs.PlainSteps.{HaveBytes, plain, plain_course}
use Rattle.bus_audit.specs.FreeRuns.{Setup, own_fallen, own_behind, own_begun, BeginsFreely, GoesFreely, IsFreelyAt, IsRecord, broken_off}
use Rattle.bus_audit.specs.FreeRuns.{reset_cut, cut}
use Rattle.bus_audit.specs.DictatedRuns.{DictatedEnd, dictated}
use Rattle.bus_audit.specs.Determinacy.{DeterminacyLaw}
use Rattle.bus_audit.specs.Inputs.{Comes, frame_between}
use Rattle.bus_audit.specs.ReadInputs.{read_inputs}
use Rattle.bus_audit.specs.Turns.{GoesOnward, IsOver, BeginsOnward, IsOverFirst, read_begun}
use Rattle.bus_audit.specs.declared.answers.AuditAnswer.{AuditAnswer}
use Rattle.bus_audit.specs.declared.answers.AuditAnswer.TheVariants.{Accept, Reject}
use Rattle.bus_audit.specs.declared.step.TraceStep.{TraceStep}
use Rattle.bus_audit.specs.declared.trace.ToldLine.{ToldLine}
use Rattle.bus_audit.proofs.Courses.{none_in, reset_faults, reset_tells}
use Rattle.bus_audit.proofs.Exact.{at_end, tells_some}
use Rattle.bus_audit.proofs.Standing.{drop_steps}
use Rattle.bus_audit.proofs.ToldInputs.{part_from}
use Rattle.bus_audit.proofs.Audited.{Reads, apart_here, cut_here, reads_on, reserved_here, all_told}
use Rattle.bus_audit.proofs.Audited.{apart_first, cut_first, reads_first}

-- ---- the parts of a list

suc_plus : (n m : ℕ) → suc n + m ≡ suc (n + m)
suc_plus n m = omega arith

zero_plus : (m : ℕ) → m ≡ zero + m
zero_plus m = omega arith

plus_zero : (n : ℕ) → n ≡ n + 0
plus_zero n = omega arith

pub drop_more : {X : Type 0} → (n m : ℕ) (xs : List X) → drop m (drop n xs) ≡ drop (n + m) xs
drop_more zero m xs = ap (λ (k : ℕ). drop k xs) (zero_plus m)
drop_more (suc n) m [] = drop_all m [] (omega arith) ∙ sym (drop_all (suc n + m) [] (omega arith))
drop_more (suc n) m (x ∷ xs) = drop_more n m xs ∙ ap (λ (k : ℕ). drop k (x ∷ xs)) (sym (suc_plus n m))

some_left : {X : Type 0} → (n : ℕ) (xs : List X) → n < length xs → 0 < length (drop n xs)
some_left n xs within = let size = length-drop n xs in omega (arith, size)

-- what a part of the lines tells
pub rest_told : (lines told : List ToldLine) (n : ℕ) → lines ≡ told →
    steps_of (take (length lines - n) (drop n lines)) ≡ drop n (steps_of told)
rest_told lines told n same =
    ap (λ (ls : List ToldLine). steps_of ls) (part_from n lines) ∙ sym (drop_steps n lines) ∙ ap (λ (ls : List ToldLine). drop n (steps_of ls)) same

pub length-part : (n : ℕ) (lines : List ToldLine) → length (take (length lines - n) (drop n lines)) ≡ length lines - n
length-part n lines = ap (λ (ls : List ToldLine). length ls) (part_from n lines) ∙ length-drop n lines

-- ---- what an answer leaves

leaves_by : (trace : Trace) (n told : ℕ) (steps rest : List TraceStep) (lines : List ToldLine) → rest ≡ drop told steps →
    (0 < length lines → 0 < length steps) → LeavesNone (answer_by trace n rest lines) steps told
leaves_by trace n told steps rest [] is some = tt
leaves_by trace n told steps [] (l ∷ lines) is some = (some (omega arith), sym is)
leaves_by trace n told steps (s ∷ rest) (l ∷ lines) is some = tt

-- behind reset
pub leaves_first : (trace : Trace) (n told : ℕ) (answer : AuditAnswer) →
    answer ≡ answer_in trace (record { count = n; rest = drop told (steps_of trace.told) }) → LeavesNone answer (steps_of trace.told) told
leaves_first trace n told answer is =
    let size : length (steps_of trace.told) ≡ length trace.told = length-map trace.told (λ (l : ToldLine). l.step) in
    subst (λ (a : AuditAnswer). LeavesNone a (steps_of trace.told) told) (sym is)
    (leaves_by trace n told (steps_of trace.told) (drop told (steps_of trace.told)) trace.told refl (λ some. omega (arith, size, some)))

-- behind an instruction
pub leaves_here : (trace : Trace) (n count told : ℕ) (answer : AuditAnswer) → count < length (steps_of trace.told) →
    answer ≡ answer_in trace (record { count = n; rest = drop (count + told) (steps_of trace.told) }) →
    LeavesNone answer (drop count (steps_of trace.told)) told
leaves_here trace n count told answer within is =
    let whole = steps_of trace.told in
    let size : length (drop count whole) ≡ length whole - count = length-drop count whole in
    subst (λ (a : AuditAnswer). LeavesNone a (drop count whole) told) (sym is)
    (leaves_by trace n told (drop count whole) (drop (count + told) whole) trace.told (sym (drop_more count told whole))
    (λ some. omega (arith, size, within)))

-- ---- the machine follows the trace

-- So many instructions are done, with so many steps; the machine stands at a position whose inputs are read off the rest.
pub record Follows (setup : Setup) (trace : List TraceStep) (instructions count : ℕ) (m : MachineState) (states : List ChipState) : Type 0 where
  pub position : Position
  pub reads : Reads setup trace instructions position (drop count trace)
  pub represents : Represents m states position

module _ (setup : Setup) (trace : List TraceStep) (small : HaveBytes trace) where
  -- reset
  pub follows_first : (count : ℕ) (m : MachineState) (states : List ChipState) →
      BeginsOnward (Represents m states) (read_begun setup trace) trace count → Follows setup trace 0 count m states
  follows_first count m states begins = record {
    position = position_after_reset (read_begun setup trace);
    reads = reads_first setup trace small begins.served (drop count trace) begins.next;
    represents = begins.at;
  }

  pub over_first : (count : ℕ) → IsOverFirst (read_begun setup trace) trace count → dictated setup trace ≡ at_end 0 (drop count trace)
  over_first count (IsOverFirst.apart none) = apart_first setup trace small none
  over_first count (IsOverFirst.cut fault told cuts next) = cut_first setup trace small fault (drop told trace) cuts next

  module _ (n count : ℕ) (m : MachineState) (states : List ChipState) (follows : Follows setup trace n count m states) where
    abbrev here : Position
    here = follows.position

    abbrev rest : List TraceStep
    rest = drop count trace

    -- all steps are told
    pub over_all : length trace ≤ count → dictated setup trace ≡ at_end n (drop count trace)
    over_all past =
        let none : rest ≡ [] = drop_all count trace past in
        all_told setup trace small n here rest follows.reads none ∙ ap (at_end n) (sym none)

    -- the run is over
    pub over_here : (told : ℕ) → count < length trace → IsOver here rest told → dictated setup trace ≡ at_end n (drop (count + told) trace)
    over_here told within (IsOver.reserved reserved) =
        reserved_here setup trace small n here rest follows.reads (some_left count trace within) reserved
        ∙ ap (λ (k : ℕ). at_end n (drop k trace)) (plus_zero count)
    over_here told within (IsOver.apart op is none) =
        apart_here setup trace small n here rest follows.reads op is (some_left count trace within) none
        ∙ ap (λ (k : ℕ). at_end n (drop k trace)) (plus_zero count)
    over_here told within (IsOver.cut op fault counts is cuts next) =
        cut_here setup trace small n here rest follows.reads op is fault (drop counts rest) (some_left count trace within) cuts next
        ∙ ap (at_end n) (drop_more count counts trace)

    -- the run goes on, with the inputs that come behind the instruction
    pub follows_on : (told : ℕ) (next : MachineState) (news : List ChipState) →
        GoesOnward (λ y. Represents next news (with_events (read_inputs here.chain (drop told rest)) (own_behind setup.script here y))) here rest told →
        Follows setup trace (n + 1) (count + told) next news
    follows_on told next news goes =
        let after = own_behind setup.script here (position_after goes.op here) in
        let later : drop told rest ≡ drop (count + told) trace = drop_more count told trace in
        let reads : Reads setup trace (suc n) (with_events (read_inputs here.chain (drop told rest)) after) (drop told rest) =
        reads_on setup trace small n here rest follows.reads goes.op goes.is goes.served (drop told rest) goes.next in
        record {
          position = with_events (read_inputs here.chain (drop told rest)) after;
          reads =
              subst (λ (k : ℕ). Reads setup trace k (with_events (read_inputs here.chain (drop told rest)) after) (drop (count + told) trace))
              (sym (add-one n))
              (subst (λ (l : List TraceStep). Reads setup trace (suc n) (with_events (read_inputs here.chain (drop told rest)) after) l) later reads);
          represents = goes.at;
        }

-- ---- an instruction, with the inputs behind it

pub goes_reading : (script : Script) (x : Position) (rest : List TraceStep) (told : ℕ) (m1 m2 m3 : MachineState) (mids owns news : List ChipState)
    (before : ℕ) (part : List TraceStep) → part ≡ drop told rest → before ≡ x.flat.state.phi → GoesOnward (Represents m1 mids) x rest told →
    Comes m1 m2 mids owns (own_fallen script (frame_between before m1.phi)) → Comes m2 m3 owns news (read_inputs m2.chain part) →
    GoesOnward (λ y. Represents m3 news (with_events (read_inputs x.chain (drop told rest)) (own_behind script x y))) x rest told
goes_reading script x rest told m1 m2 m3 mids owns news before part is clocks goes own read =
    let after = position_after goes.op x in
    let frame : frame_between before m1.phi ≡ fallen x.flat.state after.flat.state =
    ap (λ (phi : ℕ). frame_between phi m1.phi) clocks ∙ ap (frame_between x.flat.state.phi) goes.at.stands.phi in
    let inputs : read_inputs m2.chain part ≡ read_inputs x.chain (drop told rest) =
    ap (λ (sockets : List ℕ). read_inputs sockets part) (own.chain ∙ goes.at.stands.chain) ∙ ap (read_inputs x.chain) is in
    let behind_own : Represents m2 owns (own_behind script x after) =
    subst (λ (f : Option ℕ). Represents m2 owns (with_events (own_fallen script f) after)) frame (own.running after goes.at) in
    record {
      op = goes.op;
      is = goes.is;
      served = goes.served;
      next = goes.next;
      some = goes.some;
      at = subst (λ (events : List Event). Represents m3 news (with_events events (own_behind script x after))) inputs
          (read.running (own_behind script x after) behind_own);
    }

-- ---- the answer

-- the line of the first step that is left
line_left : (lines : List ToldLine) (after at : ℕ) (l : ToldLine) → slice_get lines at ≡ Some l → line_at lines after at ≡ l.line
line_left [] after at l is = absurd (cc)
line_left (k ∷ lines) after zero l is = let same : k ≡ l = cc in ap (λ (x : ToldLine). x.line) same
line_left (k ∷ lines) after (suc at) l is = line_left lines after at l is

within_get : (lines : List ToldLine) (at : ℕ) (l : ToldLine) → slice_get lines at ≡ Some l → at < length lines
within_get [] at l is = absurd (cc)
within_get (k ∷ lines) zero l is = omega arith
within_get (k ∷ lines) (suc at) l is = let more = within_get lines at l is in omega (arith, more)

steps_left : (lines : List ToldLine) (at : ℕ) → length (drop at (steps_of lines)) ≡ length lines - at
steps_left lines at = let size = length-drop at (steps_of lines) in let told = length-map lines (λ (l : ToldLine). l.step) in omega (arith, size, told)

reject_by : (trace : Trace) (count : ℕ) (rest : List TraceStep) (lines : List ToldLine) → 0 < length rest → 0 < length lines →
    answer_by trace count rest lines ≡ Reject (line_at trace.told trace.after (length trace.told - length rest))
reject_by trace count [] lines some told = absurd (omega arith)
reject_by trace count (s ∷ rest) [] some told = absurd (omega arith)
reject_by trace count (s ∷ rest) (l ∷ lines) some told = refl

pub answer_left : (trace : Trace) (count at : ℕ) (l : ToldLine) → slice_get trace.told at ≡ Some l →
    Reject l.line ≡ answer_in trace (record { count = count; rest = drop at (steps_of trace.told) })
answer_left trace count at l is =
    let within = within_get trace.told at l is in
    let size = steps_left trace.told at in
    let place : length trace.told - length (drop at (steps_of trace.told)) ≡ at = omega (arith, size, within) in
    sym (reject_by trace count (drop at (steps_of trace.told)) trace.told (omega (arith, size, within)) (omega (arith, within))
    ∙ ap (λ (n : ℕ). Reject (line_at trace.told trace.after n)) place
    ∙ ap (λ (n : ℕ). Reject n) (line_left trace.told trace.after at l is))

none_get : (lines : List ToldLine) (at : ℕ) → slice_get lines at ≡ None → length lines ≤ at
none_get [] at is = omega arith
none_get (k ∷ lines) zero is = absurd (cc)
none_get (k ∷ lines) (suc at) is = let more = none_get lines at is in omega (arith, more)

accept_by : (trace : Trace) (count : ℕ) (lines : List ToldLine) → 0 < length lines → answer_by trace count [] lines ≡ Accept count
accept_by trace count [] told = absurd (omega arith)
accept_by trace count (l ∷ lines) told = refl

pub answer_none : (trace : Trace) (count at : ℕ) → 0 < length trace.told → slice_get trace.told at ≡ None →
    Accept count ≡ answer_in trace (record { count = count; rest = drop at (steps_of trace.told) })
answer_none trace count at some is =
    let past = none_get trace.told at is in
    let told = length-map trace.told (λ (l : ToldLine). l.step) in
    let none : drop at (steps_of trace.told) ≡ [] = drop_all at (steps_of trace.told) (omega (arith, past, told)) in
    sym (ap (λ (rest : List TraceStep). answer_by trace count rest trace.told) none ∙ accept_by trace count trace.told some)

empty_by : (trace : Trace) (count : ℕ) (rest : List TraceStep) (lines : List ToldLine) → length lines ≡ 0 →
    answer_by trace count rest lines ≡ Reject trace.after
empty_by trace count rest [] none = refl
empty_by trace count rest (l ∷ lines) none = absurd (omega arith)

pub answer_empty : (trace : Trace) (end : DictatedEnd) → length trace.told ≡ 0 → Reject trace.after ≡ answer_in trace end
answer_empty trace end none = sym (empty_by trace end.count end.rest trace.told none)

-- ---- accept comes where the trace is a record

begins_some : (setup : Setup) (x : Position) (steps : List TracedStep) → BeginsFreely setup x steps → 0 < length steps
begins_some setup x steps begins =
    let y = with_events begins.free (own_begun setup) in
    let three = reset_tells y (none_in (reset_course y).fault (reset_faults y ∙ begins.served)) in
    let told = ap (λ (ss : List TracedStep). length ss) begins.told in
    omega (arith, three, told)

freely_some : (setup : Setup) (n : ℕ) (x : Position) (steps : List TracedStep) → IsFreelyAt setup n x steps → 0 < length steps
freely_some setup zero x steps at = begins_some setup x steps at
freely_some setup (suc n) x steps at =
    let earlier : List TracedStep = at.1 in
    let goes : GoesFreely setup.script at.0 x earlier steps = at.3 in
    let first = freely_some setup n at.0 earlier at.2 in
    let told = ap (λ (ss : List TracedStep). length ss) goes.told in
    let both = length-append earlier (instruction_course goes.op at.0).steps in
    omega (arith, first, told, both)

record_some : (setup : Setup) {n : ℕ} {trace : List TraceStep} → IsRecord setup n trace → 0 < length trace
record_some setup (broken_off n x steps at) = let some = freely_some setup n x steps at in let size = length-map steps plain in omega (arith, some, size)
record_some setup (reset_cut free fault are cuts) = omega arith
record_some setup (cut n x steps op fault at is cuts) =
    let some = tells_some op x in
    let both = length-append (map plain steps) (plain_course (instruction_course op x)) in
    omega (arith, some, both)

record_not_empty : (setup : Setup) (n : ℕ) (trace : List TraceStep) → trace ≡ [] → IsRecord setup n trace → ⊥
record_not_empty setup n trace none is =
    let some = record_some setup is in
    let size = ap (λ (l : List TraceStep). length l) none in
    omega (arith, some, size)

end_is : (n : ℕ) (end : DictatedEnd) → end.count ≡ n → end.rest ≡ [] → end ≡ at_end n []
end_is n end count rest = ap (λ (l : List TraceStep). at_end end.count l) rest ∙ ap (λ (k : ℕ). at_end k []) count

module _ (law : DeterminacyLaw) (setup : Setup) (trace : Trace) (n : ℕ) where
  by_lines : (lines : List ToldLine) (end : DictatedEnd) → dictated setup (steps_of lines) ≡ end → HaveBytes (steps_of lines) →
      (answer_by trace end.count end.rest lines ≡ Accept n) ↔ IsRecord setup n (steps_of lines)
  by_lines [] end is small = (λ e. absurd (cc), λ whole. absurd (record_not_empty setup n [] refl whole))
  by_lines (l ∷ lines) end is small =
      let exact = law.exact setup n l.step (steps_of lines) small in (
        λ e. exact.0 (is ∙ accepted end.rest refl e),
        λ whole. let ends : end ≡ at_end n [] = sym is ∙ exact.1 whole in
            ap (λ (d : DictatedEnd). answer_by trace d.count d.rest (l ∷ lines)) ends,
      )
    where
      accepted : (rest : List TraceStep) → end.rest ≡ rest → answer_by trace end.count rest (l ∷ lines) ≡ Accept n → end ≡ at_end n []
      accepted [] left e = let same : end.count ≡ n = cc in end_is n end same left
      accepted (s ∷ rest) left e = absurd (cc)

  pub accepts_records : (answer : AuditAnswer) → answer ≡ answer_in trace (dictated setup (steps_of trace.told)) → HaveBytes (steps_of trace.told) →
      (answer ≡ Accept n) ↔ IsRecord setup n (steps_of trace.told)
  accepts_records answer is small =
      let both = by_lines trace.told (dictated setup (steps_of trace.told)) refl small in
      (λ e. both.0 (sym is ∙ e), λ whole. is ∙ both.1 whole)
