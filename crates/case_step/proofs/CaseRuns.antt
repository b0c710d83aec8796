-- Runs with free inputs over a closed and safe list of entries: at every position some entry of the list allows it, and a case of it that is
-- safe is beside the position.
use Rattle.std.proofs.Common.{◌≡◌, ℕ, zero, suc, ◌<◌, true, List, [], ◌∷◌, map, refl, sym, subst, inl, inr}
use Rattle.std.specs.Prelude.{Some, None}
use Rattle.std.specs.List.{AllByRecursion, Contains}
use Rattle.f8_spec.specs.Instructions.{decoded}
use Rattle.f8_spec.specs.BusArbitration.{Seat, seat_of}
use Rattle.f8_spec.specs.declared.instructions.Op.{Op}
use Rattle.console_spec.specs.AddressSpace.{byte_at}
use Rattle.console_spec.specs.FreeRuns.{HasByte, IsFreeStart, IsInRange, IsReached}
use Rattle.console_spec.specs.Run.{Position, seats_of, opcode_at, position_after, reset_fault}
use Rattle.console_spec.specs.Telling.{with_events}
use Rattle.console_spec.specs.declared.Event.{Event}
use Rattle.abs_domain.specs.AbstractState.{AbstractState}
use Rattle.abs_step.specs.MapView.{MapView, IsViewOf}
use Rattle.abs_step.specs.ServedSteps.{IsSafelyBeside}
use Rattle.abs_step.specs.Soundness.{GoesOn, OnlyUndriven}
use Rattle.abs_step.specs.SoundSteps.{IsBeside}
use Rattle.abs_step.specs.Successors.{Invariant, start_invariant}
use Rattle.abs_step.proofs.Members.{IsIn, SomeOf, contains_of_in, some_of_any}
use Rattle.abs_step.proofs.OneInstruction.{served_steps}
use Rattle.abs_step.proofs.Opcodes.{decoded_in_range}
use Rattle.abs_step.proofs.Reasons.{safe_state}
use Rattle.abs_step.proofs.Runs.{sound_steps}
use Rattle.abs_step.proofs.ScriptEnds.{free_runs}
use Rattle.abs_step.proofs.Standing.{opcode_told}
use Rattle.case_step.specs.Entries.{EntryView, Allows, start_entry}
use Rattle.case_step.specs.Cases.{at_entry}
use Rattle.case_step.specs.Results.{result, is_covered, is_covered_by}
use Rattle.case_step.specs.CaseLists.{op_of, cases_in, HasFaultFreeCases}
use Rattle.case_step.specs.CaseLaws.{EntryLaw, IsSafeList, CaseSoundnessLaw}

-- an element of which something holds
found : {A : Type 0} → (P : A → Type 0) (xs : List A) → SomeOf P xs → (x : A) × IsIn x xs × P x
found P [] some = absurd some
found P (x ∷ xs) (inl here) = (x, inl refl, here)
found P (x ∷ xs) (inr later) = let rest = found P xs later in (rest.0, inr rest.1, rest.2)

same_op : (here : Position) (op other : Op) → decoded (opcode_at here) ≡ Some op → decoded (opcode_at here) ≡ Some other → op ≡ other
same_op here op other p q = cc

-- ---- positions that the list allows

module _ (laws : EntryLaw) (m : MapView) (seats : List Seat) (entries : List EntryView) (list_safe : IsSafeList m seats entries) where
  -- an entry of the list allows the position, over a map of its chips; all is in its range, and the bytes that stay are there
  record IsMet (here : Position) : Type 0 where
    entry : EntryView
    among : Contains entries entry
    allows : Allows entry here
    view : IsViewOf m (seats_of here.copies)
    range : IsInRange here
    fixed : (at byte : ℕ) → at < 65536 → m.byte at ≡ Some byte → byte_at here.flat.memory at ≡ byte

  -- what is covered is met
  met_by : (lower : EntryView) (x : Invariant) (here : Position) → is_covered entries lower ≡ true → Allows lower here → IsBeside m x here →
      IsMet here
  met_by lower x here covered allows beside =
      let upper = found (λ e. is_covered_by lower e ≡ true) entries (some_of_any (is_covered_by lower) entries covered) in
      record {
        entry = upper.0;
        among = contains_of_in entries upper.0 upper.1;
        allows = laws.covered lower upper.0 here upper.2 allows;
        view = beside.view;
        range = beside.range;
        fixed = beside.fixed;
      }

  -- a case of the entry is beside the position, and it is safe
  record HasSafeCase (here : Position) (met : IsMet here) : Type 0 where
    state : AbstractState
    one : Contains (cases_in m met.entry) state
    safe : IsSafelyBeside m [] (at_entry met.entry state) here
    op : Op
    known : op_of m met.entry ≡ Some op
    is : decoded (opcode_at here) ≡ Some op

  safe_case : (here : Position) (met : IsMet here) → HasSafeCase here met
  safe_case here met =
      let e = met.entry in
      let case = laws.case (op_of m e) e here met.range met.allows in
      let x = at_entry e case.state in
      let none = list_safe.closed.safe e met.among case.state case.is in
      let beside : IsBeside m x here = record { view = met.view; tells = case.stands; range = met.range; fixed = met.fixed } in
      let state = safe_state m [] x none in
      record {
        state = case.state;
        one = case.is;
        safe = record { safe = none; beside = beside };
        op = state.0;
        known = state.1.is;
        is = opcode_told m x here state.0 beside state.1.is;
      }

  -- ---- a run

  at_start : (here : Position) → IsFreeStart m.byte seats here → IsMet here
  at_start here h =
      met_by start_entry start_invariant here list_safe.closed.closed.start (laws.start m.byte seats here h)
      (sound_steps.start m seats here list_safe.view h)

  -- what a case leads to is met behind the instruction and any events
  step_met : (here : Position) (met : IsMet here) (s : HasSafeCase here met) (events : List Event) → AllByRecursion HasByte events →
      IsMet (with_events events (position_after s.op here))
  step_met here met s events small =
      let e = met.entry in
      let x = at_entry e s.state in
      let led = sound_steps.next m [] x here s.op events s.safe.safe s.safe.beside s.is small in
      let range = decoded_in_range (opcode_at here) s.op (met.range.memory here.flat.state.flow.p) s.is in
      met_by (result s.op e s.state led.to) led.to (with_events events (position_after s.op here))
      (list_safe.closed.closed.next e met.among s.op s.known s.state s.one s.safe.safe led.to led.is)
      (laws.result s.op e s.state led.to here events range met.range met.allows s.safe.beside.tells led.beside.tells)
      led.beside

  reached_met : (n : ℕ) (here : Position) → IsReached m.byte seats n here → IsMet here
  reached_met zero here h = at_start here h
  reached_met (suc n) here h =
      let before = h.0 in
      let met = reached_met n before h.3 in
      let s = safe_case before met in
      let stands = step_met before met s h.2 h.6 in
      subst IsMet (sym h.7)
      (subst (λ (op : Op). IsMet (with_events h.2 (position_after op before))) (same_op before s.op h.1 s.is h.4) stands)

  -- ---- what is served

  reset_served : (here : Position) → IsFreeStart m.byte seats here → reset_fault here ≡ None
  reset_served here h =
      let met = at_start here h in
      let s = safe_case here met in
      served_steps.reset m seats [] (at_entry met.entry s.state) here s.safe h

  undriven_only : (n : ℕ) (here : Position) → IsReached m.byte seats n here → GoesOn (OnlyUndriven here.flat.state.flow.d0) here
  undriven_only n here h =
      let met = reached_met n here h in
      let s = safe_case here met in
      let there = step_met here met s [] tt in
      let t = safe_case (position_after s.op here) there in
      record {
        op = s.op;
        is = s.is;
        fault = served_steps.sound m [] (at_entry met.entry s.state) (at_entry there.entry t.state) here s.op s.safe s.is t.safe;
      }

  all_served : HasFaultFreeCases m entries → (n : ℕ) (here : Position) → IsReached m.byte seats n here → GoesOn (λ fault. fault ≡ None) here
  all_served free n here h =
      let met = reached_met n here h in
      let s = safe_case here met in
      let there = step_met here met s [] tt in
      let t = safe_case (position_after s.op here) there in
      record {
        op = s.op;
        is = s.is;
        fault = served_steps.fault_free m [] (at_entry met.entry s.state) (at_entry there.entry t.state) here s.op s.safe
            (free met.entry met.among s.state s.one) s.is t.safe;
      }

pub case_soundness : EntryLaw → CaseSoundnessLaw
case_soundness laws = record {
  reset = λ m seats entries safe. reset_served laws m seats entries safe;
  sound = λ m seats entries safe. undriven_only laws m seats entries safe;
  fault_free = λ m seats entries safe. all_served laws m seats entries safe;
  script = λ m entries vs chain powers traced script safe ready told.
      free_runs.sound m.byte vs chain powers traced script ready told (reset_served laws m (map seat_of vs) entries safe)
      (undriven_only laws m (map seat_of vs) entries safe);
  script_done = λ m entries vs chain powers traced script safe free ready told.
      free_runs.fault_free m.byte vs chain powers traced script ready told (reset_served laws m (map seat_of vs) entries safe)
      (all_served laws m (map seat_of vs) entries safe free);
}
