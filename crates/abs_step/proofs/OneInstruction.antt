-- One instruction with a safe invariant before it and one behind it: reset there, and all accesses of the instruction.
use Rattle.std.proofs.Common.{◌≡◌, ℕ, ◌<◌, true, List, refl, sym, subst}
use Rattle.std.specs.Prelude.{Option, Some, None}
use Rattle.f8_spec.specs.Instructions.{row_of}
use Rattle.f8_spec.specs.BusArbitration.{Seat}
use Rattle.f8_spec.specs.declared.instructions.Op.{Op}
use Rattle.console_spec.specs.Processor.{Flow, counters_after}
use Rattle.console_spec.specs.CounterCopies.{Copy}
use Rattle.console_spec.specs.FlatMemory.{sort_of}
use Rattle.console_spec.specs.BusAccesses.{at_data}
use Rattle.console_spec.specs.FreeRuns.{IsFreeStart}
use Rattle.console_spec.specs.Services.{Fault, access_fault, or_later}
use Rattle.console_spec.specs.Run.{Position, seats_of, gets_at, instruction_fault, position_after, reset_fault, reset_access}
use Rattle.memory_map.specs.MapKinds.{is_held_once}
use Rattle.abs_step.specs.MapView.{MapView, HoldsByCounters}
use Rattle.abs_step.specs.Safety.{is_fault_free, reads_at_data}
use Rattle.abs_step.specs.ServedSteps.{ServedStepLaw}
use Rattle.abs_step.specs.Soundness.{IsDataRead, OnlyUndriven}
use Rattle.abs_step.specs.Successors.{Invariant}
use Rattle.abs_step.proofs.Members.{all_map, all_unmapped}
use Rattle.abs_step.proofs.Services.{IsAt, all_at_served, DataOutcome, NoFault, NoAnswer}
use Rattle.abs_step.proofs.SafeRows.{Lasts, fine}
use Rattle.abs_step.proofs.Standing.{opcode_told}
use Rattle.abs_step.proofs.SafeSteps.{IsSafeHere, safe_row}
use Rattle.abs_step.proofs.RunRanges.{seats_after}
use Rattle.abs_step.proofs.Answered.{read_outcome_here, read_served_here}
use Rattle.abs_step.proofs.Runs.{safe_here, safe_there}

-- ---- claims on faults

undriven_lasts : (d0 : ℕ) → Lasts (OnlyUndriven d0)
undriven_lasts d0 = record { none = tt; later = both }
  where
    both : (f g : Option Fault) → OnlyUndriven d0 f → OnlyUndriven d0 g → OnlyUndriven d0 (or_later f g)
    both None g p q = q
    both (Some f) g p q = p

none_lasts : Lasts (λ fault. fault ≡ None)
none_lasts = record { none = refl; later = both }
  where
    both : (f g : Option Fault) → f ≡ None → g ≡ None → or_later f g ≡ None
    both None g p q = q
    both (Some f) g p q = absurd (cc)

-- the outcome of a read at D0 is no fault, or that no chip answers
undriven_of : (romc d0 : ℕ) (f : Option Fault) → IsDataRead romc → DataOutcome romc d0 f → OnlyUndriven d0 f
undriven_of romc d0 f is (NoFault none) = rw none tt
undriven_of romc d0 f is (NoAnswer undriven) = rw undriven (is, refl)

-- ---- where a safe invariant stands

module _ (m : MapView) (tracked : List ℕ) (x : Invariant) (op : Op) (here : Position) (safe : IsSafeHere m tracked x op here) where
  -- one chip holds its address
  held_there : is_held_once (sort_of (seats_of here.copies) here.flat.state.flow.p) ≡ true
  held_there =
      let beside = safe.beside in
      let small : x.point.at < 65536 = rw beside.tells.at at beside.range.counters.p in
      let sort : m.sort x.point.at ≡ sort_of (seats_of here.copies) x.point.at = beside.view.sort x.point.at small in
      let once : is_held_once (sort_of (seats_of here.copies) x.point.at) ≡ true = rw sort at safe.state.code.once in
      subst (λ (at : ℕ). is_held_once (sort_of (seats_of here.copies) at) ≡ true) (sym beside.tells.at) once

  -- where a run begins reset is served
  pub reset_served : (seats : List Seat) → IsFreeStart m.byte seats here → reset_fault here ≡ None
  reset_served seats h =
      let once = subst (λ (c : Flow). is_held_once (sort_of (seats_of here.copies) c.p) ≡ true) h.counters held_there in
      let served = all_at_served here.flat.state.flow here.copies reset_access refl
      (all_map (λ (c : Copy). HoldsByCounters c.seat) (IsAt reset_access here.flat.state.flow) here.copies
      (λ c counted. record { same = refl; counted = counted })
      (all_unmapped (λ (c : Copy). c.seat) HoldsByCounters here.copies safe.beside.view.counted)) once in
      rw served refl

-- ---- with one behind the instruction

module _ (m : MapView) (tracked : List ℕ) (x : Invariant) (op : Op) (here : Position) (safe : IsSafeHere m tracked x op here)
    (y : Invariant) (next : Op) (later : IsSafeHere m tracked y next (position_after op here)) where
  -- the address to which the instruction leads, or an interrupt at its end, is held by one chip alone
  next_held : is_held_once (sort_of (seats_of here.copies) (counters_after (row_of op) (gets_at op here) true here.flat.state.flow).p) ≡ true
  next_held =
      subst (λ (ss : List Seat). is_held_once (sort_of ss (counters_after (row_of op) (gets_at op here) true here.flat.state.flow).p) ≡ true)
      (seats_after (row_of op) (gets_at op here) here.copies)
      (held_there m tracked y next (position_after op here) later)

  -- what is claimed of reads at D0 holds of the fault
  claimed : (Q : Option Fault → Type 0) → Lasts Q →
      (reads_at_data (row_of op) ≡ true → (romc : ℕ) → IsDataRead romc →
      Q (access_fault here.flat.state.flow here.copies (at_data romc))) →
      Q (instruction_fault op here)
  claimed Q lasts reads =
      fine Q lasts m x.point.ret x.state.counters (gets_at op here) here.flat.state.flow here.copies (row_of op)
      (safe_row m tracked x op here safe Q reads next_held)

  pub only_undriven : OnlyUndriven here.flat.state.flow.d0 (instruction_fault op here)
  only_undriven =
      claimed (OnlyUndriven here.flat.state.flow.d0) (undriven_lasts here.flat.state.flow.d0)
      (λ reads romc is. undriven_of romc _ _ is (read_outcome_here m tracked x op here safe reads romc is))

  pub all_served : is_fault_free m x ≡ true → instruction_fault op here ≡ None
  all_served free = claimed (λ fault. fault ≡ None) none_lasts (read_served_here m tracked x op here safe free)

-- ---- the law

pub served_steps : ServedStepLaw
served_steps = record {
  reset = λ m seats tracked x here before h.
      let found = safe_here m tracked x here before.safe before.beside in
      reset_served m tracked x found.0 here found.1 seats h;
  opcode = λ m tracked x here before.
      let found = safe_here m tracked x here before.safe before.beside in
      (found.0, opcode_told m x here found.0 before.beside found.1.state.is);
  sound = λ m tracked x y here op before is behind.
      let later = safe_here m tracked y (position_after op here) behind.safe behind.beside in
      only_undriven m tracked x op here (safe_there m tracked x here op before.safe before.beside is) y later.0 later.1;
  fault_free = λ m tracked x y here op before free is behind.
      let later = safe_here m tracked y (position_after op here) behind.safe behind.beside in
      all_served m tracked x op here (safe_there m tracked x here op before.safe before.beside is) y later.0 later.1 free;
}
