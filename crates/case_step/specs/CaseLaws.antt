-- The laws of entries and of their cases: what an entry stands for, some case does; what a case leads to, its result stands for; and what a
-- list that is closed and safe says of runs with free inputs.
use Rattle.std.specs.Prelude.{◌≡◌, ℕ, ◌↔◌, Bool, true, List, map, None, Option}
use Rattle.std.specs.List.{Contains}
use Rattle.f8_spec.specs.Instructions.{InRange}
use Rattle.f8_spec.specs.ChipState.{ChipView}
use Rattle.f8_spec.specs.Powers.{ArePowers}
use Rattle.f8_spec.specs.BusArbitration.{Seat, seat_of}
use Rattle.f8_spec.specs.declared.chips.PowerOn.{PowerOn}
use Rattle.f8_spec.specs.declared.instructions.Op.{Op}
use Rattle.console_spec.specs.FreeRuns.{IsFreeStart, IsInRange, IsReached}
use Rattle.console_spec.specs.Run.{Position, Done, position_after, reset_fault}
use Rattle.console_spec.specs.Scripts.{Script}
use Rattle.console_spec.specs.Telling.{played_by, with_events}
use Rattle.console_spec.specs.declared.Event.{Event}
use Rattle.abs_domain.specs.AbstractState.{AbstractState}
use Rattle.abs_step.specs.Concretization.{StandsFor}
use Rattle.abs_step.specs.MapView.{MapView, IsViewOf}
use Rattle.abs_step.specs.ScriptRuns.{IsScriptFor, EndsBy}
use Rattle.abs_step.specs.Soundness.{GoesOn, OnlyUndriven}
use Rattle.abs_step.specs.Successors.{Invariant}
use Rattle.case_step.specs.Entries.{EntryView, Allows, start_entry}
use Rattle.case_step.specs.Cases.{at_entry, cases_at}
use Rattle.case_step.specs.Results.{result, is_covered_by}
use Rattle.case_step.specs.CaseLists.{IsSafelyClosedList, HasFaultFreeCases, judged}
use Rattle.case_step.specs.declared.answer.CasesAnswer.TheVariants.{Whole, Agreed}

-- ---- one entry

-- a case of the entry stands for the position
pub record HasCase (op : Option Op) (e : EntryView) (here : Position) : Type 0 where
  pub state : AbstractState
  pub is : Contains (cases_at op e) state
  pub stands : StandsFor (at_entry e state) here

pub record EntryLaw : Type 0 where
  -- where a run begins, the start stands for the position
  pub start : (bytes : ℕ → Option ℕ) (seats : List Seat) (here : Position) → IsFreeStart bytes seats here → Allows start_entry here
  -- an entry that covers one which stands for a position stands for it too
  pub covered : (lower upper : EntryView) (here : Position) → is_covered_by lower upper ≡ true → Allows lower here → Allows upper here
  -- a case of an entry that stands for a position does, whatever its instruction
  pub case : (op : Option Op) (e : EntryView) (here : Position) → IsInRange here → Allows e here → HasCase op e here
  -- The result of a case stands for the position behind the instruction and any events, where the entry and the case do before it and what
  -- is said to hold next does behind it.
  pub result : (op : Op) (e : EntryView) (s : AbstractState) (to : Invariant) (here : Position) (events : List Event) → InRange op →
      IsInRange here → Allows e here → StandsFor (at_entry e s) here → StandsFor to (with_events events (position_after op here)) →
      Allows (result op e s to) (with_events events (position_after op here))

-- ---- lists of entries

-- over what is right of these chips the list is closed and safe
pub record IsSafeList (m : MapView) (seats : List Seat) (entries : List EntryView) : Type 0 where
  pub view : IsViewOf m seats
  pub closed : IsSafelyClosedList m entries

-- For any accumulator, scratchpad, ISAR, RAM and counters of chips at power-on, and any key bytes and pulses at the ends of instructions.
pub record CaseSoundnessLaw : Type 0 where
  -- reset is served, no opcode is reserved, and each bus access of each instruction is served but for reads that no chip answers at D0
  pub reset : (m : MapView) (seats : List Seat) (entries : List EntryView) → IsSafeList m seats entries → (here : Position) →
      IsFreeStart m.byte seats here → reset_fault here ≡ None
  pub sound : (m : MapView) (seats : List Seat) (entries : List EntryView) → IsSafeList m seats entries → (n : ℕ) (here : Position) →
      IsReached m.byte seats n here → GoesOn (OnlyUndriven here.flat.state.flow.d0) here
  -- and each is where the cases are free of faults too
  pub fault_free : (m : MapView) (seats : List Seat) (entries : List EntryView) → IsSafeList m seats entries → HasFaultFreeCases m entries →
      (n : ℕ) (here : Position) → IsReached m.byte seats n here → GoesOn (λ fault. fault ≡ None) here
  -- so a run by a script is done, or it stops at such a read; and it is done where the cases are free of faults
  pub script : (m : MapView) (entries : List EntryView) (vs : List ChipView) (chain : List ℕ) (powers : List PowerOn) (traced : Bool)
      (script : Script) → IsSafeList m (map seat_of vs) entries → ArePowers powers → IsScriptFor m.byte vs script →
      EndsBy (λ here fault. OnlyUndriven here.flat.state.flow.d0 fault) (played_by vs chain powers traced script).ending
  pub script_done : (m : MapView) (entries : List EntryView) (vs : List ChipView) (chain : List ℕ) (powers : List PowerOn) (traced : Bool)
      (script : Script) → IsSafeList m (map seat_of vs) entries → HasFaultFreeCases m entries → ArePowers powers →
      IsScriptFor m.byte vs script → (played_by vs chain powers traced script).ending.stop ≡ Done

-- what is found of a list is what the list is
pub record JudgedLaw : Type 0 where
  pub whole : (m : MapView) (entries : List EntryView) →
      (judged m entries ≡ Whole) ↔ (IsSafelyClosedList m entries × HasFaultFreeCases m entries)
  pub agreed : (m : MapView) (entries : List EntryView) →
      (judged m entries ≡ Agreed) ↔ (IsSafelyClosedList m entries × (HasFaultFreeCases m entries → ⊥))
