-- Entries: an address and a return with the values that each part may have there.
use Rattle.std.specs.Prelude.{◌≡◌, ℕ, Bool, false, true, List, [], ◌∷◌, replicate, slice_index, slice_index_or, Option, Some, None}
use Rattle.std.specs.List.{AllByRecursion, AllZip, range_with_len}
use Rattle.std.specs.Option.{ForSome}
use Rattle.f8_spec.specs.declared.chips.ChipKind.{ChipKind}
use Rattle.f8_spec.specs.declared.chips.ChipKind.TheVariants.{Psu, Smi, Pio}
use Rattle.console_spec.specs.Processor.{Flow}
use Rattle.console_spec.specs.CounterCopies.{Copy}
use Rattle.console_spec.specs.Run.{Position}
use Rattle.abs_domain.specs.Lattice.{Below}
use Rattle.abs_domain.specs.AbstractState.{KnownStatus, KnownCounters, StatusBelow}
use Rattle.abs_step.specs.Concretization.{CopyTells, whole_status}
use Rattle.value_sets.specs.ValueSets.{has, is_among}

-- An address, the return there, where it is set, and of each part the values that it may have: lists of bytes, of numbers of registers for
-- ISAR, and of words, or any; of a flag one value or both. The facts are those of abstract states. `same` names a register that holds the
-- accumulator's byte.
pub record EntryView : Type 0 where
  pub at : ℕ
  pub ret : Option ℕ
  pub accumulator : Option (List ℕ)
  pub isar : List ℕ
  pub status : KnownStatus
  pub d0 : Option (List ℕ)
  pub d1 : Option (List ℕ)
  pub c : Option (List ℕ)
  pub s0 : Bool
  pub s1 : Bool
  pub p0 : Bool
  pub p1 : Bool
  pub same : Option ℕ
  pub scratchpad : List (Option (List ℕ))

-- the values of a register
abbrev pub register_values : ℕ → EntryView → Option (List ℕ)
register_values number e = slice_index_or e.scratchpad number None

-- as reset leaves the F8: at 0, with a clear status word and data counters of 0, and all else free
abbrev pub start_entry : EntryView
start_entry = record {
  at = 0;
  ret = None;
  accumulator = None;
  isar = range_with_len 0 64;
  status = record { sign = Some false; carry = Some false; zero = Some false; overflow = Some false; icb = Some false };
  d0 = Some (0 ∷ []);
  d1 = Some (0 ∷ []);
  c = None;
  s0 = false;
  s1 = false;
  p0 = false;
  p1 = false;
  same = None;
  scratchpad = replicate 64 None;
}

-- ---- what an entry stands for

-- its facts alone
abbrev pub facts_of : EntryView → KnownCounters
facts_of e = record { d0 = None; d1 = None; c = None; s0 = e.s0; s1 = e.s1; p0 = e.p0; p1 = e.p1 }

-- the DC0 of a 3851 is one of the values of c
abbrev pub HasValue : ChipKind → EntryView → Flow → Type 0
HasValue Psu e flow = has e.c flow.d0 ≡ true
HasValue Smi e flow = Unit {0}
HasValue Pio e flow = Unit {0}

pub record CopyAllowed (e : EntryView) (r : Flow) (copy : Copy) : Type 0 where
  pub tells : CopyTells e.ret (facts_of e) r copy
  pub value : HasValue copy.seat.kind e copy.flow

-- A position of the flat machine with the copies of the chips: each part has a value that the entry gives it, the copies are where the facts
-- say, and the register that is named holds the accumulator's byte.
pub record Allows (e : EntryView) (here : Position) : Type 0 where
  pub at : here.flat.state.flow.p ≡ e.at
  pub ret : Below (Some here.flat.state.flow.p1) e.ret
  pub accumulator : has e.accumulator here.flat.state.registers.accumulator ≡ true
  pub isar : is_among e.isar here.flat.state.registers.isar ≡ true
  pub status : StatusBelow (whole_status here.flat.state.registers.status) e.status
  pub d0 : has e.d0 here.flat.state.flow.d0 ≡ true
  pub d1 : has e.d1 here.flat.state.flow.d1 ≡ true
  pub copies : AllByRecursion (CopyAllowed e here.flat.state.flow) here.copies
  pub same : ForSome e.same (λ number. slice_index here.flat.state.registers.scratchpad number ≡ here.flat.state.registers.accumulator)
  pub scratchpad : AllZip (λ values byte. has values byte ≡ true) e.scratchpad here.flat.state.registers.scratchpad
