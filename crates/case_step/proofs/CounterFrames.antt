-- The data counters and the copies of the chips behind an instruction have the values of its result.
use Rattle.std.proofs.Common.{◌≡◌, ℕ, true, false, ◌∙◌, refl}
use Rattle.std.specs.Prelude.{Option, Some, None}
use Rattle.f8_spec.specs.ChipState.{has_second_counter}
use Rattle.f8_spec.specs.Instructions.{row_of}
use Rattle.f8_spec.specs.declared.chips.ChipKind.{ChipKind}
use Rattle.f8_spec.specs.declared.chips.ChipKind.TheVariants.{Psu, Smi, Pio}
use Rattle.f8_spec.specs.declared.instructions.Op.{Op}
use Rattle.f8_spec.specs.declared.instructions.Row.{Row}
use Rattle.f8_spec.specs.declared.instructions.Row.TheVariants.{Exchange, DataFromQ, DataFromH, ReadData, StoreData, LoadData, AddData}
use Rattle.console_spec.specs.Processor.{Flow, Inputs, flow_after, interrupted_by, counters_after}
use Rattle.console_spec.specs.CounterCopies.{Copy, copy_after}
use Rattle.abs_domain.specs.Lattice.{Below}
use Rattle.abs_domain.specs.AbstractState.{AbstractState}
use Rattle.abs_step.specs.Concretization.{ChipTells, CopyTells, DataTells}
use Rattle.abs_step.specs.Successors.{Invariant}
use Rattle.value_sets.specs.ValueSets.{has}
use Rattle.case_step.specs.Entries.{EntryView, HasValue, CopyAllowed, facts_of}
use Rattle.case_step.specs.Effects.{writes_data}
use Rattle.case_step.specs.Results.{result, d0_after, d1_after}
use Rattle.case_step.proofs.KnownValues.{set_has, kept_has, values_have}

-- ---- an interrupt leaves the data counters

interrupted_d0 : (chosen : Option ℕ) (vector : ℕ) (c : Flow) → (interrupted_by chosen vector c).d0 ≡ c.d0
interrupted_d0 None vector c = refl
interrupted_d0 (Some socket) vector c = refl

interrupted_d1 : (chosen : Option ℕ) (vector : ℕ) (c : Flow) → (interrupted_by chosen vector c).d1 ≡ c.d1
interrupted_d1 None vector c = refl
interrupted_d1 (Some socket) vector c = refl

-- ---- the flat machine's data counters

module _ (i : Inputs) (e : EntryView) (before after : AbstractState) (c : Flow) (old : DataTells before.counters c)
    (first : has e.d0 c.d0 ≡ true) (second : has e.d1 c.d1 ≡ true) where
  d0_by : (row : Row) (x : ℕ) → x ≡ (flow_after row i true c).d0 → Below (Some x) after.counters.d0 →
      has (d0_after row e before after) x ≡ true
  d0_by Exchange x is new = rw is (kept_has before.counters.d1 e.d1 c.d1 old.d1 second)
  d0_by DataFromQ x is new = set_has after.counters.d0 x new
  d0_by DataFromH x is new = set_has after.counters.d0 x new
  d0_by ReadData x is new = set_has after.counters.d0 x new
  d0_by StoreData x is new = set_has after.counters.d0 x new
  d0_by LoadData x is new = set_has after.counters.d0 x new
  d0_by AddData x is new = set_has after.counters.d0 x new
  d0_by row x is new = rw is (kept_has before.counters.d0 e.d0 c.d0 old.d0 first)

  d1_by : (row : Row) (x : ℕ) → x ≡ (flow_after row i true c).d1 → has (d1_after row e before) x ≡ true
  d1_by Exchange x is = rw is (kept_has before.counters.d0 e.d0 c.d0 old.d0 first)
  d1_by row x is = rw is (kept_has before.counters.d1 e.d1 c.d1 old.d1 second)

  pub d0_has : (row : Row) → Below (Some (counters_after row i true c).d0) after.counters.d0 →
      has (d0_after row e before after) (counters_after row i true c).d0 ≡ true
  d0_has row new = d0_by row (counters_after row i true c).d0 (interrupted_d0 i.chosen _ (flow_after row i true c)) new

  pub d1_has : (row : Row) → has (d1_after row e before) (counters_after row i true c).d1 ≡ true
  d1_has row = d1_by row (counters_after row i true c).d1 (interrupted_d1 i.chosen _ (flow_after row i true c))

-- ---- a copy

-- one without a second data counter
alone_stays : (row : Row) (i : Inputs) (c : Flow) → writes_data row ≡ false → (flow_after row i false c).d0 ≡ c.d0
alone_stays DataFromQ i c kept = absurd (cc)
alone_stays row i c kept = cc

-- what is told of a chip beside its value
facts_tell : (kind : ChipKind) (op : Op) (e : EntryView) (s : AbstractState) (to : Invariant) (r c : Flow) →
    ChipTells kind to.state.counters r c → ChipTells kind (facts_of (result op e s to)) r c
unfolding result
facts_tell Psu op e s to r c told = record { value = tt; first = told.first; second = told.second }
facts_tell Smi op e s to r c told = record { first = told.first; second = told.second }
facts_tell Pio op e s to r c told = tt

value_stays : (kind : ChipKind) (op : Op) (i : Inputs) (e : EntryView) (s : AbstractState) (to : Invariant) (r after c : Flow) →
    HasValue kind e c → ChipTells kind s.counters r c →
    ChipTells kind to.state.counters after (counters_after (row_of op) i (has_second_counter kind) c) →
    HasValue kind (result op e s to) (counters_after (row_of op) i (has_second_counter kind) c)
unfolding result
value_stays Psu op i e s to r after c given old new =
    values_have (writes_data (row_of op)) to.state.counters.c s.counters.c e.c c.d0 _
    (λ kept. interrupted_d0 i.chosen _ (flow_after (row_of op) i false c) ∙ alone_stays (row_of op) i c kept) old.value given new.value
value_stays Smi op i e s to r after c given old new = tt
value_stays Pio op i e s to r after c given old new = tt

pub copy_stands : (op : Op) (i : Inputs) (e : EntryView) (s : AbstractState) (to : Invariant) (r after : Flow) (c : Copy) →
    CopyAllowed e r c → CopyTells e.ret s.counters r c → CopyTells to.point.ret to.state.counters after (copy_after (row_of op) i c) →
    CopyAllowed (result op e s to) after (copy_after (row_of op) i c)
unfolding result
copy_stands op i e s to r after c given old new = record {
  tells = record { at = new.at; back = new.back; chip = facts_tell c.seat.kind op e s to after _ new.chip };
  value = value_stays c.seat.kind op i e s to r after c.flow given.value old.chip new.chip;
}
