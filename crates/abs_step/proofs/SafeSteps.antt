-- What a safe state says of the instruction at a position that it stands for: its accesses.
use Rattle.std.proofs.Common.{◌≡◌, ℕ, ◌<◌, Bool, true, false, ◌&&◌, ◌||◌, List, refl, sym, ◌∙◌, inl, inr, arith}
use Rattle.std.specs.Prelude.{Option, Some, None, not, is_some}
use Rattle.std.specs.List.{AllByRecursion}
use Rattle.f8_spec.specs.Words.{places_on}
use Rattle.f8_spec.specs.Instructions.{InRange, row_of, row_length}
use Rattle.f8_spec.specs.declared.chips.ChipKind.TheVariants.{Psu, Smi}
use Rattle.f8_spec.specs.declared.instructions.Op.{Op}
use Rattle.f8_spec.specs.declared.instructions.Op.TheVariants.{Ins, Outs}
use Rattle.f8_spec.specs.declared.instructions.Row.{Row}
use Rattle.f8_spec.specs.declared.instructions.Row.TheVariants.{StoreData, PortIn, PortOut}
use Rattle.console_spec.specs.Processor.{Inputs, own_inputs, port_field, counters_after}
use Rattle.console_spec.specs.CounterCopies.{Copy}
use Rattle.console_spec.specs.FlatMemory.{sort_of}
use Rattle.console_spec.specs.Services.{Fault, access_fault}
use Rattle.console_spec.specs.BusAccesses.{at_data}
use Rattle.console_spec.specs.Run.{Position, seats_of, gets_at}
use Rattle.console_spec.specs.declared.Sort.TheVariants.{Shared}
use Rattle.memory_map.specs.MapKinds.{is_held_once}
use Rattle.abs_domain.specs.Lattice.{Below}
use Rattle.abs_domain.specs.AbstractState.{KnownCounters}
use Rattle.abs_step.specs.MapView.{MapView, IsViewOf}
use Rattle.abs_step.specs.SoundSteps.{IsBeside}
use Rattle.abs_step.specs.Successors.{Invariant, inputs_at, state_after}
use Rattle.abs_step.specs.Vectors.{vectors_let_in}
use Rattle.abs_step.specs.Safety.{code_reasons, operand_reasons, may_part}
use Rattle.abs_step.specs.Safety.{port_is_bad, goes_by_data, reads_at_data, may_be_shared, may_be_held_by_psu}
use Rattle.abs_step.specs.Concretization.{CopyTells}
use Rattle.console_spec.specs.FreeRuns.{AreAddresses}
use Rattle.abs_step.specs.Soundness.{IsDataRead}
use Rattle.abs_step.proofs.Members.{all_map, all_both, all_unmapped}
use Rattle.abs_step.proofs.Exact.{results_tell}
use Rattle.abs_step.proofs.InputLaws.{whole_inputs, InputsBelow, used_tells}
use Rattle.abs_step.proofs.MapLaws.{IsMapped, all_mapped_seats}
use Rattle.abs_step.proofs.Services.{IsTold, StoresAlike, ReadsAlike}
use Rattle.abs_step.proofs.SafeRows.{NoneHold, IsSafeRow}
use Rattle.abs_step.proofs.Reasons.{IsCode, IsSafeState, code_of}
use Rattle.abs_step.proofs.Standing.{inputs_tell}
use Rattle.abs_step.proofs.Vectoring.{IsFollowed, chosen_followed}

-- ---- the data counters

smi_fact : (goes any s0 rest : Bool) → ((goes && any && not s0) || rest) ≡ false → goes ≡ true → any ≡ true → s0 ≡ true
smi_fact goes any true rest e g a = refl
smi_fact true true false rest e g a = absurd (cc)
smi_fact false any false rest e g a = absurd (cc)
smi_fact true false false rest e g a = absurd (cc)

psu_fact : (first reads any p0 may : Bool) → (first || (reads && any && not p0 && may)) ≡ false → reads ≡ true → any ≡ true → may ≡ true →
    p0 ≡ true
psu_fact first reads any true may e r a m = refl
psu_fact true reads any false may e r a m = absurd (cc)
psu_fact false true true false true e r a m = absurd (cc)
psu_fact false false any false may e r a m = absurd (cc)
psu_fact false true false false may e r a m = absurd (cc)
psu_fact false true true false false e r a m = absurd (cc)

pub stores_alike : (row : Row) (m : MapView) (k : KnownCounters) → may_part row m k ≡ false → goes_by_data row ≡ true → StoresAlike m k
stores_alike row m k safe goes = record { smi = λ any. smi_fact (goes_by_data row) (m.any Smi) k.s0 _ safe goes any }

pub reads_go : (row : Row) → reads_at_data row ≡ true → goes_by_data row ≡ true
reads_go StoreData reads = refl
reads_go row reads = reads

pub reads_alike : (row : Row) (m : MapView) (k : KnownCounters) → may_part row m k ≡ false → reads_at_data row ≡ true → ReadsAlike m k
reads_alike row m k safe reads = record {
  smi = λ any. smi_fact (goes_by_data row) (m.any Smi) k.s0 _ safe (reads_go row reads) any;
  psu = λ any may. psu_fact (goes_by_data row && m.any Smi && not k.s0) (reads_at_data row) (m.any Psu) k.p0 (may_be_held_by_psu m k.c)
      safe reads any may;
}

pub unshared_by : (m : MapView) (cs : List Copy) (at : ℕ) (o : Option ℕ) → IsViewOf m (seats_of cs) → at < 65536 → Below (Some at) o →
    may_be_shared m o ≡ false → sort_of (seats_of cs) at ≡ Shared → ⊥
unshared_by m cs at None view small p safe shared = let overlap = view.overlaps at small shared in absurd (cc)
unshared_by m cs at (Some v) view small p safe shared =
    let same : v ≡ at = cc in
    let sort : m.sort at ≡ Shared = view.sort at small ∙ shared in
    absurd (cc (rw (same, sort) at safe))

pub second : (a b : Bool) → (a && b) ≡ false → a ≡ true → b ≡ false
second true b e a = e
second false b e a = absurd (cc)

-- ---- ports

small_port : (op : Op) → InRange op → port_field op < 256
small_port (Ins n) (inl low) = omega arith
small_port (Ins n) (inr (from, to)) = omega arith
small_port (Outs n) (inl low) = omega arith
small_port (Outs n) (inr (from, to)) = omega arith
small_port op range = omega arith

-- the byte of an operand in code is told, and is the one that the instruction gets
told_is : (o : Option ℕ) (byte : ℕ) → is_some o ≡ true → Below (Some byte) o → o ≡ Some byte
told_is None byte known p = absurd (cc)
told_is (Some b) byte known p = sym p

operand_told : (m : MapView) (cs : List Copy) (at byte : ℕ) → IsViewOf m (seats_of cs) → at < 65536 → NoneHold (code_reasons m at) →
    Below (Some byte) (m.byte at) → m.byte at ≡ Some byte
operand_told m cs at byte view small none p =
    let code : IsCode m at = code_of m at none in
    told_is (m.byte at) byte (view.told at small code.once code.stays) p

port_by : (row : Row) (m : MapView) (cs : List Copy) (at byte field : ℕ) → IsViewOf m (seats_of cs) →
    NoneHold (operand_reasons (row_length row) m at) → Below (Some byte) (m.byte (places_on at 1)) →
    port_is_bad row m (m.byte (places_on at 1)) field ≡ false → port_is_bad row m (Some byte) field ≡ false
port_by PortIn m cs at byte field view none p safe =
    rw (operand_told m cs (places_on at 1) byte view (omega arith) none p) at safe
port_by PortOut m cs at byte field view none p safe =
    rw (operand_told m cs (places_on at 1) byte view (omega arith) none p) at safe
port_by row m cs at byte field view none p safe = safe

-- ---- an instruction at a safe point

-- the instruction of a safe state at a position beside it
pub record IsSafeHere (m : MapView) (tracked : List ℕ) (x : Invariant) (op : Op) (here : Position) : Type 0 where
  pub beside : IsBeside m x here
  pub state : IsSafeState m tracked x op
  pub range : InRange op

-- what it gets, but for the interrupt
abbrev pub own_at : Op → Position → Inputs
own_at op here = own_inputs op here.flat.memory (seats_of here.copies) here.flat.state

module _ (m : MapView) (tracked : List ℕ) (x : Invariant) (op : Op) (here : Position) (safe : IsSafeHere m tracked x op here) where
  pub gets_tell : InputsBelow (whole_inputs (gets_at op here)) (inputs_at op m x)
  gets_tell = inputs_tell op m x here safe.beside

  pub told_copies : AllByRecursion (IsTold m x.point.ret x.state.counters here.flat.state.flow) here.copies
  told_copies =
      let beside = safe.beside in
      let mapped = all_unmapped (λ (c : Copy). c.seat) (IsMapped m) here.copies (all_mapped_seats m (seats_of here.copies) beside.view) in
      let both = all_both (λ (c : Copy). IsMapped m c.seat) (λ (c : Copy). AreAddresses c.flow) here.copies mapped beside.range.copies in
      let all = all_both _ (CopyTells x.point.ret x.state.counters here.flat.state.flow) here.copies both beside.tells.copies in
      all_map _ (IsTold m x.point.ret x.state.counters here.flat.state.flow) here.copies
      (λ c h. record { mapped = h.0.0; addresses = h.0.1; tells = h.1 }) all

  -- the chip whose interrupt is taken at the end is one whose vector is followed
  pub chosen_is_followed : (socket : ℕ) → (gets_at op here).chosen ≡ Some socket →
      IsFollowed (vectors_let_in op m (state_after op m x).registers.status.icb) (seats_of here.copies) socket
  chosen_is_followed socket is =
      let own = inputs_tell op m x here safe.beside in
      let registers = results_tell op (own_at op here) here.flat.state.registers _ _ _ x.state.registers safe.range
      (used_tells (row_of op) (own_at op here) (inputs_at op m x) own) own.stack_bytes own.counter_bytes safe.beside.tells.registers in
      chosen_followed op m (state_after op m x).registers.status.icb _ (seats_of here.copies) here.chain _ _ socket
      safe.state.later.1.1.1.1.1.1.0 registers.status.icb safe.beside.view is

  port_told : (gets_at op here).port ≡ port_field op
  unfolding own_inputs
  port_told = refl

  pub safe_row : (Q : Option Fault → Type 0) →
      (reads_at_data (row_of op) ≡ true → (romc : ℕ) → IsDataRead romc → Q (access_fault here.flat.state.flow here.copies (at_data romc))) →
      is_held_once (sort_of (seats_of here.copies) (counters_after (row_of op) (gets_at op here) true here.flat.state.flow).p) ≡ true →
      IsSafeRow Q (row_of op) m x.point.ret x.state.counters (gets_at op here) here.flat.state.flow here.copies
  unfolding own_inputs
  safe_row Q reads next = record {
    view = safe.beside.view;
    told = told_copies;
    back = safe.beside.tells.ret;
    stack_small = safe.beside.range.counters.p1;
    operand_small = safe.beside.range.memory (places_on here.flat.state.flow.p 1);
    port_small = small_port op safe.range;
    operands = rw safe.beside.tells.at safe.state.operands;
    set = safe.state.later.1.1.0;
    held = safe.state.later.1.1.1.1.0;
    port = port_by (row_of op) m here.copies x.point.at _ (port_field op) safe.beside.view safe.state.operands gets_tell.operand
        safe.state.later.1.1.1.1.1.0;
    stores = λ goes. stores_alike (row_of op) m x.state.counters safe.state.later.1.1.1.0 goes;
    unshared = λ goes. unshared_by m here.copies here.flat.state.flow.d0 x.state.counters.d0 safe.beside.view safe.beside.range.counters.d0
        safe.beside.tells.counters.d0 (second _ _ safe.state.later.1.1.1.1.1.1.1.0 goes);
    reads = reads;
    next = next;
  }
