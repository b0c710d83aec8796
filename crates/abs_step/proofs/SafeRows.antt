-- The accesses of an instruction at a safe point, row by row: all are served but reads at D0, of which any claim is carried over.
use Rattle.std.proofs.Common.{◌≡◌, ℕ, ◌<◌, Bool, true, false, List, [], ◌∷◌, ◌++◌, refl, ap, inl, inr, arith}
use Rattle.std.specs.Prelude.{Option, Some, None, is_some, is_none, not, ◌==◌, nat_le, if◌then◌else◌}
use Rattle.std.specs.List.{AllByRecursion}
use Rattle.f8_spec.specs.Words.{places_on}
use Rattle.f8_spec.specs.ChipState.{has_second_counter}
use Rattle.f8_spec.specs.Instructions.{row_length}
use Rattle.f8_spec.specs.BusArbitration.{rule_of}
use Rattle.f8_spec.specs.declared.bus.BusRule.TheVariants.{Read}
use Rattle.f8_spec.specs.declared.instructions.Row.{Row}
use Rattle.f8_spec.specs.declared.instructions.Row.TheVariants.{StackToK, DataToPair, ReadData, StoreData, Return, Immediate}
use Rattle.f8_spec.specs.declared.instructions.Row.TheVariants.{PortIn, PortOut, Call, Jump, LoadData}
use Rattle.f8_spec.specs.declared.instructions.Row.TheVariants.{Branch, BranchIsar, ShortIn, ShortOut}
use Rattle.console_spec.specs.Processor.{Flow, Inputs, interrupted_by, flow_after, counters_after}
use Rattle.console_spec.specs.CounterCopies.{Copy}
use Rattle.console_spec.specs.FlatMemory.{sort_of}
use Rattle.console_spec.specs.BusAccesses.{ahead, at_data, at_stack, at_port, accesses_before_fetch, last_access}
use Rattle.console_spec.specs.Services.{Fault, access_fault, first_fault, or_later}
use Rattle.console_spec.specs.Run.{seats_of}
use Rattle.console_spec.specs.declared.Sort.TheVariants.{Shared}
use Rattle.memory_map.specs.MapKinds.{is_held_once}
use Rattle.abs_domain.specs.Lattice.{Below}
use Rattle.abs_domain.specs.AbstractState.{KnownCounters}
use Rattle.abs_domain.specs.declared.reason.Reason.{Reason}
use Rattle.abs_step.specs.MapView.{MapView, IsViewOf}
use Rattle.abs_step.specs.Safety.{operand_reasons, return_is_unset, return_is_unheld, port_is_bad, reads_at_data, goes_by_data}
use Rattle.abs_step.specs.Concretization.{Holds}
use Rattle.abs_step.specs.Soundness.{IsDataRead}
use Rattle.abs_step.proofs.Knowing.{is_not}
use Rattle.abs_step.proofs.Members.{all_map}
use Rattle.abs_step.proofs.ExitLaws.{same_next}
use Rattle.abs_step.proofs.MapLaws.{port_read_served, port_write_served}
use Rattle.abs_step.proofs.Services.{IsTold, StoresAlike, all_at_served, data_store_served}

-- ---- no reason holds

abbrev pub NoneHold : List (Bool × Reason) → Type 0
NoneHold [] = Unit {0}
NoneHold (r ∷ rs) = (r.0 ≡ false) × NoneHold rs

-- a claim that is true of no fault, and of the first fault of two accesses where it is of both
pub record Lasts (Q : Option Fault → Type 0) : Type 0 where
  pub none : Q None
  pub later : (f g : Option Fault) → Q f → Q g → Q (or_later f g)

-- what holds where an instruction of a row is safe, with a claim on reads at D0
pub record IsSafeRow (Q : Option Fault → Type 0) (row : Row) (m : MapView) (ret : Option ℕ) (k : KnownCounters) (i : Inputs) (r : Flow)
    (cs : List Copy) : Type 0 where
  pub view : IsViewOf m (seats_of cs)
  pub told : AllByRecursion (IsTold m ret k r) cs
  pub back : Below (Some r.p1) ret
  pub stack_small : r.p1 < 65536
  pub operand_small : i.operand < 256
  pub port_small : i.port < 256
  pub operands : NoneHold (operand_reasons (row_length row) m r.p)
  pub set : return_is_unset row ret ≡ false
  pub held : return_is_unheld row m ret ≡ false
  pub port : port_is_bad row m (Some i.operand) i.port ≡ false
  pub stores : goes_by_data row ≡ true → StoresAlike m k
  pub unshared : goes_by_data row ≡ true → sort_of (seats_of cs) r.d0 ≡ Shared → ⊥
  pub reads : reads_at_data row ≡ true → (romc : ℕ) → IsDataRead romc → Q (access_fault r cs (at_data romc))
  pub next : is_held_once (sort_of (seats_of cs) (counters_after row i true r).p) ≡ true

-- ---- booleans

pub holds_if_known : {P : Type 0} (o : Option ℕ) → is_none o ≡ false → Holds (is_some o) P → P
holds_if_known None e h = absurd (cc)
holds_if_known (Some v) e h = h

-- ---- the last fetch

-- where two sets of counters lead to one address, an interrupt leads both to one
same_fetch : (chosen : Option ℕ) (vector : ℕ) (c r : Flow) → c.p ≡ r.p → (interrupted_by chosen vector c).p ≡ (interrupted_by chosen vector r).p
same_fetch None vector c r same = same
same_fetch (Some socket) vector c r same = refl

module _ (Q : Option Fault → Type 0) (q : Lasts Q) (m : MapView) (ret : Option ℕ) (k : KnownCounters) (i : Inputs) (r : Flow)
    (cs : List Copy) where
  back_at_return : (row : Row) → return_is_unset row ret ≡ false → (c : Copy) → IsTold m ret k r c → row ≡ Return → c.flow.p1 ≡ r.p1
  back_at_return row set c h is =
      let here : return_is_unset Return ret ≡ false = rw is at set in
      holds_if_known ret here h.tells.back

  last_served : (row : Row) → IsSafeRow Q row m ret k i r cs → access_fault r cs (last_access row i) ≡ None
  last_served row h = all_at_served r cs (last_access row i) refl
      (all_map (IsTold m ret k r) _ cs (λ c t. record {
        same = same_fetch i.chosen _ (flow_after row i (has_second_counter c.seat.kind) c.flow) (flow_after row i true r)
            (same_next row i true (has_second_counter c.seat.kind) r c.flow t.tells.at (back_at_return row h.set c t));
        counted = t.mapped.counted;
      }) h.told)
      h.next

  -- ---- one after another

  last : (row : Row) → IsSafeRow Q row m ret k i r cs → Q (first_fault r cs (last_access row i ∷ []))
  last row h = rw (last_served row h) q.none

  then_served : {f g : Option Fault} → f ≡ None → Q g → Q (or_later f g)
  then_served none rest = rw none rest

  then_read : {f g : Option Fault} → Q f → Q g → Q (or_later f g)
  then_read here rest = q.later _ _ here rest

  -- ---- single accesses

  held_once : (at : ℕ) → at < 65536 → IsViewOf m (seats_of cs) → not (is_held_once (m.sort at)) ≡ false →
      is_held_once (sort_of (seats_of cs) at) ≡ true
  held_once at small view once = let sort = view.sort at small in rw (sort) at (is_not _ once)

  ahead_served : (row : Row) (romc n : ℕ) → rule_of romc ≡ Read → IsSafeRow Q row m ret k i r cs →
      not (is_held_once (m.sort (places_on r.p n))) ≡ false → access_fault r cs (ahead romc n) ≡ None
  ahead_served row romc n rule h once = all_at_served r cs (ahead romc n) rule
      (all_map (IsTold m ret k r) _ cs (λ c t. record { same = ap (λ at. places_on at n) t.tells.at; counted = t.mapped.counted }) h.told)
      (held_once (places_on r.p n) (omega arith) h.view once)

  stack_served : (romc : ℕ) → rule_of romc ≡ Read → IsSafeRow Q StackToK m ret k i r cs → access_fault r cs (at_stack romc) ≡ None
  stack_served romc rule h = all_at_served r cs (at_stack romc) rule
      (all_map (IsTold m ret k r) _ cs (λ c t. record { same = holds_if_known ret h.set t.tells.back; counted = t.mapped.counted }) h.told)
      (by ret h.back h.held)
    where
      by : (o : Option ℕ) → Below (Some r.p1) o → return_is_unheld StackToK m o ≡ false → is_held_once (sort_of (seats_of cs) r.p1) ≡ true
      by None p held = absurd (cc)
      by (Some v) p held =
          let same : v ≡ r.p1 = cc in
          held_once r.p1 h.stack_small h.view (rw same at held)

  port_read : (port : ℕ) → port < 256 → IsViewOf m (seats_of cs) → not (m.readers port == 1) ≡ false →
      access_fault r cs (at_port 0x1B port) ≡ None
  port_read port small view good =
      let one = is_not _ good in
      let v = port_read_served 0x1B port 0 cs refl (rw (view.readers port small) at one) in
      rw v.1 refl

  port_write : (port : ℕ) → port < 256 → IsViewOf m (seats_of cs) → nat_le 2 (m.takers port) ≡ false →
      access_fault r cs (at_port 0x1A port) ≡ None
  port_write port small view good =
      let v = port_write_served 0x1A port 0 cs refl (rw (view.takers port small) at good) in
      rw v.1 refl

  branch_rule : (taken : Bool) → rule_of (if taken then 0x01 else 0x03) ≡ Read
  branch_rule true = refl
  branch_rule false = refl

  -- ---- rows

  pub fine : (row : Row) → IsSafeRow Q row m ret k i r cs → Q (first_fault r cs (accesses_before_fetch row i ++ last_access row i ∷ []))
  fine StackToK h =
      then_served (stack_served 0x07 refl h)
      (then_served (stack_served 0x0B refl h) (last StackToK h))
  fine DataToPair h =
      then_read (h.reads refl 0x06 (inr (inl refl)))
      (then_read (h.reads refl 0x09 (inr (inr refl))) (last DataToPair h))
  fine ReadData h = then_read (h.reads refl 0x02 (inl refl)) (last ReadData h)
  fine StoreData h =
      then_served (data_store_served m ret k r cs (h.stores refl) h.told (h.unshared refl)) (last StoreData h)
  fine Immediate h = then_served (ahead_served Immediate 0x03 1 refl h h.operands.0) (last Immediate h)
  fine PortIn h =
      then_served (ahead_served PortIn 0x03 1 refl h h.operands.0)
      (then_served (port_read i.operand h.operand_small h.view h.port) (last PortIn h))
  fine PortOut h =
      then_served (ahead_served PortOut 0x03 1 refl h h.operands.0)
      (then_served (port_write i.operand h.operand_small h.view h.port) (last PortOut h))
  fine Call h =
      then_served (ahead_served Call 0x03 1 refl h h.operands.0)
      (then_served (ahead_served Call 0x0C 2 refl h h.operands.1.1.0) (last Call h))
  fine Jump h =
      then_served (ahead_served Jump 0x03 1 refl h h.operands.0)
      (then_served (ahead_served Jump 0x0C 2 refl h h.operands.1.1.0) (last Jump h))
  fine LoadData h =
      then_served (ahead_served LoadData 0x11 1 refl h h.operands.0)
      (then_served (ahead_served LoadData 0x03 1 refl h h.operands.0)
      (then_served (ahead_served LoadData 0x0E 2 refl h h.operands.1.1.0)
      (then_served (ahead_served LoadData 0x03 2 refl h h.operands.1.1.0) (last LoadData h))))
  fine Branch h = then_served
      (ahead_served Branch (if i.taken then 0x01 else 0x03) 1 (branch_rule i.taken) h h.operands.0) (last Branch h)
  fine BranchIsar h = then_served
      (ahead_served BranchIsar (if i.taken then 0x01 else 0x03) 1 (branch_rule i.taken) h h.operands.0) (last BranchIsar h)
  fine ShortIn h = then_served (port_read i.port h.port_small h.view h.port) (last ShortIn h)
  fine ShortOut h = then_served (port_write i.port h.port_small h.view h.port) (last ShortOut h)
  fine row h = last row h
