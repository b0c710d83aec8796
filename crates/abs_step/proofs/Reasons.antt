-- What holds where no reason does.
use Rattle.std.proofs.Common.{◌≡◌, ℕ, Bool, true, false, List, [], ◌∷◌, ◌++◌, refl}
use Rattle.std.specs.Prelude.{Option, Some, None}
use Rattle.f8_spec.specs.Instructions.{row_of, row_length}
use Rattle.f8_spec.specs.declared.instructions.Op.{Op}
use Rattle.console_spec.specs.FlatMemory.{is_ram_sort}
use Rattle.memory_map.specs.MapKinds.{is_held_once}
use Rattle.abs_domain.specs.declared.reason.Reason.{Reason}
use Rattle.abs_step.specs.MapView.{MapView}
use Rattle.abs_step.specs.Successors.{Invariant}
use Rattle.abs_step.specs.Safety.{first_reason, code_reasons, operand_reasons, later_reasons, op_at}
use Rattle.abs_step.specs.Safety.{reasons, instruction_reason, reason_behind, unsafe_reason}
use Rattle.abs_step.proofs.Knowing.{is_not}
use Rattle.abs_step.proofs.SafeRows.{NoneHold}

none_of : (rs : List (Bool × Reason)) → first_reason rs ≡ None → NoneHold rs
none_of [] none = tt
none_of (r ∷ rs) none = by r.0 refl (none_of rs)
  where
    by : (b : Bool) → r.0 ≡ b → (first_reason rs ≡ None → NoneHold rs) → (r.0 ≡ false) × NoneHold rs
    by true e later = absurd (cc (rw e at none))
    by false e later = (e, later (rw e at none))

none_of_both : (rs ss : List (Bool × Reason)) → NoneHold (rs ++ ss) → NoneHold rs × NoneHold ss
none_of_both [] ss h = (tt, h)
none_of_both (r ∷ rs) ss h = let rest = none_of_both rs ss h.1 in ((h.0, rest.0), rest.1)

-- one chip holds an address, and no store changes what is there
pub record IsCode (m : MapView) (at : ℕ) : Type 0 where
  pub once : is_held_once (m.sort at) ≡ true
  pub stays : is_ram_sort (m.sort at) ≡ false

pub code_of : (m : MapView) (at : ℕ) → NoneHold (code_reasons m at) → IsCode m at
code_of m at h = record { once = is_not _ h.0; stays = h.1.0 }

-- a safe state: its instruction, and that no reason holds against it
pub record IsSafeState (m : MapView) (tracked : List ℕ) (x : Invariant) (op : Op) : Type 0 where
  pub is : op_at m x ≡ Some op
  pub code : IsCode m x.point.at
  pub operands : NoneHold (operand_reasons (row_length (row_of op)) m x.point.at)
  pub later : NoneHold (later_reasons op m tracked x)

behind : (m : MapView) (tracked : List ℕ) (x : Invariant) (o : Option Reason) → reason_behind o m tracked x ≡ None →
    (o ≡ None) × (instruction_reason (op_at m x) m tracked x ≡ None)
behind m tracked x None none = (refl, none)
behind m tracked x (Some reason) none = absurd (cc)

pub no_reason : (op : Op) (m : MapView) (tracked : List ℕ) (x : Invariant) → first_reason (reasons op m tracked x) ≡ None →
    NoneHold (operand_reasons (row_length (row_of op)) m x.point.at) × NoneHold (later_reasons op m tracked x)
unfolding reasons
no_reason op m tracked x none =
    none_of_both (operand_reasons (row_length (row_of op)) m x.point.at) (later_reasons op m tracked x) (none_of _ none)

safe_by : (m : MapView) (tracked : List ℕ) (x : Invariant) (o : Option Op) → op_at m x ≡ o → IsCode m x.point.at →
    instruction_reason o m tracked x ≡ None → (op : Op) × IsSafeState m tracked x op
safe_by m tracked x None is code none = absurd (cc)
safe_by m tracked x (Some op) is code none =
    let both = no_reason op m tracked x none in
    (op, record { is = is; code = code; operands = both.0; later = both.1 })

pub safe_state : (m : MapView) (tracked : List ℕ) (x : Invariant) → unsafe_reason m tracked x ≡ None →
    (op : Op) × IsSafeState m tracked x op
unfolding unsafe_reason
safe_state m tracked x none =
    let parts = behind m tracked x (first_reason (code_reasons m x.point.at)) none in
    safe_by m tracked x (op_at m x) refl (code_of m x.point.at (none_of (code_reasons m x.point.at) parts.0)) parts.1
