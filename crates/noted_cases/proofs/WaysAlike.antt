-- Successors by the ways on behind an instruction; and what is safe where registers are tracked is safe where none is.
use Rattle.std.proofs.Common.{◌≡◌, ℕ, Bool, List, [], ◌∷◌, ◌++◌, map, refl, ap, sym, ◌∙◌}
use Rattle.std.specs.Prelude.{Option, None}
use Rattle.f8_spec.specs.Instructions.{row_of, row_length}
use Rattle.f8_spec.specs.declared.instructions.Op.{Op}
use Rattle.abs_domain.specs.declared.reason.Reason.{Reason}
use Rattle.abs_step.specs.MapView.{MapView}
use Rattle.abs_step.specs.Safety.{first_reason, code_reasons, operand_reasons, later_reasons, reasons}
use Rattle.abs_step.specs.Safety.{instruction_reason, reason_behind, unsafe_reason}
use Rattle.abs_step.specs.Successors.{Invariant, state_after, exits_of, tracked_bytes, successors}
use Rattle.abs_step.specs.Vectors.{vectors_let_in}
use Rattle.abs_step.specs.WaysOn.{at_way, ways_of}
use Rattle.abs_step.specs.declared.ways.Way.{Way}
use Rattle.abs_step.proofs.JoinedWays.{joined_ways}
use Rattle.abs_step.proofs.Reasons.{IsCode, IsSafeState, safe_state}
use Rattle.abs_step.proofs.SafeRows.{NoneHold}

-- ---- ways

-- the ways on behind an instruction; which registers are tracked makes no difference to them
abbrev pub ways_at : Op → MapView → Invariant → List Way
ways_at op m x =
    ways_of (vectors_let_in op m (state_after op m x).registers.status.icb) (state_after op m x).registers.status.icb (exits_of op m x)

pub successors_along : (op : Op) (m : MapView) (tracked : List ℕ) (x : Invariant) →
    successors op m tracked x ≡ map (at_way (tracked_bytes tracked (state_after op m x).registers) (state_after op m x)) (ways_at op m x)
unfolding successors
successors_along op m tracked x =
    sym (joined_ways tracked (vectors_let_in op m (state_after op m x).registers.status.icb) (state_after op m x) (exits_of op m x))

-- ---- reasons

none_first : (rs : List (Bool × Reason)) → NoneHold rs → first_reason rs ≡ None
none_first [] none = refl
none_first (r ∷ rs) none = rw none.0 (none_first rs none.1)

none_of_either : (rs ss : List (Bool × Reason)) → NoneHold rs → NoneHold ss → NoneHold (rs ++ ss)
none_of_either [] ss first second = second
none_of_either (r ∷ rs) ss first second = (first.0, none_of_either rs ss first.1 second)

code_is_safe : (m : MapView) (at : ℕ) → IsCode m at → first_reason (code_reasons m at) ≡ None
code_is_safe m at code = none_first (code_reasons m at) (rw code.once refl, (code.stays, tt))

-- the last reason is the only one that goes by the list of tracked registers
none_untracked : (op : Op) (m : MapView) (tracked : List ℕ) (x : Invariant) → NoneHold (later_reasons op m tracked x) →
    NoneHold (later_reasons op m [] x)
none_untracked op m tracked x (jump, (back, (set, (apart, (held, (port, (vector, (shared, last)))))))) =
    (jump, (back, (set, (apart, (held, (port, (vector, (shared, (refl, tt)))))))))

safe_untracked : (m : MapView) (tracked : List ℕ) (x : Invariant) (op : Op) → IsSafeState m tracked x op → unsafe_reason m [] x ≡ None
unfolding unsafe_reason reasons
safe_untracked m tracked x op safe =
    ap (λ (o : Option Reason). reason_behind o m [] x) (code_is_safe m x.point.at safe.code)
    ∙ ap (λ (o : Option Op). instruction_reason o m [] x) safe.is
    ∙ none_first (reasons op m [] x)
    (none_of_either (operand_reasons (row_length (row_of op)) m x.point.at) (later_reasons op m [] x) safe.operands
    (none_untracked op m tracked x safe.later))

pub untracked_safe : (m : MapView) (tracked : List ℕ) (x : Invariant) → unsafe_reason m tracked x ≡ None → unsafe_reason m [] x ≡ None
untracked_safe m tracked x none = let safe = safe_state m tracked x none in safe_untracked m tracked x safe.0 safe.1
