-- Something holds next after each safe state.
use Rattle.std.proofs.Common.{◌≡◌, ◌<◌, ℕ, Bool, true, false, List, [], ◌∷◌, ◌++◌, length, refl, arith}
use Rattle.std.specs.Prelude.{Option, Some, None, is_some, option_map, if◌then◌else◌, flat_map}
use Rattle.f8_spec.specs.Words.{displaced, places_on}
use Rattle.f8_spec.specs.Instructions.{row_of}
use Rattle.f8_spec.specs.declared.instructions.Op.{Op}
use Rattle.f8_spec.specs.declared.instructions.Row.{Row}
use Rattle.f8_spec.specs.declared.instructions.Row.TheVariants.{CallK, JumpQ, Return, Call, Jump, Branch, BranchIsar}
use Rattle.memory_map.specs.MapOf.{MapTable}
use Rattle.abs_domain.specs.AbstractState.{AbstractState}
use Rattle.abs_domain.specs.Joins.{joined_state}
use Rattle.abs_step.specs.KnownFlow.{KnownInputs, exit_to, branch_exits, exits}
use Rattle.abs_step.specs.declared.exits.Exit.{Exit}
use Rattle.abs_step.specs.MapView.{view_of}
use Rattle.abs_step.specs.Successors.{Invariant, inputs_at, state_after, exits_of, at_exit}
use Rattle.abs_step.specs.Successors.{along, at_vector, same_point, with_invariant, with_invariants, successors}
use Rattle.abs_step.specs.Safety.{first_reason, reasons}
use Rattle.abs_step.proofs.ExitLaws.{is_ready}
use Rattle.abs_step.proofs.MapViews.{byte_told}
use Rattle.abs_step.proofs.Ready.{ready}
use Rattle.abs_step.proofs.Reasons.{no_reason}

-- ---- exits

exit_to_known : (o ret : Option ℕ) → is_some o ≡ true → 0 < length (exit_to o ret)
exit_to_known None ret known = absurd (cc)
exit_to_known (Some at) ret known = omega arith

known_map : (f : ℕ → ℕ) (o : Option ℕ) → is_some o ≡ true → is_some (option_map f o) ≡ true
known_map f None known = absurd (cc)
known_map f (Some v) known = refl

branch_exit : (taken : Option Bool) (target : Option ℕ) (next : ℕ) (ret : Option ℕ) → is_some target ≡ true →
    0 < length (branch_exits taken target next ret)
branch_exit taken None next ret known = absurd (cc)
branch_exit None (Some at) next ret known = omega arith
branch_exit (Some true) (Some at) next ret known = omega arith
branch_exit (Some false) (Some at) next ret known = omega arith

some_exit : (row : Row) (i : KnownInputs) (at : ℕ) (ret : Option ℕ) → is_ready row i ret ≡ true → 0 < length (exits row i at ret)
some_exit CallK i at ret known = exit_to_known _ _ known
some_exit JumpQ i at ret known = exit_to_known _ ret known
some_exit Return i at ret known = exit_to_known ret ret known
some_exit Call i at ret known = exit_to_known _ _ known
some_exit Jump i at ret known = exit_to_known _ ret known
some_exit Branch i at ret known = branch_exit i.taken _ _ ret (known_map (displaced (places_on at 1)) i.operand known)
some_exit BranchIsar i at ret known = branch_exit i.taken _ _ ret (known_map (displaced (places_on at 1)) i.operand known)
some_exit row i at ret known = omega arith

-- ---- what holds there

some_with : (x : Invariant) (ys : List Invariant) → 0 < length (with_invariant x ys)
some_with x [] = omega arith
some_with x (y ∷ ys) = by (same_point x.point y.point)
  where
    by : (b : Bool) → 0 < length (if b then record y { state = joined_state y.state x.state } ∷ ys else y ∷ with_invariant x ys)
    by true = omega arith
    by false = omega arith

some_kept : (xs done : List Invariant) → 0 < length done → 0 < length (with_invariants xs done)
some_kept [] done some = some
some_kept (x ∷ xs) done some = some_kept xs (with_invariant x done) (some_with x done)

some_along : (tracked vectors : List ℕ) (s : AbstractState) (es : List Exit) → 0 < length es →
    0 < length (with_invariants (flat_map (along tracked vectors s) es) [])
some_along tracked vectors s [] some = absurd (omega arith)
some_along tracked vectors s (e ∷ es) some =
    some_kept (flat_map (at_vector tracked s e) vectors ++ flat_map (along tracked vectors s) es) (at_exit tracked s e ∷ []) (omega arith)

pub some_successor : (op : Op) (m : MapTable) (tracked : List ℕ) (x : Invariant) → first_reason (reasons op (view_of m) tracked x) ≡ None →
    0 < length (successors op (view_of m) tracked x)
unfolding successors
some_successor op m tracked x none =
    let parts = no_reason op (view_of m) tracked x none in
    some_along tracked _ (state_after op (view_of m) x) (exits_of op (view_of m) x)
    (some_exit (row_of op) (inputs_at op (view_of m) x) x.point.at x.point.ret
    (ready (view_of m) (λ at small once stays. byte_told m at once stays) tracked x op parts.0 parts.1))
