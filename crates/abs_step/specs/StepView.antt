-- A state at a point as the program holds them, and what holds next there.
use Rattle.std.specs.Prelude.{ℕ, Bool, ◌&&◌, List, [], ◌∷◌, flat_map, Option, Some, None}
use Rattle.f8_spec.specs.Instructions.{row_of}
use Rattle.f8_spec.specs.declared.instructions.Op.{Op}
use Rattle.console_spec.specs.Processor.{port_field}
use Rattle.abs_domain.specs.AbstractState.{KnownRegisters, KnownCounters, AbstractState}
use Rattle.abs_domain.specs.StateView.{state_of}
use Rattle.abs_domain.specs.declared.points.Point.{Point}
use Rattle.abs_domain.specs.declared.reason.Reason.{Reason}
use Rattle.abs_domain.specs.declared.reason.Reason.TheVariants.{UnknownJump, UnknownReturn, UnsetReturn, DataCountersApart}
use Rattle.abs_domain.specs.declared.reason.Reason.TheVariants.{ReturnNotHeldOnce, BadPort, UnknownVector, SharedDataAddress}
use Rattle.abs_domain.specs.declared.reason.Reason.TheVariants.{TrackedRegisterBlurred}
use Rattle.abs_domain.specs.declared.state.Abs.{Abs}
use Rattle.abs_step.specs.MapView.{MapView}
use Rattle.abs_step.specs.Successors.{Invariant, along, with_invariants, successors}
use Rattle.abs_step.specs.RegisterWrites.{RegisterWrite}
use Rattle.abs_step.specs.declared.exits.Exit.{Exit}
use Rattle.abs_step.specs.Safety.{jump_is_lost, return_is_lost, return_is_unset, may_part, return_is_unheld, port_is_bad, op_at}
use Rattle.abs_step.specs.Safety.{goes_by_data, may_be_shared, vector_is_lost, any_blurred}

abbrev pub invariant_at : Point → Abs → Invariant
invariant_at p s = record { point = p; state = state_of s }

abbrev pub invariant_of : Point × Abs → Invariant
invariant_of x = invariant_at x.0 x.1

-- what holds next, and nothing where no instruction stands
abbrev pub next_by : Option Op → MapView → List ℕ → Invariant → List Invariant
next_by None m tracked x = []
next_by (Some op) m tracked x = successors op m tracked x

abbrev pub next_at : MapView → List ℕ → Invariant → List Invariant
next_at m tracked x = next_by (op_at m x) m tracked x

-- what holds at some exits and at the vectors behind them, with what is known there
abbrev pub joined_along : List ℕ → List ℕ → KnownRegisters → KnownCounters → List Exit → List Invariant
joined_along tracked vectors k counters exits =
    let s : AbstractState = record { registers = k; counters = counters } in
    with_invariants (flat_map (along tracked vectors s) exits) []

-- ---- the reasons against an instruction behind those of its bytes

-- by what holds before it: the return, the operand, the registers and the counters
abbrev pub reasons_before : Op → MapView → Option ℕ → Option ℕ → KnownRegisters → KnownCounters → List (Bool × Reason)
reasons_before op m ret operand k counters =
    (jump_is_lost (row_of op) k, UnknownJump)
    ∷ (return_is_lost (row_of op) k, UnknownReturn)
    ∷ (return_is_unset (row_of op) ret, UnsetReturn)
    ∷ (may_part (row_of op) m counters, DataCountersApart)
    ∷ (return_is_unheld (row_of op) m ret, ReturnNotHeldOnce)
    ∷ (port_is_bad (row_of op) m operand (port_field op), BadPort)
    ∷ []

-- and by the interrupt control bit after it, D0 before it, and what it writes
abbrev pub reasons_after : Op → MapView → List ℕ → Option Bool → Option ℕ → List RegisterWrite → List (Bool × Reason)
reasons_after op m tracked icb d0 writes =
    (vector_is_lost op m icb, UnknownVector)
    ∷ (goes_by_data (row_of op) && may_be_shared m d0, SharedDataAddress)
    ∷ (any_blurred writes tracked, TrackedRegisterBlurred)
    ∷ []
