-- What holds next: the points to which an instruction may lead, and an interrupt at its end, with what is known there. A branch narrows
-- nothing.
use Rattle.std.specs.Prelude.{◌≡◌, ℕ, Bool, true, false, if◌then◌else◌, List, [], ◌∷◌, map, flat_map, replicate, slice_get}
use Rattle.std.specs.Prelude.{Option, Some, None, option_and_then}
use Rattle.std.specs.List.{range_with_len}
use Rattle.std.specs.declared.cmp.Ordering.{Ordering}
use Rattle.std.specs.declared.cmp.Ordering.TheVariants.{Less, Equal, Greater}
use Rattle.f8_spec.specs.Instructions.{row_of}
use Rattle.f8_spec.specs.declared.instructions.Op.{Op}
use Rattle.abs_domain.specs.AbstractState.{KnownRegisters, AbstractState}
use Rattle.abs_domain.specs.Joins.{joined_state}
use Rattle.abs_domain.specs.PointOrder.{point_cmp}
use Rattle.abs_domain.specs.declared.points.Point.{Point}
use Rattle.abs_step.specs.RegisterWrites.{known_register}
use Rattle.abs_step.specs.KnownResults.{known_result}
use Rattle.abs_step.specs.KnownFlow.{KnownInputs, known_inputs, known_used_byte, known_counters, exits}
use Rattle.abs_step.specs.MapView.{MapView}
use Rattle.abs_step.specs.declared.exits.Exit.{Exit}
use Rattle.abs_step.specs.Vectors.{vectors_let_in, vector_exit, with_interrupts_off}

-- an abstract state that holds at a point
pub record Invariant : Type 0 where
  pub point : Point
  pub state : AbstractState

-- ---- tracked registers: a list of their numbers, at most eight

-- the byte of the tracked register in a place of a point, and none past the last
abbrev pub tracked_byte : List ℕ → KnownRegisters → ℕ → Option ℕ
tracked_byte tracked k place = option_and_then (λ number. known_register number k) (slice_get tracked place)

abbrev pub tracked_bytes : List ℕ → KnownRegisters → List (Option ℕ)
tracked_bytes tracked k = map (tracked_byte tracked k) (range_with_len 0 8)

-- a point has the bytes that the state knows of the tracked registers
abbrev pub HasTrackedBytes : List ℕ → Invariant → Type 0
HasTrackedBytes tracked x = x.point.split ≡ tracked_bytes tracked x.state.registers

-- ---- the start, as reset leaves the flat machine

abbrev pub start_point : Point
start_point = record { at = 0; ret = None; split = replicate 8 None }

abbrev pub start_state : AbstractState
start_state = record {
  registers = record {
    accumulator = None;
    high = None;
    low = None;
    status = record { sign = Some false; carry = Some false; zero = Some false; overflow = Some false; icb = Some false };
    scratchpad = replicate 64 None;
  };
  counters = record { d0 = Some 0; d1 = Some 0; c = None; s0 = false; s1 = false; p0 = false; p1 = false };
}

abbrev pub start_invariant : Invariant
start_invariant = record { point = start_point; state = start_state }

-- ---- an instruction

-- what an instruction gets of what is known
abbrev pub inputs_at : Op → MapView → Invariant → KnownInputs
inputs_at op m x = known_inputs op m.byte x.point.at x.point.ret x.state.counters.d0 x.state.registers

-- what is known after an instruction, wherever it leads
abbrev pub state_after : Op → MapView → Invariant → AbstractState
state_after op m x =
    let i = inputs_at op m x in
    record {
      registers = known_result op (known_used_byte (row_of op) i) i.stack_bytes i.counter_bytes x.state.registers;
      counters = known_counters (row_of op) i x.state.counters;
    }

abbrev pub exits_of : Op → MapView → Invariant → List Exit
exits_of op m x = exits (row_of op) (inputs_at op m x) x.point.at x.point.ret

-- what holds where an exit leads
abbrev pub at_exit : List ℕ → AbstractState → Exit → Invariant
at_exit tracked s e = record {
  point = record { at = e.at; ret = e.ret; split = tracked_bytes tracked s.registers };
  state = s;
}

-- what holds where an interrupt leads from there, by the vector of a chip: for its timer, and for a pulse
abbrev pub at_vector : List ℕ → AbstractState → Exit → ℕ → List Invariant
at_vector tracked s e vector =
    at_exit tracked (with_interrupts_off s) (vector_exit true vector e)
    ∷ at_exit tracked (with_interrupts_off s) (vector_exit false vector e)
    ∷ []

-- the invariants of one way of an instruction: that of its exit, and those of the vectors to which an interrupt may lead from there
abbrev pub along : List ℕ → List ℕ → AbstractState → Exit → List Invariant
along tracked vectors s e = at_exit tracked s e ∷ flat_map (at_vector tracked s e) vectors

-- ---- each point once

abbrev pub is_equal : Ordering → Bool
is_equal Less = false
is_equal Equal = true
is_equal Greater = false

abbrev pub same_point : Point → Point → Bool
same_point p q = is_equal (point_cmp p q)

-- one more invariant; at a point that is there already both states are joined
abbrev pub with_invariant : Invariant → List Invariant → List Invariant
with_invariant x [] = x ∷ []
with_invariant x (y ∷ ys) =
    if same_point x.point y.point then record y { state = joined_state y.state x.state } ∷ ys else y ∷ with_invariant x ys

abbrev pub with_invariants : List Invariant → List Invariant → List Invariant
with_invariants [] done = done
with_invariants (x ∷ xs) done = with_invariants xs (with_invariant x done)

-- ---- successors

-- the ways of an instruction one after another, in their order
abbrev pub all_along : Op → MapView → List ℕ → Invariant → List Invariant
all_along op m tracked x =
    let s = state_after op m x in
    flat_map (along tracked (vectors_let_in op m s.registers.status.icb) s) (exits_of op m x)

-- what holds next, each point once
unfoldable pub successors : Op → MapView → List ℕ → Invariant → List Invariant
successors op m tracked x = with_invariants (all_along op m tracked x) []
