-- One chip over a served step: what no step changes of it stays, and its counters move by the code and the byte.
use Rattle.std.proofs.Common.{◌≡◌, ℕ, Bool, true, false, refl, sym, ap, subst, ◌∙◌}
use Rattle.std.specs.Prelude.{◌==◌, if◌then◌else◌, Option, Some, None, option_map, option_and_then}
use Rattle.f8_spec.specs.BusCodes.{Count, moved_by}
use Rattle.f8_spec.specs.ChipState.{ChipView, ChipState, HeardStep, has_counters, has_second_counter, has_fixed_vector}
use Rattle.f8_spec.specs.ChipState.{PortRole, DataPort, VectorHigh, VectorLow, ControlPort, TimerPort, role_at, offset_from}
use Rattle.f8_spec.specs.ChipState.{has_ram_at, port_written, port_written_if, timer_passed, effect, counters_moved, after_step}
use Rattle.f8_spec.specs.BusArbitration.{Seat, seat_of, is_first}
use Rattle.f8_spec.specs.Instructions.{step_clocks}
use Rattle.f8_spec.specs.declared.chips.ChipKind.{ChipKind}
use Rattle.f8_spec.specs.declared.chips.ChipKind.TheVariants.{Psu, Smi, Pio}
use Rattle.data_bus.specs.Racks.{SettlesStep}

-- ---- what a code does to a chip apart from its counters

-- the seat and the counters are as they were
record IsUndisturbed (old new : ChipView) : Type 0 where
  seat : seat_of new ≡ seat_of old
  counters : new.counters ≡ old.counters

undisturbed : (v : ChipView) → IsUndisturbed v v
undisturbed v = record { seat = refl; counters = refl }

undisturbed_if : (test : Bool) {old one other : ChipView} → IsUndisturbed old one → IsUndisturbed old other →
    IsUndisturbed old (if test then one else other)
undisturbed_if true one other = one
undisturbed_if false one other = other

-- the vector of a chip whose ports write it is not in its seat
no_vector : (kind : ChipKind) (vector written : ℕ) → kind ≡ Smi →
    (if has_fixed_vector kind then written else 0) ≡ (if has_fixed_vector kind then vector else 0)
no_vector Psu vector written is = absurd (cc)
no_vector Smi vector written is = refl
no_vector Pio vector written is = absurd (cc)

-- a port that is written
module _ (byte : ℕ) (v : ChipView) where
  IsHarmless : PortRole → Type 0
  IsHarmless role = IsUndisturbed v (port_written role byte v)

  harmless_if : (test : Bool) (one other : PortRole) → IsHarmless one → IsHarmless other → IsHarmless (if test then one else other)
  harmless_if true one other first second = first
  harmless_if false one other first second = second

  data_written : (place : ℕ) → IsHarmless (DataPort place)
  unfolding IsHarmless
  data_written place = record { seat = refl; counters = refl }

  control_written : IsHarmless ControlPort
  unfolding IsHarmless
  control_written = record { seat = refl; counters = refl }

  timer_written : IsHarmless TimerPort
  unfolding IsHarmless
  timer_written = record { seat = refl; counters = refl }

  seat_with : ℕ → Seat
  seat_with vector = record { kind = v.kind; pages = v.pages; ports = v.ports; wired = v.wired; vector = vector }

  high_written : v.kind ≡ Smi → IsHarmless VectorHigh
  unfolding IsHarmless seat_with
  high_written is = record { seat = ap seat_with (no_vector v.kind v.vector _ is); counters = refl }

  low_written : v.kind ≡ Smi → IsHarmless VectorLow
  unfolding IsHarmless seat_with
  low_written is = record { seat = ap seat_with (no_vector v.kind v.vector _ is); counters = refl }

  role_written : (kind : ChipKind) (offset : ℕ) → v.kind ≡ kind → IsHarmless (role_at kind offset)
  role_written Psu offset is =
      harmless_if (offset == 2) _ _ control_written (harmless_if (offset == 3) _ _ timer_written (data_written offset))
  role_written Smi offset is =
      harmless_if (offset == 2) _ _ control_written
      (harmless_if (offset == 3) _ _ timer_written (harmless_if (offset == 0) _ _ (high_written is) (low_written is)))
  role_written Pio offset is =
      harmless_if (offset == 2) _ _ control_written (harmless_if (offset == 3) _ _ timer_written (data_written offset))

  written_at : (offset : Option ℕ) → IsUndisturbed v (port_written_if (option_map (role_at v.kind) offset) byte v)
  unfolding IsHarmless
  written_at None = undisturbed v
  written_at (Some offset) = role_written v.kind offset refl

-- a store, the end of a request, a port write, or nothing
effect_kept : (romc byte : ℕ) (first : Bool) (v : ChipView) → IsUndisturbed v (effect romc byte first v)
effect_kept romc byte first v =
    undisturbed_if (romc == 0x05) (undisturbed_if (has_ram_at v v.counters.dc0) (record { seat = refl; counters = refl }) (undisturbed v))
    (undisturbed_if (romc == 0x13) (record { seat = refl; counters = refl })
    (undisturbed_if (romc == 0x1A) (written_at byte v (option_and_then (offset_from v.last) v.ports)) (undisturbed v)))

-- ---- the whole step

-- the counters of a chip of a kind after a code with its byte
abbrev pub own_moved : ℕ → ℕ → ChipKind → Count → Count
own_moved romc byte kind own = if has_counters kind then moved_by romc byte (has_second_counter kind) own else own

-- a chip over a step with a code and a byte: its seat stays, and its counters move where it has any
pub record StepsAlong (romc byte : ℕ) (old new : ChipView) : Type 0 where
  pub seat : seat_of new ≡ seat_of old
  pub counters : new.counters ≡ own_moved romc byte old.kind old.counters

counters_along : (romc byte : ℕ) (old new : ChipView) → IsUndisturbed old new →
    counters_moved romc byte new ≡ own_moved romc byte old.kind old.counters
counters_along romc byte old new kept =
    let kind : new.kind ≡ old.kind = ap (λ (s : Seat). s.kind) kept.seat in
    ap (λ k. own_moved romc byte k new.counters) kind ∙ ap (λ own. own_moved romc byte old.kind own) kept.counters

after_step_along : (step : HeardStep) (v : ChipView) → StepsAlong step.romc step.byte v (after_step step v)
after_step_along step v =
    let kept : IsUndisturbed (timer_passed step.clocks v) (effect step.romc step.byte step.first (timer_passed step.clocks v)) =
    effect_kept step.romc step.byte step.first (timer_passed step.clocks v) in
    record { seat = kept.seat; counters = counters_along step.romc step.byte (timer_passed step.clocks v) _ kept }

-- a chip that hears a step
pub steps_along : (romc : ℕ) (long : Bool) (first : Option ℕ) (byte socket : ℕ) (old new : ChipState) →
    SettlesStep romc long first byte socket old new → StepsAlong romc byte old.view new.view
steps_along romc long first byte socket old new settles =
    let step : HeardStep = record { romc = romc; byte = byte; clocks = step_clocks long; first = is_first first socket } in
    subst (λ v. StepsAlong romc byte old.view v) (sym settles.view) (after_step_along step old.view)
