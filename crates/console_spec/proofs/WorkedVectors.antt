-- What an interrupt does to the chips' copies, and the fetch at its vector, worked out by hand and computed from the definitions.
use Rattle.std.proofs.Common.{◌≡◌, ℕ, List, [], ◌∷◌, map, refl}
use Rattle.std.specs.Prelude.{Some}
use Rattle.f8_spec.specs.ChipState.{ChipView}
use Rattle.f8_spec.specs.declared.instructions.Op.TheVariants.{Bf}
use Rattle.console_spec.specs.Run.{Position, position_after, instruction_fault, with_pulse_at}
use Rattle.console_spec.specs.Services.{Conflict, Undriven}
use Rattle.console_spec.proofs.Played.{running, played}
use Rattle.console_spec.proofs.WorkedInterrupts.{wired_psu}
use Rattle.console_spec.proofs.WorkedRacks.{psu}

-- control 1 at its own port, interrupts let in, and a branch to itself; its vector is 0400, and 0480 for a pulse
abbrev asking : ChipView
asking = wired_psu 0 4 0x0400 (0x71 ∷ 0xB6 ∷ 0x1B ∷ 0x90 ∷ 0xFF ∷ [])

-- after three instructions, with a pulse
abbrev pulsed : List ChipView → ℕ → Position
pulsed vs fill = with_pulse_at 0 (played vs fill 3).position

-- ---- copies that were parted

-- the stack registers of two chips
abbrev stack_registers : Position → List ℕ
stack_registers x = map (λ c. c.flow.p1) x.copies

-- power-on parts them
parted_before : stack_registers (pulsed (asking ∷ psu 0x400 8 [] ∷ []) 4) ≡ 0x0404 ∷ 0x0405 ∷ []
unfolding running
parted_before = refl

-- and the interrupt at the end of the branch saves the return to both
together_behind : stack_registers (position_after (Bf 0) (pulsed (asking ∷ psu 0x400 8 [] ∷ []) 4)) ≡ 3 ∷ 3 ∷ []
unfolding running
together_behind = refl

-- ---- the fetch at the vector. Every chip hears both its bytes, so that no copy is away from it.

-- two chips hold it
held_twice : instruction_fault (Bf 0) (pulsed (asking ∷ psu 0x400 8 [] ∷ psu 0x400 12 [] ∷ []) 0)
    ≡ Some (Conflict 0 (record { socket = 1; at = 0x0480 } ∷ record { socket = 2; at = 0x0480 } ∷ []))
unfolding running
held_twice = refl

-- no chip does
held_by_none : instruction_fault (Bf 0) (pulsed (asking ∷ []) 0) ≡ Some (Undriven 0 0x0480)
unfolding running
held_by_none = refl
