-- Cartridges that let interrupts in, worked out by hand and computed from the definitions.
use Rattle.std.proofs.Common.{◌≡◌, ℕ, Bool, true, false, List, [], ◌∷◌, ◌++◌, map, replicate, refl}
use Rattle.std.specs.Prelude.{Option, Some, None}
use Rattle.f8_spec.specs.Instructions.{decoded}
use Rattle.f8_spec.specs.declared.instructions.Op.TheVariants.{Bt}
use Rattle.abs_domain.specs.declared.reason.Reason.TheVariants.{ReservedOpcode, UnknownVector}
use Rattle.abs_step.specs.KnownResults.{known_effect, register_writes}
use Rattle.abs_step.specs.MapView.{chips_view, holds_every_address}
use Rattle.abs_step.specs.Safety.{unsafe_reason, reasons, is_fault_free}
use Rattle.abs_step.specs.Successors.{Invariant, start_point, start_state, successors}
use Rattle.abs_step.proofs.WorkedChecks.{Safe, Unsafe, check}
use Rattle.abs_step.proofs.WorkedSteps.{wired_psu, wired_smi}

-- ---- a 3851 that can interrupt, with code at both addresses of its vector: interrupts are on behind EI, in a branch to itself

abbrev waits : List ℕ
waits = 0x71 ∷ 0xB6 ∷ 0x1B ∷ 0x90 ∷ 0xFF ∷ []

-- EI and POP at 0100 and at 0180
abbrev answers : List ℕ
answers = waits ++ replicate 251 255 ++ 0x1B ∷ 0x1C ∷ replicate 126 255 ++ 0x1B ∷ 0x1C ∷ []

answered : check (chips_view (wired_psu 0 4 0x0100 answers ∷ [])) [] 30 ≡ Safe 9 true
unfolding decoded known_effect register_writes successors unsafe_reason reasons is_fault_free holds_every_address chips_view
answered = refl

-- with a 3853 that can interrupt it isn't known where to
written : check (chips_view (wired_psu 0 4 0x0100 answers ∷ wired_smi ∷ [])) [] 30 ≡ Unsafe 3 None UnknownVector
unfolding decoded known_effect register_writes successors unsafe_reason reasons is_fault_free holds_every_address chips_view
written = refl

-- and without code at the vector its opcode is reserved
no_code : check (chips_view (wired_psu 0 4 0x0100 waits ∷ [])) [] 30 ≡ Unsafe 0x0180 (Some 3) ReservedOpcode
unfolding decoded known_effect register_writes successors unsafe_reason reasons is_fault_free holds_every_address chips_view
no_code = refl

-- a timer that may interrupt: control 3 and a load, and then EI, behind which a NOP doesn't shield its end
timer : check
    (chips_view (wired_psu 0 4 0x0180 (0x73 ∷ 0xB6 ∷ 0x20 ∷ 0x7F ∷ 0xB7 ∷ replicate 7 0x2B ++ 0x1B ∷ 0x2B ∷ []) ∷ [])) [] 30
    ≡ Unsafe 0x0180 (Some 0x0E) ReservedOpcode
unfolding decoded known_effect register_writes successors unsafe_reason reasons is_fault_free holds_every_address chips_view
timer = refl

-- ---- points that several ways have: a branch to the vector's address, of which the next address is the return

-- BT 1 to 0100 at 00F0, with interrupts on
abbrev at_branch : Invariant
at_branch = record {
  point = record start_point { at = 0x00F0; ret = Some 0x00F2 };
  state = record start_state {
    registers = record start_state.registers {
      status = record { sign = None; carry = Some false; zero = Some false; overflow = Some false; icb = Some true };
    };
  };
}

-- the address, the return and the interrupt control bit
abbrev told : Invariant → ℕ × Option ℕ × Option Bool
told x = (x.point.at, x.point.ret, x.state.registers.status.icb)

-- the vector behind the second way is at the point of the first way, where both bits are joined
joined : map told (successors (Bt 1) (chips_view (wired_psu 0 4 0x0100 (replicate 240 255 ++ 0x81 ∷ 0x0F ∷ []) ∷ [])) [] at_branch)
    ≡ (0x0100, Some 0x00F2, None)
    ∷ (0x0100, Some 0x0100, Some false)
    ∷ (0x0180, Some 0x0100, Some false)
    ∷ (0x00F2, Some 0x00F2, Some true)
    ∷ (0x0180, Some 0x00F2, Some false)
    ∷ []
unfolding decoded known_effect register_writes successors chips_view
joined = refl
