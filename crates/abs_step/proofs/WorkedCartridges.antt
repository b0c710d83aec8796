-- More whole cartridges that were worked out by hand, by what is known of the chips of their descriptions, as a verdict goes by it.
use Rattle.std.proofs.Common.{◌≡◌, true, [], ◌∷◌, ◌++◌, replicate, refl}
use Rattle.std.specs.Prelude.{None}
use Rattle.f8_spec.specs.Instructions.{decoded}
use Rattle.abs_domain.specs.declared.reason.Reason.TheVariants.{CodeNotHeldOnce, ReservedOpcode, UnsetReturn, DataCountersApart, BadPort}
use Rattle.abs_step.specs.KnownResults.{known_effect, register_writes}
use Rattle.abs_step.specs.MapView.{chips_view, holds_every_address}
use Rattle.abs_step.specs.Successors.{successors}
use Rattle.abs_step.specs.Safety.{unsafe_reason, reasons, is_fault_free}
use Rattle.abs_step.proofs.WorkedChecks.{Safe, Unsafe, check}
use Rattle.abs_step.proofs.WorkedSteps.{psu}

-- ---- no chip, and two at one address, whose bytes are the same

no_chip : check (chips_view []) [] 5 ≡ Unsafe 0 None CodeNotHeldOnce
unfolding decoded known_effect register_writes successors unsafe_reason reasons is_fault_free holds_every_address chips_view
no_chip = refl

two_at_one_address : check (chips_view (psu 0 4 (0x2B ∷ []) ∷ psu 0 8 (0x2B ∷ []) ∷ [])) [] 5 ≡ Unsafe 0 None CodeNotHeldOnce
unfolding decoded known_effect register_writes successors unsafe_reason reasons is_fault_free holds_every_address chips_view
two_at_one_address = refl

-- ---- a jump whose last byte lies behind the chip, and an opcode that no instruction has

jump_cut_off : check (chips_view (psu 0 4 (0x29 ∷ 0x03 ∷ 0xFE ∷ replicate 1019 255 ++ 0x29 ∷ 0x08 ∷ []) ∷ [])) [] 5
    ≡ Unsafe 0x03FE None CodeNotHeldOnce
unfolding decoded known_effect register_writes successors unsafe_reason reasons is_fault_free holds_every_address chips_view
jump_cut_off = refl

reserved : check (chips_view (psu 0 4 (0x2D ∷ []) ∷ [])) [] 5 ≡ Unsafe 0 None ReservedOpcode
unfolding decoded known_effect register_writes successors unsafe_reason reasons is_fault_free holds_every_address chips_view
reserved = refl

-- ---- a return before any call, on two chips

return_at_once : check (chips_view (psu 0 4 (0x1C ∷ []) ∷ psu 0x400 8 [] ∷ [])) [] 5 ≡ Unsafe 0 None UnsetReturn
unfolding decoded known_effect register_writes successors unsafe_reason reasons is_fault_free holds_every_address chips_view
return_at_once = refl

-- ---- a read behind XDC, by the 3851's own counter

read_apart : check (chips_view (psu 0 4 (0x2A ∷ 0x00 ∷ 0x05 ∷ 0x2C ∷ 0x16 ∷ []) ∷ [])) [] 10 ≡ Unsafe 4 None DataCountersApart
unfolding decoded known_effect register_writes successors unsafe_reason reasons is_fault_free holds_every_address chips_view
read_apart = refl

-- ---- sums: a register less 1, a comparison, and two decimal sums, each with a branch to itself behind it

decrement : check (chips_view (psu 0 4 (0x70 ∷ 0x50 ∷ 0x30 ∷ 0x90 ∷ 0xFF ∷ []) ∷ [])) [] 20 ≡ Safe 4 true
unfolding decoded known_effect register_writes successors unsafe_reason reasons is_fault_free holds_every_address chips_view
decrement = refl

comparison : check (chips_view (psu 0 4 (0x70 ∷ 0x25 ∷ 0x00 ∷ 0x90 ∷ 0xFF ∷ []) ∷ [])) [] 20 ≡ Safe 3 true
unfolding decoded known_effect register_writes successors unsafe_reason reasons is_fault_free holds_every_address chips_view
comparison = refl

one_and_one : check (chips_view (psu 0 4 (0x20 ∷ 0x67 ∷ 0x50 ∷ 0x71 ∷ 0xD0 ∷ 0x90 ∷ 0xFF ∷ []) ∷ [])) [] 20 ≡ Safe 5 true
unfolding decoded known_effect register_writes successors unsafe_reason reasons is_fault_free holds_every_address chips_view
one_and_one = refl

four_and_five : check (chips_view (psu 0 4 (0x20 ∷ 0x6A ∷ 0x50 ∷ 0x75 ∷ 0xD0 ∷ 0x90 ∷ 0xFF ∷ []) ∷ [])) [] 20 ≡ Safe 5 true
unfolding decoded known_effect register_writes successors unsafe_reason reasons is_fault_free holds_every_address chips_view
four_and_five = refl

-- ---- ports: a write to port 4 and a read of it, and then a read of a port that no chip has; and writes that draw pixels

missing_port : check (chips_view (psu 0 4 (0x20 ∷ 0x0F ∷ 0xB4 ∷ 0xA4 ∷ 0x26 ∷ 0x02 ∷ []) ∷ [])) [] 20 ≡ Unsafe 4 None BadPort
unfolding decoded known_effect register_writes successors unsafe_reason reasons is_fault_free holds_every_address chips_view
missing_port = refl

missing_port_at_once : check (chips_view (psu 0 4 (0x26 ∷ 0x02 ∷ []) ∷ [])) [] 20 ≡ Unsafe 0 None BadPort
unfolding decoded known_effect register_writes successors unsafe_reason reasons is_fault_free holds_every_address chips_view
missing_port_at_once = refl

pixels : check (chips_view
    (psu 0 4 (0x20 ∷ 0x20 ∷ 0xB0 ∷ 0x20 ∷ 0x81 ∷ 0xB4 ∷ 0x20 ∷ 0x20 ∷ 0xB0 ∷ 0x70 ∷ 0xB0 ∷ 0x20 ∷ 0x82 ∷ 0xB4 ∷ 0x20 ∷ 0x20
    ∷ 0xB0 ∷ 0x90 ∷ 0xFF ∷ []) ∷ [])) [] 40 ≡ Safe 13 true
unfolding decoded known_effect register_writes successors unsafe_reason reasons is_fault_free holds_every_address chips_view
pixels = refl
