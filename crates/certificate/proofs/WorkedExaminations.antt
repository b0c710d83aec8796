-- What is found of invariant maps that were worked out by hand, computed from the definitions: of `LIS 1`, `NOP` and `BR` to the `NOP`, of
-- an opcode that no instruction has, and of reads that go on past the ROM.
use Rattle.std.proofs.Common.{◌≡◌, ℕ, true, false, ◌-◌, List, [], ◌∷◌, ◌++◌, length, replicate, refl}
use Rattle.std.specs.Prelude.{Option, Some, None}
use Rattle.f8_spec.specs.Instructions.{decoded}
use Rattle.chip_face.specs.declared.specification.ChipSpec.{ChipSpec}
use Rattle.chip_face.specs.declared.specification.ChipSpec.TheVariants.{Psu}
use Rattle.abs_domain.specs.AbstractState.{KnownCounters, AbstractState}
use Rattle.abs_domain.specs.declared.points.Point.{Point}
use Rattle.abs_domain.specs.declared.reason.Reason.TheVariants.{ReservedOpcode}
use Rattle.abs_step.specs.KnownResults.{known_effect, register_writes}
use Rattle.abs_step.specs.MapView.{chips_view, holds_every_address}
use Rattle.abs_step.specs.Successors.{start_point, start_state, successors}
use Rattle.abs_step.specs.Safety.{unsafe_reason, reasons, is_fault_free}
use Rattle.abs_step.specs.CartridgeAnalysis.{analysis}
use Rattle.certificate.specs.Examination.{examined}
use Rattle.certificate.specs.declared.examined.VerifyAnswer.{VerifyAnswer}
use Rattle.certificate.specs.declared.examined.VerifyAnswer.TheVariants.{Whole, Agreed, NotClosed, Unsafe}
use Rattle.certificate.proofs.WorkedCertificates.{notes}

-- a 3851 at 0 with these bytes, and FF behind them
abbrev pub lone : List ℕ → List ChipSpec
lone bytes = Psu 0 (bytes ++ replicate (1024 - length bytes) 255) 4 0 false ∷ []

-- what is found over it
abbrev found : List ℕ → List (Point × AbstractState) → VerifyAnswer
found bytes notes = examined (analysis (chips_view (lone bytes)) []) notes

abbrev at : ℕ → Point
at address = record start_point { at = address }

-- ---- a load and a branch

abbrev pub loop : List ℕ
loop = 0x71 ∷ 0x2B ∷ 0x90 ∷ 0xFE ∷ []

abbrev with_a : Option ℕ → AbstractState
with_a a = record start_state { registers = record start_state.registers { accumulator = a } }

pub as_printed : found loop notes ≡ Whole
unfolding decoded known_effect register_writes successors unsafe_reason reasons is_fault_free holds_every_address chips_view
as_printed = refl

-- less may be known, and no more than is
less_known : found loop ((at 0, start_state) ∷ (at 1, with_a None) ∷ (at 2, with_a None) ∷ []) ≡ Whole
unfolding decoded known_effect register_writes successors unsafe_reason reasons is_fault_free holds_every_address chips_view
less_known = refl

more_known_later : found loop ((at 0, start_state) ∷ (at 1, with_a None) ∷ (at 2, with_a (Some 1)) ∷ []) ≡ NotClosed (Some (at 1)) (at 2)
unfolding decoded known_effect register_writes successors unsafe_reason reasons is_fault_free holds_every_address chips_view
more_known_later = refl

another_byte : found loop ((at 0, start_state) ∷ (at 1, with_a (Some 2)) ∷ (at 2, with_a (Some 1)) ∷ []) ≡ NotClosed (Some (at 0)) (at 1)
unfolding decoded known_effect register_writes successors unsafe_reason reasons is_fault_free holds_every_address chips_view
another_byte = refl

-- the start isn't there, or says more than is known at reset
no_start : found loop ((at 1, with_a (Some 1)) ∷ (at 2, with_a (Some 1)) ∷ []) ≡ NotClosed None (at 0)
unfolding decoded known_effect register_writes successors unsafe_reason reasons is_fault_free holds_every_address chips_view
no_start = refl

start_says_more : found loop ((at 0, with_a (Some 1)) ∷ (at 1, with_a (Some 1)) ∷ (at 2, with_a (Some 1)) ∷ []) ≡ NotClosed None (at 0)
unfolding decoded known_effect register_writes successors unsafe_reason reasons is_fault_free holds_every_address chips_view
start_says_more = refl

no_last : found loop ((at 0, start_state) ∷ (at 1, with_a (Some 1)) ∷ []) ≡ NotClosed (Some (at 1)) (at 2)
unfolding decoded known_effect register_writes successors unsafe_reason reasons is_fault_free holds_every_address chips_view
no_last = refl

-- a point to which no run comes counts as well: FF stands there
one_too_many : found loop ((at 0, start_state) ∷ (at 1, with_a (Some 1)) ∷ (at 2, with_a (Some 1)) ∷ (at 4, start_state) ∷ [])
    ≡ Unsafe (at 4) ReservedOpcode
unfolding decoded known_effect register_writes successors unsafe_reason reasons is_fault_free holds_every_address chips_view
one_too_many = refl

-- ---- an opcode that no instruction has, and reads past the ROM

reserved : found (0x2D ∷ []) ((at 0, start_state) ∷ []) ≡ Unsafe (at 0) ReservedOpcode
unfolding decoded known_effect register_writes successors unsafe_reason reasons is_fault_free holds_every_address chips_view
reserved = refl

abbrev anywhere : KnownCounters
anywhere = record { d0 = None; d1 = Some 0; c = None; s0 = true; s1 = false; p0 = true; p1 = false }

abbrev reading : AbstractState
reading = record start_state { counters = anywhere }

read_on : found (0x2A ∷ 0x00 ∷ 0x00 ∷ 0x16 ∷ 0x90 ∷ 0xFE ∷ []) ((at 0, start_state) ∷ (at 3, reading) ∷ (at 4, reading) ∷ []) ≡ Agreed
unfolding decoded known_effect register_writes successors unsafe_reason reasons is_fault_free holds_every_address chips_view
read_on = refl
