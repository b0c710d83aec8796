-- Steps of small cartridges, worked out by hand and computed from the definitions: what holds next, and the reasons against a state.
use Rattle.std.proofs.Common.{◌≡◌, ℕ, zero, suc, true, false, ◌-◌, List, [], ◌∷◌, ◌++◌, length, replicate, refl}
use Rattle.std.specs.Prelude.{Option, Some, None, option_and_then, slice_get}
use Rattle.f8_spec.specs.Instructions.{decoded}
use Rattle.f8_spec.specs.declared.chips.PageSort.{PageSort}
use Rattle.f8_spec.specs.declared.chips.PageSort.TheVariants.{Ram}
use Rattle.f8_spec.specs.declared.chips.Page.{Page}
use Rattle.chip_face.specs.declared.specification.ChipSpec.{ChipSpec}
use Rattle.chip_face.specs.declared.specification.ChipSpec.TheVariants.{Psu, Smi}
use Rattle.abs_domain.specs.declared.points.Point.{Point}
use Rattle.abs_domain.specs.declared.reason.Reason.{Reason}
use Rattle.abs_domain.specs.declared.reason.Reason.TheVariants.{CodeNotHeldOnce, CodeInRam, ReservedOpcode, UnsetReturn, DataCountersApart}
use Rattle.abs_domain.specs.declared.reason.Reason.TheVariants.{BadPort, UnknownVector, TrackedRegisterBlurred}
use Rattle.abs_step.specs.KnownResults.{known_effect, register_writes}
use Rattle.abs_step.specs.MapView.{MapView, chips_view}
use Rattle.abs_step.specs.StepView.{next_at}
use Rattle.abs_step.specs.Successors.{Invariant, start_point, start_state, start_invariant, successors}
use Rattle.abs_step.specs.Safety.{unsafe_reason, reasons, is_fault_free}

-- ---- chips and their map

abbrev pub page : PageSort → ℕ → Page
page sort number = record { number = number; sort = sort }

-- a 3851 of a description with these bytes, and FF behind them, and one that can interrupt, with its vector
abbrev pub psu : ℕ → ℕ → List ℕ → ChipSpec
psu base ports bytes = Psu base (bytes ++ replicate (1024 - length bytes) 255) ports 0 false

abbrev pub wired_psu : ℕ → ℕ → ℕ → List ℕ → ChipSpec
wired_psu base ports vector bytes = Psu base (bytes ++ replicate (1024 - length bytes) 255) ports vector true

-- a 3853 with these pages, of 255 each
abbrev pub smi : List Page → ChipSpec
smi pages = Smi pages (replicate 512 255) false

-- and one that can interrupt, with a page of RAM
abbrev pub wired_smi : ChipSpec
wired_smi = Smi (page Ram 0x28 ∷ []) [] true

-- ---- walks

-- where so many instructions lead by the first way
abbrev walked : MapView → List ℕ → ℕ → Option Invariant
walked m tracked zero = Some start_invariant
walked m tracked (suc n) = option_and_then (λ x. slice_get (next_at m tracked x) 0) (walked m tracked n)

-- the reason against the state there
abbrev reason_after : MapView → List ℕ → ℕ → Option Reason
reason_after m tracked n = option_and_then (unsafe_reason m tracked) (walked m tracked n)

abbrev point_after : MapView → List ℕ → ℕ → Option Point
point_after m tracked n = option_and_then (λ x. Some x.point) (walked m tracked n)

abbrev point : ℕ → Option ℕ → Point
point at ret = record start_point { at = at; ret = ret }

-- ---- a load of D0 at the start, XDC and a read

abbrev exchange_alone : MapView
exchange_alone = chips_view (psu 0 4 (0x2A ∷ 0x00 ∷ 0x05 ∷ 0x2C ∷ 0x16 ∷ []) ∷ [])

start_is_safe : unsafe_reason exchange_alone [] start_invariant ≡ None
unfolding decoded known_effect register_writes unsafe_reason reasons chips_view
start_is_safe = refl

-- one successor: D0 and every 3851's counter are 0005, and alike
load_at_start : next_at exchange_alone [] start_invariant ≡ record {
  point = point 3 None;
  state = record start_state {
    counters = record { d0 = Some 5; d1 = Some 0; c = Some 5; s0 = true; s1 = false; p0 = true; p1 = false };
  };
} ∷ []
unfolding decoded known_effect register_writes successors chips_view
load_at_start = refl

-- the read after XDC, at which the 3851's own counter is away from D0
read_after_exchange : reason_after exchange_alone [] 2 ≡ Some DataCountersApart
unfolding decoded known_effect register_writes successors unsafe_reason reasons chips_view
read_after_exchange = refl

point_of_read : point_after exchange_alone [] 2 ≡ Some (point 4 None)
unfolding decoded known_effect register_writes successors chips_view
point_of_read = refl

-- ---- ROM and RAM may both answer a read

abbrev rom_and_ram : MapView
rom_and_ram = chips_view (psu 0 4 (0x2A ∷ 0x28 ∷ 0x00 ∷ 0x2C ∷ 0x2A ∷ 0x00 ∷ 0x10 ∷ 0x2C ∷ 0x16 ∷ []) ∷ smi (page Ram 0x28 ∷ []) ∷ [])

read_of_both : unsafe_reason rom_and_ram [] (record {
  point = point 8 None;
  state = record start_state {
    counters = record { d0 = Some 0x2800; d1 = Some 0x10; c = Some 0x10; s0 = true; s1 = true; p0 = false; p1 = true };
  };
}) ≡ Some DataCountersApart
unfolding decoded known_effect register_writes unsafe_reason reasons chips_view
read_of_both = refl

walk_to_both : reason_after rom_and_ram [] 4 ≡ Some DataCountersApart
unfolding decoded known_effect register_writes successors unsafe_reason reasons chips_view
walk_to_both = refl

-- ---- other reasons at once

-- a return at which the copies may differ
return_at_start : unsafe_reason (chips_view (psu 0 4 (0x1C ∷ []) ∷ psu 0x400 8 [] ∷ [])) [] start_invariant ≡ Some UnsetReturn
unfolding decoded known_effect register_writes unsafe_reason reasons chips_view
return_at_start = refl

-- a write to a port that two chips have
abbrev shared_port : MapView
shared_port = chips_view (psu 0 4 (0x70 ∷ 0xB4 ∷ []) ∷ psu 0x400 4 [] ∷ [])

write_to_shared_port : reason_after shared_port [] 1 ≡ Some BadPort
unfolding decoded known_effect register_writes successors unsafe_reason reasons chips_view
write_to_shared_port = refl

-- no chip, an opcode in RAM, and one that no instruction has
nothing_held : unsafe_reason (chips_view []) [] start_invariant ≡ Some CodeNotHeldOnce
unfolding decoded known_effect register_writes unsafe_reason reasons chips_view
nothing_held = refl

code_in_ram : unsafe_reason (chips_view (smi (page Ram 0 ∷ []) ∷ [])) [] start_invariant ≡ Some CodeInRam
unfolding decoded known_effect register_writes unsafe_reason reasons chips_view
code_in_ram = refl

reserved_opcode : unsafe_reason (chips_view (psu 0 4 [] ∷ [])) [] start_invariant ≡ Some ReservedOpcode
unfolding decoded known_effect register_writes unsafe_reason reasons chips_view
reserved_opcode = refl

-- interrupts are on after EI, which shields its own end; the branch after it doesn't
abbrev enabling : List ℕ
enabling = 0x1B ∷ 0x90 ∷ 0xFF ∷ []

enabled : unsafe_reason (chips_view (psu 0 4 enabling ∷ wired_smi ∷ [])) [] start_invariant ≡ None
unfolding decoded known_effect register_writes unsafe_reason reasons chips_view
enabled = refl

interrupt_after_enable : reason_after (chips_view (psu 0 4 enabling ∷ wired_smi ∷ [])) [] 1 ≡ Some UnknownVector
unfolding decoded known_effect register_writes successors unsafe_reason reasons chips_view
interrupt_after_enable = refl

-- the vector of a 3851 is known, and an unwired 3853 has none
known_vector : reason_after (chips_view (wired_psu 0 4 0x0100 enabling ∷ smi [] ∷ [])) [] 1 ≡ None
unfolding decoded known_effect register_writes successors unsafe_reason reasons chips_view
known_vector = refl

-- ---- tracked registers: the byte loaded into r0 stands in the point

abbrev load_tracked : MapView
load_tracked = chips_view (psu 0 4 (0x75 ∷ 0x50 ∷ 0xA0 ∷ 0x50 ∷ []) ∷ [])

point_of_tracked : point_after load_tracked (0 ∷ []) 2 ≡ Some (record {
  at = 2;
  ret = None;
  split = Some 5 ∷ replicate 7 None;
})
unfolding decoded known_effect register_writes successors chips_view
point_of_tracked = refl

-- what came in from a port is written to it
tracked_is_blurred : reason_after load_tracked (0 ∷ []) 3 ≡ Some TrackedRegisterBlurred
unfolding decoded known_effect register_writes successors unsafe_reason reasons chips_view
tracked_is_blurred = refl

not_tracked : reason_after load_tracked [] 3 ≡ None
unfolding decoded known_effect register_writes successors unsafe_reason reasons chips_view
not_tracked = refl

-- ---- a call within a call, by K: the second return to K is known only while K is tracked

abbrev nested_call : MapView
nested_call = chips_view (psu 0 4 (
    0x28 ∷ 0x00 ∷ 0x10 ∷ 0x28 ∷ 0x00 ∷ 0x10 ∷ 0x90 ∷ 0xFF ∷ replicate 8 0xFF
    ++ 0x08 ∷ 0x28 ∷ 0x00 ∷ 0x20 ∷ 0x0C ∷ replicate 11 0xFF ++ 0x1C ∷ []
    ) ∷ [])

call_in_call : point_after nested_call [] 4 ≡ Some (point 0x14 (Some 0x14))
unfolding decoded known_effect register_writes successors chips_view
call_in_call = refl

-- at the first call K is known
return_by_k : point_after nested_call [] 5 ≡ Some (point 3 (Some 0x15))
unfolding decoded known_effect register_writes successors chips_view
return_by_k = refl

-- ---- reads past the ROM: safe, and not free of faults

abbrev read_past : MapView
read_past = chips_view (psu 0 4 (0x2A ∷ 0x04 ∷ 0x00 ∷ 0x16 ∷ []) ∷ [])

read_past_is_safe : reason_after read_past [] 1 ≡ None
unfolding decoded known_effect register_writes successors unsafe_reason reasons chips_view
read_past_is_safe = refl

read_past_is_not_free : option_and_then (λ x. Some (is_fault_free read_past x)) (walked read_past [] 1) ≡ Some false
unfolding decoded known_effect register_writes successors is_fault_free chips_view
read_past_is_not_free = refl

abbrev read_within : MapView
read_within = chips_view (psu 0 4 (0x2A ∷ 0x03 ∷ 0xFF ∷ 0x16 ∷ []) ∷ [])

read_within_is_free : option_and_then (λ x. Some (is_fault_free read_within x)) (walked read_within [] 1) ≡ Some true
unfolding decoded known_effect register_writes successors is_fault_free chips_view
read_within_is_free = refl
