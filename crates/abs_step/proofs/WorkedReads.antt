-- Whole steps that were worked out by hand, over descriptions: the byte that a read at D0 gives, pairs of bytes, flags, ISAR's steps,
-- tracked registers in points, and two ways that lead to one point.
use Rattle.std.proofs.Common.{◌≡◌, ℕ, Bool, true, false, List, [], ◌∷◌, map, replicate, refl}
use Rattle.std.specs.Prelude.{Option, Some, None, slice_set}
use Rattle.f8_spec.specs.Instructions.{decoded}
use Rattle.f8_spec.specs.declared.chips.PageSort.TheVariants.{Rom, Ram, Void}
use Rattle.chip_face.specs.declared.specification.ChipSpec.{ChipSpec}
use Rattle.chip_face.specs.declared.specification.ChipSpec.TheVariants.{Smi}
use Rattle.abs_domain.specs.AbstractState.{KnownStatus, KnownRegisters, AbstractState}
use Rattle.abs_step.specs.KnownResults.{known_effect, register_writes}
use Rattle.abs_step.specs.MapView.{chips_view}
use Rattle.abs_step.specs.Successors.{Invariant, start_point, start_state, successors}
use Rattle.abs_step.specs.StepView.{next_at}
use Rattle.abs_step.proofs.WorkedSteps.{page, psu}

-- a 3851 at 0 with these bytes; a 3853 with ROM 77 at 20, RAM at 28, nothing at 30, and ROM at 03, which the 3851 has too
abbrev chips : List ℕ → List ChipSpec
chips bytes = psu 0 4 bytes ∷ Smi (page Rom 3 ∷ page Rom 0x20 ∷ page Ram 0x28 ∷ page Void 0x30 ∷ []) (replicate 512 0x77) false ∷ []

-- what holds behind these bytes at 0
abbrev behind : List ℕ → List ℕ → AbstractState → List Invariant
behind bytes tracked s = next_at (chips_view (chips bytes)) tracked (record { point = start_point; state = s })

abbrev registers : KnownRegisters
registers = start_state.registers

-- D0 and every DC0 here
abbrev data_at : Option ℕ → KnownRegisters → AbstractState
data_at d0 k = record { registers = k; counters = record { d0 = d0; d1 = None; c = d0; s0 = true; s1 = true; p0 = true; p1 = true } }

abbrev flags : Option Bool → Option Bool → Option Bool → Option Bool → KnownStatus
flags sign carry none overflow = record { sign = sign; carry = carry; zero = none; overflow = overflow; icb = Some true }

-- ---- LM

abbrev read_at : Option ℕ → List (Option ℕ)
read_at d0 =
    map (λ x. x.state.registers.accumulator) (behind (0x16 ∷ 0x34 ∷ []) [] (data_at d0 (record registers { accumulator = Some 1 })))

read_rom : read_at (Some 1) ≡ Some 0x34 ∷ []
unfolding decoded known_effect register_writes successors chips_view
read_rom = refl

read_other_rom : read_at (Some 0x20FF) ≡ Some 0x77 ∷ []
unfolding decoded known_effect register_writes successors chips_view
read_other_rom = refl

read_void : read_at (Some 0x3000) ≡ Some 0xFF ∷ []
unfolding decoded known_effect register_writes successors chips_view
read_void = refl

-- RAM, nobody, both chips, and wherever
read_ram : read_at (Some 0x2800) ≡ None ∷ []
unfolding decoded known_effect register_writes successors chips_view
read_ram = refl

read_nobody : read_at (Some 0x4000) ≡ None ∷ []
unfolding decoded known_effect register_writes successors chips_view
read_nobody = refl

read_shared : read_at (Some 0x0300) ≡ None ∷ []
unfolding decoded known_effect register_writes successors chips_view
read_shared = refl

read_wherever : read_at None ≡ None ∷ []
unfolding decoded known_effect register_writes successors chips_view
read_wherever = refl

-- it leaves the flags, steps D0 and every DC0, and keeps all facts but the one of D1
read_keeps : behind (0x16 ∷ 0x34 ∷ []) []
    (data_at (Some 0xFFFF) (record registers { accumulator = Some 1; status = flags None (Some true) None (Some true) }))
    ≡ record {
      point = record start_point { at = 1 };
      state = record {
        registers = record registers { accumulator = None; status = flags None (Some true) None (Some true) };
        counters = record { d0 = Some 0; d1 = None; c = Some 0; s0 = true; s1 = true; p0 = true; p1 = false };
      };
    } ∷ []
unfolding decoded known_effect register_writes successors chips_view
read_keeps = refl

-- ---- sums and results with a known byte of ROM: 34 at 0001

abbrev after_byte : ℕ → Option ℕ → List KnownRegisters
after_byte code a =
    map (λ x. x.state.registers)
    (behind (code ∷ 0x34 ∷ []) [] (data_at (Some 1) (record registers { accumulator = a; status = flags None None None None })))

-- 34 and D0 is 104
sum_of_known : after_byte 0x88 (Some 0xD0)
    ≡ record registers { accumulator = Some 4; status = flags (Some true) (Some true) (Some false) (Some false) } ∷ []
unfolding decoded known_effect register_writes successors chips_view
sum_of_known = refl

-- of an unknown accumulator neither the sum nor a flag is known, and of a comparison the accumulator stays
sum_of_unknown : after_byte 0x88 None ≡ record registers { status = flags None None None None } ∷ []
unfolding decoded known_effect register_writes successors chips_view
sum_of_unknown = refl

-- 34, CB and 1 is 100
comparison : after_byte 0x8D (Some 0x34)
    ≡ record registers { accumulator = Some 0x34; status = flags (Some true) (Some true) (Some true) (Some false) } ∷ []
unfolding decoded known_effect register_writes successors chips_view
comparison = refl

-- 34 and 3C by AND
logic_of_known : after_byte 0x8A (Some 0x3C)
    ≡ record registers { accumulator = Some 0x34; status = flags (Some true) (Some false) (Some false) (Some false) } ∷ []
unfolding decoded known_effect register_writes successors chips_view
logic_of_known = refl

logic_of_unknown : after_byte 0x8A None ≡ record registers { status = flags None (Some false) None (Some false) } ∷ []
unfolding decoded known_effect register_writes successors chips_view
logic_of_unknown = refl

-- SR 4, and COM of an unknown accumulator
shift_of_known : after_byte 0x14 (Some 0x0F)
    ≡ record registers { accumulator = Some 0; status = flags (Some true) (Some false) (Some true) (Some false) } ∷ []
unfolding decoded known_effect register_writes successors chips_view
shift_of_known = refl

complement_of_unknown : after_byte 0x18 None ≡ record registers { status = flags None (Some false) None (Some false) } ∷ []
unfolding decoded known_effect register_writes successors chips_view
complement_of_unknown = refl

-- LNK with a known carry and an unknown accumulator
link_of_unknown : map (λ x. x.state.registers)
    (behind (0x19 ∷ []) [] (data_at None (record registers { status = flags None (Some true) None None })))
    ≡ record registers { status = flags None None None None } ∷ []
unfolding decoded known_effect register_writes successors chips_view
link_of_unknown = refl

-- loads leave the flags
load_leaves_flags : after_byte 0x20 None ≡ record registers { accumulator = Some 0x34; status = flags None None None None } ∷ []
unfolding decoded known_effect register_writes successors chips_view
load_leaves_flags = refl

small_load : after_byte 0x7F None ≡ record registers { accumulator = Some 0x0F; status = flags None None None None } ∷ []
unfolding decoded known_effect register_writes successors chips_view
small_load = refl

-- ---- pairs: LR Q,DC, LR H,DC and LR K,P

abbrev pad_after : ℕ → Option ℕ → Option ℕ → List (List (Option ℕ))
pad_after code ret d0 =
    map (λ x. x.state.registers.scratchpad)
    (next_at (chips_view (chips (code ∷ []))) [] (record { point = record start_point { ret = ret }; state = data_at d0 registers }))

data_to_q : pad_after 0x0E None (Some 0x1234) ≡ slice_set (slice_set registers.scratchpad 14 (Some 0x12)) 15 (Some 0x34) ∷ []
unfolding decoded known_effect register_writes successors chips_view
data_to_q = refl

data_to_h : pad_after 0x11 None (Some 0x1234) ≡ slice_set (slice_set registers.scratchpad 10 (Some 0x12)) 11 (Some 0x34) ∷ []
unfolding decoded known_effect register_writes successors chips_view
data_to_h = refl

return_to_k : pad_after 0x08 (Some 0x2034) None ≡ slice_set (slice_set registers.scratchpad 12 (Some 0x20)) 13 (Some 0x34) ∷ []
unfolding decoded known_effect register_writes successors chips_view
return_to_k = refl

-- and back: LR DC,H
data_from_h : map (λ x. x.state.counters)
    (behind (0x10 ∷ []) []
    (data_at None (record registers { scratchpad = slice_set (slice_set registers.scratchpad 10 (Some 0x12)) 11 (Some 0x34) })))
    ≡ record { d0 = Some 0x1234; d1 = None; c = Some 0x1234; s0 = true; s1 = true; p0 = true; p1 = false } ∷ []
unfolding decoded known_effect register_writes successors chips_view
data_from_h = refl

-- ---- ISAR: LR A,IS by both digits; and the fields 13 and 14 of AS, XS, NS, ASD and DS

abbrev isar_after : ℕ → Option ℕ → Option ℕ → List KnownRegisters
isar_after code high low =
    map (λ x. x.state.registers)
    (behind (code ∷ []) [] (data_at None (record registers {
      high = high;
      low = low;
      status = flags None None None None;
      scratchpad = replicate 64 (Some 1);
    })))

abbrev whole_pad : Option ℕ → Option ℕ → Option ℕ → KnownStatus → KnownRegisters
whole_pad a high low status = record { accumulator = a; high = high; low = low; status = status; scratchpad = replicate 64 (Some 1) }

read_isar : isar_after 0x0A (Some 7) (Some 6) ≡ whole_pad (Some 62) (Some 7) (Some 6) (flags None None None None) ∷ []
unfolding decoded known_effect register_writes successors chips_view
read_isar = refl

read_half_of_isar : isar_after 0x0A None (Some 6) ≡ whole_pad None None (Some 6) (flags None None None None) ∷ []
unfolding decoded known_effect register_writes successors chips_view
read_half_of_isar = refl

sum_steps : isar_after 0xCD (Some 7) (Some 7) ≡ whole_pad None (Some 7) (Some 0) (flags None None None None) ∷ []
unfolding decoded known_effect register_writes successors chips_view
sum_steps = refl

exclusive_or_steps : isar_after 0xEE None (Some 0) ≡ whole_pad None None (Some 7) (flags None (Some false) None (Some false)) ∷ []
unfolding decoded known_effect register_writes successors chips_view
exclusive_or_steps = refl

and_steps : isar_after 0xFD None (Some 3) ≡ whole_pad None None (Some 4) (flags None (Some false) None (Some false)) ∷ []
unfolding decoded known_effect register_writes successors chips_view
and_steps = refl

decimal_steps : isar_after 0xDE (Some 1) (Some 3) ≡ whole_pad None (Some 1) (Some 2) (flags None None None None) ∷ []
unfolding decoded known_effect register_writes successors chips_view
decimal_steps = refl

-- 1 less 1 is 0 with a carry; r17 is written, and then ISAR is stepped
decrement_steps : isar_after 0x3D (Some 2) (Some 1) ≡ record registers {
  high = Some 2;
  low = Some 2;
  status = flags (Some true) (Some true) (Some true) (Some false);
  scratchpad = slice_set (replicate 64 (Some 1)) 17 (Some 0);
} ∷ []
unfolding decoded known_effect register_writes successors chips_view
decrement_steps = refl

-- the field 12 steps nothing, and neither does one below it
no_step : isar_after 0x4C (Some 2) (Some 1) ≡ whole_pad (Some 1) (Some 2) (Some 1) (flags None None None None) ∷ []
unfolding decoded known_effect register_writes successors chips_view
no_step = refl

-- ---- two ways to one point, and two to two, the taken one first

abbrev branched : List ℕ → KnownStatus → List ℕ
branched bytes status = map (λ x. x.point.at) (behind bytes [] (data_at None (record registers { status = status })))

-- by 1 the target is the next address; by 0 it is the byte of the displacement itself
one_way : branched (0x81 ∷ 0x01 ∷ []) (flags None None None None) ≡ 2 ∷ []
unfolding decoded known_effect register_writes successors chips_view
one_way = refl

two_ways : branched (0x81 ∷ 0x00 ∷ []) (flags None None None None) ≡ 1 ∷ 2 ∷ []
unfolding decoded known_effect register_writes successors chips_view
two_ways = refl

-- a port read leaves carry and overflow clear, by which a branch goes
by_carry : branched (0x82 ∷ 0x10 ∷ []) (flags None (Some false) None (Some false)) ≡ 2 ∷ []
unfolding decoded known_effect register_writes successors chips_view
by_carry = refl

-- the one successor has the state as it was: nothing is joined away
one_way_state : behind (0x81 ∷ 0x01 ∷ []) [] (data_at (Some 5) (record registers { status = flags None None None None }))
    ≡ record { point = record start_point { at = 2 }; state = data_at (Some 5) (record registers { status = flags None None None None }) }
    ∷ []
unfolding decoded known_effect register_writes successors chips_view
one_way_state = refl

-- ---- tracked registers in points, in the order of their list

abbrev splits : List ℕ → List ℕ → KnownRegisters → List (List (Option ℕ))
splits bytes tracked k = map (λ x. x.point.split) (behind bytes tracked (data_at None k))

written : splits (0x53 ∷ []) (4 ∷ 3 ∷ [])
    (record registers { accumulator = Some 9; scratchpad = slice_set registers.scratchpad 4 (Some 8) })
    ≡ (Some 8 ∷ Some 9 ∷ replicate 6 None) ∷ []
unfolding decoded known_effect register_writes successors chips_view
written = refl

unset : splits (0x2B ∷ []) (4 ∷ 3 ∷ []) (record registers { scratchpad = slice_set registers.scratchpad 3 (Some 8) })
    ≡ (None ∷ Some 8 ∷ replicate 6 None) ∷ []
unfolding decoded known_effect register_writes successors chips_view
unset = refl
