-- Sockets and chips with a byte of their own, worked out by hand and computed from the definitions.
use Rattle.std.proofs.Common.{◌≡◌, ℕ, false, List, [], ◌∷◌, ◌++◌, replicate, Some, None, refl}
use Rattle.f8_spec.specs.ChipState.{ChipView, blank_view}
use Rattle.f8_spec.specs.Flags.{clear_status, status_byte}
use Rattle.f8_spec.specs.Instructions.{decoded}
use Rattle.f8_spec.specs.declared.chips.ChipKind.{ChipKind}
use Rattle.f8_spec.specs.declared.chips.ChipKind.TheVariants as kind
use Rattle.f8_spec.specs.declared.chips.PageSort.TheVariants.{Ram}
use Rattle.chip_face.specs.declared.specification.ChipSpec.{ChipSpec}
use Rattle.chip_face.specs.declared.specification.ChipSpec.TheVariants.{Blank, Psu, Smi, Pio}
use Rattle.console_spec.specs.FlatMemory.{first_memory}
use Rattle.console_spec.specs.FlatStep.{chosen_at}
use Rattle.f8_spec.specs.ShiftTimer.{steps_to_expiry}
use Rattle.console_spec.specs.Processor.{own_inputs, effect}
use Rattle.console_spec.specs.Run.{Ending, Done, Reserved}
use Rattle.console_spec.specs.Telling.{telling, played_by}
use Rattle.console_spec.proofs.Played.{played}
use Rattle.rack_run.specs.Seating.{no_sockets, seated_from, fitted_views}
use Rattle.rack_run.specs.Sockets.{shortage_of, chain_of}

-- a 3851 at 0 with LIS 1, NOP, and a branch to the NOP
abbrev described : ChipSpec
described = Psu 0 (0x71 ∷ 0x2B ∷ 0x90 ∷ 0xFE ∷ replicate 1020 255) 4 0 false

-- a 3853 with the page of RAM that has this number
abbrev ram : ℕ → ChipSpec
ram number = Smi (record { number = number; sort = Ram } ∷ []) [] false

-- ---- sockets

-- twelve for 3851s and two for 3853s
abbrev own_sockets : List ChipKind
own_sockets = replicate 12 kind.Psu ++ replicate 2 kind.Smi

empty_rack : shortage_of (described ∷ []) [] ≡ Some (record { kind = kind.Psu; need = 1; have = 0 })
empty_rack = refl

thirteen_psus : shortage_of (replicate 13 described) own_sockets ≡ Some (record { kind = kind.Psu; need = 13; have = 12 })
thirteen_psus = refl

three_smis : shortage_of (described ∷ ram 0x28 ∷ ram 0x29 ∷ ram 0x2A ∷ []) own_sockets ≡ Some (record { kind = kind.Smi; need = 3; have = 2 })
three_smis = refl

-- the same with two sockets for 3861s behind them
abbrev three_kinds : List ChipKind
three_kinds = own_sockets ++ replicate 2 kind.Pio

-- a 3861 with these four ports
abbrev pio : ℕ → ChipSpec
pio ports = Pio ports 0 false

three_pios : shortage_of (pio 8 ∷ pio 12 ∷ pio 16 ∷ []) three_kinds ≡ Some (record { kind = kind.Pio; need = 3; have = 2 })
three_pios = refl

-- the kind of the first chip described doesn't say which shortage is told
smis_before_pios : shortage_of (pio 8 ∷ pio 12 ∷ pio 16 ∷ ram 0x28 ∷ ram 0x29 ∷ ram 0x2A ∷ []) three_kinds
    ≡ Some (record { kind = kind.Smi; need = 3; have = 2 })
smis_before_pios = refl

one_chip : shortage_of (described ∷ []) own_sockets ≡ None
one_chip = refl

-- ---- a rack of one 3851 that has a byte of its own at an address

abbrev patched : ℕ → ℕ → List ChipView
patched at byte =
    fitted_views (described ∷ [])
    (record { view = blank_view kind.Psu; heard_steps = None; patch = Some (at, byte) } ∷ [])

-- INC in place of NOP
abbrev with_inc : Ending
with_inc = played (patched 0x0001 0x1F) 0 3

with_inc_stop : with_inc.stop ≡ Done
unfolding played_by telling own_inputs chosen_at steps_to_expiry effect decoded first_memory
with_inc_stop = refl

with_inc_place : with_inc.position.flat.state.flow.p ≡ 1
unfolding played_by telling own_inputs chosen_at steps_to_expiry effect decoded first_memory
with_inc_place = refl

with_inc_accumulator : with_inc.position.flat.state.registers.accumulator ≡ 0x02
unfolding played_by telling own_inputs chosen_at steps_to_expiry effect decoded first_memory
with_inc_accumulator = refl

with_inc_status : status_byte with_inc.position.flat.state.registers.status ≡ 0x01
unfolding played_by telling own_inputs chosen_at steps_to_expiry effect decoded first_memory
with_inc_status = refl

with_inc_count : with_inc.position.flat.state.count ≡ 3
unfolding played_by telling own_inputs chosen_at steps_to_expiry effect decoded first_memory
with_inc_count = refl

with_inc_clocks : with_inc.position.flat.state.phi ≡ 36
unfolding played_by telling own_inputs chosen_at steps_to_expiry effect decoded first_memory
with_inc_clocks = refl

-- a reserved opcode in place of LIS 1
abbrev with_reserved : Ending
with_reserved = played (patched 0x0000 0x2D) 0 3

with_reserved_stop : with_reserved.stop ≡ Reserved 0 0x2D
unfolding played_by telling own_inputs chosen_at steps_to_expiry effect decoded first_memory
with_reserved_stop = refl

with_reserved_state : with_reserved.position.flat.state ≡ record {
  flow = record { p = 0; p1 = 0; d0 = 0; d1 = 0 };
  registers = record { accumulator = 0; isar = 0; status = clear_status; scratchpad = replicate 64 0 };
  keys = replicate 256 0;
  writes = [];
  acknowledged = [];
  pulses = [];
  count = 0;
  phi = 14;
}
unfolding played_by telling own_inputs chosen_at steps_to_expiry effect decoded first_memory
with_reserved_state = refl

-- ---- the chain of a description

-- a 3853 and two 3851s, on a rack whose sockets are of these kinds: each sits in the first socket of its kind that is left
mixed_chain : chain_of (ram 0x28 ∷ described ∷ described ∷ [])
    (kind.Psu ∷ kind.Smi ∷ kind.Psu ∷ kind.Psu ∷ []) ≡ 1 ∷ 0 ∷ 2 ∷ []
mixed_chain = refl

own_chain : chain_of (described ∷ ram 0x28 ∷ described ∷ ram 0x29 ∷ []) own_sockets ≡ 0 ∷ 12 ∷ 1 ∷ 13 ∷ []
own_chain = refl

-- a 3861 sits in a socket of its own kind alone
three_kinds_chain : chain_of (pio 8 ∷ described ∷ pio 12 ∷ ram 0x28 ∷ []) three_kinds ≡ 14 ∷ 0 ∷ 15 ∷ 12 ∷ []
three_kinds_chain = refl

-- and a blank one of its kind where there are no more of them
three_kinds_seats : seated_from (pio 8 ∷ []) no_sockets (kind.Pio ∷ kind.Smi ∷ kind.Pio ∷ []) ≡ pio 8 ∷ Blank kind.Smi ∷ Blank kind.Pio ∷ []
three_kinds_seats = refl

-- a chip for which there is no socket is left out
short_chain : chain_of (ram 0x28 ∷ described ∷ []) (kind.Psu ∷ []) ≡ 0 ∷ []
short_chain = refl
