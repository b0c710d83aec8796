-- The copies of the counters, one set in each chip. An instruction changes each set by the flat machine's table, read on that set: with
-- the operands, the registers, the branch and the interrupt of the flat machine. Nothing says that the copies agree.
use Rattle.std.specs.Prelude.{ℕ, List, map, if◌then◌else◌}
use Rattle.f8_spec.specs.Words.{places_on}
use Rattle.f8_spec.specs.BusCodes.{Count, count_at}
use Rattle.f8_spec.specs.ChipState.{has_counters, has_second_counter}
use Rattle.f8_spec.specs.BusArbitration.{Seat}
use Rattle.f8_spec.specs.declared.chips.ChipKind.{ChipKind}
use Rattle.f8_spec.specs.declared.instructions.Row.{Row}
use Rattle.console_spec.specs.Processor.{Flow, Inputs, counters_after}

-- ---- counters between instructions

-- Between two instructions the program counter is one past the next one, since its opcode was fetched.
abbrev pub fetched : Flow → Count
fetched c = record { pc0 = places_on c.p 1; pc1 = c.p1; dc0 = c.d0; dc1 = c.d1 }

-- Before the last fetch it is at the next instruction.
abbrev pub resting : Flow → Count
resting c = record { pc0 = c.p; pc1 = c.p1; dc0 = c.d0; dc1 = c.d1 }

-- At power-on it is where the stack register is, to which reset brings it.
abbrev pub unreset : Flow → Count
unreset c = record { pc0 = c.p1; pc1 = c.p1; dc0 = c.d0; dc1 = c.d1 }

-- ---- copies

-- A chip's own counters, with what the bus reads of the chip. One without counters has a set too, which is moved as the others are, so that
-- the sets of a rack stand in the order of its chips. What it holds decides nothing: `own_counts` gives 0 there, and `own_place` goes by it
-- for the port alone, which is the same in every set.
pub record Copy : Type 0 where
  pub seat : Seat
  pub flow : Flow

-- the counters of a chip that has any, and 0 for each of another
abbrev pub own_counts : ChipKind → Count → Count
own_counts kind c = if has_counters kind then c else count_at 0

abbrev pub copy_after : Row → Inputs → Copy → Copy
copy_after row i c = record c { flow = counters_after row i (has_second_counter c.seat.kind) c.flow }

abbrev pub copies_after : Row → Inputs → List Copy → List Copy
copies_after row i cs = map (copy_after row i) cs

-- ---- power-on and reset

-- Reset brings the program counter to the stack register, and the next address to 0; the data counters stay.
abbrev pub reset_flow : ℕ → Flow
reset_flow start = record { p = 0; p1 = start; d0 = start; d1 = start }

-- the copy of the chip in a socket after reset, by the address at which the counters of each stand at power-on
abbrev pub reset_copy : (ℕ → ℕ) → ℕ × Seat → Copy
reset_copy start x = record { seat = x.1; flow = reset_flow (start x.0) }
