-- The marks after a served step, row by row of their table: for any marks, computed from the definitions. Each of the 32 codes comes once.
use Rattle.std.proofs.Common.{◌≡◌, ℕ, Bool, true, false, List, [], ◌∷◌, map, refl}
use Rattle.std.specs.Prelude.{◌&&◌}
use Rattle.data_bus.specs.declared.marks.Marks.{Marks}
use Rattle.data_bus.specs.KnownAgreement.{no_halves, both_halves, marks_after}

-- some codes make this of some marks
abbrev Make : Bool → Marks → List ℕ → Marks → Type 0
Make is_parted marks codes after = map (λ romc. marks_after is_parted romc marks) codes ≡ map (λ romc. after) codes

-- the high half stays marked only where both were
program_moves : (p : Bool) (m : Marks) → Make p m (0x00 ∷ 0x01 ∷ 0x03 ∷ []) (record m { pc0 = record m.pc0 { high = m.pc0.low && m.pc0.high } })
program_moves p m = refl

data_moves : (p : Bool) (m : Marks) → Make p m (0x02 ∷ 0x05 ∷ 0x0A ∷ []) (record m { dc0 = record m.dc0 { high = m.dc0.low && m.dc0.high } })
data_moves p m = refl

-- one counter takes another's marks
returned : (p : Bool) (m : Marks) → Make p m (0x04 ∷ []) (record m { pc0 = m.pc1 })
returned p m = refl

reset : (p : Bool) (m : Marks) → Make p m (0x08 ∷ []) (record m { pc0 = both_halves; pc1 = m.pc0 })
reset p m = refl

saved : (p : Bool) (m : Marks) → Make p m (0x0D ∷ []) (record m { pc1 = record { low = m.pc0.low; high = m.pc0.low && m.pc0.high } })
saved p m = refl

called : (p : Bool) (m : Marks) → Make p m (0x0F ∷ 0x12 ∷ []) (record m { pc0 = record m.pc0 { low = true }; pc1 = m.pc0 })
called p m = refl

-- a half is set by the byte on the bus
program_low : (p : Bool) (m : Marks) → Make p m (0x0C ∷ 0x17 ∷ []) (record m { pc0 = record m.pc0 { low = true } })
program_low p m = refl

program_high : (p : Bool) (m : Marks) → Make p m (0x13 ∷ 0x14 ∷ []) (record m { pc0 = record m.pc0 { high = true } })
program_high p m = refl

stack_low : (p : Bool) (m : Marks) → Make p m (0x18 ∷ []) (record m { pc1 = record m.pc1 { low = true } })
stack_low p m = refl

stack_high : (p : Bool) (m : Marks) → Make p m (0x15 ∷ []) (record m { pc1 = record m.pc1 { high = true } })
stack_high p m = refl

data_low : (p : Bool) (m : Marks) → Make p m (0x0E ∷ 0x19 ∷ []) (record m { dc0 = record m.dc0 { low = true } })
data_low p m = refl

data_high : (p : Bool) (m : Marks) → Make p m (0x11 ∷ 0x16 ∷ []) (record m { dc0 = record m.dc0 { high = true } })
data_high p m = refl

-- the data counters change places: where each chip with a page has two, and where one has not
exchanged : (m : Marks) → Make false m (0x1D ∷ []) (record m { dc0 = m.dc1; dc1 = m.dc0 })
exchanged m = refl

exchanged_parted : (m : Marks) → Make true m (0x1D ∷ []) (record m { dc0 = no_halves; dc1 = m.dc0 })
exchanged_parted m = refl

-- no other code moves a counter
others : (p : Bool) (m : Marks) → Make p m (0x06 ∷ 0x07 ∷ 0x09 ∷ 0x0B ∷ 0x10 ∷ 0x1A ∷ 0x1B ∷ 0x1C ∷ 0x1E ∷ 0x1F ∷ []) m
others p m = refl
