-- The bytes of a generated cartridge: a large valid input that anyone can make again from one number. All of it is this project's own.
use Rattle.std.specs.Prelude.{ℕ, zero, suc, ◌+◌, ◌*◌, ◌/◌, ◌%◌, List, [], ◌∷◌, ◌++◌, slice_index}

-- the next state of the draws, and the byte that a state gives
abbrev pub next_draw : ℕ → ℕ
next_draw x = (1664525 * x + 1013904223) % 4294967296

abbrev pub drawn_byte : ℕ → ℕ
drawn_byte x = x / 16777216

-- the opcodes that are drawn from: shifts, COM, LNK, INC, the scratchpad's, DS 3 and OUTS 4
abbrev pub opcodes : List ℕ
opcodes = 0x12 ∷ 0x13 ∷ 0x14 ∷ 0x15 ∷ 0x18 ∷ 0x19 ∷ 0x1F ∷ 0x40 ∷ 0x51 ∷ 0x52 ∷ 0xC1 ∷ 0xD2 ∷ 0xE3 ∷ 0xF4 ∷ 0x33 ∷ 0xB4 ∷ []

abbrev pub drawn_opcode : ℕ → ℕ
drawn_opcode x = slice_index opcodes (drawn_byte x % 16)

-- so many drawn opcodes, from a state on
unfoldable pub opcodes_from : ℕ → ℕ → List ℕ
opcodes_from zero x = []
opcodes_from (suc n) x = drawn_opcode (next_draw x) ∷ opcodes_from n (next_draw x)

-- the 12,288 bytes: drawn opcodes up to 2FFC, and then a jump to 0000
unfoldable pub generated : ℕ → List ℕ
generated seed = opcodes_from 12285 seed ++ 0x29 ∷ 0x00 ∷ 0x00 ∷ []
