-- The bytes of a module's statements, and what linking puts into them.
use Rattle.std.specs.Prelude.{ℕ, ℤ, pos, ◌+◌, ◌-ℤ◌, List, [], ◌∷◌, ◌++◌, length, Option, Some, None, Result, Ok, Err}
use Rattle.f8_spec.specs.Instructions.{encoded}
use Rattle.f8_spec.specs.declared.instructions.Op.{Op}
use Rattle.f8_asm.specs.Answers.{◌>>=◌}
use Rattle.f8_asm.specs.Bytes.{word_bytes}
use Rattle.f8_asm.specs.Fields.{octet}
use Rattle.f8_asm.specs.Judging.{unsigned_value, byte, with_field}
use Rattle.f8_asm.specs.declared.answers.AsmCause.TheVariants as cause
use Rattle.f8_asm.specs.declared.fields.Field.{Field}
use Rattle.f8_asm.specs.declared.operands.Operand.{Operand}
use Rattle.f8_asm.specs.declared.operands.Statement.{Statement}
use Rattle.f8_asm.specs.declared.operands.Statement.TheVariants.{Nothing, Fixed, One, Test, Items}
use Rattle.f8_asm.specs.declared.values.Outcome.{Outcome}
use Rattle.f8_asm.specs.declared.values.Outcome.TheVariants as outcome
use Rattle.f8_asm.specs.declared.words.ItemSize.{ItemSize}
use Rattle.f8_asm.specs.declared.words.ItemSize.TheVariants as item
use Rattle.f8_asm.specs.declared.words.Single.{Single}
use Rattle.f8_asm.specs.declared.words.Single.TheVariants as single
use Rattle.f8_link.specs.declared.answers.ModCause.TheVariants.{Asm, Shape}
use Rattle.f8_link.specs.declared.faults.ModuleLineFault.{ModuleLineFault}
use Rattle.f8_link.specs.declared.objects.Fixup.{Fixup}
use Rattle.f8_link.specs.declared.objects.FixupKind.{FixupKind}
use Rattle.f8_link.specs.declared.objects.FixupKind.TheVariants as kind
use Rattle.f8_link.specs.declared.values.Base.{Base}
use Rattle.f8_link.specs.declared.values.Base.TheVariants.{Module, Import}
use Rattle.f8_link.specs.declared.values.Found.{Found}
use Rattle.f8_link.specs.declared.values.Found.TheVariants as found
use Rattle.f8_link.specs.declared.values.Half.{Half}
use Rattle.f8_link.specs.declared.values.Half.TheVariants.{Low, High}
use Rattle.f8_link.specs.declared.values.Value.TheVariants.{Constant, Placed}
use Rattle.f8_link.specs.Answers.{fault_at, line_told}

-- bytes, and what linking puts into them
pub record Piece : Type 0 where
  pub bytes : List ℕ
  pub fixups : List Fixup

-- bytes that are known
abbrev pub whole : List ℕ → Piece
whole bytes = record { bytes = bytes; fixups = [] }

-- bytes into which linking puts one thing
abbrev pub open_at : List ℕ → ℕ → FixupKind → Option Base → ℤ → Piece
open_at bytes offset what base k = record { bytes = bytes; fixups = record { offset = offset; kind = what; base = base; k = k } ∷ [] }

-- an opcode and what stands behind it
abbrev pub behind : ℕ → Piece → Piece
behind code p = record { bytes = code ∷ p.bytes; fixups = p.fixups }

abbrev pub joined : Piece → Piece → Piece
joined p q = record { bytes = p.bytes ++ q.bytes; fixups = p.fixups ++ q.fixups }

abbrev pub kind_of : Half → FixupKind
kind_of Low = kind.Low
kind_of High = kind.High

-- ---- operands

-- an operand that is a constant, for the assembler
abbrev pub constant_operand : ℕ → ℤ → Operand Outcome
constant_operand column v = record { column = column; value = outcome.Value v }

-- why an operand has no value that may stand in its place
abbrev pub no_value : ℕ → Found → ModuleLineFault
no_value column found.OutOfRange = fault_at column (Asm cause.Range)
no_value column (found.Undefined at) = fault_at at (Asm cause.Undefined)
no_value column other = fault_at column Shape

-- a value that may not be placed
abbrev pub constant_in : ℕ → Found → Result ℤ ModuleLineFault
constant_in column (found.Value (Constant v)) = Ok v
constant_in column other = Err (no_value column other)

abbrev pub constant_of : Operand Found → Result ℤ ModuleLineFault
constant_of o = constant_in o.column o.value

-- a number that may not be placed, from 0 to `last`
abbrev pub number_of : ℕ → Operand Found → Result ℕ ModuleLineFault
number_of last o = constant_of o >>= λ v. line_told (unsigned_value last (constant_operand o.column v))

-- and one in the field of an instruction
abbrev pub field_of : Field → Operand Found → Result Op ModuleLineFault
field_of field o = constant_of o >>= λ v. line_told (with_field field (constant_operand o.column v))

-- a byte at an offset
abbrev pub byte_in : ℕ → ℕ → Found → Result Piece ModuleLineFault
byte_in offset column (found.Value (Constant v)) = line_told (byte (constant_operand column v)) >>= λ b. Ok (whole (b ∷ []))
byte_in offset column (found.Value (Placed base k)) = Ok (open_at (0 ∷ []) offset kind.Byte (Some base) k)
byte_in offset column (found.Half half base k) = Ok (open_at (0 ∷ []) offset (kind_of half) (Some base) k)
byte_in offset column other = Err (no_value column other)

abbrev pub byte_of : ℕ → Operand Found → Result Piece ModuleLineFault
byte_of offset o = byte_in offset o.column o.value

-- a word, high byte first; a half is its second byte
abbrev pub word_in : ℕ → ℕ → Found → Result Piece ModuleLineFault
word_in offset column (found.Value (Constant v)) = line_told (unsigned_value 65535 (constant_operand column v)) >>= λ w. Ok (whole (word_bytes w))
word_in offset column (found.Value (Placed base k)) = Ok (open_at (0 ∷ 0 ∷ []) offset kind.Word (Some base) k)
word_in offset column (found.Half half base k) = Ok (open_at (0 ∷ 0 ∷ []) (offset + 1) (kind_of half) (Some base) k)
word_in offset column other = Err (no_value column other)

abbrev pub word_of : ℕ → Operand Found → Result Piece ModuleLineFault
word_of offset o = word_in offset o.column o.value

-- the displacement at an offset that leads to a place so far from the module's first byte: -128 to 127
abbrev pub reached : ℕ → Option ℕ → Result ℕ ModuleLineFault
reached column (Some d) = Ok d
reached column None = Err (fault_at column (Asm cause.BranchRange))

abbrev pub displaced : ℕ → ℕ → ℤ → Result ℕ ModuleLineFault
displaced column offset place = reached column (octet 127 (place -ℤ pos offset))

-- the displacement byte of a branch, at an offset: one to a place of the module is judged here, any other by linking
abbrev pub branch_in : ℕ → ℕ → Found → Result Piece ModuleLineFault
branch_in offset column (found.Value (Constant v)) = Ok (open_at (0 ∷ []) offset kind.Branch None v)
branch_in offset column (found.Value (Placed Module k)) = displaced column offset k >>= λ d. Ok (whole (d ∷ []))
branch_in offset column (found.Value (Placed (Import i) k)) = Ok (open_at (0 ∷ []) offset kind.Branch (Some (Import i)) k)
branch_in offset column other = Err (no_value column other)

abbrev pub branch_of : ℕ → Operand Found → Result Piece ModuleLineFault
branch_of offset o = branch_in offset o.column o.value

-- ---- statements, each at its offset

abbrev pub single_piece : ℕ → Single → Operand Found → Result Piece ModuleLineFault
single_piece offset (single.Byte code) o = byte_of (offset + 1) o >>= λ p. Ok (behind code p)
single_piece offset (single.Port code) o = number_of 255 o >>= λ b. Ok (whole (code ∷ b ∷ []))
single_piece offset (single.Word code) o = word_of (offset + 1) o >>= λ p. Ok (behind code p)
single_piece offset (single.Branch code) o = branch_of (offset + 1) o >>= λ p. Ok (behind code p)
single_piece offset (single.Small field) o = field_of field o >>= λ op. Ok (whole (encoded op ∷ []))
single_piece offset single.Org o = Ok (whole [])
single_piece offset single.Equ o = Ok (whole [])

abbrev pub item_piece : ℕ → ItemSize → Operand Found → Result Piece ModuleLineFault
item_piece offset item.Byte o = byte_of offset o
item_piece offset item.Word o = word_of offset o

unfoldable pub list_piece : ℕ → ItemSize → List (Operand Found) → Result Piece ModuleLineFault
list_piece offset size [] = Ok (whole [])
list_piece offset size (o ∷ os) =
    item_piece offset size o >>= λ front. list_piece (offset + length front.bytes) size os >>= λ rest. Ok (joined front rest)

abbrev pub piece_of : ℕ → Statement Found → Result Piece ModuleLineFault
piece_of offset Nothing = Ok (whole [])
piece_of offset (Fixed code) = Ok (whole (code ∷ []))
piece_of offset (One what o) = single_piece offset what o
piece_of offset (Test field bits place) = field_of field bits >>= λ op. branch_of (offset + 1) place >>= λ p. Ok (behind (encoded op) p)
piece_of offset (Items size os) = list_piece offset size os
