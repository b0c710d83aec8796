-- The bytes of statements.
use Rattle.std.specs.Prelude.{ℕ, ◌/◌, ◌%◌, List, [], ◌∷◌, ◌++◌, Result, Ok}
use Rattle.f8_spec.specs.Instructions.{encoded}
use Rattle.f8_asm.specs.declared.faults.LineFault.{LineFault}
use Rattle.f8_asm.specs.declared.operands.Operand.{Operand}
use Rattle.f8_asm.specs.declared.operands.Statement.{Statement}
use Rattle.f8_asm.specs.declared.values.Outcome.{Outcome}
use Rattle.f8_asm.specs.declared.operands.Statement.TheVariants.{Nothing, Fixed, One, Test, Items}
use Rattle.f8_asm.specs.declared.words.Single.{Single}
use Rattle.f8_asm.specs.declared.words.Single.TheVariants as single
use Rattle.f8_asm.specs.declared.words.ItemSize.{ItemSize}
use Rattle.f8_asm.specs.declared.words.ItemSize.TheVariants as item
use Rattle.f8_asm.specs.Answers.{◌>>=◌}
use Rattle.f8_asm.specs.Judging.{unsigned_value, byte, displacement, with_field}

-- a word, high byte first
abbrev pub word_bytes : ℕ → List ℕ
word_bytes w = (w / 256) ∷ (w % 256) ∷ []

-- a statement with one operand, at this address
abbrev pub single_bytes : ℕ → Single → Operand Outcome → Result (List ℕ) LineFault
single_bytes address (single.Byte code) o = byte o >>= λ b. Ok (code ∷ b ∷ [])
single_bytes address (single.Port code) o = unsigned_value 255 o >>= λ b. Ok (code ∷ b ∷ [])
single_bytes address (single.Word code) o = unsigned_value 65535 o >>= λ w. Ok (code ∷ word_bytes w)
single_bytes address (single.Branch code) o = displacement address o >>= λ d. Ok (code ∷ d ∷ [])
single_bytes address (single.Small field) o = with_field field o >>= λ op. Ok (encoded op ∷ [])
single_bytes address single.Org o = Ok []
single_bytes address single.Equ o = Ok []

abbrev pub item_bytes : ItemSize → Operand Outcome → Result (List ℕ) LineFault
item_bytes item.Byte o = byte o >>= λ b. Ok (b ∷ [])
item_bytes item.Word o = unsigned_value 65535 o >>= λ w. Ok (word_bytes w)

unfoldable pub list_bytes : ItemSize → List (Operand Outcome) → Result (List ℕ) LineFault
list_bytes size [] = Ok []
list_bytes size (o ∷ os) = item_bytes size o >>= λ front. list_bytes size os >>= λ rest. Ok (front ++ rest)

-- the bytes of a statement at this address
abbrev pub bytes_of : ℕ → Statement Outcome → Result (List ℕ) LineFault
bytes_of address Nothing = Ok []
bytes_of address (Fixed code) = Ok (code ∷ [])
bytes_of address (One what o) = single_bytes address what o
bytes_of address (Test field bits place) = with_field field bits >>= λ op. displacement address place >>= λ d. Ok (encoded op ∷ d ∷ [])
bytes_of address (Items size os) = list_bytes size os
