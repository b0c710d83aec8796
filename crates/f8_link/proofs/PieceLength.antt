-- A statement's piece has as many bytes as the statement takes.
use Rattle.std.proofs.Common.{◌≡◌, ℕ, ◌+◌, ◌*◌, List, [], ◌∷◌, length, Result, Ok, refl, sym, ap, ◌∙◌, arith, length-append}
use Rattle.f8_spec.specs.Instructions.{encoded}
use Rattle.f8_asm.specs.Answers.{◌>>=◌}
use Rattle.f8_asm.specs.Bytes.{word_bytes}
use Rattle.f8_asm.specs.Judging.{unsigned_value, byte}
use Rattle.f8_asm.specs.Statements.{item_size, single_size, statement_size}
use Rattle.f8_asm.specs.declared.operands.Operand.{Operand}
use Rattle.f8_asm.specs.declared.operands.Statement.{Statement}
use Rattle.f8_asm.specs.declared.operands.Statement.TheVariants.{Nothing, Fixed, One, Test, Items}
use Rattle.f8_asm.specs.declared.words.ItemSize.{ItemSize}
use Rattle.f8_asm.specs.declared.words.ItemSize.TheVariants as item
use Rattle.f8_asm.specs.declared.words.Single.{Single}
use Rattle.f8_asm.specs.declared.words.Single.TheVariants as single
use Rattle.f8_asm.proofs.Alike.{read-ok}
use Rattle.f8_link.specs.declared.faults.ModuleLineFault.{ModuleLineFault}
use Rattle.f8_link.specs.declared.values.Base.TheVariants.{Module, Import}
use Rattle.f8_link.specs.declared.values.Found.{Found}
use Rattle.f8_link.specs.declared.values.Found.TheVariants as found
use Rattle.f8_link.specs.declared.values.Value.TheVariants.{Constant, Placed}
use Rattle.f8_link.specs.Answers.{line_told}
use Rattle.f8_link.specs.Pieces.{Piece, whole, behind, joined, constant_operand, byte_in, word_in, displaced, branch_in, byte_of, word_of}
use Rattle.f8_link.specs.Pieces.{branch_of}
use Rattle.f8_link.specs.Pieces.{number_of, field_of, single_piece, item_piece, list_piece, piece_of}

abbrev piece_told : Piece → Result Piece ModuleLineFault
piece_told p = Ok p

told_length : (p piece : Piece) → piece_told p ≡ Ok piece → length piece.bytes ≡ length p.bytes
told_length p piece is = let same : p ≡ piece = cc is in ap (λ (q : Piece). length q.bytes) (sym same)

read_length : {A : Type 0} (r : Result A ModuleLineFault) (f : A → Piece) (n : ℕ) (piece : Piece) → (r >>= λ x. Ok (f x)) ≡ Ok piece
    → ((x : A) → r ≡ Ok x → length (f x).bytes ≡ n) → length piece.bytes ≡ n
read_length r f n piece is size = read-ok (length piece.bytes ≡ n) r (λ x. Ok (f x)) piece is (λ x at_x e. told_length (f x) piece e ∙ size x at_x)

byte_length : (offset column : ℕ) (x : Found) (piece : Piece) → byte_in offset column x ≡ Ok piece → length piece.bytes ≡ 1
byte_length offset column (found.Value (Constant v)) piece is =
    read_length (line_told (byte (constant_operand column v))) (λ b. whole (b ∷ [])) 1 piece is (λ b at_b. refl)
byte_length offset column (found.Value (Placed base k)) piece is = told_length _ piece is
byte_length offset column (found.Half half base k) piece is = told_length _ piece is
byte_length offset column found.OutOfRange piece is = cc is
byte_length offset column found.Shapeless piece is = cc is
byte_length offset column (found.Undefined at) piece is = cc is

word_length : (offset column : ℕ) (x : Found) (piece : Piece) → word_in offset column x ≡ Ok piece → length piece.bytes ≡ 2
word_length offset column (found.Value (Constant v)) piece is =
    read_length (line_told (unsigned_value 65535 (constant_operand column v))) (λ w. whole (word_bytes w)) 2 piece is (λ w at_w. refl)
word_length offset column (found.Value (Placed base k)) piece is = told_length _ piece is
word_length offset column (found.Half half base k) piece is = told_length _ piece is
word_length offset column found.OutOfRange piece is = cc is
word_length offset column found.Shapeless piece is = cc is
word_length offset column (found.Undefined at) piece is = cc is

branch_length : (offset column : ℕ) (x : Found) (piece : Piece) → branch_in offset column x ≡ Ok piece → length piece.bytes ≡ 1
branch_length offset column (found.Value (Constant v)) piece is = told_length _ piece is
branch_length offset column (found.Value (Placed Module k)) piece is =
    read_length (displaced column offset k) (λ d. whole (d ∷ [])) 1 piece is (λ d at_d. refl)
branch_length offset column (found.Value (Placed (Import i) k)) piece is = told_length _ piece is
branch_length offset column (found.Half half base k) piece is = cc is
branch_length offset column found.OutOfRange piece is = cc is
branch_length offset column found.Shapeless piece is = cc is
branch_length offset column (found.Undefined at) piece is = cc is

single_length : (offset : ℕ) (what : Single) (o : Operand Found) (piece : Piece) → single_piece offset what o ≡ Ok piece
    → length piece.bytes ≡ single_size what
single_length offset (single.Byte code) o piece is =
    read_length (byte_of (offset + 1) o) (behind code) 2 piece is
    (λ q at_q. let size = byte_length (offset + 1) o.column o.value q at_q in omega (arith, size))
single_length offset (single.Port code) o piece is = read_length (number_of 255 o) (λ b. whole (code ∷ b ∷ [])) 2 piece is (λ b at_b. refl)
single_length offset (single.Word code) o piece is =
    read_length (word_of (offset + 1) o) (behind code) 3 piece is
    (λ q at_q. let size = word_length (offset + 1) o.column o.value q at_q in omega (arith, size))
single_length offset (single.Branch code) o piece is =
    read_length (branch_of (offset + 1) o) (behind code) 2 piece is
    (λ q at_q. let size = branch_length (offset + 1) o.column o.value q at_q in omega (arith, size))
single_length offset (single.Small f) o piece is = read_length (field_of f o) (λ op. whole (encoded op ∷ [])) 1 piece is (λ op at_op. refl)
single_length offset single.Org o piece is = told_length (whole []) piece is
single_length offset single.Equ o piece is = told_length (whole []) piece is

item_length : (offset : ℕ) (size : ItemSize) (o : Operand Found) (piece : Piece) → item_piece offset size o ≡ Ok piece → length piece.bytes ≡ item_size size
item_length offset item.Byte o piece is = byte_length offset o.column o.value piece is
item_length offset item.Word o piece is = word_length offset o.column o.value piece is

list_length : (offset : ℕ) (size : ItemSize) (os : List (Operand Found)) (piece : Piece) → list_piece offset size os ≡ Ok piece
    → length piece.bytes ≡ item_size size * length os
unfolding list_piece
list_length offset size [] piece is = let none = told_length (whole []) piece is in omega (arith, none)
list_length offset size (o ∷ os) piece is =
    read-ok (length piece.bytes ≡ item_size size * length (o ∷ os)) (item_piece offset size o) _ piece is (λ front at_front h.
    read-ok (length piece.bytes ≡ item_size size * length (o ∷ os)) (list_piece (offset + length front.bytes) size os) _ piece h (λ rest at_rest e.
    let whole = told_length (joined front rest) piece e in
    let one = item_length offset size o front at_front in
    let others = list_length (offset + length front.bytes) size os rest at_rest in
    let both = length-append front.bytes rest.bytes in
    grind (arith, one, others, both, whole)))

pub piece_length : (offset : ℕ) (st : Statement Found) (piece : Piece) → piece_of offset st ≡ Ok piece → length piece.bytes ≡ statement_size st
piece_length offset Nothing piece is = told_length (whole []) piece is
piece_length offset (Fixed code) piece is = told_length (whole (code ∷ [])) piece is
piece_length offset (One what o) piece is = single_length offset what o piece is
piece_length offset (Test f bits place) piece is =
    read-ok (length piece.bytes ≡ 2) (field_of f bits) _ piece is (λ op at_op h.
    read_length (branch_of (offset + 1) place) (behind (encoded op)) 2 piece h
    (λ q at_q. let size = branch_length (offset + 1) place.column place.value q at_q in omega (arith, size)))
piece_length offset (Items size os) piece is = list_length offset size os piece is
