-- The one text of bytes: a statement a line, with no alias.
use Rattle.std.specs.Borrow.{Bor}
use Rattle.std.specs.Prelude.{ℕ, zero, suc, ◌+◌, ◌-◌, ◌*◌, ◌<◌, ◌==◌, nat_lt, nat_le, List, [], ◌∷◌, ◌++◌, codes, unwrap_or, Option, Some}
use Rattle.std.specs.Prelude.{None, if◌then◌else◌}
use Rattle.f8_spec.specs.RegisterNumbers.{pointed_field, up_field, down_field}
use Rattle.f8_spec.specs.Spelling.{hex2, hex4}
use Rattle.f8_spec.specs.Instructions.{decoded, row_of, mnemonic_of}
use Rattle.f8_spec.specs.declared.instructions.Op.{Op}
use Rattle.f8_spec.specs.declared.instructions.Op.TheVariants as op
use Rattle.f8_spec.specs.declared.instructions.Row.{Row}
use Rattle.f8_spec.specs.declared.instructions.Row.TheVariants as row
use Rattle.f8_asm.specs.declared.spelling.Entry.{Entry}
use Rattle.f8_asm.specs.declared.spelling.Entry.TheVariants as entry
use Rattle.f8_asm.specs.declared.spelling.FieldText.{FieldText}
use Rattle.f8_asm.specs.declared.spelling.FieldText.TheVariants as text
use Rattle.f8_asm.specs.declared.pieces.Piece.{Piece}
use Rattle.f8_asm.specs.declared.pieces.Tail.{Tail}
use Rattle.f8_asm.specs.declared.pieces.Tail.TheVariants as tail

-- ---- how a statement is written

-- a number below 16 in decimal
abbrev pub small_decimal : ℕ → List ℕ
small_decimal n = if nat_lt n 10 then (48 + n) ∷ [] else 49 ∷ (38 + n) ∷ []

-- a register: 12 to 14 have words
abbrev pub register_text : ℕ → List ℕ
register_text r =
    if r == pointed_field then codes "S" else
    if r == up_field then codes "I" else
    if r == down_field then codes "D" else
    small_decimal r

-- the operands of an LR between two registers that words alone name
unfoldable pub pair_text : Op → Option (List ℕ)
pair_text op.LrAKu = Some (codes " A,KU")
pair_text op.LrAKl = Some (codes " A,KL")
pair_text op.LrAQu = Some (codes " A,QU")
pair_text op.LrAQl = Some (codes " A,QL")
pair_text op.LrKuA = Some (codes " KU,A")
pair_text op.LrKlA = Some (codes " KL,A")
pair_text op.LrQuA = Some (codes " QU,A")
pair_text op.LrQlA = Some (codes " QL,A")
pair_text op.LrKP = Some (codes " K,P")
pair_text op.LrPK = Some (codes " P,K")
pair_text op.LrAIs = Some (codes " A,IS")
pair_text op.LrIsA = Some (codes " IS,A")
pair_text op.LrP0Q = Some (codes " P0,Q")
pair_text op.LrQDc = Some (codes " Q,DC")
pair_text op.LrDcQ = Some (codes " DC,Q")
pair_text op.LrDcH = Some (codes " DC,H")
pair_text op.LrHDc = Some (codes " H,DC")
pair_text op.LrWJ = Some (codes " W,J")
pair_text op.LrJW = Some (codes " J,W")
pair_text other = None

-- a text, as the list of its bytes
abbrev pub seen_text : Option (Bor (List ℕ)) → Option (List ℕ)
seen_text (Some text) = Some text.now
seen_text None = None

-- what stands between the mnemonic and the field of any other instruction
unfoldable pub gap_of : Op → List ℕ
gap_of op.Sr1 = codes " 1"
gap_of op.Sl1 = codes " 1"
gap_of op.Sr4 = codes " 4"
gap_of op.Sl4 = codes " 4"
gap_of (op.LrAR r) = codes " A,"
gap_of op.Pk = []
gap_of op.Lm = []
gap_of op.St = []
gap_of op.Com = []
gap_of op.Lnk = []
gap_of op.Di = []
gap_of op.Ei = []
gap_of op.Pop = []
gap_of op.Inc = []
gap_of op.Nop = []
gap_of op.Xdc = []
gap_of op.Am = []
gap_of op.Amd = []
gap_of op.Nm = []
gap_of op.Om = []
gap_of op.Xm = []
gap_of op.Cm = []
gap_of op.Adc = []
gap_of other = codes " "

-- what stands between the mnemonic and the field, or what the operands are
unfoldable pub front_of : Op → List ℕ
front_of op = unwrap_or (pair_text op) (gap_of op)

-- the field that an instruction shows
abbrev pub field_of : Op → FieldText
field_of (op.Ds r) = text.Register r
field_of (op.LrAR r) = text.Register r
field_of (op.LrRA r) = text.Register r
field_of (op.As r) = text.Register r
field_of (op.Asd r) = text.Register r
field_of (op.Xs r) = text.Register r
field_of (op.Ns r) = text.Register r
field_of (op.Lisu n) = text.Small n
field_of (op.Lisl n) = text.Small n
field_of (op.Lis n) = text.Small n
field_of (op.Ins n) = text.Small n
field_of (op.Outs n) = text.Small n
field_of (op.Bt t) = text.Small t
field_of (op.Bf t) = text.Small t
field_of other = text.Nothing

-- fields are below 16
abbrev pub FieldFits : FieldText → Type 0
FieldFits text.Nothing = Unit {0}
FieldFits (text.Register r) = r < 16
FieldFits (text.Small n) = n < 16

abbrev pub EntryFits : Entry → Type 0
EntryFits (entry.Data b) = Unit {0}
EntryFits (entry.Plain op) = FieldFits (field_of op)
EntryFits (entry.Byte op b) = FieldFits (field_of op)
EntryFits (entry.Word op w) = FieldFits (field_of op)

abbrev pub field_text : FieldText → List ℕ
field_text text.Nothing = []
field_text (text.Register r) = register_text r
field_text (text.Small n) = small_decimal n

-- what stands behind the field
abbrev pub back_of : Op → List ℕ
back_of (op.LrRA r) = codes ",A"
back_of (op.Bt t) = codes ","
back_of (op.Bf t) = codes ","
back_of other = []

-- an instruction without its operand bytes, behind a text
abbrev pub with_head : List ℕ → Op → List ℕ
with_head written op = written ++ mnemonic_of op ++ front_of op ++ field_text (field_of op) ++ back_of op

-- a statement and its line end (10), behind a text; 36 is `$`
abbrev pub with_entry : List ℕ → Entry → List ℕ
with_entry written (entry.Data b) = written ++ codes "DB $" ++ hex2 b ++ 10 ∷ []
with_entry written (entry.Plain op) = with_head written op ++ 10 ∷ []
with_entry written (entry.Byte op b) = with_head written op ++ (36 ∷ []) ++ hex2 b ++ 10 ∷ []
with_entry written (entry.Word op w) = with_head written op ++ (36 ∷ []) ++ hex4 w ++ 10 ∷ []

-- ---- which statements

-- what stands behind an opcode, by the row of its instruction
abbrev pub tail_of : Row → Tail
tail_of row.Immediate = tail.Byte
tail_of row.PortIn = tail.Byte
tail_of row.PortOut = tail.Byte
tail_of row.Branch = tail.Place
tail_of row.BranchIsar = tail.Place
tail_of row.Call = tail.Word
tail_of row.Jump = tail.Word
tail_of row.LoadData = tail.Word
tail_of other = tail.Nothing

-- where the displacement c at this address leads to, if it stays among the addresses
abbrev pub target : ℕ → ℕ → Option ℕ
target place c =
    if nat_lt c 128
    then (if nat_lt (place + c) 65536 then Some (place + c) else None)
    else (if nat_le 256 (place + c) then Some (place + c - 256) else None)

-- a byte that isn't an instruction's, and how many bytes behind it aren't either
abbrev pub data_piece : ℕ → ℕ → Piece
data_piece b raw = record { entry = entry.Data b; length = 1; raw = raw }

abbrev pub piece_with : Entry → ℕ → Piece
piece_with what length = record { entry = what; length = length; raw = 0 }

-- a byte operand
abbrev pub byte_piece : ℕ → Op → List ℕ → Piece
byte_piece b op [] = data_piece b 0
byte_piece b op (c ∷ cs) = piece_with (entry.Byte op c) 2

abbrev pub reaching : ℕ → Op → Option ℕ → Piece
reaching b op (Some place) = piece_with (entry.Word op place) 2
reaching b op None = data_piece b 1

-- a displacement; a branch that leads out of the addresses is no statement
abbrev pub place_piece : ℕ → ℕ → Op → List ℕ → Piece
place_piece at b op [] = data_piece b 0
place_piece at b op (c ∷ cs) = reaching b op (target (at + 1) c)

-- a word operand
abbrev pub word_piece : ℕ → Op → List ℕ → Piece
word_piece b op [] = data_piece b 0
word_piece b op (c ∷ []) = data_piece b 1
word_piece b op (c ∷ d ∷ ds) = piece_with (entry.Word op (256 * c + d)) 3

abbrev pub tail_piece : ℕ → ℕ → Op → List ℕ → Tail → Piece
tail_piece at b op bs tail.Nothing = piece_with (entry.Plain op) 1
tail_piece at b op bs tail.Byte = byte_piece b op bs
tail_piece at b op bs tail.Place = place_piece at b op bs
tail_piece at b op bs tail.Word = word_piece b op bs

abbrev pub op_piece : ℕ → ℕ → List ℕ → Option Op → Piece
op_piece at b bs None = data_piece b 0
op_piece at b bs (Some op) = tail_piece at b op bs (tail_of (row_of op))

-- the statement of a byte at this address and those behind it, of which `raw` bytes aren't an instruction's
unfoldable pub piece : ℕ → ℕ → ℕ → List ℕ → Piece
piece (suc raw) at b bs = data_piece b raw
piece zero at b bs = op_piece at b bs (decoded b)

-- the statements of bytes from this address on; `skip` bytes belong to a statement already read
unfoldable pub entries : ℕ → ℕ → ℕ → List ℕ → List Entry
entries skip raw at [] = []
entries (suc skip) raw at (b ∷ bs) = entries skip raw (at + 1) bs
entries zero raw at (b ∷ bs) = (piece raw at b bs).entry ∷ entries ((piece raw at b bs).length - 1) (piece raw at b bs).raw (at + 1) bs

-- statements behind a text
abbrev pub with_entries : List ℕ → List Entry → List ℕ
with_entries written [] = written
with_entries written (e ∷ es) = with_entries (with_entry written e) es

-- the text of bytes from address 0000 on
unfoldable pub listing : List ℕ → List ℕ
listing bytes = with_entries (codes "ORG $0000" ++ 10 ∷ []) (entries 0 0 0 bytes)
