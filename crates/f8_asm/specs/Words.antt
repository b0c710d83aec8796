-- Mnemonics and directives: which words there are, and what operands go behind each.
use Rattle.std.specs.Prelude.{ℕ, ◌-◌, nat_lt, if◌then◌else◌, ◌≤◌, Bool, ◌||◌, List, [], ◌∷◌, codes, map, get_or, Option, is_some}
use Rattle.std.specs.Prelude.{option_map}
use Rattle.std.specs.Char.{to_ascii_lowercase}
use Rattle.std.specs.Option.{option_or}
use Rattle.f8_spec.specs.Instructions.{encoded, row_of, mnemonic_of}
use Rattle.f8_spec.specs.declared.instructions.Op.{Op}
use Rattle.f8_spec.specs.declared.instructions.Op.TheVariants as op
use Rattle.f8_spec.specs.declared.instructions.Row.{Row}
use Rattle.f8_spec.specs.declared.instructions.Row.TheVariants as row
use Rattle.f8_asm.specs.declared.fields.Field.TheVariants as field
use Rattle.f8_asm.specs.declared.words.Single.TheVariants as single
use Rattle.f8_asm.specs.declared.words.ItemSize.TheVariants as item
use Rattle.f8_asm.specs.declared.words.Shape.{Shape}
use Rattle.f8_asm.specs.declared.words.Shape.TheVariants as shape
use Rattle.f8_asm.specs.Fields.{limit_of}
use Rattle.f8_asm.specs.Registers.{at_word, register_of}

-- the operand that an opcode wants behind it, by the row of its instruction
abbrev pub op_shape : Row → ℕ → Shape
op_shape row.Immediate code = shape.One (single.Byte code)
op_shape row.PortIn code = shape.One (single.Port code)
op_shape row.PortOut code = shape.One (single.Port code)
op_shape row.Call code = shape.One (single.Word code)
op_shape row.Jump code = shape.One (single.Word code)
op_shape row.LoadData code = shape.One (single.Word code)
op_shape row.Branch code = shape.One (single.Branch code)
op_shape row.BranchIsar code = shape.One (single.Branch code)
op_shape other code = shape.Plain code

abbrev pub shape_of_op : Op → Shape
shape_of_op op = op_shape (row_of op) (encoded op)

-- instructions whose operand is no field of the opcode: their mnemonics name them alone
unfoldable pub plain_ops : List Op
plain_ops =
    op.Ai ∷ op.Am ∷ op.Ci ∷ op.Cm ∷ op.Di ∷ op.Ei ∷ op.In ∷ op.Li ∷ op.Lm ∷ op.Ni ∷ op.Nm ∷ op.Oi ∷ op.Om ∷ op.Pi ∷ op.Pk
    ∷ op.St ∷ op.Xi ∷ op.Xm ∷ op.Adc ∷ op.Amd ∷ op.Br7 ∷ op.Com ∷ op.Dci ∷ op.Inc ∷ op.Jmp ∷ op.Lnk ∷ op.Nop ∷ op.Out ∷ op.Pop ∷ op.Xdc ∷ []

-- words that name one instruction of those with another mnemonic
unfoldable pub aliases : List (List ℕ × Op)
aliases =
    (codes "BC", op.Bt 2) ∷ (codes "BM", op.Bf 1) ∷ (codes "BP", op.Bt 1) ∷ (codes "BR", op.Bf 0)
    ∷ (codes "BZ", op.Bt 4) ∷ (codes "BNC", op.Bf 2) ∷ (codes "BNO", op.Bf 8) ∷ (codes "BNZ", op.Bf 4)
    ∷ (codes "CLR", op.Lis 0) ∷ []

-- mnemonics with a field of the opcode behind them, or two registers, each by an instruction with it
unfoldable pub field_words : List (Op × Shape)
field_words =
    (op.As 0, shape.Register field.As) ∷ (op.Bf 0, shape.Test field.Bf) ∷ (op.Bt 0, shape.Test field.Bt)
    ∷ (op.Ds 0, shape.Register field.Ds) ∷ (op.LrAKu, shape.Load) ∷ (op.Ns 0, shape.Register field.Ns)
    ∷ (op.Sl1, shape.One (single.Small field.Sl)) ∷ (op.Sr1, shape.One (single.Small field.Sr)) ∷ (op.Xs 0, shape.Register field.Xs)
    ∷ (op.Asd 0, shape.Register field.Asd) ∷ (op.Ins 0, shape.One (single.Small field.Ins)) ∷ (op.Lis 0, shape.One (single.Small field.Lis))
    ∷ (op.Lisl 0, shape.One (single.Small field.Lisl)) ∷ (op.Lisu 0, shape.One (single.Small field.Lisu))
    ∷ (op.Outs 0, shape.One (single.Small field.Outs)) ∷ []

unfoldable pub directives : List (List ℕ × Shape)
directives =
    (codes "DB", shape.Items item.Byte) ∷ (codes "DW", shape.Items item.Word)
    ∷ (codes "EQU", shape.One single.Equ) ∷ (codes "ORG", shape.One single.Org) ∷ []

-- the number of a word's first letter in either case, from 0 for A on, and 26 if it begins with none
abbrev pub initial_from : List ℕ → ℕ
initial_from [] = 26
initial_from (c ∷ cs) = if nat_lt c 97 || nat_lt 122 c then 26 else c - 97

unfoldable pub initial_of : List ℕ → ℕ
initial_of name = initial_from (map to_ascii_lowercase name)

-- what stands in the row of a word's first letter
abbrev pub row_at : {X : Type 0} → List (List X) → List ℕ → List X
row_at rows name = get_or rows (initial_of name) []

-- an instruction at its mnemonic, and what goes behind one's mnemonic
abbrev pub own_word : Op → List ℕ × Op
own_word op = (mnemonic_of op, op)

abbrev pub field_word : Op × Shape → List ℕ × Shape
field_word w = (mnemonic_of w.0, w.1)

-- the instruction that a word names alone
unfoldable pub op_of : List ℕ → Option Op
op_of name = option_or (at_word name (map own_word plain_ops)) (at_word name aliases)

-- what goes behind a mnemonic or directive
unfoldable pub shape_of : List ℕ → Option Shape
shape_of name =
    option_or (option_map shape_of_op (op_of name)) (option_or (at_word name (map field_word field_words)) (at_word name directives))

-- a word that can't be a name
unfoldable pub is_reserved : List ℕ → Bool
is_reserved name = is_some (register_of name) || is_some (shape_of name)

-- a field that a register goes into has room for each
abbrev pub HasRoom : Shape → Type 0
HasRoom (shape.Register field) = 15 ≤ limit_of field
HasRoom other = Unit {0}
