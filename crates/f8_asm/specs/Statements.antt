-- The label and the statement of a line.
use Rattle.std.specs.Borrow.{Bor}
use Rattle.std.specs.Prelude.{ℕ, zero, suc, ◌*◌, Bool, true, false, not, ◌&&◌, ◌==◌, List, [], ◌∷◌, length, drop, map}
use Rattle.std.specs.Prelude.{Option, Some, None, is_some, option_and_then, Result, Ok, Err, if◌then◌else◌}
use Rattle.asm_text.specs.declared.answers.Token.{Token}
use Rattle.asm_text.specs.declared.answers.TokenKind.{TokenKind}
use Rattle.asm_text.specs.declared.answers.TokenKind.TheVariants as kind
use Rattle.f8_spec.specs.Instructions.{encoded}
use Rattle.f8_spec.specs.declared.instructions.Op.{Op}
use Rattle.f8_asm.specs.declared.answers.AsmCause.TheVariants.{Unknown, Twice}
use Rattle.f8_asm.specs.declared.fields.Field.{Field}
use Rattle.f8_asm.specs.declared.fields.Field.TheVariants as field
use Rattle.f8_asm.specs.declared.faults.LineFault.{LineFault}
use Rattle.f8_asm.specs.declared.registers.Register.{Register}
use Rattle.f8_asm.specs.declared.values.Outcome.{Outcome}
use Rattle.f8_asm.specs.declared.words.Single.{Single}
use Rattle.f8_asm.specs.declared.words.Single.TheVariants as single
use Rattle.f8_asm.specs.declared.words.ItemSize.{ItemSize}
use Rattle.f8_asm.specs.declared.words.ItemSize.TheVariants as item
use Rattle.f8_asm.specs.declared.words.Shape.{Shape}
use Rattle.f8_asm.specs.declared.words.Shape.TheVariants as shape
use Rattle.f8_asm.specs.declared.operands.Effect.{Effect}
use Rattle.f8_asm.specs.declared.operands.Effect.TheVariants.{Names, Moves, Fills}
use Rattle.f8_asm.specs.declared.operands.Operand.{Operand}
use Rattle.f8_asm.specs.declared.operands.Statement.{Statement}
use Rattle.f8_asm.specs.declared.operands.Statement.TheVariants.{Nothing, Fixed, One, Test, Items}
use Rattle.f8_asm.specs.Answers.{form, ◌>>=◌}
use Rattle.f8_asm.specs.Fields.{op_with}
use Rattle.f8_asm.specs.Grammar.{Actions, column_of, expression}
use Rattle.f8_asm.specs.Registers.{register_of, register_number, is_accumulator, pair_op}
use Rattle.f8_asm.specs.Words.{shape_of, is_reserved}

-- ---- parts

-- an expression with the column of its first token
abbrev pub operand_at : {A : Type 0} → Actions A → List Token → Result (Operand A × List Token) LineFault
operand_at acts [] = Err (form None)
operand_at acts (t ∷ ts) = expression acts (t ∷ ts) >>= λ r. Ok (record { column = t.column; value = r.0 }, r.1)

-- the tokens behind a mark that stands here
abbrev pub mark_in : ℕ → TokenKind → ℕ → List Token → Result (List Token) LineFault
mark_in mark (kind.Mark m) column ts = if m == mark then Ok ts else Err (form (Some column))
mark_in mark (kind.Name name) column ts = Err (form (Some column))
mark_in mark (kind.Number number) column ts = Err (form (Some column))

-- the tokens behind a comma (44)
abbrev pub comma : List Token → Result (List Token) LineFault
comma [] = Err (form None)
comma (t ∷ ts) = mark_in 44 t.kind t.column ts

-- what was read, as a value of a list
abbrev pub seen_rest : {A : Type 0} → Result (Bor A) LineFault → Result A LineFault
seen_rest (Ok r) = Ok r.now
seen_rest (Err fault) = Err fault

-- a statement with no token behind it
abbrev pub done : {A : Type 0} → Statement A → List Token → Result (Statement A) LineFault
done statement [] = Ok statement
done statement (t ∷ ts) = Err (form (Some t.column))

-- the register that a token names
abbrev pub register_in : TokenKind → Option Register
register_in (kind.Name name) = register_of name
register_in (kind.Number number) = None
register_in (kind.Mark mark) = None

abbrev pub register_at : List Token → Option Register
register_at [] = None
register_at (t ∷ ts) = register_in t.kind

-- an instruction, if there is one, behind whose first token nothing may stand
abbrev pub instruction_of : {A : Type 0} → Option Op → List Token → Result (Statement A) LineFault
instruction_of (Some op) ts = done (Fixed (encoded op)) (drop 1 ts)
instruction_of None ts = Err (form (column_of ts))

-- ---- operands by the shape of a statement

abbrev pub one : {A : Type 0} → Actions A → Single → List Token → Result (Statement A) LineFault
one acts what ts = operand_at acts ts >>= λ o. done (One what o.0) o.1

abbrev pub two : {A : Type 0} → Actions A → Field → List Token → Result (Statement A) LineFault
two acts field ts = operand_at acts ts >>= λ a. comma a.1 >>= λ rest. operand_at acts rest >>= λ b. done (Test field a.0 b.0) b.1

-- a register: by a word, or by an expression
abbrev pub register_operand : {A : Type 0} → Actions A → Field → List Token → Option ℕ → Result (Statement A) LineFault
register_operand acts field ts (Some r) = instruction_of (op_with field r) ts
register_operand acts field ts None = one acts (single.Small field) ts

abbrev pub register_number_at : List Token → Option ℕ
register_number_at ts = option_and_then register_number (register_at ts)

-- `A` behind the comma of LR
abbrev pub accumulator_in : Option Register → List Token → Result (List Token) LineFault
accumulator_in (Some register) ts = if is_accumulator register then Ok (drop 1 ts) else Err (form (column_of ts))
accumulator_in None ts = Err (form (column_of ts))

abbrev pub accumulator : List Token → Result (List Token) LineFault
accumulator ts = accumulator_in (register_at ts) ts

-- what LR moves into a register
abbrev pub load_from : {A : Type 0} → Actions A → Register → List Token → Option Register → Result (Statement A) LineFault
load_from acts to ts (Some from) = instruction_of (pair_op to from) ts
load_from acts to ts None = if is_accumulator to then one acts (single.Small field.LrAR) ts else Err (form (column_of ts))

-- LR between two registers; one that an expression gives goes with `A` alone
abbrev pub load : {A : Type 0} → Actions A → List Token → Option Register → Result (Statement A) LineFault
load acts ts (Some to) = comma (drop 1 ts) >>= λ rest. load_from acts to rest (register_at rest)
load acts ts None = operand_at acts ts >>= λ o. comma o.1 >>= λ rest. accumulator rest >>= λ last. done (One (single.Small field.LrRA) o.0) last

-- one item, and those that `f` reads behind a comma
abbrev pub item_before : {A : Type 0} → (List Token → Result (List (Operand A)) LineFault) → Operand A → List Token → Result (List (Operand A)) LineFault
item_before f o [] = Ok (o ∷ [])
item_before f o (t ∷ ts) = comma (t ∷ ts) >>= λ rest. f rest >>= λ os. Ok (o ∷ os)

-- expressions with commas between them, at least one and at most n
unfoldable pub items : {A : Type 0} → Actions A → ℕ → List Token → Result (List (Operand A)) LineFault
items acts zero ts = Err (form (column_of ts))
items acts (suc n) ts = operand_at acts ts >>= λ o. item_before (items acts n) o.0 o.1

abbrev pub item_list : {A : Type 0} → Actions A → ItemSize → List Token → Result (Statement A) LineFault
item_list acts size ts = items acts (length ts) ts >>= λ os. Ok (Items size os)

-- what goes behind a mnemonic or directive
unfoldable pub operands : {A : Type 0} → Actions A → Shape → List Token → Result (Statement A) LineFault
operands acts (shape.Plain code) ts = done (Fixed code) ts
operands acts (shape.One what) ts = one acts what ts
operands acts (shape.Register field) ts = register_operand acts field ts (register_number_at ts)
operands acts (shape.Test field) ts = two acts field ts
operands acts shape.Load ts = load acts ts (register_at ts)
operands acts (shape.Items size) ts = item_list acts size ts

-- ---- statements

-- EQU alone wants a label before it
abbrev pub wants_label : Shape → Bool
wants_label (shape.One single.Equ) = true
wants_label other = false

-- a name in a mnemonic's place; a register word can't stand there
abbrev pub no_mnemonic : ℕ → List ℕ → LineFault
no_mnemonic column name = if is_some (register_of name) then form (Some column) else record { column = Some column; cause = Unknown }

abbrev pub statement_of : {A : Type 0} → Actions A → Bool → ℕ → List ℕ → List Token → Option Shape → Result (Statement A) LineFault
statement_of acts labelled column name ts (Some shape) =
    if wants_label shape && not labelled then Err (form (Some column)) else operands acts shape ts
statement_of acts labelled column name ts None = Err (no_mnemonic column name)

abbrev pub statement_in : {A : Type 0} → Actions A → Bool → TokenKind → ℕ → List Token → Result (Statement A) LineFault
statement_in acts labelled (kind.Name name) column ts = statement_of acts labelled column name ts (shape_of name)
statement_in acts labelled (kind.Number number) column ts = Err (form (Some column))
statement_in acts labelled (kind.Mark mark) column ts = Err (form (Some column))

-- the statement of a line behind its label
unfoldable pub statement : {A : Type 0} → Actions A → Bool → List Token → Result (Statement A) LineFault
statement acts labelled [] = Ok Nothing
statement acts labelled (t ∷ ts) = statement_in acts labelled t.kind t.column ts

-- ---- labels

-- a colon (58) stands first
abbrev pub is_colon : TokenKind → Bool
is_colon (kind.Mark mark) = mark == 58
is_colon (kind.Name name) = false
is_colon (kind.Number number) = false

abbrev pub begins_colon : List Token → Bool
begins_colon [] = false
begins_colon (t ∷ ts) = is_colon t.kind

abbrev pub label_in : TokenKind → List Token → Option (List ℕ)
label_in (kind.Name name) ts = if begins_colon ts && not (is_reserved name) then Some name else None
label_in (kind.Number number) ts = None
label_in (kind.Mark mark) ts = None

-- the name that a line begins with, if a colon follows
unfoldable pub label_of : List Token → Option (List ℕ)
label_of [] = None
label_of (t ∷ ts) = label_in t.kind ts

-- a line's tokens behind its label and colon
abbrev pub behind_label : List Token → List Token
behind_label ts = if is_some (label_of ts) then drop 2 ts else ts

-- a label that has been given before
abbrev pub twice : Option ℕ → LineFault
twice column = record { column = column; cause = Twice }

-- ---- values

-- an operand and a statement with the values that operands have
abbrev pub operand_valued : {A B : Type 0} → (A → B) → Operand A → Operand B
operand_valued value o = record { column = o.column; value = value o.value }

abbrev pub statement_valued : {A B : Type 0} → (A → B) → Statement A → Statement B
statement_valued value Nothing = Nothing
statement_valued value (Fixed code) = Fixed code
statement_valued value (One what o) = One what (operand_valued value o)
statement_valued value (Test field a b) = Test field (operand_valued value a) (operand_valued value b)
statement_valued value (Items size os) = Items size (map (operand_valued value) os)

-- ---- sizes and effects

abbrev pub item_size : ItemSize → ℕ
item_size item.Byte = 1
item_size item.Word = 2

-- the bytes that a statement with one operand takes
abbrev pub single_size : Single → ℕ
single_size (single.Byte code) = 2
single_size (single.Port code) = 2
single_size (single.Word code) = 3
single_size (single.Branch code) = 2
single_size (single.Small field) = 1
single_size single.Org = 0
single_size single.Equ = 0

-- and those of any statement, whatever its operands are
abbrev pub statement_size : {A : Type 0} → Statement A → ℕ
statement_size Nothing = 0
statement_size (Fixed code) = 1
statement_size (One what o) = single_size what
statement_size (Test field a b) = 2
statement_size (Items size os) = item_size size * length os

-- what a statement does in the second pass
abbrev pub single_effect : Single → Operand Outcome → Effect
single_effect single.Equ o = Names o
single_effect single.Org o = Moves o
single_effect other o = Fills (single_size other)

abbrev pub effect_of : Statement Outcome → Effect
effect_of (One what o) = single_effect what o
effect_of other = Fills (statement_size other)
