-- Lines and listings worked by hand, each against the definitions alone.
use Rattle.std.proofs.Common.{◌≡◌, ℕ, List, [], ◌∷◌, ◌++◌, Result, Ok, Err, Some, None, refl}
use Rattle.std.specs.Prelude.{codes}
use Rattle.asm_text.specs.Bytes.{value, narrow}
use Rattle.asm_text.specs.Lexemes.{name_of, name_lexeme, digits_lexeme, number_lexeme, quoted_lexeme, lexeme}
use Rattle.asm_text.specs.Tokens.{tokens_at, tokens_of}
use Rattle.f8_spec.specs.Instructions.{decoded, mnemonic_of}
use Rattle.f8_asm.specs.declared.answers.AsmCause.TheVariants.{Unknown, Undefined, Range, BranchRange}
use Rattle.f8_asm.specs.declared.faults.LineFault.{LineFault}
use Rattle.f8_asm.specs.Answers.{form}
use Rattle.f8_asm.specs.Bytes.{list_bytes}
use Rattle.f8_asm.specs.Grammar.{chain, level, parenthesis_expression, mark_operand, operand_of, operand, expression}
use Rattle.f8_asm.specs.Judging.{fault_at}
use Rattle.text_lines.specs.Lines.{lines}
use Rattle.f8_asm.specs.Listing.{pair_text, gap_of, front_of, piece, entries, listing}
use Rattle.f8_asm.specs.PassThree.{line_bytes}
use Rattle.f8_asm.specs.Registers.{same_word, register_words, register_of, pair_op}
use Rattle.f8_asm.specs.Statements.{items, operands, statement, label_of}
use Rattle.f8_asm.specs.Words.{plain_ops, aliases, field_words, directives, op_of, shape_of, is_reserved}

-- what the proofs below compute with
assembling : Unit {0}
unfolding tokens_at lexeme name_lexeme name_of number_lexeme digits_lexeme quoted_lexeme value narrow line_bytes statement
    label_of operands items chain level parenthesis_expression mark_operand operand_of operand expression same_word
    register_words register_of pair_op mnemonic_of plain_ops aliases field_words directives op_of shape_of is_reserved list_bytes
assembling = tt

-- the bytes of a line at address 0000, without names
abbrev bytes : List ℕ → Result (List ℕ) LineFault
bytes line =
    elim (tokens_of line) [
      | Ok ts ↦ line_bytes [] 0 ts
      | Err fault ↦ Err (form None)
    ]

-- 512 less 1 is 511, no displacement
branch_too_far : bytes (codes " BT 1,$200") ≡ Err (fault_at 7 BranchRange)
unfolding assembling
branch_too_far = refl

-- 0 less 1 is -1
branch_to_itself : bytes (codes " BR 0") ≡ Ok (0x90 ∷ 0xFF ∷ [])
unfolding assembling
branch_to_itself = refl

-- 256 is no byte
byte_too_large : bytes (codes " LI 256") ≡ Err (fault_at 5 Range)
unfolding assembling
byte_too_large = refl

-- -128 is one
least_byte : bytes (codes " li -128") ≡ Ok (0x20 ∷ 0x80 ∷ [])
unfolding assembling
least_byte = refl

-- an operand with an undefined name is not judged further
undefined_goes_first : bytes (codes " LI 1/0+X") ≡ Err (fault_at 9 Undefined)
unfolding assembling
undefined_goes_first = refl

-- between operands the lower column goes first
lower_column_first : bytes (codes " DB 1/0,X") ≡ Err (fault_at 5 Range)
unfolding assembling
lower_column_first = refl

-- a character, and a negative byte
characters_and_negatives : bytes (codes " DB -1,'A'") ≡ Ok (0xFF ∷ 0x41 ∷ [])
unfolding assembling
characters_and_negatives = refl

-- `*` before `+`, `+` before `&`, `&` before `|`
strengths : bytes (codes " LI 1|6&2+2*3") ≡ Ok (0x20 ∷ 0x01 ∷ [])
unfolding assembling
strengths = refl

-- the low byte of a word
low_byte : bytes (codes " LI <$1234") ≡ Ok (0x20 ∷ 0x34 ∷ [])
unfolding assembling
low_byte = refl

-- `<` of a negative value
negative_has_no_low_byte : bytes (codes " LI <-1") ≡ Err (fault_at 5 Range)
unfolding assembling
negative_has_no_low_byte = refl

-- `LR A,A` is no instruction
second_accumulator : bytes (codes " LR A,A") ≡ Err (form (Some 7))
unfolding assembling
second_accumulator = refl

-- neither is `LR HU,W`
no_such_pair : bytes (codes " LR HU,W") ≡ Err (form (Some 8))
unfolding assembling
no_such_pair = refl

-- J is register 9
register_nine : bytes (codes " LR J,A") ≡ Ok (0x59 ∷ [])
unfolding assembling
register_nine = refl

-- only S, I and D name 12 to 14
words_alone : bytes (codes " LR 12,A") ≡ Err (fault_at 5 Range)
unfolding assembling
words_alone = refl

-- port 2 has no instruction
port_two : bytes (codes " INS 2") ≡ Err (fault_at 6 Range)
unfolding assembling
port_two = refl

-- a name in a mnemonic's place
unknown : bytes (codes "X: Y: NOP") ≡ Err (record { column = Some 4; cause = Unknown })
unfolding assembling
unknown = refl

-- a mnemonic is no label
reserved_label : bytes (codes "NOP: NOP") ≡ Err (form (Some 4))
unfolding assembling
reserved_label = refl

-- nothing stands behind the comma's place
past_the_end : bytes (codes " BT 1") ≡ Err (form None)
unfolding assembling
past_the_end = refl

-- an LF ends a line, and a CR right before it is dropped
two_lines : lines (codes "A" ++ 13 ∷ 10 ∷ codes "B") ≡ codes "A" ∷ codes "B" ∷ []
two_lines = refl

-- a CR elsewhere stays
inner_return : lines (codes "A" ++ 13 ∷ codes "B") ≡ (codes "A" ++ 13 ∷ codes "B") ∷ []
inner_return = refl

-- a reserved code, and an instruction that the end cuts
cut_listing : listing (0x71 ∷ 0x2D ∷ 0x20 ∷ []) ≡ codes "ORG $0000" ++ 10 ∷ codes "LIS 1" ++ 10 ∷ codes "DB $2D" ++ 10 ∷ codes "DB $20" ++ 10 ∷ []
unfolding listing entries piece decoded pair_text gap_of front_of mnemonic_of
cut_listing = refl

-- a branch to itself, and one that leads out of the addresses, whose second byte is no opcode either
branch_listing : listing (0x90 ∷ 0xFF ∷ 0x90 ∷ 0x80 ∷ 0x2B ∷ []) ≡ codes "ORG $0000" ++ 10 ∷ codes "BF 0,$0000" ++ 10 ∷
    codes "DB $90" ++ 10 ∷ codes "DB $80" ++ 10 ∷ codes "NOP" ++ 10 ∷ []
unfolding listing entries piece decoded pair_text gap_of front_of mnemonic_of
branch_listing = refl
