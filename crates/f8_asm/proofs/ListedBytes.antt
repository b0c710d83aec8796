-- Each statement of a listing is read as the bytes that it was written for.
use Rattle.std.proofs.Common.{◌≡◌, ℕ, ◌+◌, ◌/◌, ◌%◌, ◌*◌, ◌<◌, arith, pos, ◌-ℤ◌, Option, true, false, List, [], ◌∷◌, ◌++◌, length, None}
use Rattle.std.proofs.Common.{Some, Ok, Err, refl}
use Rattle.text_lines.specs.Printable.{is_printable}
use Rattle.std.specs.Prelude.{nat_lt}
use Rattle.std.specs.List.{list_all}
use Rattle.std.proofs.lemmas.Bool.Decides.{nat_tests}
use Rattle.asm_text.specs.Bytes.{value, narrow}
use Rattle.asm_text.specs.Lexemes.{name_of, name_lexeme, digits_lexeme, number_lexeme, lexeme}
use Rattle.f8_spec.specs.Spelling.{hex_digit, hex2, hex4}
use Rattle.asm_text.specs.Tokens.{tokens_at, tokens_of}
use Rattle.asm_text.specs.declared.answers.Token.{Token}
use Rattle.asm_text.specs.declared.answers.TokenKind.TheVariants as kind
use Rattle.f8_spec.specs.Instructions.{decoded, mnemonic_of}
use Rattle.f8_spec.specs.declared.instructions.Op.{Op}
use Rattle.f8_spec.specs.declared.instructions.Op.TheVariants.{Nop}
use Rattle.asm_text.proofs.Spelled.{hex2_read, hex4_read}
use Rattle.f8_spec.proofs.ValuesBelow.{values_below, same_below}
use Rattle.f8_asm.specs.declared.operands.Effect.TheVariants.{Fills}
use Rattle.f8_asm.specs.declared.operands.Statement.{Statement}
use Rattle.f8_asm.specs.declared.operands.Statement.TheVariants.{Nothing}
use Rattle.f8_asm.specs.declared.spelling.Entry.TheVariants as entry
use Rattle.f8_asm.specs.declared.values.Outcome.{Outcome}
use Rattle.f8_asm.specs.Bytes.{list_bytes, bytes_of}
use Rattle.f8_asm.specs.Evaluation.{values}
use Rattle.f8_asm.specs.Fields.{octet, small}
use Rattle.f8_asm.specs.Grammar.{chain, level, parenthesis_expression, mark_operand, operand_of, operand, expression}
use Rattle.f8_asm.specs.Listing.{pair_text, gap_of, front_of, op_piece}
use Rattle.f8_asm.specs.Registers.{same_word, register_words, register_of, pair_op}
use Rattle.f8_asm.specs.Statements.{items, operands, statement, label_of, effect_of}
use Rattle.f8_asm.specs.Words.{plain_ops, aliases, field_words, directives, op_of, shape_of, is_reserved}
use Rattle.f8_asm.proofs.ListedLines.{head_text, line_of, Says}

-- the tokens and the statement of a line that has them
abbrev tokens_in : List ℕ → List Token
tokens_in line = elim (tokens_of line) [ Ok ts ↦ ts | Err fault ↦ [] ]

abbrev statement_in : List Token → Statement Outcome
statement_in ts = elim (statement (values [] 0) false ts) [ Ok st ↦ st | Err fault ↦ Nothing ]

-- what lines and statements are made of is open under `unfolding all_open`, and under `numbers_open` numbers too
unfoldable pub all_open : Unit {0}
unfolding values_below tokens_at lexeme name_lexeme name_of statement label_of operands items chain level parenthesis_expression
    mark_operand operand_of operand expression same_word register_words register_of pair_op
    plain_ops aliases field_words directives op_of shape_of is_reserved list_bytes
    mnemonic_of pair_text gap_of front_of decoded
all_open = tt

unfoldable pub numbers_open : Unit {0}
unfolding all_open number_lexeme digits_lexeme value narrow
numbers_open = tt

-- lines that a number below a bound tells, computed at each
record Computes (line : ℕ → List ℕ) (ts : ℕ → List Token) (front : ℕ → List ℕ) (n at : ℕ) : Type 0 where
  printable : values_below (λ k. list_all is_printable (line k)) n ≡ values_below (λ k. true) n
  short : values_below (λ k. nat_lt (length (line k)) (8 * length (front k))) n ≡ values_below (λ k. true) n
  read : values_below (λ k. tokens_of (line k)) n ≡ values_below (λ k. Ok (ts k)) n
  behind_label : values_below (λ k. label_of (ts k)) n ≡ values_below (λ k. None) n
  statement_at : (address : ℕ) → values_below (λ k. statement (values [] address) false (ts k)) n ≡ values_below (λ k. Ok (statement_in (ts k))) n
  fills : values_below (λ k. effect_of (statement_in (ts k))) n ≡ values_below (λ k. Fills (length (front k))) n
  instruction_of : values_below (λ k. bytes_of at (statement_in (ts k))) n ≡ values_below (λ k. Ok (front k)) n

says_below : {line : ℕ → List ℕ} {ts : ℕ → List Token} {front : ℕ → List ℕ} {n at : ℕ} → Computes line ts front n at →
    (k : ℕ) → k < n → Says at (line k) (front k)
says_below {line} {ts} {front} {n} {at} all k below =
    let short = same_below (λ k. nat_lt (length (line k)) (8 * length (front k))) (λ k. true) n k all.short below in
    record {
      ts = ts k;
      printable = same_below (λ k. list_all is_printable (line k)) (λ k. true) n k all.printable below;
      short = grind (arith, nat_tests);
      read = same_below (λ k. tokens_of (line k)) (λ k. Ok (ts k)) n k all.read below;
      gives = record {
        st = statement_in (ts k);
        behind_label = same_below (λ k. label_of (ts k)) (λ k. None) n k all.behind_label below;
        statement_at = λ address. same_below (λ k. statement (values [] address) false (ts k))
            (λ k. Ok (statement_in (ts k))) n k (all.statement_at address) below;
        fills = same_below (λ k. effect_of (statement_in (ts k))) (λ k. Fills (length (front k))) n k all.fills below;
        instruction_of = same_below (λ k. bytes_of at (statement_in (ts k))) (λ k. Ok (front k)) n k all.instruction_of below;
      };
    }

-- a byte alone: an instruction without operand bytes, or no instruction
abbrev pub alone : ℕ → List ℕ
alone b = line_of (op_piece 0 b [] (decoded b)).entry

alone_computes : (at : ℕ) → Computes alone (λ b. tokens_in (alone b)) (λ b. b ∷ []) 256 at
unfolding numbers_open
alone_computes at = record {
  printable = refl;
  short = refl;
  read = refl;
  behind_label = refl;
  statement_at = λ address. refl;
  fills = refl;
  instruction_of = refl;
}

pub says_alone : (b at : ℕ) → b < 256 → Says at (alone b) (b ∷ [])
says_alone b at is_byte = says_below (alone_computes at) b is_byte

-- a byte that is no instruction's
abbrev data_line : ℕ → List ℕ
data_line b = line_of (entry.Data b)

data_computes : (at : ℕ) → Computes data_line (λ b. tokens_in (data_line b)) (λ b. b ∷ []) 256 at
unfolding numbers_open
data_computes at = record {
  printable = refl;
  short = refl;
  read = refl;
  behind_label = refl;
  statement_at = λ address. refl;
  fills = refl;
  instruction_of = refl;
}

pub says_data : (b at : ℕ) → b < 256 → Says at (line_of (entry.Data b)) (b ∷ [])
says_data b at is_byte = says_below (data_computes at) b is_byte

-- ---- operands

-- hex digits are printable
hex_digit_printable : (d : ℕ) → d < 16 → is_printable (hex_digit d) ≡ true
hex_digit_printable d h = grind (arith, nat_tests)

hex2_printable : (b : ℕ) → b < 256 → list_all is_printable (hex2 b) ≡ true
hex2_printable b h = rw (hex_digit_printable (b / 16) (omega arith), hex_digit_printable (b % 16) (omega arith)) refl

hex4_printable : (w : ℕ) → w < 65536 → list_all is_printable (hex4 w) ≡ true
hex4_printable w h = rw (
  hex_digit_printable (w / 256 / 16) (omega arith),
  hex_digit_printable (w / 256 % 16) (omega arith),
  hex_digit_printable (w % 256 / 16) (omega arith),
  hex_digit_printable (w % 256 % 16) (omega arith),
) refl

-- a byte and a word fit
octet_byte : (b : ℕ) → b < 256 → octet 255 (pos b) ≡ Some b
octet_byte b h = grind (arith, nat_tests)

small_word : (w : ℕ) → w < 65536 → small 65535 (pos w) ≡ Some w
small_word w h = grind (arith, nat_tests)

-- the bytes of a word
high_of : (c d : ℕ) → d < 256 → (256 * c + d) / 256 ≡ c
high_of c d h = omega arith

low_of : (c d : ℕ) → d < 256 → (256 * c + d) % 256 ≡ d
low_of c d h = omega arith

-- the instruction of an opcode
abbrev pub found : Option Op → Op
found (Some op) = op
found None = Nop

-- a number of so many hex digits behind a `$` at the end of an instruction
abbrev with_number : Op → ℕ → ℕ → List Token
with_number what n digits = tokens_in (head_text what)
    ++ (record {
      column = length (head_text what) + 1;
      end = length (head_text what) + 2 + digits;
      kind = kind.Number n;
    }) ∷ []

-- instructions with a byte
module _ (c : ℕ) (is_byte : c < 256) where
  abbrev byte_line : ℕ → List ℕ
  byte_line k = line_of (entry.Byte (found (decoded (0x20 + k))) c)

  byte_computes : (at : ℕ) → Computes byte_line (λ k. with_number (found (decoded (0x20 + k))) c 2) (λ k. (0x20 + k) ∷ c ∷ []) 8 at
  unfolding all_open
  byte_computes at = record {
    printable = rw (hex2_printable c is_byte) refl;
    short = refl;
    read = rw (hex2_read c [] is_byte refl) refl;
    behind_label = refl;
    statement_at = λ address. refl;
    fills = refl;
    instruction_of = rw (octet_byte c is_byte) refl;
  }

  pub says_byte : (k at : ℕ) → k < 8 → Says at (line_of (entry.Byte (found (decoded (0x20 + k))) c)) ((0x20 + k) ∷ c ∷ [])
  says_byte k at below = says_below (byte_computes at) k below

-- instructions with a word
module _ (c d : ℕ) (high : c < 256) (low : d < 256) where
  abbrev word_line : ℕ → List ℕ
  word_line k = line_of (entry.Word (found (decoded (0x28 + k))) (256 * c + d))

  is_word : 256 * c + d < 65536
  is_word = omega arith

  word_computes : (at : ℕ) → Computes word_line (λ k. with_number (found (decoded (0x28 + k))) (256 * c + d) 4) (λ k. (0x28 + k) ∷ c ∷ d ∷ []) 3 at
  unfolding all_open
  word_computes at = record {
    printable = rw (hex4_printable (256 * c + d) is_word) refl;
    short = refl;
    read = rw (hex4_read (256 * c + d) [] is_word refl) refl;
    behind_label = refl;
    statement_at = λ address. refl;
    fills = refl;
    instruction_of = rw (small_word (256 * c + d) is_word, high_of c d low, low_of c d low) refl;
  }

  pub says_word : (k at : ℕ) → k < 3 → Says at (line_of (entry.Word (found (decoded (0x28 + k))) (256 * c + d))) ((0x28 + k) ∷ c ∷ d ∷ [])
  says_word k at below = says_below (word_computes at) k below

-- branches to the place w, whose displacement is c: the opcodes from 80 to 87 and from 8F to 9F
module _ (w c at : ℕ) (is_word : w < 65536) (reaches : octet 127 (pos w -ℤ pos (at + 1)) ≡ Some c) where
  abbrev branch_line : ℕ → ℕ → List ℕ
  branch_line from k = line_of (entry.Word (found (decoded (from + k))) w)

  abbrev branch_tokens : ℕ → ℕ → List Token
  branch_tokens from k = with_number (found (decoded (from + k))) w 4

  mask_computes : Computes (branch_line 0x80) (branch_tokens 0x80) (λ k. (0x80 + k) ∷ c ∷ []) 8 at
  unfolding numbers_open
  mask_computes = record {
    printable = rw (hex4_printable w is_word) refl;
    short = refl;
    read = rw (hex4_read w [] is_word refl) refl;
    behind_label = refl;
    statement_at = λ address. refl;
    fills = refl;
    instruction_of = rw reaches refl;
  }

  branch_computes : Computes (branch_line 0x8F) (branch_tokens 0x8F) (λ k. (0x8F + k) ∷ c ∷ []) 17 at
  unfolding numbers_open
  branch_computes = record {
    printable = rw (hex4_printable w is_word) refl;
    short = refl;
    read = rw (hex4_read w [] is_word refl) refl;
    behind_label = refl;
    statement_at = λ address. refl;
    fills = refl;
    instruction_of = rw reaches refl;
  }

  pub says_mask : (k : ℕ) → k < 8 → Says at (line_of (entry.Word (found (decoded (0x80 + k))) w)) ((0x80 + k) ∷ c ∷ [])
  says_mask k below = says_below mask_computes k below

  pub says_branch : (k : ℕ) → k < 17 → Says at (line_of (entry.Word (found (decoded (0x8F + k))) w)) ((0x8F + k) ∷ c ∷ [])
  says_branch k below = says_below branch_computes k below
