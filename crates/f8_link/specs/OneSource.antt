-- The one source of some modules: all their lines, each module behind an ORG of the address where it begins, and read by the assembler's
-- three passes. A name that a module exports or imports is one for all modules; any other is the module's own, however it is spelled.
use Rattle.std.specs.Prelude.{◌≡◌, ℕ, suc, ℤ, pos, ◌+◌, Bool, false, not, List, [], ◌∷◌, ◌++◌, map, flat_map, All, AllPairs, bytes_eq}
use Rattle.std.specs.Prelude.{Option, Some, None, is_some, option_map, Result, Ok, Err, if◌then◌else◌}
use Rattle.std.specs.List.{list_any, filter}
use Rattle.asm_text.specs.declared.answers.Token.{Token}
use Rattle.asm_text.specs.declared.answers.TokenKind.TheVariants as kind
use Rattle.f8_spec.specs.Spelling.{hex4}
use Rattle.f8_asm.specs.Answers.{◌>>=◌}
use Rattle.f8_asm.specs.Bytes.{bytes_of}
use Rattle.f8_asm.specs.Evaluation.{name_value}
use Rattle.f8_asm.specs.Grammar.{Actions, column_of}
use Rattle.f8_asm.specs.Image.{Picture, ascending, everywhere}
use Rattle.f8_asm.specs.Names.{value_of, with_name}
use Rattle.f8_asm.specs.PassOne.{in_line, line_tokens}
use Rattle.f8_asm.specs.PassThree.{no_bytes, table_with}
use Rattle.f8_asm.specs.PassTwo.{Layout, no_layout, layout_after, with_placed}
use Rattle.f8_asm.specs.Statements.{statement, label_of, behind_label, effect_of, twice}
use Rattle.f8_asm.specs.Steps.{steps}
use Rattle.f8_asm.specs.Values.{both, before}
use Rattle.f8_asm.specs.declared.answers.AsmFault.{AsmFault}
use Rattle.f8_asm.specs.declared.faults.LineFault.{LineFault}
use Rattle.f8_asm.specs.declared.values.Outcome.{Outcome}
use Rattle.f8_asm.specs.declared.values.Outcome.TheVariants.{Value}
use Rattle.f8_link.specs.declared.parts.Part.{Part}
use Rattle.f8_link.specs.Directives.{directive_of, org_word}
use Rattle.f8_link.specs.ThirdPass.{compiled}
use Rattle.text_lines.specs.Lines.{lines}

-- ---- the assembler's passes over lines that spell their names anew

-- a line: how it spells names, its number, and its tokens
pub record SourceLine : Type 0 where
  pub rename : List ℕ → List ℕ
  pub number : ℕ
  pub tokens : List Token

pub record PlacedSource : Type 0 where
  pub address : ℕ
  pub line : SourceLine

abbrev pub renamed_values : (List ℕ → List ℕ) → List (List ℕ × ℤ) → ℕ → Actions Outcome
renamed_values rename names address = record {
  number = λ n. Value (pos n);
  name = λ column name. name_value column (value_of names (rename name));
  here = Value (pos address);
  before = before;
  between = both;
}

-- first: each line makes a statement, and no name is given twice
abbrev pub statement_read : (List ℕ → List ℕ) → List (List ℕ × ℤ) → List Token → Result (Unit {0}) LineFault
statement_read rename names ts = statement (renamed_values rename names 0) (is_some (label_of ts)) (behind_label ts) >>= λ _. Ok tt

abbrev pub label_read : (List ℕ → List ℕ) → List (List ℕ × ℤ) → List Token → Option (List ℕ) → Result (List (List ℕ × ℤ)) LineFault
label_read rename names ts None = Ok names
label_read rename names ts (Some name) =
    if is_some (value_of names (rename name)) then Err (twice (column_of ts)) else Ok (with_name names (rename name) (pos 0))

unfoldable pub source_read : List (List ℕ × ℤ) → SourceLine → Result (List (List ℕ × ℤ)) AsmFault
source_read names l =
    in_line l.number l.tokens (label_read l.rename names l.tokens (label_of l.tokens) >>= λ after. statement_read l.rename names l.tokens
    >>= λ _. Ok after)

-- second: addresses and the values of names
abbrev pub source_settled : SourceLine → Layout PlacedSource → Result (Layout PlacedSource) LineFault
source_settled l s =
    statement (renamed_values l.rename s.names s.here) (is_some (label_of l.tokens)) (behind_label l.tokens) >>= λ st. layout_after everywhere
    (option_map l.rename (label_of l.tokens)) (column_of (behind_label l.tokens)) s (effect_of st)

unfoldable pub source_placed : Layout PlacedSource → SourceLine → Result (Layout PlacedSource) AsmFault
source_placed s l = in_line l.number l.tokens (source_settled l s) >>= λ t. Ok (with_placed (record { address = s.here; line = l }) t)

-- third: bytes
abbrev pub source_bytes : List (List ℕ × ℤ) → PlacedSource → Result (List ℕ) LineFault
source_bytes names p =
    statement (renamed_values p.line.rename names p.address) (is_some (label_of p.line.tokens)) (behind_label p.line.tokens)
    >>= λ st. bytes_of p.address st

unfoldable pub source_emitted : List (List ℕ × ℤ) → List (Option ℕ) → PlacedSource → Result (List (Option ℕ)) AsmFault
source_emitted names table p =
    in_line p.line.number p.line.tokens (source_bytes names p) >>= λ bytes. Ok (table_with table p.address bytes)

unfoldable pub source_image_in : ℕ → List SourceLine → Result Picture AsmFault
source_image_in size ls =
    steps source_read [] ls >>= λ _. steps source_placed (no_layout size) ls >>= λ laid. steps (source_emitted laid.names)
    (no_bytes size) laid.placed >>= λ table. Ok (record { bytes = ascending 0 table; symbols = laid.names })

unfoldable pub source_image : List SourceLine → Result Picture AsmFault
source_image ls = source_image_in 65536 ls

-- ---- the lines of a module's text

-- the tokens of a line that has tokens, as each line of a module does
abbrev pub tokens_read : Result (List Token) AsmFault → List Token
tokens_read (Ok ts) = ts
tokens_read (Err fault) = []

abbrev pub tokens_in : List ℕ → List Token
tokens_in line = tokens_read (line_tokens 1 line)

-- a line that neither exports nor imports
abbrev pub is_statement : List ℕ → Bool
is_statement line = not (is_some (directive_of (tokens_in line)))

-- the lines of a text without those that export or import
abbrev pub statement_lines : List ℕ → List (List ℕ)
statement_lines text = filter is_statement (lines text)

-- ---- names

abbrev pub has : List (List ℕ) → List ℕ → Bool
has names x = list_any (bytes_eq x) names

-- the names that a module exports or imports
abbrev pub shared_names : Part → List (List ℕ)
shared_names p = map (λ e. e.0) p.object.exports ++ p.object.imports

-- one for all modules, or the module's own: no real name has 0 or a number in front
abbrev pub spelled : ℕ → List (List ℕ) → List ℕ → List ℕ
spelled number shared x = if has shared x then 0 ∷ x else suc number ∷ x

-- ---- the one source

-- ` ORG n`
abbrev pub origin_tokens : ℕ → List Token
origin_tokens address =
    (record { column = 2; end = 5; kind = kind.Name org_word }) ∷ (record { column = 6; end = 11; kind = kind.Number address }) ∷ []

-- the lines of a module, with no numbers yet
abbrev pub module_source : ℕ → List ℕ → Part → List SourceLine
module_source number text p =
    (record { rename = λ x. x; number = 0; tokens = origin_tokens p.room.first }) ∷ map
    (λ line. record { rename = spelled number (shared_names p); number = 0; tokens = tokens_in line }) (statement_lines text)

unfoldable pub modules_source : ℕ → List (List ℕ) → List Part → List SourceLine
modules_source number (t ∷ ts) (p ∷ ps) = module_source number t p ++ modules_source (number + 1) ts ps
modules_source number ts ps = []

-- lines with their numbers, the first of which is this
unfoldable pub numbered : ℕ → List SourceLine → List SourceLine
numbered number [] = []
numbered number (l ∷ ls) = (record { rename = l.rename; number = number; tokens = l.tokens }) ∷ numbered (number + 1) ls

abbrev pub one_source : List (List ℕ) → List Part → List SourceLine
one_source texts parts = numbered 1 (modules_source 0 texts parts)

-- ---- what linking promises

-- a module's object is that of a text
abbrev pub IsCompiled : List ℕ → Part → Type 0
IsCompiled text p = compiled text ≡ Ok p.object

-- the bytes are those of the one source, and each exported name has its value there
abbrev pub IsOneSource : Picture → Result Picture AsmFault → Type 0
IsOneSource linked (Ok source) = (linked.bytes ≡ source.bytes) × All (λ e. value_of source.symbols (0 ∷ e.0) ≡ Some e.1) linked.symbols
IsOneSource linked (Err fault) = ⊥

-- ---- and as a text, where no name is defined in two modules

-- ` ORG $AAAA` and a line end
abbrev pub origin_line : ℕ → List ℕ
origin_line address = 32 ∷ 79 ∷ 82 ∷ 71 ∷ 32 ∷ 36 ∷ (hex4 address ++ 10 ∷ [])

abbrev pub ended : List ℕ → List ℕ
ended line = line ++ 10 ∷ []

abbrev pub module_text : List ℕ → Part → List ℕ
module_text text p = origin_line p.room.first ++ flat_map ended (statement_lines text)

unfoldable pub joined : List (List ℕ) → List Part → List ℕ
joined (t ∷ ts) (p ∷ ps) = module_text t p ++ joined ts ps
joined ts ps = []

-- the names that a text defines
abbrev pub label_list : Option (List ℕ) → List (List ℕ)
label_list None = []
label_list (Some name) = name ∷ []

abbrev pub defined_names : List ℕ → List (List ℕ)
defined_names text = flat_map (λ line. label_list (label_of (tokens_in line))) (statement_lines text)

abbrev pub NoneShared : List (List ℕ) → List (List ℕ) → Type 0
NoneShared xs ys = All (λ x. has ys x ≡ false) xs

abbrev pub NoNameTwice : List (List ℕ) → Type 0
NoNameTwice texts = AllPairs (λ t u. NoneShared (defined_names t) (defined_names u)) texts

abbrev pub HasBytes : List (ℕ × ℕ) → Result Picture AsmFault → Type 0
HasBytes bytes (Ok source) = source.bytes ≡ bytes
HasBytes bytes (Err fault) = ⊥
