-- A listing as lines, and what it is for a line to be read as bytes.
use Rattle.std.proofs.Common.{◌≡◌, ℕ, ◌*◌, ◌<◌, true, false, List, [], ◌∷◌, ◌++◌, length, None, Ok, refl, sym, ◌∙◌, ap, arith, append_assoc}
use Rattle.std.proofs.Common.{append-nil}
use Rattle.text_lines.specs.Printable.{is_printable}
use Rattle.std.specs.Prelude.{codes}
use Rattle.std.specs.List.{list_all}
use Rattle.std.proofs.lemmas.Bool.Decides.{nat_tests}
use Rattle.f8_spec.specs.Spelling.{hex2, hex4}
use Rattle.asm_text.specs.Tokens.{tokens_of}
use Rattle.asm_text.specs.declared.answers.Token.{Token}
use Rattle.f8_spec.specs.Instructions.{mnemonic_of}
use Rattle.f8_spec.specs.declared.instructions.Op.{Op}
use Rattle.f8_asm.specs.declared.operands.Effect.TheVariants.{Fills}
use Rattle.f8_asm.specs.declared.operands.Statement.{Statement}
use Rattle.f8_asm.specs.declared.spelling.Entry.{Entry}
use Rattle.f8_asm.specs.declared.spelling.Entry.TheVariants as entry
use Rattle.f8_asm.specs.declared.values.Outcome.{Outcome}
use Rattle.f8_asm.specs.Bytes.{bytes_of}
use Rattle.f8_asm.specs.Evaluation.{values}
use Rattle.text_lines.specs.Lines.{lines, without_return}
use Rattle.f8_asm.specs.Listing.{front_of, field_of, field_text, back_of, with_entry, with_entries}
use Rattle.f8_asm.specs.Statements.{statement, label_of, effect_of}
use Rattle.text_lines.proofs.LineLaws.{no_feed, lines_at_feed}

-- ---- the text of a listing, line by line

abbrev pub head_text : Op → List ℕ
head_text op = mnemonic_of op ++ front_of op ++ field_text (field_of op) ++ back_of op

-- a statement without its line end; 36 is `$`
abbrev pub line_of : Entry → List ℕ
line_of (entry.Data b) = codes "DB $" ++ hex2 b
line_of (entry.Plain op) = head_text op
line_of (entry.Byte op b) = head_text op ++ 36 ∷ hex2 b
line_of (entry.Word op w) = head_text op ++ 36 ∷ hex4 w

abbrev pub text_of : List Entry → List ℕ
text_of [] = []
text_of (e ∷ es) = line_of e ++ 10 ∷ text_of es

one_written : (written : List ℕ) (e : Entry) → with_entry written e ≡ written ++ (line_of e ++ 10 ∷ [])
one_written written (entry.Data b) = simp append_assoc
one_written written (entry.Plain op) = simp append_assoc
one_written written (entry.Byte op b) = simp append_assoc
one_written written (entry.Word op w) = simp append_assoc

-- statements behind a text are its lines
pub all_written : (written : List ℕ) (es : List Entry) → with_entries written es ≡ written ++ text_of es
all_written written [] = sym (append-nil written)
all_written written (e ∷ es) = all_written (with_entry written e) es ∙ rw (one_written written e) (simp append_assoc)

-- printable bytes hold no line end
printable_no_feed : (l : List ℕ) → list_all is_printable l ≡ true → list_all no_feed l ≡ true
printable_no_feed [] all = refl
printable_no_feed (b ∷ bs) all =
    let rest : list_all is_printable bs ≡ true = grind (arith, nat_tests) in
    grind (arith, nat_tests, printable_no_feed bs rest)

printable_no_return : (l : List ℕ) → list_all is_printable l ≡ true → without_return l ≡ l
printable_no_return [] all = refl
printable_no_return (b ∷ bs) all =
    let rest : list_all is_printable bs ≡ true = grind (arith, nat_tests) in
    grind (arith, nat_tests, printable_no_return bs rest)

-- a printable line is the first of a text
pub line_first : (l rest : List ℕ) → list_all is_printable l ≡ true → lines (l ++ 10 ∷ rest) ≡ l ∷ lines rest
line_first l rest all = lines_at_feed l rest (printable_no_feed l all) ∙ ap (λ first. first ∷ lines rest) (printable_no_return l all)

-- ---- lines and bytes

-- the statement of a line without a label, at this address, has these bytes
pub record Gives (at : ℕ) (ts : List Token) (front : List ℕ) : Type 0 where
  pub st : Statement Outcome
  pub behind_label : label_of ts ≡ None
  pub statement_at : (address : ℕ) → statement (values [] address) false ts ≡ Ok st
  pub fills : effect_of st ≡ Fills (length front)
  pub instruction_of : bytes_of at st ≡ Ok front

-- a line has tokens, and their statement has these bytes; it is shorter than 8 bytes for each of them
pub record Says (at : ℕ) (line front : List ℕ) : Type 0 where
  pub ts : List Token
  pub printable : list_all is_printable line ≡ true
  pub short : length line < 8 * length front
  pub read : tokens_of line ≡ Ok ts
  pub gives : Gives at ts front
