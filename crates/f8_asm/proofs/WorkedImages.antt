-- Texts worked by hand, from their bytes to their images or faults, computed from the definitions. The addresses behind those that a text
-- fills are a variable, so that no list of them is written out.
use Rattle.std.proofs.Common.{◌≡◌, ℕ, suc, true, pos, List, [], ◌∷◌, ◌++◌, ◌+◌, length, drop, take, Ok, Err, refl, sym, ◌∙◌}
use Rattle.text_lines.specs.Printable.{is_printable}
use Rattle.std.specs.Prelude.{codes}
use Rattle.std.specs.List.{list_all}
use Rattle.std.proofs.lemmas.Str.{IsUtf8-from_ascii}
use Rattle.asm_text.specs.Tokens.{tokens_of}
use Rattle.asm_text.specs.declared.answers.Token.{Token}
use Rattle.f8_asm.specs.declared.answers.AsmCause.TheVariants.{Twice, Undefined, Range, BranchRange, Overlap}
use Rattle.f8_asm.specs.Image.{image_in, image_of, everywhere}
use Rattle.text_lines.specs.Lines.{lines}
use Rattle.f8_asm.specs.Marks.{no_marks}
use Rattle.f8_asm.specs.PassOne.{tokens_in, line_tokens, read_line, read_lines, Reading, no_reading}
use Rattle.f8_asm.specs.PassTwo.{no_layout, settle, place, place_lines}
use Rattle.f8_asm.specs.PassThree.{no_bytes, line_bytes, emit}
use Rattle.f8_asm.specs.Steps.{steps}
use Rattle.f8_asm.specs.TokenLines.{Line}
use Rattle.f8_asm.proofs.LineTokens.{some_utf8}
use Rattle.f8_asm.proofs.ListedBytes.{numbers_open}
use Rattle.f8_asm.proofs.Steps.{steps_end, steps_more}
use Rattle.f8_asm.proofs.ListedPasses.{printable_ascii, reading, numbered, ascending_none}

-- what a text is assembled by is open under `unfolding assembly_open`
unfoldable assembly_open : Unit {0}
unfolding numbers_open image_in steps read_line no_reading no_marks settle place no_bytes line_bytes emit
assembly_open = tt

-- the tokens of a printable line
printable_tokens : (number : ℕ) (l : List ℕ) → list_all is_printable l ≡ true → line_tokens number l ≡ tokens_in number (tokens_of l)
printable_tokens number l all = some_utf8 number l (IsUtf8-from_ascii l (printable_ascii l all))

abbrev tokens : List ℕ → List Token
tokens l = elim (tokens_of l) [ Ok ts ↦ ts | Err fault ↦ [] ]

-- a label and a branch back to it
abbrev loop_text : List ℕ
loop_text = codes "LOOP: NOP\nBR LOOP"

loop_in : (n : ℕ) → image_in (suc (suc (suc n))) loop_text everywhere ≡ Ok
    (record { bytes = (0, 0x2B) ∷ (1, 0x90) ∷ (2, 0xFE) ∷ []; symbols = (codes "LOOP", pos 0) ∷ [] })
unfolding assembly_open
loop_in n = rw (printable_tokens 1 (codes "LOOP: NOP") refl, printable_tokens 2 (codes "BR LOOP") refl, ascending_none 3 n) refl

loop : image_of loop_text everywhere ≡ Ok (record { bytes = (0, 0x2B) ∷ (1, 0x90) ∷ (2, 0xFE) ∷ []; symbols = (codes "LOOP", pos 0) ∷ [] })
unfolding image_of
loop = loop_in 65533

-- two bytes at address 0002
abbrev overlap_text : List ℕ
overlap_text = codes " ORG 2\n DB 1\n ORG 2\n DB 2"

org_line : (done : List Line)
    → read_line (reading done) (codes " ORG 2") ≡ Ok (reading (done ++ numbered (length done + 1) (tokens (codes " ORG 2")) ∷ []))
unfolding assembly_open
org_line done = rw (printable_tokens (length done + 1) (codes " ORG 2") refl) refl

one_line : (done : List Line)
    → read_line (reading done) (codes " DB 1") ≡ Ok (reading (done ++ numbered (length done + 1) (tokens (codes " DB 1")) ∷ []))
unfolding assembly_open
one_line done = rw (printable_tokens (length done + 1) (codes " DB 1") refl) refl

two_line : (done : List Line)
    → read_line (reading done) (codes " DB 2") ≡ Ok (reading (done ++ numbered (length done + 1) (tokens (codes " DB 2")) ∷ []))
unfolding assembly_open
two_line done = rw (printable_tokens (length done + 1) (codes " DB 2") refl) refl

abbrev overlap_lines : List Line
overlap_lines =
    numbered 1 (tokens (codes " ORG 2")) ∷ numbered 2 (tokens (codes " DB 1"))
    ∷ numbered 3 (tokens (codes " ORG 2")) ∷ numbered 4 (tokens (codes " DB 2")) ∷ []

-- what is read of the lines before this many, and the lines behind
abbrev read_before : ℕ → Reading
read_before n = reading (take n overlap_lines)

abbrev lines_behind : ℕ → List (List ℕ)
lines_behind n = drop n (codes " ORG 2" ∷ codes " DB 1" ∷ codes " ORG 2" ∷ codes " DB 2" ∷ [])

overlap_read : read_lines no_reading (lines overlap_text) ≡ Ok (reading overlap_lines)
unfolding no_reading
overlap_read =
    sym (steps_more read_line (read_before 0) (read_before 1) (codes " ORG 2") (lines_behind 1) (org_line (take 0 overlap_lines)))
    ∙ sym (steps_more read_line (read_before 1) (read_before 2) (codes " DB 1") (lines_behind 2) (one_line (take 1 overlap_lines)))
    ∙ sym (steps_more read_line (read_before 2) (read_before 3) (codes " ORG 2") (lines_behind 3) (org_line (take 2 overlap_lines)))
    ∙ sym (steps_more read_line (read_before 3) (read_before 4) (codes " DB 2") (lines_behind 4) (two_line (take 3 overlap_lines)))
    ∙ steps_end read_line (read_before 4)

overlap_laid : (n : ℕ) → place_lines everywhere (no_layout (suc (suc (suc n)))) overlap_lines ≡ Err
    (record { line = 4; column = 2; cause = Overlap })
unfolding assembly_open
overlap_laid n = refl

overlap_in : (n : ℕ) → image_in (suc (suc (suc n))) overlap_text everywhere ≡ Err (record { line = 4; column = 2; cause = Overlap })
unfolding image_in
overlap_in n = rw (overlap_read, overlap_laid n) refl

overlap : image_of overlap_text everywhere ≡ Err (record { line = 4; column = 2; cause = Overlap })
unfolding image_of
overlap = overlap_in 65533

-- a number above 4,294,967,295
literal_too_wide_in : (n : ℕ) → image_in n (codes "X: EQU $100000000") everywhere ≡ Err (record { line = 1; column = 8; cause = Range })
unfolding assembly_open
literal_too_wide_in n = rw (printable_tokens 1 (codes "X: EQU $100000000") refl) refl

literal_too_wide : image_of (codes "X: EQU $100000000") everywhere ≡ Err (record { line = 1; column = 8; cause = Range })
unfolding image_of
literal_too_wide = literal_too_wide_in 65536

-- 256 is no byte
byte_too_large_in : (n : ℕ) → image_in (suc (suc n)) (codes " LI 256") everywhere ≡ Err (record { line = 1; column = 5; cause = Range })
unfolding assembly_open
byte_too_large_in n = rw (printable_tokens 1 (codes " LI 256") refl) refl

byte_too_large : image_of (codes " LI 256") everywhere ≡ Err (record { line = 1; column = 5; cause = Range })
unfolding image_of
byte_too_large = byte_too_large_in 65534

-- 512 less 1 is 511
branch_too_far_in : (n : ℕ) → image_in (suc (suc n)) (codes " BT 1,$200") everywhere ≡ Err
    (record { line = 1; column = 7; cause = BranchRange })
unfolding assembly_open
branch_too_far_in n = rw (printable_tokens 1 (codes " BT 1,$200") refl) refl

branch_too_far : image_of (codes " BT 1,$200") everywhere ≡ Err (record { line = 1; column = 7; cause = BranchRange })
unfolding image_of
branch_too_far = branch_too_far_in 65534

-- a line's own label has no value yet
label_of_its_own_line_in : (n : ℕ) → image_in n (codes "X: ORG X") everywhere ≡ Err (record { line = 1; column = 8; cause = Undefined })
unfolding assembly_open
label_of_its_own_line_in n = rw (printable_tokens 1 (codes "X: ORG X") refl) refl

label_of_its_own_line : image_of (codes "X: ORG X") everywhere ≡ Err (record { line = 1; column = 8; cause = Undefined })
unfolding image_of
label_of_its_own_line = label_of_its_own_line_in 65536

label_twice_in : (n : ℕ) → image_in n (codes "X:\nX: NOP") everywhere ≡ Err (record { line = 2; column = 1; cause = Twice })
unfolding assembly_open
label_twice_in n = rw (printable_tokens 1 (codes "X:") refl, printable_tokens 2 (codes "X: NOP") refl) refl

label_twice : image_of (codes "X:\nX: NOP") everywhere ≡ Err (record { line = 2; column = 1; cause = Twice })
unfolding image_of
label_twice = label_twice_in 65536
