-- A listing assembles to its bytes again, and isn't long.
use Rattle.std.proofs.Common.{◌≡◌, ℕ, ◌+◌, ◌*◌, zero, suc, ◌≤◌, false, List, [], ◌∷◌, ◌++◌, length, length-append, map}
use Rattle.std.proofs.Common.{replicate, Option, Ok, refl, ◌∙◌, ap, arith}
use Rattle.std.specs.Prelude.{codes}
use Rattle.std.specs.List.{list_any}
use Rattle.std.proofs.lemmas.Str.{IsUtf8-from_ascii}
use Rattle.asm_text.specs.Tokens.{tokens_of}
use Rattle.asm_text.specs.declared.answers.Token.{Token}
use Rattle.asm_text.specs.declared.answers.TokenKind.TheVariants as kind
use Rattle.f8_asm.specs.declared.spelling.Entry.{Entry}
use Rattle.f8_asm.specs.Image.{ascending, image_in, image_of, everywhere, bytes_from, picture_of}
use Rattle.text_lines.specs.Lines.{lines}
use Rattle.f8_asm.specs.Listing.{entries, listing}
use Rattle.f8_asm.specs.Marks.{no_marks}
use Rattle.f8_asm.specs.PassOne.{read_line, no_reading}
use Rattle.f8_asm.specs.PassTwo.{no_layout, place, settle}
use Rattle.f8_asm.specs.PassThree.{no_bytes, table_with, line_bytes, emit}
use Rattle.f8_asm.specs.Steps.{steps}
use Rattle.f8_asm.proofs.LineTokens.{some_utf8}
use Rattle.f8_asm.proofs.ListedBytes.{all_open, numbers_open}
use Rattle.f8_asm.proofs.ListedLines.{line_of, text_of, all_written, line_first}
use Rattle.f8_asm.proofs.ListedPieces.{AreBytes, Coded, coded_none, coded_more, coded_entries}
use Rattle.f8_asm.proofs.ListedPasses.{printable_ascii, reading, numbered, read_all, FreeFrom, layout, place_all, emit_all, image_bytes}

-- ---- the first line

abbrev org : List ℕ
org = codes "ORG $0000"

abbrev org_tokens : List Token
org_tokens = (record { column = 1; end = 4; kind = kind.Name (codes "ORG") }) ∷ (record { column = 5; end = 10; kind = kind.Number 0 }) ∷ []

org_read : tokens_of org ≡ Ok org_tokens
unfolding numbers_open
org_read = refl

org_line : read_line no_reading org ≡ Ok (reading (numbered 1 org_tokens ∷ []))
unfolding all_open read_line no_reading
org_line = rw (some_utf8 1 org (IsUtf8-from_ascii org (printable_ascii org refl)), org_read) refl

org_placed : (size : ℕ) → place everywhere (no_layout size) (numbered 1 org_tokens)
    ≡ Ok (layout 0 (no_marks size) ((record { address = 0; line = numbered 1 org_tokens }) ∷ []))
unfolding all_open place settle
org_placed size = refl

org_emitted : (table : List (Option ℕ)) → emit [] table (record { address = 0; line = numbered 1 org_tokens }) ≡ Ok table
unfolding all_open emit line_bytes
org_emitted table = refl

-- ---- the text

-- the lines of a listing are its statements
lines_coded : {at : ℕ} {es : List Entry} {bytes : List ℕ} → Coded at es bytes → lines (text_of es) ≡ map line_of es
lines_coded coded_none = refl
lines_coded (coded_more {at} {e} {es} says behind) = line_first (line_of e) (text_of es) says.printable ∙ ap (λ ls. line_of e ∷ ls) (lines_coded behind)

listed : (bytes : List ℕ) → Coded 0 (entries 0 0 0 bytes) bytes → lines (listing bytes) ≡ org ∷ map line_of (entries 0 0 0 bytes)
unfolding listing
listed bytes instruction_of = ap lines (all_written (org ++ 10 ∷ []) (entries 0 0 0 bytes))
    ∙ line_first org (text_of (entries 0 0 0 bytes)) refl ∙ ap (λ ls. org ∷ ls) (lines_coded instruction_of)

-- ---- nothing is filled before

any_none : (n : ℕ) → list_any (λ m. m) (replicate n false) ≡ false
any_none zero = refl
any_none (suc n) = any_none n

-- every address is free at first
free : (n : ℕ) → FreeFrom (no_marks n) 0
unfolding no_marks
free n = record { is = any_none n }

-- bytes put in an empty table
image_is : (n : ℕ) (bytes : List ℕ) → length bytes ≤ n → ascending 0 (table_with (no_bytes n) 0 bytes) ≡ bytes_from 0 bytes
unfolding no_bytes
image_is n bytes fits = image_bytes n bytes fits

-- The image of a listing has its bytes, and no names. The number of addresses is a variable, so that no list of them is written out.
listing_image : (n : ℕ) (bytes : List ℕ) → n ≤ 65536 → AreBytes bytes → length bytes ≤ n → image_in n (listing bytes) everywhere ≡ Ok (picture_of bytes)
unfolding image_in steps
listing_image n bytes least all fits =
    let instruction_of = coded_entries 0 0 0 bytes all (omega arith) in
    let read = read_all instruction_of (numbered 1 org_tokens ∷ []) in
    let placed = place_all read.reads (no_marks n) ((record { address = 0; line = numbered 1 org_tokens }) ∷ []) (free n) (omega arith) in
    rw (
      listed bytes instruction_of,
      org_line,
      read.is,
      org_placed n,
      placed.is,
      placed.names,
      placed.placed,
      org_emitted (no_bytes n),
      emit_all placed.emits (no_bytes n),
      image_is n bytes fits,
    ) refl

pub round_trip : (bytes : List ℕ) → AreBytes bytes → length bytes ≤ 65536 → image_of (listing bytes) everywhere ≡ Ok (picture_of bytes)
unfolding image_of
round_trip bytes all fits = listing_image 65536 bytes (omega arith) all fits

-- ---- the size of a text

text_short : {at : ℕ} {es : List Entry} {bytes : List ℕ} → Coded at es bytes → length (text_of es) ≤ 8 * length bytes
text_short coded_none = omega arith
text_short (coded_more {at} {e} {es} {front} {rest} says behind) =
    omega (arith, length-append (line_of e) (10 ∷ text_of es), length-append front rest, says.short, text_short behind)

-- a text has at most 8 bytes for each byte, behind the 10 of its first line
pub listing_short : (bytes : List ℕ) → AreBytes bytes → length bytes ≤ 65536 → length (listing bytes) ≤ 8 * length bytes + 10
unfolding listing
listing_short bytes all fits =
    let instruction_of = coded_entries 0 0 0 bytes all (omega arith) in
    let parts = ap length (all_written (org ++ 10 ∷ []) (entries 0 0 0 bytes)) ∙ length-append (org ++ 10 ∷ []) (text_of (entries 0 0 0 bytes)) in
    omega (arith, parts, text_short instruction_of)
