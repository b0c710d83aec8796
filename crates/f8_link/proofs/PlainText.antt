-- The joined text of modules, and its lines.
use Rattle.std.proofs.Common.{◌≡◌, ℕ, ◌/◌, ◌%◌, ◌<◌, true, List, [], ◌∷◌, ◌++◌, map, Ok, refl, sym, ◌∙◌, ap, subst, arith, append_assoc}
use Rattle.std.specs.List.{list_all, flat_map, AllZip}
use Rattle.std.proofs.lemmas.Bool.Decides.{nat_tests}
use Rattle.std.proofs.lemmas.Str.{IsUtf8-from_ascii}
use Rattle.asm_text.specs.Tokens.{tokens_of}
use Rattle.asm_text.proofs.Spelled.{hex4_read}
use Rattle.f8_spec.specs.Spelling.{hex_digit, hex4}
use Rattle.f8_asm.specs.Image.{everywhere, image_of}
use Rattle.f8_asm.specs.PassOne.{line_tokens}
use Rattle.f8_asm.proofs.LineTokens.{some_utf8}
use Rattle.f8_asm.proofs.ListedBytes.{all_open}
use Rattle.f8_asm.proofs.ListedLines.{line_first}
use Rattle.f8_asm.proofs.ListedPasses.{printable_ascii}
use Rattle.f8_link.specs.declared.parts.Part.{Part}
use Rattle.f8_link.specs.OneSource.{SourceLine, numbered, source_image, tokens_in, statement_lines, is_statement, origin_tokens}
use Rattle.f8_link.specs.OneSource.{origin_line, ended}
use Rattle.f8_link.specs.OneSource.{module_text, joined, IsCompiled}
use Rattle.f8_link.proofs.PlainLines.{Each, each_none, each_more, each_filtered, HasNoFeed, lines_no_feed, HasTokens, compiled_tokens}
use Rattle.f8_link.proofs.PlainPasses.{plain_line, TextLines, no_lines, more_lines, image_same}
use Rattle.f8_link.proofs.PlainReturns.{unreturned_tokens}
use Rattle.text_lines.specs.Lines.{lines, without_return}
use Rattle.text_lines.specs.Printable.{is_printable}
use Rattle.text_lines.proofs.LineLaws.{lines_at_feed}

-- the lines of a module where names are spelled as they stand, with no numbers yet
abbrev pub plain_module : List ℕ → Part → List SourceLine
plain_module text p = plain_line (origin_tokens p.room.first) ∷ map (λ line. plain_line (tokens_in line)) (statement_lines text)

abbrev pub plain_modules : List (List ℕ) → List Part → List SourceLine
plain_modules (t ∷ ts) (p ∷ ps) = plain_module t p ++ plain_modules ts ps
plain_modules ts ps = []

-- the lines of all modules one after the other, numbered from 1
abbrev pub plain_source : List (List ℕ) → List Part → List SourceLine
plain_source texts parts = numbered 1 (plain_modules texts parts)

-- each module begins at an address
abbrev pub BeginInside : List Part → Type 0
BeginInside [] = Unit {0}
BeginInside (p ∷ ps) = (p.room.first < 65536) × BeginInside ps

-- ---- ` ORG $AAAA`

-- the line without its end
abbrev origin_text : ℕ → List ℕ
origin_text address = 32 ∷ 79 ∷ 82 ∷ 71 ∷ 32 ∷ 36 ∷ hex4 address

hex_digit_printable : (d : ℕ) → d < 16 → is_printable (hex_digit d) ≡ true
hex_digit_printable d h = grind (arith, nat_tests)

origin_printable : (w : ℕ) → w < 65536 → list_all is_printable (origin_text w) ≡ true
origin_printable w h = rw (
  hex_digit_printable (w / 256 / 16) (omega arith),
  hex_digit_printable (w / 256 % 16) (omega arith),
  hex_digit_printable (w % 256 / 16) (omega arith),
  hex_digit_printable (w % 256 % 16) (omega arith),
) refl

origin_spelled : (w : ℕ) → w < 65536 → tokens_of (origin_text w) ≡ Ok (origin_tokens w)
unfolding all_open
origin_spelled w h = rw (hex4_read w [] h refl) refl

origin_read : (w : ℕ) → w < 65536 → (number : ℕ) → line_tokens number (origin_text w) ≡ Ok (origin_tokens w)
origin_read w h number =
    rw (some_utf8 number (origin_text w) (IsUtf8-from_ascii (origin_text w) (printable_ascii (origin_text w) (origin_printable w h))), origin_spelled w h) refl

origin_first : (w : ℕ) (rest : List ℕ) → w < 65536 → lines (origin_line w ++ rest) ≡ origin_text w ∷ lines rest
origin_first w rest h = line_first (origin_text w) rest (origin_printable w h)

-- ---- lines of modules

-- a line and its end before others
ended_first : (l : List ℕ) (rest : List ℕ) → HasNoFeed l → lines (ended l ++ rest) ≡ without_return l ∷ lines rest
ended_first l rest none = ap lines (append_assoc l (10 ∷ []) rest) ∙ lines_at_feed l rest none.is

ended_lines : (ls : List (List ℕ)) (rest : List ℕ) (ms : List SourceLine) → Each HasNoFeed ls → Each HasTokens ls → TextLines (lines rest) ms
    → TextLines (lines (flat_map ended ls ++ rest)) (map (λ line. plain_line (tokens_in line)) ls ++ ms)
ended_lines [] rest ms each_none each_none behind = behind
ended_lines (l ∷ ls) rest ms (each_more none nones) (each_more has others) behind =
    let whole : lines ((ended l ++ flat_map ended ls) ++ rest) ≡ without_return l ∷ lines (flat_map ended ls ++ rest) =
    ap lines (append_assoc (ended l) (flat_map ended ls) rest) ∙ ended_first l (flat_map ended ls ++ rest) none in
    subst (λ all. TextLines all (plain_line (tokens_in l) ∷ (map (λ line. plain_line (tokens_in line)) ls ++ ms))) (sym whole)
    (more_lines (λ number. unreturned_tokens number l (tokens_in l) (has.read number)) (ended_lines ls rest ms nones others behind))

module_lines : (text : List ℕ) (p : Part) (rest : List ℕ) (ms : List SourceLine) → IsCompiled text p → p.room.first < 65536 → TextLines (lines rest) ms
    → TextLines (lines (module_text text p ++ rest)) (plain_module text p ++ ms)
module_lines text p rest ms is inside behind =
    let statements = flat_map ended (statement_lines text) in
    let others = ended_lines (statement_lines text) rest ms (each_filtered is_statement (lines_no_feed text))
    (each_filtered is_statement (compiled_tokens text p.object is)) behind in
    let whole : lines ((origin_line p.room.first ++ statements) ++ rest) ≡ origin_text p.room.first ∷ lines (statements ++ rest) =
    ap lines (append_assoc (origin_line p.room.first) statements rest) ∙ origin_first p.room.first (statements ++ rest) inside in
    subst (λ all. TextLines all (plain_module text p ++ ms)) (sym whole) (more_lines (origin_read p.room.first inside) others)

joined_lines : (texts : List (List ℕ)) (parts : List Part) → AllZip IsCompiled texts parts → BeginInside parts
    → TextLines (lines (joined texts parts)) (plain_modules texts parts)
unfolding joined
joined_lines [] [] all inside = no_lines
joined_lines [] (p ∷ ps) all inside = no_lines
joined_lines (t ∷ ts) [] all inside = no_lines
joined_lines (t ∷ ts) (p ∷ ps) all inside =
    module_lines t p (joined ts ps) (plain_modules ts ps) all.0 inside.0 (joined_lines ts ps all.1 inside.1)

-- the image of the joined text is that of its modules' lines
pub joined_image : (texts : List (List ℕ)) (parts : List Part) → AllZip IsCompiled texts parts → BeginInside parts
    → image_of (joined texts parts) everywhere ≡ source_image (plain_source texts parts)
joined_image texts parts all inside = image_same (joined texts parts) (plain_modules texts parts) (joined_lines texts parts all inside)
