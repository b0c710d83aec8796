-- The lines of one source, module by module, however it spells their names.
use Rattle.std.proofs.Common.{◌≡◌, ℕ, ◌+◌, List, [], ◌∷◌, ◌++◌, length, map, refl, ap, ◌∙◌, arith}
use Rattle.asm_text.specs.declared.answers.Token.{Token}
use Rattle.f8_link.specs.declared.parts.Part.{Part}
use Rattle.f8_link.specs.OneSource.{SourceLine, tokens_in, statement_lines, numbered, one_source}
use Rattle.f8_link.proofs.ModulePlaced.{lines_with}
use Rattle.f8_link.proofs.Modules.{Spell, shared_spell, plain_spell}
use Rattle.f8_link.proofs.OriginLine.{origin_source}
use Rattle.f8_link.proofs.PartsGo.{Placing, parts_lines}
use Rattle.f8_link.proofs.PlainText.{plain_modules, plain_source}
use Rattle.f8_link.proofs.SourceRead.{spelled_lines}
use Rattle.f8_link.proofs.SourceReads.{part_source, parts_source, one_source_is, lines_are}

-- modules are those of these texts and parts, the first of which has this number
pub data PartsAre (spell : Spell) : ℕ → List (List ℕ) → List Part → List Placing → Type 0 where
  no_parts : {number : ℕ} → PartsAre spell number [] [] []
  one_more : {number : ℕ} {text : List ℕ} {texts : List (List ℕ)} {part : Part} {parts : List Part} {p : Placing} {ps : List Placing}
      → p.first ≡ part.room.first → p.rename ≡ spell number part → p.tokens ≡ map tokens_in (statement_lines text)
      → PartsAre spell (number + 1) texts parts ps → PartsAre spell number (text ∷ texts) (part ∷ parts) (p ∷ ps)

-- lines with their numbers, and those behind them
lines_numbered : (rename : List ℕ → List ℕ) (tss : List (List Token)) (rest : List SourceLine) (number : ℕ)
    → numbered number (spelled_lines rename tss ++ rest) ≡ lines_with rename number tss ++ numbered (number + length tss) rest
unfolding numbered
lines_numbered rename [] rest number = ap (λ (n : ℕ). numbered n rest) (omega arith)
lines_numbered rename (ts ∷ tss) rest number =
    let line : SourceLine = record { rename = rename; number = number; tokens = ts } in
    let behind : number + 1 + length tss ≡ number + length (ts ∷ tss) = omega arith in
    ap (λ r. line ∷ r)
    (lines_numbered rename tss rest (number + 1) ∙ ap (λ (n : ℕ). lines_with rename (number + 1) tss ++ numbered n rest) behind)

module_numbered : (line : ℕ) (rename : List ℕ → List ℕ) (text : List ℕ) (part : Part) (rest : List SourceLine)
    → numbered line (part_source rename text part ++ rest)
    ≡ origin_source line part.room.first
    ∷ (lines_with rename (line + 1) (map tokens_in (statement_lines text))
    ++ numbered (line + 1 + length (map tokens_in (statement_lines text))) rest)
unfolding numbered
module_numbered line rename text part rest =
    ap (λ r. origin_source line part.room.first ∷ r) (lines_numbered rename (map tokens_in (statement_lines text)) rest (line + 1))

-- the lines of these modules
pub parts_numbered : {spell : Spell} {number : ℕ} {texts : List (List ℕ)} {parts : List Part} {ps : List Placing} → PartsAre spell number texts parts ps
    → (line : ℕ) → numbered line (parts_source spell number texts parts) ≡ parts_lines line ps
unfolding parts_source numbered
parts_numbered no_parts line = refl
parts_numbered {spell} (one_more {number} {text} {texts} {part} {parts} {p} {ps} first rename tokens rest) line =
    module_numbered line (spell number part) text part (parts_source spell (number + 1) texts parts)
    ∙ rw (first, rename, tokens)
    (ap (λ r. origin_source line part.room.first ∷ (lines_with (spell number part) (line + 1) (map tokens_in (statement_lines text)) ++ r))
    (parts_numbered rest (line + 1 + length (map tokens_in (statement_lines text)))))

-- and of the whole one source
pub one_source_lines : (texts : List (List ℕ)) (parts : List Part) (ps : List Placing) → PartsAre shared_spell 0 texts parts ps
    → one_source texts parts ≡ parts_lines 1 ps
one_source_lines texts parts ps are = one_source_is texts parts ∙ parts_numbered are 1

-- ---- with names as they are

plain_are : (number : ℕ) (texts : List (List ℕ)) (parts : List Part) → plain_modules texts parts ≡ parts_source plain_spell number texts parts
unfolding parts_source
plain_are number [] [] = refl
plain_are number [] (p ∷ ps) = refl
plain_are number (t ∷ ts) [] = refl
plain_are number (t ∷ ts) (p ∷ ps) = rw (lines_are (λ x. x) (statement_lines t), plain_are (number + 1) ts ps) refl

pub plain_source_lines : (texts : List (List ℕ)) (parts : List Part) (ps : List Placing) → PartsAre plain_spell 0 texts parts ps
    → plain_source texts parts ≡ parts_lines 1 ps
plain_source_lines texts parts ps are = ap (λ q. numbered 1 q) (plain_are 0 texts parts) ∙ parts_numbered are 1
