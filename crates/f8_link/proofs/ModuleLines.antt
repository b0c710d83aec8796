-- Lines of a module as its first pass leaves them, beside the tokens of its statements' lines.
use Rattle.std.specs.Prelude.{◌≡◌, ℕ, false, List, [], ◌∷◌, Option, Some, None, Ok}
use Rattle.asm_text.specs.declared.answers.Token.{Token}
use Rattle.f8_asm.specs.ParsedLines.{parsed}
use Rattle.f8_asm.specs.Statements.{label_of}
use Rattle.f8_asm.specs.declared.line.ParsedLine.{ParsedLine}
use Rattle.f8_link.specs.declared.lines.LineTask.{LineTask}
use Rattle.f8_link.specs.declared.lines.LineTask.TheVariants as line
use Rattle.f8_link.specs.OneSource.{has}

-- each statement is that of its line's tokens; a name that is exported has no line in the one source
pub data LinesPair : List LineTask → List (List Token) → Type 0 where
  no_line : LinesPair [] []
  export_line : {number column : ℕ} {name : List ℕ} {ls : List LineTask} {tss : List (List Token)} → LinesPair ls tss
      → LinesPair (line.Export number column name ∷ ls) tss
  statement_line : {l : ParsedLine} {ts : List Token} {ls : List LineTask} {tss : List (List Token)} → parsed l.number ts ≡ Ok l → LinesPair ls tss
      → LinesPair (line.Statement l ∷ ls) (ts ∷ tss)

-- the names behind a line with this label
abbrev pub seen_after : List (List ℕ) → Option (List ℕ) → List (List ℕ)
seen_after seen None = seen
seen_after seen (Some x) = x ∷ seen

-- a label is new
abbrev pub NewLabel : List (List ℕ) → Option (List ℕ) → Type 0
NewLabel seen None = Unit {0}
NewLabel seen (Some x) = has seen x ≡ false

-- each line's label is new behind those that were seen
abbrev pub LabelsNew : List (List ℕ) → List (List Token) → Type 0
LabelsNew seen [] = Unit {0}
LabelsNew seen (ts ∷ tss) = NewLabel seen (label_of ts) × LabelsNew (seen_after seen (label_of ts)) tss
