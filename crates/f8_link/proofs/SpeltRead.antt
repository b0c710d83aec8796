-- The one source's first pass reads all lines of all modules.
use Rattle.std.proofs.Common.{◌≡◌, ℕ, ◌+◌, ℤ, List, [], ◌∷◌, ◌++◌, length, map, Ok}
use Rattle.std.proofs.Common.{refl, sym, ap, ◌∙◌}
use Rattle.std.proofs.lemmas.List.{map-append}
use Rattle.asm_text.specs.declared.answers.Token.{Token}
use Rattle.f8_asm.specs.Steps.{steps}
use Rattle.f8_asm.proofs.Steps.{steps_more}
use Rattle.f8_link.specs.declared.parts.Part.{Part}
use Rattle.f8_link.specs.declared.values.Named.{Named}
use Rattle.f8_link.specs.OneSource.{SourceLine, source_read, tokens_in, statement_lines, numbered}
use Rattle.f8_link.proofs.ModulePlaced.{lines_with}
use Rattle.f8_link.proofs.NameFacts.{names_of}
use Rattle.f8_link.proofs.CompiledParts.{Compiled, compiled_pair, compiled_new, compiled_labels}
use Rattle.f8_link.proofs.OriginLine.{origin_source}
use Rattle.f8_link.proofs.PartsGo.{Placing, parts_lines}
use Rattle.f8_link.proofs.PlacedNames.{placed_names}
use Rattle.f8_link.proofs.SourceRead.{steps_on, labels_in, spelled_lines, no_values, module_read, origin_read}
use Rattle.f8_link.proofs.SourceReads.{same_none, names_unvalued}
use Rattle.f8_link.proofs.Spelt.{NamesIn, Spelt, none_spelt, one_spelt, label_named}

lines_are : (rename : List ℕ → List ℕ) (tss : List (List Token)) (number : ℕ) → numbered number (spelled_lines rename tss) ≡ lines_with rename number tss
unfolding numbered
lines_are rename [] number = refl
lines_are rename (ts ∷ tss) number =
    ap (λ q. (record { rename = rename; number = number; tokens = ts }) ∷ q) (lines_are rename tss (number + 1))

names_placed : (rename : List ℕ → List ℕ) (first : ℕ) (es : List (List ℕ × Named)) → names_of (placed_names rename first es) ≡ map rename (names_of es)
names_placed rename first [] = refl
names_placed rename first (e ∷ es) = ap (λ q. rename e.0 ∷ q) (names_placed rename first es)

-- the first pass goes on
record ReadsOn (names : List (List ℕ × ℤ)) (ls : List SourceLine) : Type 0 where
  after : List (List ℕ × ℤ)
  is : steps source_read names ls ≡ Ok after

module _ (all before : List (List ℕ × ℤ)) (values : List ℤ) (rename : List ℕ → List ℕ) (text : List ℕ) (p : Part) (c : Compiled text p.object)
    (known : NamesIn all before values rename text p c) (names : List (List ℕ × ℤ)) (same : names_of names ≡ names_of before) where
  -- a module's lines
  one_read : (line : ℕ)
      → steps source_read names (lines_with rename line (map tokens_in (statement_lines text)))
      ≡ Ok (names ++ no_values rename (labels_in (map tokens_in (statement_lines text))))
  one_read line =
      let tss : List (List Token) = map tokens_in (statement_lines text) in
      ap (λ q. steps source_read names q) (sym (lines_are rename tss line))
      ∙ module_read rename known.apart (compiled_pair text p.object c) (compiled_new text p.object c) names line
      (λ x h. same_none names before (rename x) same (known.fresh x (label_named text p c x h)))

  -- the same names stand behind it
  same_behind : names_of (names ++ no_values rename (labels_in (map tokens_in (statement_lines text))))
      ≡ names_of (before ++ placed_names rename p.room.first c.laid.names)
  same_behind =
      let labels : List (List ℕ) = labels_in (map tokens_in (statement_lines text)) in
      map-append (λ (e : List ℕ × ℤ). e.0) names (no_values rename labels)
      ∙ rw (same, names_unvalued rename labels, ← compiled_labels text p.object c, ← names_placed rename p.room.first c.laid.names)
      (sym (map-append (λ (e : List ℕ × ℤ). e.0) before (placed_names rename p.room.first c.laid.names)))

spelt_on : {spell : ℕ → Part → List ℕ → List ℕ} {all : List (List ℕ × ℤ)} {number : ℕ} {before : List (List ℕ × ℤ)} {values : List (List ℤ)}
    {texts : List (List ℕ)} {ps : List Part} {ms : List Placing} → Spelt spell all number before values texts ps ms → (names : List (List ℕ × ℤ))
    → names_of names ≡ names_of before → (line : ℕ) → ReadsOn names (parts_lines line ms)
unfolding steps
spelt_on (none_spelt is) names same line = record { after = names; is = refl }
spelt_on {spell} {all} (one_spelt {number} {before} {values} {text} {p} {ms} c known others) names same line =
    let rename : List ℕ → List ℕ = spell number p in
    let tss : List (List Token) = map tokens_in (statement_lines text) in
    let after : List (List ℕ × ℤ) = names ++ no_values rename (labels_in tss) in
    let front = one_read all before values rename text p c known names same (line + 1) in
    let last = spelt_on others after (same_behind all before values rename text p c known names same) (line + 1 + length tss) in
    let behind : List SourceLine = parts_lines (line + 1 + length tss) ms in
    record {
      after = last.after;
      is = sym (steps_more source_read names names (origin_source line p.room.first) (lines_with rename (line + 1) tss ++ behind)
          (origin_read (λ x. x) names line p.room.first))
          ∙ steps_on source_read names after (lines_with rename (line + 1) tss) behind front ∙ last.is;
    }

-- all lines of the one source are read
pub spelt_read : {spell : ℕ → Part → List ℕ → List ℕ} {all : List (List ℕ × ℤ)} {number : ℕ} {values : List (List ℤ)} {texts : List (List ℕ)}
    {ps : List Part} {ms : List Placing} → Spelt spell all number [] values texts ps ms → (line : ℕ)
    → (after : List (List ℕ × ℤ)) × (steps source_read [] (parts_lines line ms) ≡ Ok after)
spelt_read spelt line = let on = spelt_on spelt [] refl line in (on.after, on.is)
