-- The one source's first pass reads all lines of all modules.
use Rattle.std.proofs.Common.{◌≡◌, ℕ, ◌+◌, ℤ, true, List, [], ◌∷◌, ◌++◌, length, map, None, is_some, Ok}
use Rattle.std.proofs.Common.{refl, sym, ap, ◌∙◌}
use Rattle.std.proofs.lemmas.List.{map-append}
use Rattle.f8_asm.specs.Names.{value_of}
use Rattle.f8_asm.specs.Steps.{steps}
use Rattle.f8_link.specs.declared.parts.Part.{Part}
use Rattle.f8_link.specs.Linking.{named_value}
use Rattle.f8_link.specs.OneSource.{SourceLine, source_read, has, tokens_in, statement_lines, shared_names, spelled, origin_tokens}
use Rattle.f8_link.specs.OneSource.{modules_source, numbered, one_source}
use Rattle.f8_link.proofs.NameFacts.{names_of, has-names_of, none_from}
use Rattle.f8_link.proofs.SourceRead.{steps_on, numbered_behind, labels_in, spelled_lines, no_values, module_read, origin_read}
use Rattle.f8_link.proofs.CompiledParts.{Compiled, compiled_pair, compiled_new, compiled_labels}
use Rattle.f8_link.proofs.Modules.{Spell, shared_spell, spelled_names, ModuleGoes, Modules, no_modules, one_module}

-- the line of a module's ORG
abbrev pub origin_source : ℕ → SourceLine
origin_source address = record { rename = λ x. x; number = 0; tokens = origin_tokens address }

pub lines_are : (rename : List ℕ → List ℕ) (ls : List (List ℕ))
    → map (λ line. record { rename = rename; number = 0; tokens = tokens_in line }) ls ≡ spelled_lines rename (map tokens_in ls)
lines_are rename [] = refl
lines_are rename (l ∷ ls) = ap (λ q. (record { rename = rename; number = 0; tokens = tokens_in l }) ∷ q) (lines_are rename ls)

-- the lines of a module: its ORG, and its statements' lines by their tokens
abbrev pub part_source : (List ℕ → List ℕ) → List ℕ → Part → List SourceLine
part_source rename text p = origin_source p.room.first ∷ spelled_lines rename (map tokens_in (statement_lines text))

-- and of all modules
unfoldable pub parts_source : Spell → ℕ → List (List ℕ) → List Part → List SourceLine
parts_source spell number (t ∷ ts) (p ∷ ps) = part_source (spell number p) t p ++ parts_source spell (number + 1) ts ps
parts_source spell number ts ps = []

-- as the definition of the one source has them
pub modules_source_is : (number : ℕ) (texts : List (List ℕ)) (ps : List Part) → modules_source number texts ps ≡ parts_source shared_spell number texts ps
unfolding modules_source parts_source
modules_source_is number (t ∷ ts) (p ∷ ps) =
    rw (lines_are (spelled number (shared_names p)) (statement_lines t), modules_source_is (number + 1) ts ps) refl
modules_source_is number [] [] = refl
modules_source_is number [] (p ∷ ps) = refl
modules_source_is number (t ∷ ts) [] = refl

pub one_source_is : (texts : List (List ℕ)) (ps : List Part) → one_source texts ps ≡ numbered 1 (parts_source shared_spell 0 texts ps)
one_source_is texts ps = ap (λ q. numbered 1 q) (modules_source_is 0 texts ps)

-- with their numbers
pub numbered_part : (line : ℕ) (rename : List ℕ → List ℕ) (text : List ℕ) (p : Part)
    → numbered line (part_source rename text p)
    ≡ (record { rename = λ x. x; number = line; tokens = origin_tokens p.room.first })
    ∷ numbered (line + 1) (spelled_lines rename (map tokens_in (statement_lines text)))
unfolding numbered
numbered_part line rename text p = refl

-- the lines of the first module and those of the others
pub numbered_parts : (spell : Spell) (line number : ℕ) (text : List ℕ) (texts : List (List ℕ)) (p : Part) (ps : List Part)
    → numbered line (parts_source spell number (text ∷ texts) (p ∷ ps))
    ≡ numbered line (part_source (spell number p) text p)
    ++ numbered (line + length (part_source (spell number p) text p)) (parts_source spell (number + 1) texts ps)
unfolding parts_source
numbered_parts spell line number text texts p ps = numbered_behind line (part_source (spell number p) text p) (parts_source spell (number + 1) texts ps)

-- an ORG is read
origin_first : (names : List (List ℕ × ℤ)) (line address : ℕ) (ls : List SourceLine)
    → steps source_read names ((record { rename = λ x. x; number = line; tokens = origin_tokens address }) ∷ ls) ≡ steps source_read names ls
unfolding steps
origin_first names line address ls = rw (origin_read (λ x. x) names line address) refl

-- a table with the same names has none of others
pub same_none : {A B : Type 0} (xs : List (List ℕ × A)) (ys : List (List ℕ × B)) (x : List ℕ) → names_of xs ≡ names_of ys → value_of ys x ≡ None
    → value_of xs x ≡ None
same_none xs ys x same none =
    none_from (value_of xs x) (sym (has-names_of xs x) ∙ ap (λ ns. has ns x) same ∙ has-names_of ys x ∙ ap is_some none)

names_changed : {A B : Type 0} (rename : List ℕ → List ℕ) (change : A → B) (es : List (List ℕ × A))
    → names_of (map (λ e. (rename e.0, change e.1)) es) ≡ map rename (names_of es)
names_changed rename change [] = refl
names_changed rename change (e ∷ es) = ap (λ q. rename e.0 ∷ q) (names_changed rename change es)

pub names_unvalued : (rename : List ℕ → List ℕ) (xs : List (List ℕ)) → names_of (no_values rename xs) ≡ map rename xs
names_unvalued rename [] = refl
names_unvalued rename (x ∷ xs) = ap (λ q. rename x ∷ q) (names_unvalued rename xs)

-- the first pass goes on
record ReadsOn (names : List (List ℕ × ℤ)) (ls : List SourceLine) : Type 0 where
  after : List (List ℕ × ℤ)
  is : steps source_read names ls ≡ Ok after

module _ (spell : Spell) (all : List (List ℕ × ℤ)) where
  module _ (number : ℕ) (before : List (List ℕ × ℤ)) (values : List ℤ) (text : List ℕ) (p : Part) (c : Compiled text p.object)
      (goes : ModuleGoes spell all number before values text p c) (names : List (List ℕ × ℤ)) (same : names_of names ≡ names_of before) where
    abbrev rename : List ℕ → List ℕ
    rename = spell number p

    abbrev labels : List (List ℕ)
    labels = labels_in (map tokens_in (statement_lines text))

    is_fresh : (x : List ℕ) → has labels x ≡ true → value_of names (rename x) ≡ None
    is_fresh x h =
        same_none names before (rename x) same
        (goes.fresh x (sym (has-names_of c.laid.names x) ∙ ap (λ ns. has ns x) (compiled_labels text p.object c) ∙ h))

    -- a module's lines
    one_read : (line : ℕ) → steps source_read names (numbered line (part_source rename text p)) ≡ Ok (names ++ no_values rename labels)
    one_read line =
        ap (λ q. steps source_read names q) (numbered_part line rename text p)
        ∙ origin_first names line p.room.first (numbered (line + 1) (spelled_lines rename (map tokens_in (statement_lines text))))
        ∙ module_read rename goes.apart (compiled_pair text p.object c) (compiled_new text p.object c) names (line + 1) is_fresh

    -- the same names stand behind it
    same_behind : names_of (names ++ no_values rename labels) ≡ names_of (before ++ spelled_names rename p.room.first c.laid.names)
    same_behind =
        map-append (λ (e : List ℕ × ℤ). e.0) names (no_values rename labels)
        ∙ rw (
          same,
          names_unvalued rename labels,
          ← compiled_labels text p.object c,
          ← names_changed rename (named_value p.room.first) c.laid.names,
        ) (sym (map-append (λ (e : List ℕ × ℤ). e.0) before (spelled_names rename p.room.first c.laid.names)))

  reads_on : {number : ℕ} {before : List (List ℕ × ℤ)} {values : List (List ℤ)} {texts : List (List ℕ)} {ps : List Part}
      → Modules spell all number before values texts ps → (names : List (List ℕ × ℤ)) → names_of names ≡ names_of before → (line : ℕ)
      → ReadsOn names (numbered line (parts_source spell number texts ps))
  unfolding steps numbered parts_source
  reads_on (no_modules is) names same line = record { after = names; is = refl }
  reads_on (one_module {number} {before} {values} {rest} {text} {texts} {p} {ps} c goes others) names same line =
      let after : List (List ℕ × ℤ) = names ++ no_values (spell number p) (labels_in (map tokens_in (statement_lines text))) in
      let front = one_read number before values text p c goes names same line in
      let last = reads_on others after (same_behind number before values text p c goes names same)
      (line + length (part_source (spell number p) text p)) in
      record {
        after = last.after;
        is = ap (λ q. steps source_read names q) (numbered_parts spell line number text texts p ps)
            ∙ steps_on source_read names after (numbered line (part_source (spell number p) text p)) _ front ∙ last.is;
      }

  -- all lines of the modules are read
  pub all_read : {values : List (List ℤ)} {texts : List (List ℕ)} {ps : List Part} → Modules spell all 0 [] values texts ps
      → (after : List (List ℕ × ℤ)) × (steps source_read [] (numbered 1 (parts_source spell 0 texts ps)) ≡ Ok after)
  all_read modules = let on = reads_on modules [] refl 1 in (on.after, on.is)

-- all lines of the one source are read
pub one_source_read : {all : List (List ℕ × ℤ)} {values : List (List ℤ)} (texts : List (List ℕ)) (ps : List Part)
    → Modules shared_spell all 0 [] values texts ps → (after : List (List ℕ × ℤ)) × (steps source_read [] (one_source texts ps) ≡ Ok after)
one_source_read {all} texts ps modules = rw (one_source_is texts ps) (all_read shared_spell all modules)
