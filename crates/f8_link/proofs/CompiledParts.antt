-- A module that is compiled: its three passes, its labels, names, imports and exports.
use Rattle.std.proofs.Common.{◌≡◌, ℕ, Bool, true, false, ◌||◌, List, [], ◌∷◌, ◌++◌, map, Option, Some, None, is_some, All}
use Rattle.std.proofs.Common.{Result, Ok, Err, refl, sym, ap, ◌∙◌, subst, bytes_eq}
use Rattle.std.specs.Prelude.{slice_get}
use Rattle.asm_text.specs.declared.answers.Token.{Token}
use Rattle.f8_asm.specs.Names.{value_of}
use Rattle.f8_asm.specs.Statements.{label_of}
use Rattle.f8_asm.specs.declared.answers.AsmFault.{AsmFault}
use Rattle.f8_asm.proofs.Alike.{read-ok}
use Rattle.f8_link.specs.declared.parts.Part.{Part}
use Rattle.f8_link.specs.Answers.{told}
use Rattle.f8_link.specs.FirstPass.{Reading, no_reading, read_lines}
use Rattle.f8_link.specs.Objects.{Object}
use Rattle.f8_link.specs.OneSource.{has, label_list, tokens_in, statement_lines}
use Rattle.f8_link.specs.SecondPass.{Layout, no_layout, place_lines}
use Rattle.f8_link.specs.ThirdPass.{Code, no_code, emit_lines, object_of, compiled}
use Rattle.text_lines.specs.Lines.{lines}
use Rattle.f8_link.proofs.ModuleLines.{LinesPair, seen_after, LabelsNew}
use Rattle.f8_link.proofs.NameFacts.{names_of, not_both, has-names_of}
use Rattle.f8_link.proofs.FirstLines.{Known}
use Rattle.f8_link.proofs.LinesTold.{NoStray, seen_behind, first_pass_told, first_pass_pair}
use Rattle.f8_link.proofs.SourceRead.{labels_in}
use Rattle.f8_link.proofs.NamesLaid.{laid_labels, ExportStands, all_exports_stand}
use Rattle.f8_link.proofs.SpelledApart.{NamesStand}

-- ---- a module that is compiled

pub record Compiled (text : List ℕ) (object : Object) : Type 0 where
  pub read : Reading
  pub laid : Layout
  pub code : Code
  pub at_read : read_lines no_reading (lines text) ≡ Ok read
  pub at_laid : place_lines read.imports no_layout read.lines ≡ Ok laid
  pub at_code : emit_lines laid.names read.imports no_code laid.placed ≡ Ok code
  pub object_is : object_of code read.imports ≡ object

told_read : {A : Type 0} (r : Result A AsmFault) (x : A) → told r ≡ Ok x → r ≡ Ok x
told_read (Ok y) x h = cc h
told_read (Err fault) x h = cc h

pub compiled_parts : (text : List ℕ) (object : Object) → compiled text ≡ Ok object → Compiled text object
unfolding compiled
compiled_parts text object h =
    read-ok (Compiled text object) (told (read_lines no_reading (lines text))) _ object h (λ read at_read h.
    read-ok (Compiled text object) (place_lines read.imports no_layout read.lines) _ object h (λ laid at_laid h.
    read-ok (Compiled text object) (emit_lines laid.names read.imports no_code laid.placed) _ object h (λ code at_code h.
    record {
      read = read;
      laid = laid;
      code = code;
      at_read = told_read (read_lines no_reading (lines text)) read at_read;
      at_laid = at_laid;
      at_code = at_code;
      object_is = cc h;
    })))

-- ---- labels and names

-- a label is seen
still_seen : (tss : List (List Token)) (seen : List (List ℕ)) (x : List ℕ) → has seen x ≡ true → has (seen_behind seen tss) x ≡ true
still_seen [] seen x h = h
still_seen (ts ∷ tss) seen x h = still_seen tss (seen_after seen (label_of ts)) x (by (label_of ts))
  where
    or_one : (a : Bool) → (a || has seen x) ≡ true
    or_one true = refl
    or_one false = h

    by : (label : Option (List ℕ)) → has (seen_after seen label) x ≡ true
    by None = h
    by (Some y) = or_one (bytes_eq x y)

label_seen : (tss : List (List Token)) (seen : List (List ℕ)) (x : List ℕ) → has (labels_in tss) x ≡ true → has (seen_behind seen tss) x ≡ true
label_seen [] seen x h = not_both true refl (sym h)
label_seen (ts ∷ tss) seen x h = by (label_of ts) (λ more h. label_seen tss more x h) h
  where
    here : (y : List ℕ) (t : Bool) → bytes_eq x y ≡ t → ((more : List (List ℕ)) → has (labels_in tss) x ≡ true → has (seen_behind more tss) x ≡ true)
        → (t || has (labels_in tss) x) ≡ true → has (seen_behind (y ∷ seen) tss) x ≡ true
    here y true is goes h = still_seen tss (y ∷ seen) x (rw is refl)
    here y false is goes h = goes (y ∷ seen) h

    by : (label : Option (List ℕ)) → ((more : List (List ℕ)) → has (labels_in tss) x ≡ true → has (seen_behind more tss) x ≡ true)
        → has (label_list label ++ labels_in tss) x ≡ true → has (seen_behind (seen_after seen label) tss) x ≡ true
    by None goes h = goes seen h
    by (Some y) goes h = here y (bytes_eq x y) refl goes h

module _ (text : List ℕ) (object : Object) (c : Compiled text object) where
  pub compiled_pair : LinesPair c.read.lines (map tokens_in (statement_lines text))
  compiled_pair = first_pass_pair text c.read c.at_read

  pub compiled_new : LabelsNew [] (map tokens_in (statement_lines text))
  compiled_new = (first_pass_told text c.read c.at_read).new

  -- no line has a word that only directives may have
  pub compiled_plain : NoStray (map tokens_in (statement_lines text))
  compiled_plain = (first_pass_told text c.read c.at_read).plain

  pub compiled_known : Known (seen_behind [] (map tokens_in (statement_lines text))) c.read
  compiled_known = (first_pass_told text c.read c.at_read).known

  -- its names are its labels
  pub compiled_labels : names_of c.laid.names ≡ labels_in (map tokens_in (statement_lines text))
  unfolding no_layout
  compiled_labels = laid_labels c.read.imports compiled_pair [] no_layout c.laid compiled_new (λ x h. refl) c.at_laid

  pub compiled_imports : object.imports ≡ names_of c.read.imports
  compiled_imports = ap (λ (o : Object). o.imports) (sym c.object_is)

  -- it exports what it gives, and gives no name that it imports
  pub compiled_exports : All (ExportStands c.laid.names) object.exports
  compiled_exports =
      subst (λ (o : Object). All (ExportStands c.laid.names) o.exports) c.object_is
      (all_exports_stand c.laid.names c.read.imports c.laid.placed c.code c.at_code)

  -- no label is an import
  pub label_not_import : (x : List ℕ) → has (labels_in (map tokens_in (statement_lines text))) x ≡ true → value_of c.read.imports x ≡ None
  label_not_import x label = compiled_known.apart x (label_seen (map tokens_in (statement_lines text)) [] x label)

  -- an import has the number of its place
  pub import_number : (x : List ℕ) (i : ℕ) → value_of c.read.imports x ≡ Some i → slice_get object.imports i ≡ Some x
  import_number x i h = rw compiled_imports (compiled_known.numbered x i h)

  pub compiled_apart : (x : List ℕ) → is_some (value_of c.laid.names x) ≡ true → has object.imports x ≡ false
  compiled_apart x h =
      let label : has (labels_in (map tokens_in (statement_lines text))) x ≡ true =
      ap (λ ns. has ns x) (sym compiled_labels) ∙ has-names_of c.laid.names x ∙ h in
      let none = label_not_import x label in
      ap (λ ns. has ns x) compiled_imports ∙ has-names_of c.read.imports x ∙ ap is_some none

pub compiled_stand : (text : List ℕ) (p : Part) (c : Compiled text p.object) → NamesStand c.laid.names p
compiled_stand text p c = record { exports = compiled_exports text p.object c; apart = compiled_apart text p.object c }
