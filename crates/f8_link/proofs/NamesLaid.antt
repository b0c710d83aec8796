-- The names of a module: its second pass gives one to each label, and what it exports is among them.
use Rattle.std.proofs.Common.{◌≡◌, ℕ, Bool, true, false, ◌||◌, List, [], ◌∷◌, ◌++◌, Option, Some, None, Result, Ok, Err}
use Rattle.std.proofs.Common.{refl, sym, ap, ◌∙◌, subst, append_assoc, append-nil, All, bytes_eq}
use Rattle.std.specs.Prelude.{if◌then◌else◌}
use Rattle.std.proofs.lemmas.List.{map-append}
use Rattle.std.proofs.lemmas.List.Elements.{All-nil, All-push}
use Rattle.asm_text.specs.declared.answers.Token.{Token}
use Rattle.f8_asm.specs.Image.{everywhere}
use Rattle.f8_asm.specs.Names.{value_of, with_name}
use Rattle.f8_asm.specs.PassTwo.{is_inside}
use Rattle.f8_asm.specs.Statements.{label_of, statement_size}
use Rattle.f8_asm.specs.Steps.{steps}
use Rattle.f8_asm.specs.declared.formulas.Step.{Step}
use Rattle.f8_asm.specs.declared.operands.Statement.{Statement}
use Rattle.f8_asm.specs.declared.operands.Statement.TheVariants.{Nothing, Fixed, One, Test, Items}
use Rattle.f8_asm.specs.declared.words.Single.TheVariants as single
use Rattle.f8_asm.proofs.Alike.{read-ok}
use Rattle.f8_link.specs.declared.faults.ModuleLineFault.{ModuleLineFault}
use Rattle.f8_link.specs.declared.lines.LineTask.{LineTask}
use Rattle.f8_link.specs.declared.lines.LineTask.TheVariants as line
use Rattle.f8_link.specs.declared.lines.PlacedLine.{PlacedLine}
use Rattle.f8_link.specs.declared.values.Named.{Named}
use Rattle.f8_link.specs.declared.values.Named.TheVariants.{Offset}
use Rattle.f8_link.specs.Answers.{in_line_to}
use Rattle.f8_link.specs.OneSource.{has, label_list}
use Rattle.f8_link.specs.SecondPass.{Layout, with_label, moved_by, with_placed, constant_at, filled, statement_settled, settle, place}
use Rattle.f8_link.specs.SecondPass.{place_lines}
use Rattle.f8_link.specs.ThirdPass.{Code, no_code, with_piece, with_value, line_piece, exported, line_emitted, emit, emit_lines}
use Rattle.f8_link.proofs.ModuleLines.{LinesPair, no_line, export_line, statement_line, seen_after, NewLabel, LabelsNew}
use Rattle.f8_link.proofs.NameFacts.{names_of, value_behind, given, not_both}
use Rattle.f8_link.proofs.LinesTold.{parsed_label}
use Rattle.f8_link.proofs.SourceRead.{labels_in}

in_line_read : {A : Type 0} (number end : ℕ) (r : Result A ModuleLineFault) (x : A) → in_line_to number end r ≡ Ok x → r ≡ Ok x
in_line_read number end (Ok y) x h = cc h
in_line_read number end (Err fault) x h = cc h

-- ---- the second pass

-- a label has a value now
record Named_as (label : Option (List ℕ)) (s t : Layout) : Type 0 where
  value : Named
  is : t.names ≡ (with_label label value s).names

filled_names : (label : Option (List ℕ)) (column : Option ℕ) (size : ℕ) (s t : Layout) → filled label column size s ≡ Ok t → Named_as label s t
filled_names label column size s t h = by (is_inside everywhere s.here size) _ h
  where
    by : (inside : Bool) (e : ModuleLineFault) → (if inside then Ok (moved_by size (with_label label (Offset s.here) s)) else Err e) ≡ Ok t
        → Named_as label s t
    by true e h =
        let is : moved_by size (with_label label (Offset s.here) s) ≡ t = cc h in
        record { value = Offset s.here; is = ap (λ (l : Layout). l.names) (sym is) }
    by false e h = cc h

-- no name has a value but the labels that were seen
abbrev pub Unnamed : List (List ℕ) → List (List ℕ × Named) → Type 0
Unnamed seen names = (x : List ℕ) → has seen x ≡ false → value_of names x ≡ None

module _ (imports : List (List ℕ × ℕ)) where
  settled_names : (label : Option (List ℕ)) (column : Option ℕ) (s t : Layout) (st : Statement (List Step))
      → statement_settled imports label column s st ≡ Ok t → Named_as label s t
  settled_names label column s t (One single.Equ o) h =
      read-ok (Named_as label s t) (constant_at imports s o) _ t h (λ v at_v h.
      let is : with_label label v s ≡ t = cc h in
      record { value = v; is = ap (λ (l : Layout). l.names) (sym is) })
  settled_names label column s t Nothing h = filled_names label column 0 s t h
  settled_names label column s t (Fixed code) h = filled_names label column 1 s t h
  settled_names label column s t (One (single.Byte code) o) h = filled_names label column 2 s t h
  settled_names label column s t (One (single.Port code) o) h = filled_names label column 2 s t h
  settled_names label column s t (One (single.Word code) o) h = filled_names label column 3 s t h
  settled_names label column s t (One (single.Branch code) o) h = filled_names label column 2 s t h
  settled_names label column s t (One (single.Small field) o) h = filled_names label column 1 s t h
  settled_names label column s t (One single.Org o) h = filled_names label column 0 s t h
  settled_names label column s t (Test field a b) h = filled_names label column 2 s t h
  settled_names label column s t (Items size os) h = filled_names label column (statement_size (Items size os)) s t h

  record Labelled (seen : List (List ℕ)) (names after : List (List ℕ × Named)) (label : Option (List ℕ)) : Type 0 where
    names_are : names_of after ≡ names_of names ++ label_list label
    unnamed : Unnamed (seen_after seen label) after

  labelled : (seen : List (List ℕ)) (s : Layout) (v : Named) (label : Option (List ℕ)) → NewLabel seen label → Unnamed seen s.names
      → Labelled seen s.names (with_label label v s).names label
  labelled seen s v None new so = record { names_are = sym (append-nil (names_of s.names)); unnamed = so }
  labelled seen s v (Some x) new so =
      let is : with_name s.names x v ≡ s.names ++ (x, v) ∷ [] = given s.names x v (so x new) in
      record {
        names_are = ap names_of is ∙ map-append (λ (e : List ℕ × Named). e.0) s.names ((x, v) ∷ []);
        unnamed = λ y h. is_unnamed y (bytes_eq y x) refl h;
      }
    where
      is_unnamed : (y : List ℕ) (t : Bool) → bytes_eq y x ≡ t → (t || has seen y) ≡ false → value_of (with_name s.names x v) y ≡ None
      is_unnamed y true is h = not_both true refl h
      is_unnamed y false is h = rw (given s.names x v (so x new)) (value_behind s.names ((x, v) ∷ []) y (so y h) ∙ rw is refl)

  -- the names are the labels in their order
  pub laid_labels : {ls : List LineTask} {tss : List (List Token)} → LinesPair ls tss → (seen : List (List ℕ)) (s t : Layout) → LabelsNew seen tss
      → Unnamed seen s.names → place_lines imports s ls ≡ Ok t → names_of t.names ≡ names_of s.names ++ labels_in tss
  unfolding steps place settle
  laid_labels no_line seen s t new so h =
      let is : s ≡ t = cc h in
      ap (λ (l : Layout). names_of l.names) (sym is) ∙ sym (append-nil (names_of s.names))
  laid_labels (export_line {number} {column} {name} {ls} {tss} rest) seen s t new so h =
      laid_labels rest seen (with_placed (record { offset = s.here; line = line.Export number column name }) s) t new so h
  laid_labels (statement_line {l} {ts} {ls} {tss} read rest) seen s t new so h =
      let whole : Type 0 = names_of t.names ≡ names_of s.names ++ labels_in (ts ∷ tss) in
      read-ok whole (place imports s (line.Statement l)) _ t h (λ v at_v h.
      read-ok whole (in_line_to l.number l.end (settle imports s l)) _ v at_v (λ u at_u e.
      let did = settled_names l.label l.column s u l.statement (in_line_read l.number l.end (settle imports s l) u at_u) in
      let label : label_of ts ≡ l.label = parsed_label l.number ts l read in
      let with_it = labelled seen s did.value (label_of ts) new.0 so in
      let is : with_placed (record { offset = s.here; line = line.Statement l }) u ≡ v = cc e in
      let same : v.names ≡ (with_label (label_of ts) did.value s).names = ap (λ (q : Layout). q.names) (sym is) ∙ did.is ∙ rw label refl in
      let goes = laid_labels rest (seen_after seen (label_of ts)) v t new.1 (rw same with_it.unnamed) h in
      goes ∙ ap (λ q. q ++ labels_in tss) (ap names_of same ∙ with_it.names_are)
      ∙ append_assoc (names_of s.names) (label_list (label_of ts)) (labels_in tss)))

-- ---- the third pass

-- what is exported is what a name of the module stands for
abbrev pub ExportStands : List (List ℕ × Named) → List ℕ × Named → Type 0
ExportStands names e = value_of names e.0 ≡ Some e.1

module _ (names : List (List ℕ × Named)) (imports : List (List ℕ × ℕ)) where
  exported_stands : (s t : Code) (number column : ℕ) (name : List ℕ) (o : Option Named) → value_of names name ≡ o
      → exported s number column name o ≡ Ok t → All (ExportStands names) s.exports → All (ExportStands names) t.exports
  exported_stands s t number column name (Some v) found h so =
      let is : with_value s name v ≡ t = cc h in
      subst (λ (q : Code). All (ExportStands names) q.exports) is (All-push (ExportStands names) s.exports (name, v) so found)
  exported_stands s t number column name None found h so = cc h

  pub exports_stand : (ps : List PlacedLine) (s t : Code) → emit_lines names imports s ps ≡ Ok t → All (ExportStands names) s.exports
      → All (ExportStands names) t.exports
  unfolding steps emit
  exports_stand [] s t h so = let is : s ≡ t = cc h in subst (λ (q : Code). All (ExportStands names) q.exports) is so
  exports_stand (p ∷ ps) s t h so =
      read-ok (All (ExportStands names) t.exports) (emit names imports s p) _ t h (λ u at_u h. exports_stand ps u t h (by p.line u at_u))
    where
      by : (l : LineTask) (u : Code) → line_emitted names imports p.offset s l ≡ Ok u → All (ExportStands names) u.exports
      by (line.Statement l) u at_u =
          read-ok (All (ExportStands names) u.exports) (in_line_to l.number l.end (line_piece names imports p.offset l)) _ u at_u (λ piece at_piece e.
          let is : with_piece s piece ≡ u = cc e in
          subst (λ (q : Code). All (ExportStands names) q.exports) is so)
      by (line.Export number column name) u at_u = exported_stands s u number column name (value_of names name) refl at_u so

  pub all_exports_stand : (ps : List PlacedLine) (code : Code) → emit_lines names imports no_code ps ≡ Ok code → All (ExportStands names) code.exports
  unfolding no_code
  all_exports_stand ps code h = exports_stand ps no_code code h (All-nil (ExportStands names))
