-- Modules linked, and how one source spells the names of each: what the one source's passes need of them.
use Rattle.std.proofs.Common.{◌≡◌, ℕ, ◌+◌, ◌≤◌, ℤ, Bool, true, false, ◌||◌, List, [], ◌∷◌, ◌++◌, map, Option, Some, None, is_some, All}
use Rattle.std.proofs.Common.{bytes_eq}
use Rattle.std.proofs.Common.{refl, sym, ap, ◌∙◌, arith, append_assoc, append-nil}
use Rattle.std.proofs.lemmas.List.Elements.{All-head, All-tail}
use Rattle.asm_text.specs.declared.answers.Token.{Token}
use Rattle.f8_asm.specs.Marks.{marks_with, is_free}
use Rattle.f8_asm.specs.Names.{value_of}
use Rattle.f8_asm.specs.PassTwo.{is_inside}
use Rattle.f8_asm.specs.Statements.{label_of}
use Rattle.f8_link.specs.declared.parts.Part.{Part}
use Rattle.f8_link.specs.Linking.{size_of, IsLow}
use Rattle.f8_link.specs.OneSource.{has, label_list, tokens_in, statement_lines}
use Rattle.f8_link.proofs.EquGoes.{EquGoes, equ_by}
use Rattle.f8_link.proofs.Goes.{Goes, NameGoes, constants_go}
use Rattle.f8_link.proofs.ModuleSize.{module_size}
use Rattle.f8_link.proofs.NameFacts.{has-names_of, name_itself}
use Rattle.f8_link.proofs.CompiledParts.{Compiled, compiled_pair, compiled_new, compiled_labels}
use Rattle.f8_link.proofs.NoStrays.{first_pass_plain}
use Rattle.f8_link.proofs.PartsGo.{Placing, PlacingIs, Placings, no_module, one_module, all_names}
use Rattle.f8_link.proofs.PlacedNames.{placed_names, FreshLabel, LabelsFresh}
use Rattle.f8_link.proofs.RoomsGo.{RoomsGo, one_room, inside_everywhere}
use Rattle.f8_link.proofs.SourceRead.{labels_in}

-- a module as the one source places it
abbrev pub placing : (rename : List ℕ → List ℕ) (text : List ℕ) (p : Part) → Compiled text p.object → Placing
placing rename text p c = record {
  first = p.room.first;
  rename = rename;
  imports = c.read.imports;
  lines = c.read.lines;
  tokens = map tokens_in (statement_lines text);
  laid = c.laid;
}

-- what is known of a module's names, given the one source's final names and those before the module
pub record NamesIn (all before : List (List ℕ × ℤ)) (values : List ℤ) (rename : List ℕ → List ℕ) (text : List ℕ) (p : Part)
    (c : Compiled text p.object) : Type 0 where
  pub apart : (x y : List ℕ) → bytes_eq (rename x) (rename y) ≡ bytes_eq x y
  pub fresh : (x : List ℕ) → is_some (value_of c.laid.names x) ≡ true → value_of before (rename x) ≡ None
  pub goes : (x : List ℕ) → NameGoes p.room.first values (value_of c.laid.names x) (value_of c.read.imports x) (value_of all (rename x))

-- Modules from this number on, behind these names, with the values of their imports, and as the one source places them. The name of a module is
-- spelled by the module's number and the module.
pub data Spelt (spell : ℕ → Part → List ℕ → List ℕ) (all : List (List ℕ × ℤ))
    : ℕ → List (List ℕ × ℤ) → List (List ℤ) → List (List ℕ) → List Part → List Placing → Type 0 where
  none_spelt : {number : ℕ} {before : List (List ℕ × ℤ)} → before ≡ all → Spelt spell all number before [] [] [] []
  one_spelt : {number : ℕ} {before : List (List ℕ × ℤ)} {values : List ℤ} {rest : List (List ℤ)} {text : List ℕ} {texts : List (List ℕ)} {p : Part}
      {ps : List Part} {ms : List Placing} (c : Compiled text p.object) → NamesIn all before values (spell number p) text p c
      → Spelt spell all (number + 1) (before ++ placed_names (spell number p) p.room.first c.laid.names) rest texts ps ms
      → Spelt spell all number before (values ∷ rest) (text ∷ texts) (p ∷ ps) (placing (spell number p) text p c ∷ ms)

-- all names are those of the modules
pub spelt_names : {spell : ℕ → Part → List ℕ → List ℕ} {all : List (List ℕ × ℤ)} {number : ℕ} {before : List (List ℕ × ℤ)} {values : List (List ℤ)}
    {texts : List (List ℕ)} {ps : List Part} {ms : List Placing} → Spelt spell all number before values texts ps ms → before ++ all_names ms ≡ all
spelt_names (none_spelt {before} is) = append-nil before ∙ is
spelt_names (one_spelt {number} {before} {p} {ms} c names rest) =
    sym (append_assoc before (placed_names _ p.room.first c.laid.names) (all_names ms)) ∙ spelt_names rest

-- ---- labels

-- names of the module as a label
label_is_fresh : (rename : List ℕ → List ℕ) (before : List (List ℕ × ℤ)) (label : Option (List ℕ)) (xs : List (List ℕ))
    → ((x : List ℕ) → has (label_list label ++ xs) x ≡ true → value_of before (rename x) ≡ None) → FreshLabel rename before label
label_is_fresh rename before None xs all = tt
label_is_fresh rename before (Some x) xs all = all x (rw (name_itself x) refl)

behind_label : (label : Option (List ℕ)) (xs : List (List ℕ)) (x : List ℕ) → has xs x ≡ true → has (label_list label ++ xs) x ≡ true
behind_label None xs x h = h
behind_label (Some y) xs x h = by (bytes_eq x y)
  where
    by : (t : Bool) → (t || has xs x) ≡ true
    by true = refl
    by false = h

labels_fresh : (rename : List ℕ → List ℕ) (before : List (List ℕ × ℤ)) (tss : List (List Token))
    → ((x : List ℕ) → has (labels_in tss) x ≡ true → value_of before (rename x) ≡ None) → LabelsFresh rename before tss
labels_fresh rename before [] all = tt
labels_fresh rename before (ts ∷ tss) all = (
  label_is_fresh rename before (label_of ts) (labels_in tss) all,
  labels_fresh rename before tss (λ x h. all x (behind_label (label_of ts) (labels_in tss) x h)),
)

-- a label of the module is one of its names
pub label_named : (text : List ℕ) (p : Part) (c : Compiled text p.object) (x : List ℕ)
    → has (labels_in (map tokens_in (statement_lines text))) x ≡ true → is_some (value_of c.laid.names x) ≡ true
label_named text p c x h = sym (has-names_of c.laid.names x) ∙ ap (λ ns. has ns x) (compiled_labels text p.object c) ∙ h

-- ---- rooms

equ_goes : (first : ℕ) (rename : List ℕ → List ℕ) → first ≤ 65536 → EquGoes first rename
equ_goes first rename low =
    equ_by first rename (Goes first []) (λ v o so. so) (λ names offset others so. constants_go first rename low names offset others so.is)

compiled_size : (text : List ℕ) (p : Part) (c : Compiled text p.object) → c.laid.here ≡ size_of p
compiled_size text p c = module_size c.read.imports c.read.lines c.laid c.code p.object c.at_laid c.at_code c.object_is

module _ (all before : List (List ℕ × ℤ)) (marks : List Bool) (values : List ℤ) (rename : List ℕ → List ℕ) (text : List ℕ) (p : Part)
    (c : Compiled text p.object) (names : NamesIn all before values rename text p c) where
  placing_is : IsLow p → is_inside p.room p.room.first (size_of p) ≡ true → is_free marks p.room.first (size_of p) ≡ true
      → PlacingIs before marks (placing rename text p c)
  placing_is low inside free =
      let size = compiled_size text p c in
      let least : p.room.first ≤ 65535 = low.0 in
      record {
        low = low.0;
        pairs = compiled_pair text p.object c;
        new = compiled_new text p.object c;
        plain = first_pass_plain text c.read c.at_read;
        apart = record { is = names.apart };
        fresh = labels_fresh rename before (map tokens_in (statement_lines text)) (λ x h. names.fresh x (label_named text p c x h));
        laid_is = c.at_laid;
        inside = rw size (inside_everywhere p.room p.room.first (size_of p) low.1 inside);
        free = rw size free;
        equ = equ_goes p.room.first rename (omega (arith, least));
      }

-- the modules lie where the one source may place them
pub spelt_placed : {spell : ℕ → Part → List ℕ → List ℕ} {all : List (List ℕ × ℤ)} {number : ℕ} {before : List (List ℕ × ℤ)} {values : List (List ℤ)}
    {texts : List (List ℕ)} {ps : List Part} {ms : List Placing} → Spelt spell all number before values texts ps ms → (marks : List Bool)
    → RoomsGo marks ps → All IsLow ps → Placings before marks ms
spelt_placed (none_spelt is) marks rooms low = no_module
spelt_placed {spell} {all} (one_spelt {number} {before} {values} {text} {p} {ps} {ms} c names others) marks (one_room inside free rest) low =
    let is = placing_is all before marks values (spell number p) text p c names (All-head IsLow p ps low) inside free in
    let size = compiled_size text p c in
    let next : RoomsGo (marks_with marks p.room.first c.laid.here) ps = rw size rest in
    one_module is (spelt_placed others (marks_with marks p.room.first c.laid.here) next (All-tail IsLow p ps low))
