-- What linking makes of modules is the image of the one source of their lines, and of their joined text where no name is defined twice.
use Rattle.std.proofs.Common.{◌≡◌, ℕ, ℤ, Bool, List, [], ◌∷◌, Option, Some, None, Result, Ok, All, refl, sym, ap, ◌∙◌, subst}
use Rattle.std.specs.List.{AllZip}
use Rattle.f8_asm.specs.Image.{Picture, ascending, everywhere, image_of}
use Rattle.f8_asm.specs.Names.{value_of}
use Rattle.f8_asm.specs.declared.answers.AsmFault.{AsmFault}
use Rattle.f8_asm.proofs.Alike.{read-ok}
use Rattle.f8_link.specs.declared.parts.Part.{Part}
use Rattle.f8_link.specs.declared.values.Named.{Named}
use Rattle.f8_link.specs.Linking.{IsLow, all_exports, all_imports, all_inside, all_marked, all_written, linked_in, linked_of}
use Rattle.f8_link.specs.OneSource.{one_source, source_image, joined, NoNameTwice, HasBytes, IsCompiled, IsOneSource}
use Rattle.f8_link.proofs.Goes.{NameGoes}
use Rattle.f8_link.proofs.CompiledParts.{Compiled}
use Rattle.f8_link.proofs.Modules.{Spell, plain_spell, NameIs, ModuleGoes, Modules, no_modules, one_module, laid_names, all_spelled}
use Rattle.f8_link.proofs.NamesGo.{all_go}
use Rattle.f8_link.proofs.PlainNames.{plain_go}
use Rattle.f8_link.proofs.PlainRooms.{joined_bytes}
use Rattle.f8_link.proofs.PlainText.{plain_source}
use Rattle.f8_link.proofs.PartsGo.{Placing}
use Rattle.f8_link.proofs.PartsLines.{PartsAre, no_parts, one_more, one_source_lines, plain_source_lines}
use Rattle.f8_link.proofs.RoomsGo.{rooms_go}
use Rattle.f8_link.proofs.SpelledApart.{all_names}
use Rattle.f8_link.proofs.Spelt.{placing, NamesIn, Spelt, none_spelt, one_spelt}
use Rattle.f8_link.proofs.SpeltImage.{spelt_image}

-- ---- linking step by step

-- what linking found
pub record LinkedFrom (parts : List Part) (picture : Picture) : Type 0 where
  pub names : List (List ℕ × ℤ)
  pub values : List (List ℤ)
  pub marks : List Bool
  pub table : List (Option ℕ)
  pub at_names : all_exports parts ≡ Ok names
  pub at_values : all_imports names parts ≡ Ok values
  pub at_inside : all_inside parts ≡ Ok tt
  pub at_marks : all_marked 65536 parts ≡ Ok marks
  pub at_table : all_written 65536 values parts ≡ Ok table
  pub is : picture ≡ record { bytes = ascending 0 table; symbols = names }

linked_size : (size : ℕ) (parts : List Part) (picture : Picture) → size ≡ 65536 → linked_in size parts ≡ Ok picture → LinkedFrom parts picture
unfolding linked_in
linked_size size parts picture all h =
    read-ok (LinkedFrom parts picture) (all_exports parts) _ picture h (λ names at_names h.
    read-ok (LinkedFrom parts picture) (all_imports names parts) _ picture h (λ values at_values h.
    read-ok (LinkedFrom parts picture) (all_inside parts) _ picture h (λ u at_inside h.
    read-ok (LinkedFrom parts picture) (all_marked size parts) _ picture h (λ marks at_marks h.
    read-ok (LinkedFrom parts picture) (all_written size values parts) _ picture h (λ table at_table e.
    record {
      names = names;
      values = values;
      marks = marks;
      table = table;
      at_names = at_names;
      at_values = at_values;
      at_inside = at_inside;
      at_marks = ap (λ (n : ℕ). all_marked n parts) (sym all) ∙ at_marks;
      at_table = ap (λ (n : ℕ). all_written n values parts) (sym all) ∙ at_table;
      is = sym (cc e);
    })))))

pub linked_from : (parts : List Part) (picture : Picture) → linked_of parts ≡ Ok picture → LinkedFrom parts picture
unfolding linked_of
linked_from parts picture h = linked_size 65536 parts picture refl h

-- ---- modules, however one source spells their names

name_is : (first : ℕ) (values : List ℤ) (own : Option Named) (import : Option ℕ) (o : Option ℤ) → NameIs first values own import o
    → NameGoes first values own import o
name_is first values (Some v) import o h = h
name_is first values None (Some i) o h = h
name_is first values None None o h = h

record Placed (spell : Spell) (all : List (List ℕ × ℤ)) (number : ℕ) (before : List (List ℕ × ℤ)) (values : List (List ℤ)) (texts : List (List ℕ))
    (ps : List Part) : Type 0 where
  ms : List Placing
  spelt : Spelt spell all number before values texts ps ms
  are : PartsAre spell number texts ps ms

module _ (spell : Spell) (all before : List (List ℕ × ℤ)) (number : ℕ) (values : List ℤ) (text : List ℕ) (p : Part) (c : Compiled text p.object) where
  names_in : ModuleGoes spell all number before values text p c → NamesIn all before values (spell number p) text p c
  names_in goes = record {
    apart = goes.apart;
    fresh = goes.fresh;
    goes = λ x.
        name_is p.room.first values (value_of c.laid.names x) (value_of c.read.imports x) (value_of all (spell number p x)) (goes.goes x);
  }

all_placed : {spell : Spell} {all : List (List ℕ × ℤ)} {number : ℕ} {before : List (List ℕ × ℤ)} {values : List (List ℤ)} {texts : List (List ℕ)}
    {ps : List Part} → Modules spell all number before values texts ps → Placed spell all number before values texts ps
all_placed (no_modules is) = record { ms = []; spelt = none_spelt is; are = no_parts }
all_placed {spell} {all} (one_module {number} {before} {values} {rest} {text} {texts} {p} {ps} c goes others) =
    let last = all_placed others in
    record {
      ms = placing (spell number p) text p c ∷ last.ms;
      spelt = one_spelt c (names_in spell all before number values text p c goes) last.spelt;
      are = one_more refl refl refl last.are;
    }

-- ---- the law

one_source_so : (picture : Picture) (r : Result Picture AsmFault) (q : Picture) → r ≡ Ok q → picture.bytes ≡ q.bytes
    → All (λ e. value_of q.symbols (0 ∷ e.0) ≡ Some e.1) picture.symbols → IsOneSource picture r
one_source_so picture r q is bytes symbols = rw is (bytes, symbols)

pub one_source_law : (texts : List (List ℕ)) (parts : List Part) (picture : Picture) → AllZip IsCompiled texts parts → All IsLow parts
    → linked_of parts ≡ Ok picture → IsOneSource picture (source_image (one_source texts parts))
one_source_law texts parts picture so low h =
    let found = linked_from parts picture h in
    let all : List (List ℕ × ℤ) = all_names 0 (laid_names texts parts so) in
    let go = all_go texts parts so found.names found.values found.at_names found.at_values in
    let placed = all_placed go.modules in
    let rooms = rooms_go 65536 parts tt found.marks found.at_inside found.at_marks in
    let image = spelt_image found.table placed.spelt rooms low found.at_table in
    let q : Picture = record { bytes = ascending 0 found.table; symbols = all } in
    let is : source_image (one_source texts parts) ≡ Ok q = ap source_image (one_source_lines texts parts placed.ms placed.are) ∙ image in
    let symbols : picture.symbols ≡ found.names = ap (λ (k : Picture). k.symbols) found.is in
    one_source_so picture (source_image (one_source texts parts)) q is (ap (λ (k : Picture). k.bytes) found.is)
    (subst (λ (es : List (List ℕ × ℤ)). All (λ e. value_of all (0 ∷ e.0) ≡ Some e.1) es) (sym symbols) go.exports)

-- the same with names as they are, where no name is defined in two texts
pub plain_law : (texts : List (List ℕ)) (parts : List Part) (picture : Picture) → AllZip IsCompiled texts parts → NoNameTwice texts → All IsLow parts
    → linked_of parts ≡ Ok picture → HasBytes picture.bytes (image_of (joined texts parts) everywhere)
plain_law texts parts picture so twice low h =
    let found = linked_from parts picture h in
    let modules = plain_go texts parts so found.names found.values twice found.at_names found.at_values in
    let placed = all_placed modules in
    let rooms = rooms_go 65536 parts tt found.marks found.at_inside found.at_marks in
    let image = spelt_image found.table placed.spelt rooms low found.at_table in
    let q : Picture = record { bytes = ascending 0 found.table; symbols = all_spelled plain_spell 0 (laid_names texts parts so) } in
    let is : source_image (plain_source texts parts) ≡ Ok q = ap source_image (plain_source_lines texts parts placed.ms placed.are) ∙ image in
    subst (λ (bytes : List (ℕ × ℕ)). HasBytes bytes (image_of (joined texts parts) everywhere)) (sym (ap (λ (k : Picture). k.bytes) found.is))
    (joined_bytes texts parts q so is)
