-- Modules in one source, however it spells their names.
use Rattle.std.proofs.Common.{◌≡◌, ℕ, ◌+◌, ℤ, List, [], ◌∷◌, ◌++◌, map, Option, Some, None, is_some, true, bytes_eq}
use Rattle.std.proofs.Common.{refl, sym, ap, ◌∙◌}
use Rattle.std.specs.List.{AllZip}
use Rattle.asm_text.specs.declared.answers.Token.{Token}
use Rattle.f8_asm.specs.Names.{value_of}
use Rattle.f8_asm.specs.Statements.{label_of}
use Rattle.f8_link.specs.declared.parts.Part.{Part}
use Rattle.f8_link.specs.declared.values.Base.TheVariants.{Import}
use Rattle.f8_link.specs.declared.values.Named.{Named}
use Rattle.f8_link.specs.Linking.{named_value, base_value}
use Rattle.f8_link.specs.OneSource.{has, label_list, tokens_in, statement_lines, shared_names, spelled, IsCompiled}
use Rattle.f8_link.proofs.NameFacts.{name_itself, has-names_of}
use Rattle.f8_link.proofs.SourceRead.{labels_in, rest_own}
use Rattle.f8_link.proofs.CompiledParts.{Compiled, compiled_parts, compiled_labels}

-- how names of a module with this number are spelled
abbrev pub Spell : Type 0
Spell = ℕ → Part → List ℕ → List ℕ

-- as shared names of all modules, or the module's own
abbrev pub shared_spell : Spell
shared_spell number p x = spelled number (shared_names p) x

-- as they are
abbrev pub plain_spell : Spell
plain_spell number p x = x

-- the names of a module that begins at this address
abbrev pub spelled_names : (List ℕ → List ℕ) → ℕ → List (List ℕ × Named) → List (List ℕ × ℤ)
spelled_names rename first names = map (λ e. (rename e.0, named_value first e.1)) names

-- a name of the module, or else its import by number, and the name's value in the one source
abbrev pub NameIs : ℕ → List ℤ → Option Named → Option ℕ → Option ℤ → Type 0
NameIs first values (Some v) import o = o ≡ Some (named_value first v)
NameIs first values None (Some i) o = o ≡ Some (base_value first values (Some (Import i)))
NameIs first values None None o = Unit {0}

-- what is known of a module's names, given the one source's final names and those before the module
pub record ModuleGoes (spell : Spell) (all : List (List ℕ × ℤ)) (number : ℕ) (before : List (List ℕ × ℤ)) (values : List ℤ) (text : List ℕ) (p : Part)
    (c : Compiled text p.object) : Type 0 where
  pub apart : (x y : List ℕ) → bytes_eq (spell number p x) (spell number p y) ≡ bytes_eq x y
  pub fresh : (x : List ℕ) → is_some (value_of c.laid.names x) ≡ true → value_of before (spell number p x) ≡ None
  pub goes : (x : List ℕ) → NameIs p.room.first values (value_of c.laid.names x) (value_of c.read.imports x) (value_of all (spell number p x))

-- a label's spelling is new to these names
abbrev pub FreshLabel : (List ℕ → List ℕ) → List (List ℕ × ℤ) → Option (List ℕ) → Type 0
FreshLabel rename before None = Unit {0}
FreshLabel rename before (Some x) = value_of before (rename x) ≡ None

abbrev pub LabelsFresh : (List ℕ → List ℕ) → List (List ℕ × ℤ) → List (List Token) → Type 0
LabelsFresh rename before [] = Unit {0}
LabelsFresh rename before (ts ∷ tss) = FreshLabel rename before (label_of ts) × LabelsFresh rename before tss

label_fresh : (rename : List ℕ → List ℕ) (before : List (List ℕ × ℤ)) (label : Option (List ℕ)) (xs : List (List ℕ))
    → ((x : List ℕ) → has (label_list label ++ xs) x ≡ true → value_of before (rename x) ≡ None) → FreshLabel rename before label
label_fresh rename before None xs fresh = tt
label_fresh rename before (Some x) xs fresh = fresh x (rw (name_itself x) refl)

pub labels_fresh : (rename : List ℕ → List ℕ) (before : List (List ℕ × ℤ)) (tss : List (List Token))
    → ((x : List ℕ) → has (labels_in tss) x ≡ true → value_of before (rename x) ≡ None) → LabelsFresh rename before tss
labels_fresh rename before [] fresh = tt
labels_fresh rename before (ts ∷ tss) fresh = (
  label_fresh rename before (label_of ts) (labels_in tss) fresh,
  labels_fresh rename before tss (λ x h. fresh x (rest_own (label_of ts) (labels_in tss) x h)),
)

-- no label of a module stands before it
pub module_fresh : (spell : Spell) (all : List (List ℕ × ℤ)) (number : ℕ) (before : List (List ℕ × ℤ)) (values : List ℤ) (text : List ℕ) (p : Part)
    (c : Compiled text p.object) → ModuleGoes spell all number before values text p c
    → LabelsFresh (spell number p) before (map tokens_in (statement_lines text))
module_fresh spell all number before values text p c goes =
    labels_fresh (spell number p) before (map tokens_in (statement_lines text)) (λ x h.
    goes.fresh x (sym (has-names_of c.laid.names x) ∙ ap (λ ns. has ns x) (compiled_labels text p.object c) ∙ h))

-- modules from this number on, behind these names, with the values of their imports; these are all names
pub data Modules (spell : Spell) (all : List (List ℕ × ℤ)) : ℕ → List (List ℕ × ℤ) → List (List ℤ) → List (List ℕ) → List Part → Type 0 where
  no_modules : {number : ℕ} {before : List (List ℕ × ℤ)} → before ≡ all → Modules spell all number before [] [] []
  one_module : {number : ℕ} {before : List (List ℕ × ℤ)} {values : List ℤ} {rest : List (List ℤ)} {text : List ℕ} {texts : List (List ℕ)} {p : Part}
      {ps : List Part} (c : Compiled text p.object) → ModuleGoes spell all number before values text p c
      → Modules spell all (number + 1) (before ++ spelled_names (spell number p) p.room.first c.laid.names) rest texts ps
      → Modules spell all number before (values ∷ rest) (text ∷ texts) (p ∷ ps)

-- the names of modules from this number on
abbrev pub all_spelled : Spell → ℕ → List (List (List ℕ × Named) × Part) → List (List ℕ × ℤ)
all_spelled spell number [] = []
all_spelled spell number (m ∷ ms) = spelled_names (spell number m.1) m.1.room.first m.0 ++ all_spelled spell (number + 1) ms

-- the names of each module, as its second pass leaves them
unfoldable pub laid_names : (texts : List (List ℕ)) (ps : List Part) → AllZip IsCompiled texts ps → List (List (List ℕ × Named) × Part)
laid_names [] [] so = []
laid_names [] (p ∷ ps) so = absurd so
laid_names (t ∷ ts) [] so = absurd so
laid_names (t ∷ ts) (p ∷ ps) so = ((compiled_parts t p.object so.0).laid.names, p) ∷ laid_names ts ps so.1
