-- Modules in one source that leaves names as they are, where no name is defined in two texts.
use Rattle.std.proofs.Common.{◌≡◌, ℕ, ◌+◌, ℤ, Bool, true, false, ◌||◌, List, [], ◌∷◌, ◌++◌, map, Option, Some, None, is_some, All, suc}
use Rattle.std.proofs.Common.{Ok, refl, sym, ap, ◌∙◌, subst, append_assoc, append-nil, bytes_eq, option_map, arith}
use Rattle.std.specs.Prelude.{flat_map}
use Rattle.std.specs.List.{AllZip}
use Rattle.std.proofs.lemmas.List.Elements.{All-head, All-tail}
use Rattle.f8_asm.specs.Names.{value_of}
use Rattle.f8_asm.specs.Statements.{label_of}
use Rattle.f8_link.specs.declared.parts.Part.{Part}
use Rattle.f8_link.specs.declared.values.Named.{Named}
use Rattle.f8_link.specs.Linking.{named_value, all_exports, all_imports}
use Rattle.f8_link.specs.OneSource.{has, label_list, tokens_in, statement_lines, IsCompiled, defined_names, NoneShared, NoNameTwice}
use Rattle.f8_link.proofs.NameFacts.{same_name, not_true, not_both, has-names_of, none_from, value_in_front, value_behind, renamed_value}
use Rattle.f8_link.proofs.SourceRead.{labels_in}
use Rattle.f8_link.proofs.SpelledApart.{export_value}
use Rattle.f8_link.proofs.ImportsGo.{given_names, all_given, all_exported, given_value, AreFound, AllFound, all_found}
use Rattle.f8_link.proofs.CompiledParts.{Compiled, compiled_parts, compiled_labels, import_number, compiled_stand}
use Rattle.f8_link.proofs.Modules.{plain_spell, spelled_names, all_spelled, NameIs, Modules, no_modules, one_module, laid_names}

-- ---- what texts define

abbrev pub text_labels : List ℕ → List (List ℕ)
text_labels text = labels_in (map tokens_in (statement_lines text))

labels_flat : (ls : List (List ℕ)) → flat_map (λ line. label_list (label_of (tokens_in line))) ls ≡ labels_in (map tokens_in ls)
labels_flat [] = refl
labels_flat (l ∷ ls) = ap (λ q. label_list (label_of (tokens_in l)) ++ q) (labels_flat ls)

pub defined_are : (text : List ℕ) → defined_names text ≡ text_labels text
defined_are text = labels_flat (statement_lines text)

-- none of these texts defines the name
abbrev pub DefinedNowhere : List (List ℕ) → List ℕ → Type 0
DefinedNowhere [] x = Unit {0}
DefinedNowhere (t ∷ ts) x = (has (text_labels t) x ≡ false) × DefinedNowhere ts x

-- what a text defines, no later text does
abbrev pub TextsApart : List (List ℕ) → Type 0
TextsApart [] = Unit {0}
TextsApart (t ∷ ts) = ((x : List ℕ) → has (text_labels t) x ≡ true → DefinedNowhere ts x) × TextsApart ts

all_has : (P : List ℕ → Type 0) (ys : List (List ℕ)) → All P ys → (x : List ℕ) → has ys x ≡ true → P x
all_has P [] all x h = not_both true refl (sym h)
all_has P (y ∷ ys) all x h = by (bytes_eq x y) refl h (λ h. all_has P ys (All-tail P y ys all) x h)
  where
    by : (t : Bool) → bytes_eq x y ≡ t → (t || has ys x) ≡ true → (has ys x ≡ true → P x) → P x
    by true is h goes = subst P (sym (same_name x y is)) (All-head P y ys all)
    by false is h goes = goes h

defined_nowhere : (t : List ℕ) (ts : List (List ℕ)) → All (λ u. NoneShared (defined_names t) (defined_names u)) ts → (x : List ℕ)
    → has (text_labels t) x ≡ true → DefinedNowhere ts x
defined_nowhere t [] all x h = tt
defined_nowhere t (u ∷ us) all x h =
    let one : NoneShared (defined_names t) (defined_names u) = All-head (λ u. NoneShared (defined_names t) (defined_names u)) u us all in
    let among : has (defined_names t) x ≡ true = ap (λ ns. has ns x) (defined_are t) ∙ h in
    let out : has (defined_names u) x ≡ false = all_has (λ x. has (defined_names u) x ≡ false) (defined_names t) one x among in (
      ap (λ ns. has ns x) (sym (defined_are u)) ∙ out,
      defined_nowhere t us (All-tail (λ u. NoneShared (defined_names t) (defined_names u)) u us all) x h,
    )

pub texts_apart : (texts : List (List ℕ)) → NoNameTwice texts → TextsApart texts
texts_apart [] twice = tt
texts_apart (t ∷ ts) twice = (
  defined_nowhere t ts (λ k d below. twice 0 (suc k) d (omega arith) (omega (arith, below))),
  texts_apart ts (λ i j d before below. twice (suc i) (suc j) d (omega (arith, before)) (omega (arith, below))),
)

-- ---- names before a module

-- they are those of earlier texts
abbrev pub PlainBefore : List (List ℕ × ℤ) → List (List ℕ) → Type 0
PlainBefore before texts = (x : List ℕ) → is_some (value_of before x) ≡ true → DefinedNowhere texts x

module _ (text : List ℕ) (texts : List (List ℕ)) (p : Part) (c : Compiled text p.object) (before : List (List ℕ × ℤ))
    (so : PlainBefore before (text ∷ texts)) where
  abbrev own : List (List ℕ × ℤ)
  own = spelled_names (λ x. x) p.room.first c.laid.names

  own_is : (x : List ℕ) → value_of own x ≡ option_map (named_value p.room.first) (value_of c.laid.names x)
  own_is x = renamed_value (named_value p.room.first) (λ x. x) (λ x y. refl) c.laid.names x

  labelled : (x : List ℕ) → is_some (value_of c.laid.names x) ≡ true → has (text_labels text) x ≡ true
  labelled x h = ap (λ ns. has ns x) (sym (compiled_labels text p.object c)) ∙ has-names_of c.laid.names x ∙ h

  plain_fresh : (x : List ℕ) → is_some (value_of c.laid.names x) ≡ true → value_of before x ≡ None
  plain_fresh x h =
      none_from (value_of before x)
      (not_true (is_some (value_of before x)) (λ is. not_both (has (text_labels text) x) (labelled x h) (so x is).0))

  -- a name of the module, whatever stands behind
  plain_own : (behind : List (List ℕ × ℤ)) (x : List ℕ) (v : Named) → value_of c.laid.names x ≡ Some v
      → value_of (before ++ (own ++ behind)) x ≡ Some (named_value p.room.first v)
  plain_own behind x v h =
      value_behind before (own ++ behind) x (plain_fresh x (ap is_some h))
      ∙ value_in_front own behind x (named_value p.room.first v) (own_is x ∙ ap (option_map (named_value p.room.first)) h)

  some_own : (o : Option Named) → is_some (option_map (named_value p.room.first) o) ≡ true → is_some o ≡ true
  some_own (Some v) h = refl
  some_own None h = h

  plain_more : ((x : List ℕ) → has (text_labels text) x ≡ true → DefinedNowhere texts x) → PlainBefore (before ++ own) texts
  plain_more later x h = by (value_of before x) refl
    where
      by : (o : Option ℤ) → value_of before x ≡ o → DefinedNowhere texts x
      by (Some v) is = (so x (ap is_some is)).1
      by None is =
          let here : is_some (value_of own x) ≡ true = ap is_some (sym (value_behind before own x is)) ∙ h in
          later x (labelled x (some_own (value_of c.laid.names x) (ap is_some (sym (own_is x)) ∙ here)))

-- what is exported is found where it is defined
exported_in : (first : ℕ) (o : Option Named) (w : ℤ) → option_map (named_value first) o ≡ Some w → (v : Named) × (o ≡ Some v) × (named_value first v ≡ w)
exported_in first (Some v) w h = (v, refl, cc h)
exported_in first None w h = cc h

plain_found : (texts : List (List ℕ)) (ps : List Part) (so : AllZip IsCompiled texts ps) (number : ℕ) (before : List (List ℕ × ℤ)) → PlainBefore before texts
    → TextsApart texts → (x : List ℕ) (v : ℤ) → value_of (all_given ps) x ≡ Some v
    → value_of (before ++ all_spelled plain_spell number (laid_names texts ps so)) x ≡ Some v
unfolding laid_names
plain_found [] [] so number before at apart x v h = cc h
plain_found [] (p ∷ ps) so number before at apart x v h = absurd so
plain_found (t ∷ ts) [] so number before at apart x v h = absurd so
plain_found (t ∷ ts) (p ∷ ps) so number before at apart x v h =
    by (value_of (given_names p) x) refl
    (λ h. plain_found ts ps so.1 (number + 1) (before ++ own_names) (plain_more t ts p c before at apart.0) apart.1 x v h)
  where
    c : Compiled t p.object
    c = compiled_parts t p.object so.0

    own_names : List (List ℕ × ℤ)
    own_names = spelled_names (λ x. x) p.room.first c.laid.names

    behind : List (List ℕ × ℤ)
    behind = all_spelled plain_spell (number + 1) (laid_names ts ps so.1)

    by : (o : Option ℤ) → value_of (given_names p) x ≡ o
        → (value_of (all_given ps) x ≡ Some v → value_of ((before ++ own_names) ++ behind) x ≡ Some v)
        → value_of (before ++ (own_names ++ behind)) x ≡ Some v
    by (Some w) is goes =
        let same : Some w ≡ Some v = sym (value_in_front (given_names p) (all_given ps) x w is) ∙ h in
        let found = exported_in p.room.first (value_of p.object.exports x) w (sym (given_value p x) ∙ is) in
        let at_module = export_value c.laid.names p.object.exports (compiled_stand t p c).exports x found.0 found.1 in
        plain_own t ts p c before at behind x found.0 at_module ∙ ap Some found.2 ∙ same
    by None is goes =
        ap (λ q. value_of q x) (sym (append_assoc before own_names behind))
        ∙ goes (sym (value_behind (given_names p) (all_given ps) x is) ∙ h)

-- ---- all modules

module _ (text : List ℕ) (texts : List (List ℕ)) (p : Part) (c : Compiled text p.object) (before behind exports : List (List ℕ × ℤ))
    (so : PlainBefore before (text ∷ texts)) (values : List ℤ) (found : AreFound exports p.object.imports values) where
  abbrev whole : List (List ℕ × ℤ)
  whole = before ++ (spelled_names (λ x. x) p.room.first c.laid.names ++ behind)

  plain_names_go : ((x : List ℕ) (v : ℤ) → value_of exports x ≡ Some v → value_of whole x ≡ Some v) → (x : List ℕ)
      → NameIs p.room.first values (value_of c.laid.names x) (value_of c.read.imports x) (value_of whole x)
  plain_names_go shared x = by (value_of c.laid.names x) refl (value_of c.read.imports x) refl
    where
      by : (o : Option Named) → value_of c.laid.names x ≡ o → (i : Option ℕ) → value_of c.read.imports x ≡ i
          → NameIs p.room.first values o i (value_of whole x)
      by (Some v) at_o i at_i = plain_own text texts p c before so behind x v at_o
      by None at_o (Some i) at_i =
          let is = found i x (import_number text p.object c x i at_i) in
          shared x is.0 is.1 ∙ rw is.2 refl
      by None at_o None at_i = tt

plain_from : (texts : List (List ℕ)) (ps : List Part) (so : AllZip IsCompiled texts ps) (number : ℕ) (before all exports : List (List ℕ × ℤ))
    (values : List (List ℤ)) → PlainBefore before texts → TextsApart texts → AllFound exports ps values
    → before ++ all_spelled plain_spell number (laid_names texts ps so) ≡ all
    → ((x : List ℕ) (v : ℤ) → value_of exports x ≡ Some v → value_of all x ≡ Some v)
    → Modules plain_spell all number before values texts ps
unfolding laid_names
plain_from [] [] so number before all exports [] at apart found is shared = no_modules (sym (append-nil before) ∙ is)
plain_from [] [] so number before all exports (v ∷ vs) at apart found is shared = absurd found
plain_from [] (p ∷ ps) so number before all exports values at apart found is shared = absurd so
plain_from (t ∷ ts) [] so number before all exports values at apart found is shared = absurd so
plain_from (t ∷ ts) (p ∷ ps) so number before all exports [] at apart found is shared = absurd found
plain_from (t ∷ ts) (p ∷ ps) so number before all exports (v ∷ vs) at apart found is shared =
    let c = compiled_parts t p.object so.0 in
    let own : List (List ℕ × ℤ) = spelled_names (λ x. x) p.room.first c.laid.names in
    let behind : List (List ℕ × ℤ) = all_spelled plain_spell (number + 1) (laid_names ts ps so.1) in
    let both : (before ++ own) ++ behind ≡ all = append_assoc before own behind ∙ is in
    let shares : (x : List ℕ) (w : ℤ) → value_of exports x ≡ Some w → value_of (before ++ (own ++ behind)) x ≡ Some w =
    λ x w h. ap (λ q. value_of q x) is ∙ shared x w h in
    one_module c
    (record {
      apart = λ x y. refl;
      fresh = plain_fresh t ts p c before at;
      goes = λ x.
          subst (λ (q : List (List ℕ × ℤ)). NameIs p.room.first v (value_of c.laid.names x) (value_of c.read.imports x) (value_of q x)) is
          (plain_names_go t ts p c before behind exports at v found.0 shares x);
    })
    (plain_from ts ps so.1 (number + 1) (before ++ own) all exports vs (plain_more t ts p c before at apart.0) apart.1 found.1 both shared)

-- the plain source's final names, and what each module's names are there
pub plain_go : (texts : List (List ℕ)) (ps : List Part) (so : AllZip IsCompiled texts ps) (names : List (List ℕ × ℤ)) (values : List (List ℤ))
    → NoNameTwice texts → all_exports ps ≡ Ok names → all_imports names ps ≡ Ok values
    → Modules plain_spell (all_spelled plain_spell 0 (laid_names texts ps so)) 0 [] values texts ps
plain_go texts ps so names values twice at_names at_values =
    let nothing : PlainBefore [] texts = λ x h. not_both true refl (sym h) in
    let apart = texts_apart texts twice in
    plain_from texts ps so 0 [] (all_spelled plain_spell 0 (laid_names texts ps so)) names values nothing apart (all_found names ps values at_values) refl
    (λ x v h. plain_found texts ps so 0 [] nothing apart x v (ap (λ q. value_of q x) (sym (all_exported ps names at_names).is) ∙ h))
