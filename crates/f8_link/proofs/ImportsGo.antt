-- What modules export and import: each exported name is new, and each import has the value of its export.
use Rattle.std.proofs.Common.{◌≡◌, ℕ, ◌+◌, ℤ, Bool, true, false, ◌||◌, List, [], ◌∷◌, ◌++◌, map, Option, Some, None, is_some, All, zero}
use Rattle.std.proofs.Common.{suc}
use Rattle.std.proofs.Common.{Result, Ok, Err, refl, sym, ap, ◌∙◌, subst, append_assoc, append-nil, bytes_eq, option_map}
use Rattle.std.specs.Prelude.{if◌then◌else◌, slice_get}
use Rattle.std.specs.Option.{option_or}
use Rattle.std.proofs.lemmas.List.Elements.{All-nil, All-push}
use Rattle.f8_asm.specs.Names.{value_of}
use Rattle.f8_asm.specs.Steps.{steps}
use Rattle.f8_asm.proofs.Alike.{read-ok}
use Rattle.f8_link.specs.declared.answers.LinkCause.{LinkCause}
use Rattle.f8_link.specs.declared.parts.Part.{Part}
use Rattle.f8_link.specs.declared.values.Named.{Named}
use Rattle.f8_link.specs.Linking.{at_module, each_part, named_value, export_given, exports_given, all_exports, import_found, import_given}
use Rattle.f8_link.specs.Linking.{imports_given}
use Rattle.f8_link.specs.Linking.{imports_added, all_imports}
use Rattle.f8_link.specs.OneSource.{has}
use Rattle.f8_link.proofs.NameFacts.{names_of, same_name, name_itself, not_both, value_of-append, value_in_front, value_behind, given}
use Rattle.f8_link.proofs.NameFacts.{renamed_value}

pub at_module-ok : {A : Type 0} (number : ℕ) (r : Result A LinkCause) (x : A) → at_module number r ≡ Ok x → r ≡ Ok x
at_module-ok number (Ok y) x h = cc h
at_module-ok number (Err cause) x h = cc h

-- ---- exports

-- each name of a table is its own entry's
abbrev pub EntryStands : List (List ℕ × ℤ) → List ℕ × ℤ → Type 0
EntryStands names e = value_of names e.0 ≡ Some e.1

abbrev pub given_entries : ℕ → List (List ℕ × Named) → List (List ℕ × ℤ)
given_entries first es = map (λ e. (e.0, named_value first e.1)) es

-- what a module exports, with the values that linking gives
abbrev pub given_names : Part → List (List ℕ × ℤ)
given_names p = given_entries p.room.first p.object.exports

abbrev pub all_given : List Part → List (List ℕ × ℤ)
all_given [] = []
all_given (p ∷ ps) = given_names p ++ all_given ps

-- what is exported is new
abbrev pub ExportsNew : List (List ℕ × ℤ) → List (List ℕ × Named) → Type 0
ExportsNew names es = (x : List ℕ) → has (names_of es) x ≡ true → value_of names x ≡ None

record Exported (first : ℕ) (names after : List (List ℕ × ℤ)) (es : List (List ℕ × Named)) : Type 0 where
  is : after ≡ names ++ given_entries first es
  new : ExportsNew names es
  stand : All (EntryStands names) names → All (EntryStands after) after

none_some : (o : Option ℤ) (c : LinkCause) (r : Result (List (List ℕ × ℤ)) LinkCause) (x : List (List ℕ × ℤ))
    → (if is_some o then Err c else r) ≡ Ok x → (o ≡ None) × (r ≡ Ok x)
none_some None c r x h = (refl, h)
none_some (Some v) c r x h = cc h

entry_more : (names : List (List ℕ × ℤ)) (x : List ℕ) (v : ℤ) → value_of names x ≡ None → All (EntryStands names) names
    → All (EntryStands (names ++ (x, v) ∷ [])) (names ++ (x, v) ∷ [])
entry_more names x v none so =
    All-push (EntryStands (names ++ (x, v) ∷ [])) names (x, v) (λ k d below. value_in_front names ((x, v) ∷ []) _ _ (so k d below))
    (value_behind names ((x, v) ∷ []) x none ∙ rw (name_itself x) refl)

or_none : {A : Type 0} (o p : Option A) → option_or o p ≡ None → o ≡ None
or_none None p h = refl
or_none (Some v) p h = cc h

exported : (first : ℕ) (es : List (List ℕ × Named)) (names after : List (List ℕ × ℤ)) → steps (export_given first) names es ≡ Ok after
    → Exported first names after es
unfolding steps
exported first [] names after h =
    let is : names ≡ after = cc h in
    record {
      is = sym is ∙ sym (append-nil names);
      new = λ x h. not_both true refl (sym h);
      stand = λ so. subst (λ (q : List (List ℕ × ℤ)). All (EntryStands q) q) is so;
    }
exported first (e ∷ es) names after h =
    read-ok (Exported first names after (e ∷ es)) (export_given first names e) _ after h (λ now at_now h.
    let both = none_some (value_of names e.0) _ _ now at_now in
    let v : ℤ = named_value first e.1 in
    let added : now ≡ names ++ (e.0, v) ∷ [] = sym (cc both.1) ∙ given names e.0 v both.0 in
    let rest = exported first es now after h in
    record {
      is = rest.is ∙ ap (λ q. q ++ given_entries first es) added ∙ append_assoc names ((e.0, v) ∷ []) (given_entries first es);
      new = λ x h. is_new first e es names now both.0 added rest.new x (bytes_eq x e.0) refl h;
      stand = λ so. rest.stand (subst (λ (q : List (List ℕ × ℤ)). All (EntryStands q) q) (sym added) (entry_more names e.0 v both.0 so));
    })
  where
    is_new : (first : ℕ) (e : List ℕ × Named) (es : List (List ℕ × Named)) (names now : List (List ℕ × ℤ)) → value_of names e.0 ≡ None
        → now ≡ names ++ (e.0, named_value first e.1) ∷ [] → ExportsNew now es → (x : List ℕ) (t : Bool) → bytes_eq x e.0 ≡ t
        → (t || has (names_of es) x) ≡ true → value_of names x ≡ None
    is_new first e es names now none added rest x true is h = rw (same_name x e.0 is) none
    is_new first e es names now none added rest x false is h =
        or_none (value_of names x) (value_of ((e.0, named_value first e.1) ∷ []) x)
        (sym (value_of-append names ((e.0, named_value first e.1) ∷ []) x) ∙ ap (λ q. value_of q x) (sym added) ∙ rest x h)

-- each module's exports are new behind those of the modules before it
abbrev pub ExportsApart : List (List ℕ × ℤ) → List Part → Type 0
ExportsApart names [] = Unit {0}
ExportsApart names (p ∷ ps) = ExportsNew names p.object.exports × ExportsApart (names ++ given_names p) ps

pub record AllExported (names after : List (List ℕ × ℤ)) (ps : List Part) : Type 0 where
  pub is : after ≡ names ++ all_given ps
  pub apart : ExportsApart names ps
  pub stand : All (EntryStands names) names → All (EntryStands after) after

pub exports_from : (ps : List Part) (number : ℕ) (names after : List (List ℕ × ℤ)) → each_part (λ number. exports_given) number names ps ≡ Ok after
    → AllExported names after ps
unfolding each_part exports_given
exports_from [] number names after h =
    let is : names ≡ after = cc h in
    record {
      is = sym is ∙ sym (append-nil names);
      apart = tt;
      stand = λ so. subst (λ (q : List (List ℕ × ℤ)). All (EntryStands q) q) is so;
    }
exports_from (p ∷ ps) number names after h =
    read-ok (AllExported names after (p ∷ ps)) (at_module number (exports_given names p)) _ after h (λ now at_now h.
    let one = exported p.room.first p.object.exports names now (at_module-ok number (exports_given names p) now at_now) in
    let rest = exports_from ps (number + 1) now after h in
    record {
      is = rest.is ∙ ap (λ q. q ++ all_given ps) one.is ∙ append_assoc names (given_names p) (all_given ps);
      apart = (one.new, subst (λ q. ExportsApart q ps) one.is rest.apart);
      stand = λ so. rest.stand (one.stand so);
    })

pub all_exported : (ps : List Part) (names : List (List ℕ × ℤ)) → all_exports ps ≡ Ok names → AllExported [] names ps
all_exported ps names h = exports_from ps 0 [] names h

-- each exported name has one value
pub exports_found : (ps : List Part) (names : List (List ℕ × ℤ)) → all_exports ps ≡ Ok names → All (EntryStands names) names
exports_found ps names h = (all_exported ps names h).stand (All-nil (EntryStands []))

-- the value of a name that a module exports
pub given_value : (p : Part) (x : List ℕ) → value_of (given_names p) x ≡ option_map (named_value p.room.first) (value_of p.object.exports x)
given_value p x = renamed_value (named_value p.room.first) (λ y. y) (λ y z. refl) p.object.exports x

-- ---- imports

-- the values of these names in their order
abbrev pub AreFound : List (List ℕ × ℤ) → List (List ℕ) → List ℤ → Type 0
AreFound names xs values = (i : ℕ) (x : List ℕ) → slice_get xs i ≡ Some x → (v : ℤ) × (value_of names x ≡ Some v) × (slice_get values i ≡ Some v)

record Imported (names : List (List ℕ × ℤ)) (values after : List ℤ) (xs : List (List ℕ)) : Type 0 where
  found : List ℤ
  is : after ≡ values ++ found
  are : AreFound names xs found

imported : (names : List (List ℕ × ℤ)) (xs : List (List ℕ)) (values after : List ℤ) → steps (import_given names) values xs ≡ Ok after
    → Imported names values after xs
unfolding steps
imported names [] values after h =
    let is : values ≡ after = cc h in
    record { found = []; is = sym is ∙ sym (append-nil values); are = λ i x h. cc h }
imported names (x ∷ xs) values after h =
    read-ok (Imported names values after (x ∷ xs)) (import_given names values x) _ after h (λ now at_now h.
    by now (value_of names x) refl at_now (imported names xs now after h))
  where
    by : (now : List ℤ) (o : Option ℤ) → value_of names x ≡ o → import_found values o ≡ Ok now → Imported names now after xs
        → Imported names values after (x ∷ xs)
    by now (Some v) found at_now rest =
        let is : values ++ v ∷ [] ≡ now = cc at_now in
        record {
          found = v ∷ rest.found;
          is = rest.is ∙ ap (λ q. q ++ rest.found) (sym is) ∙ append_assoc values (v ∷ []) rest.found;
          are = λ i y h. at_place i y h;
        }
      where
        at_place : (i : ℕ) (y : List ℕ) → slice_get (x ∷ xs) i ≡ Some y
            → (w : ℤ) × (value_of names y ≡ Some w) × (slice_get (v ∷ rest.found) i ≡ Some w)
        at_place zero y h = let same : x ≡ y = cc h in (v, subst (λ z. value_of names z ≡ Some v) same found, refl)
        at_place (suc i) y h = rest.are i y h
    by now None found at_now rest = cc at_now

-- a module's imports are found
pub imports_found : (names : List (List ℕ × ℤ)) (p : Part) (values : List ℤ) → imports_given names p ≡ Ok values
    → AreFound names p.object.imports values
unfolding imports_given
imports_found names p values h = let did = imported names p.object.imports [] values h in rw did.is did.are

-- and those of each module
abbrev pub AllFound : List (List ℕ × ℤ) → List Part → List (List ℤ) → Type 0
AllFound names [] [] = Unit {0}
AllFound names [] (values ∷ all) = ⊥
AllFound names (p ∷ ps) [] = ⊥
AllFound names (p ∷ ps) (values ∷ all) = AreFound names p.object.imports values × AllFound names ps all

record AllImported (names : List (List ℕ × ℤ)) (before after : List (List ℤ)) (ps : List Part) : Type 0 where
  found : List (List ℤ)
  is : after ≡ before ++ found
  are : AllFound names ps found

imports_from : (names : List (List ℕ × ℤ)) (ps : List Part) (number : ℕ) (before after : List (List ℤ))
    → each_part (λ number. imports_added names) number before ps ≡ Ok after → AllImported names before after ps
unfolding each_part
imports_from names [] number before after h =
    let is : before ≡ after = cc h in
    record { found = []; is = sym is ∙ sym (append-nil before); are = tt }
imports_from names (p ∷ ps) number before after h =
    read-ok (AllImported names before after (p ∷ ps)) (at_module number (imports_added names before p)) _ after h (λ now at_now h.
    read-ok (AllImported names before after (p ∷ ps)) (imports_given names p) _ now (at_module-ok number (imports_added names before p) now at_now)
    (λ values at_values e.
    let is : before ++ values ∷ [] ≡ now = cc e in
    let rest = imports_from names ps (number + 1) now after h in
    record {
      found = values ∷ rest.found;
      is = rest.is ∙ ap (λ q. q ++ rest.found) (sym is) ∙ append_assoc before (values ∷ []) rest.found;
      are = (imports_found names p values at_values, rest.are);
    }))

pub all_found : (names : List (List ℕ × ℤ)) (ps : List Part) (values : List (List ℤ)) → all_imports names ps ≡ Ok values → AllFound names ps values
all_found names ps values h = let did = imports_from names ps 0 [] values h in rw did.is did.are
