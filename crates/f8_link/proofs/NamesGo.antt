-- What the names of each module stand for in the one source.
use Rattle.std.proofs.Common.{◌≡◌, ℕ, ◌+◌, ◌≤◌, ℤ, Bool, true, false, List, [], ◌∷◌, ◌++◌, Option, Some, None, is_some, All, suc}
use Rattle.std.proofs.Common.{Ok, refl, sym, ap, ◌∙◌, subst, append_assoc, append-nil, option_map, arith}
use Rattle.std.specs.Prelude.{slice_get}
use Rattle.std.specs.List.{AllZip}
use Rattle.f8_asm.specs.Names.{value_of}
use Rattle.f8_link.specs.declared.parts.Part.{Part}
use Rattle.f8_link.specs.declared.values.Base.TheVariants.{Import}
use Rattle.f8_link.specs.declared.values.Named.{Named}
use Rattle.f8_link.specs.Linking.{named_value, base_value, all_exports, all_imports}
use Rattle.f8_link.specs.OneSource.{has, shared_names, spelled, IsCompiled}
use Rattle.f8_link.proofs.NameFacts.{has-names_of, value_of-append, value_in_front, value_behind}
use Rattle.f8_link.proofs.SpelledApart.{spelled_apart, spelled_shared, spelled_own, module_names, all_names, NamesStand, own_value}
use Rattle.f8_link.proofs.SpelledApart.{other_value, shared_import}
use Rattle.f8_link.proofs.SpelledApart.{shared_is_export, shared_value}
use Rattle.f8_link.proofs.ImportsGo.{given_names, all_given, ExportsNew, ExportsApart, all_exported, exports_found, given_value}
use Rattle.f8_link.proofs.ImportsGo.{AreFound, AllFound, all_found}
use Rattle.f8_link.proofs.CompiledParts.{Compiled, compiled_parts, compiled_imports, import_number, compiled_stand}
use Rattle.f8_link.proofs.Modules.{shared_spell, NameIs, Modules, no_modules, one_module, laid_names}

-- ---- the names before a module

-- under their shared spelling names have the values of what was exported, and no name has the number of a later module
pub record Before (number : ℕ) (names before : List (List ℕ × ℤ)) : Type 0 where
  pub shared : (x : List ℕ) → value_of before (0 ∷ x) ≡ value_of names x
  pub own : (k : ℕ) (x : List ℕ) → number ≤ k → value_of before (suc k ∷ x) ≡ None

pub before_none : (number : ℕ) → Before number [] []
before_none number = record { shared = λ x. refl; own = λ k x h. refl }

module _ (number : ℕ) (names before : List (List ℕ × ℤ)) (own : List (List ℕ × Named)) (p : Part) (stand : NamesStand own p)
    (so : Before number names before) where
  pub before_more : Before (number + 1) (names ++ given_names p) (before ++ module_names number own p)
  before_more = record {
    shared = λ x.
        value_of-append before (module_names number own p) (0 ∷ x)
        ∙ rw (so.shared x, shared_value number own p stand x, ← given_value p x) (sym (value_of-append names (given_names p) x));
    own = λ k x h.
        value_behind before (module_names number own p) (suc k ∷ x) (so.own k x (omega (arith, h)))
        ∙ other_value number own p k x (λ same. omega (arith, h, same));
  }

  -- a name of the module is new behind them
  pub own_fresh : ExportsNew names p.object.exports → (x : List ℕ) → is_some (value_of own x) ≡ true
      → value_of before (spelled number (shared_names p) x) ≡ None
  own_fresh new x given = by (has (shared_names p) x) refl
    where
      by : (b : Bool) → has (shared_names p) x ≡ b → value_of before (spelled number (shared_names p) x) ≡ None
      by true is =
          ap (λ y. value_of before y) (spelled_shared number (shared_names p) x is) ∙ so.shared x
          ∙ new x (shared_is_export number own p stand x is given)
      by false is = ap (λ y. value_of before y) (spelled_own number (shared_names p) x is) ∙ so.own number x (omega arith)

-- ---- what a name stands for

module _ (text : List ℕ) (p : Part) (c : Compiled text p.object) (number : ℕ) (names before behind : List (List ℕ × ℤ)) (so : Before number names before)
    (new : ExportsNew names p.object.exports) where
  abbrev rename : List ℕ → List ℕ
  rename = spelled number (shared_names p)

  abbrev whole : List (List ℕ × ℤ)
  whole = before ++ (module_names number c.laid.names p ++ behind)

  -- its own name
  own_goes : (x : List ℕ) (v : Named) → value_of c.laid.names x ≡ Some v → value_of whole (rename x) ≡ Some (named_value p.room.first v)
  own_goes x v h =
      value_behind before (module_names number c.laid.names p ++ behind) (rename x)
      (own_fresh number names before c.laid.names p (compiled_stand text p c) so new x (ap is_some h))
      ∙ value_in_front (module_names number c.laid.names p) behind (rename x) (named_value p.room.first v)
      (own_value number c.laid.names p x ∙ ap (option_map (named_value p.room.first)) h)

  module _ (all : List (List ℕ × ℤ)) (values : List ℤ) (found : AreFound all p.object.imports values)
      (shared : (x : List ℕ) → value_of whole (0 ∷ x) ≡ value_of all x) where
    -- its import
    import_goes : (x : List ℕ) (i : ℕ) → value_of c.read.imports x ≡ Some i
        → value_of whole (rename x) ≡ Some (base_value p.room.first values (Some (Import i)))
    import_goes x i h =
        let at : slice_get p.object.imports i ≡ Some x = import_number text p.object c x i h in
        let among : has p.object.imports x ≡ true = ap (λ ns. has ns x) (compiled_imports text p.object c) ∙ has-names_of c.read.imports x ∙ ap is_some h in
        let is = found i x at in
        ap (λ y. value_of whole y) (spelled_shared number (shared_names p) x (shared_import number c.laid.names p x among))
        ∙ shared x ∙ is.1 ∙ rw is.2 refl

    pub names_go : (x : List ℕ) → NameIs p.room.first values (value_of c.laid.names x) (value_of c.read.imports x) (value_of whole (rename x))
    names_go x = by (value_of c.laid.names x) refl (value_of c.read.imports x) refl
      where
        by : (o : Option Named) → value_of c.laid.names x ≡ o → (i : Option ℕ) → value_of c.read.imports x ≡ i
            → NameIs p.room.first values o i (value_of whole (rename x))
        by (Some v) at_o i at_i = own_goes x v at_o
        by None at_o (Some i) at_i = import_goes x i at_i
        by None at_o None at_i = tt

-- ---- all modules

-- under their shared spelling all names have the values of what was exported
all_shared : (texts : List (List ℕ)) (ps : List Part) (so : AllZip IsCompiled texts ps) (number : ℕ) (names before : List (List ℕ × ℤ))
    → Before number names before → (x : List ℕ) → value_of (before ++ all_names number (laid_names texts ps so)) (0 ∷ x) ≡ value_of (names ++ all_given ps) x
unfolding laid_names
all_shared [] [] so number names before at x = rw (append-nil before, append-nil names) (at.shared x)
all_shared [] (p ∷ ps) so number names before at x = absurd so
all_shared (t ∷ ts) [] so number names before at x = absurd so
all_shared (t ∷ ts) (p ∷ ps) so number names before at x =
    let c = compiled_parts t p.object so.0 in
    let more = before_more number names before c.laid.names p (compiled_stand t p c) at in
    ap (λ q. value_of q (0 ∷ x)) (sym (append_assoc before (module_names number c.laid.names p) (all_names (number + 1) (laid_names ts ps so.1))))
    ∙ all_shared ts ps so.1 (number + 1) (names ++ given_names p) (before ++ module_names number c.laid.names p) more x
    ∙ ap (λ q. value_of q x) (append_assoc names (given_names p) (all_given ps))

modules_from : (texts : List (List ℕ)) (ps : List Part) (so : AllZip IsCompiled texts ps) (number : ℕ) (names before all exports : List (List ℕ × ℤ))
    (values : List (List ℤ)) → Before number names before → ExportsApart names ps → AllFound exports ps values
    → before ++ all_names number (laid_names texts ps so) ≡ all → ((x : List ℕ) → value_of all (0 ∷ x) ≡ value_of exports x)
    → Modules shared_spell all number before values texts ps
unfolding laid_names
modules_from [] [] so number names before all exports [] at new found is shared = no_modules (sym (append-nil before) ∙ is)
modules_from [] [] so number names before all exports (v ∷ vs) at new found is shared = absurd found
modules_from [] (p ∷ ps) so number names before all exports values at new found is shared = absurd so
modules_from (t ∷ ts) [] so number names before all exports values at new found is shared = absurd so
modules_from (t ∷ ts) (p ∷ ps) so number names before all exports [] at new found is shared = absurd found
modules_from (t ∷ ts) (p ∷ ps) so number names before all exports (v ∷ vs) at new found is shared =
    let c = compiled_parts t p.object so.0 in
    let stand = compiled_stand t p c in
    let behind : List (List ℕ × ℤ) = all_names (number + 1) (laid_names ts ps so.1) in
    let more = before_more number names before c.laid.names p stand at in
    let both : (before ++ module_names number c.laid.names p) ++ behind ≡ all = append_assoc before (module_names number c.laid.names p) behind ∙ is in
    let shares : (x : List ℕ) → value_of (before ++ (module_names number c.laid.names p ++ behind)) (0 ∷ x) ≡ value_of exports x =
    λ x. ap (λ q. value_of q (0 ∷ x)) is ∙ shared x in
    one_module c
    (record {
      apart = spelled_apart number (shared_names p);
      fresh = own_fresh number names before c.laid.names p stand at new.0;
      goes = λ x.
          subst (λ (q : List (List ℕ × ℤ)). NameIs p.room.first v (value_of c.laid.names x) (value_of c.read.imports x)
          (value_of q (spelled number (shared_names p) x))) is (names_go t p c number names before behind at new.0 exports v found.0 shares x);
    })
    (modules_from ts ps so.1 (number + 1) (names ++ given_names p) (before ++ module_names number c.laid.names p) all exports vs more new.1 found.1 both shared)

-- the one source's final names, and what each module's names are there
pub record AllGo (texts : List (List ℕ)) (ps : List Part) (names : List (List ℕ × ℤ)) (values : List (List ℤ)) (all : List (List ℕ × ℤ)) : Type 0 where
  pub modules : Modules shared_spell all 0 [] values texts ps
  pub shared : (x : List ℕ) → value_of all (0 ∷ x) ≡ value_of names x
  pub exports : All (λ e. value_of all (0 ∷ e.0) ≡ Some e.1) names

pub all_go : (texts : List (List ℕ)) (ps : List Part) (so : AllZip IsCompiled texts ps) (names : List (List ℕ × ℤ)) (values : List (List ℤ))
    → all_exports ps ≡ Ok names → all_imports names ps ≡ Ok values → AllGo texts ps names values (all_names 0 (laid_names texts ps so))
all_go texts ps so names values at_names at_values =
    let exported = all_exported ps names at_names in
    let shared : (x : List ℕ) → value_of (all_names 0 (laid_names texts ps so)) (0 ∷ x) ≡ value_of names x =
    λ x. all_shared texts ps so 0 [] [] (before_none 0) x ∙ ap (λ q. value_of q x) (sym exported.is) in
    record {
      modules = modules_from texts ps so 0 [] [] (all_names 0 (laid_names texts ps so)) names values (before_none 0) exported.apart
          (all_found names ps values at_values) refl shared;
      shared = shared;
      exports = λ k d below. shared _ ∙ exports_found ps names at_names k d below;
    }
