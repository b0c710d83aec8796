-- How the one source spells names: a module's names stay apart, and only shared names of two modules meet.
use Rattle.std.proofs.Common.{◌≡◌, ℕ, ◌+◌, ℤ, Bool, true, false, ◌&&◌, ◌||◌, List, [], ◌∷◌, ◌++◌, map, Option, Some, None, is_some, All}
use Rattle.std.proofs.Common.{suc}
use Rattle.std.proofs.Common.{refl, sym, ap, ◌∙◌, subst, bytes_eq, eq-eqb, ne_eqb, arith, option_map}
use Rattle.std.specs.Prelude.{if◌then◌else◌}
use Rattle.std.proofs.lemmas.List.Folds.{list_any-append}
use Rattle.std.proofs.lemmas.List.Elements.{All-head, All-tail}
use Rattle.f8_asm.specs.Names.{value_of}
use Rattle.f8_link.specs.declared.parts.Part.{Part}
use Rattle.f8_link.specs.declared.values.Named.{Named}
use Rattle.f8_link.specs.Linking.{named_value}
use Rattle.f8_link.specs.OneSource.{has, shared_names, spelled}
use Rattle.f8_link.proofs.NameFacts.{names_of, same_name, not_true, not_both, has-names_of, no_value}
use Rattle.f8_link.proofs.NameFacts.{renamed_value, nowhere}
use Rattle.f8_link.proofs.NamesLaid.{ExportStands}

fronts_apart : (a b : ℕ) (x y : List ℕ) → (a ≡ b → ⊥) → bytes_eq (a ∷ x) (b ∷ y) ≡ false
fronts_apart a b x y other = ap (λ t. t && bytes_eq x y) (ne_eqb a b other)

same_front : (a : ℕ) (x y : List ℕ) → bytes_eq (a ∷ x) (a ∷ y) ≡ bytes_eq x y
same_front a x y = ap (λ t. t && bytes_eq x y) (eq-eqb a a refl)

-- a name that is among some isn't one that isn't
other_name : (names : List (List ℕ)) (x y : List ℕ) → has names x ≡ true → has names y ≡ false → bytes_eq x y ≡ false
other_name names x y among out =
    not_true (bytes_eq x y) (λ is. not_both (has names y) (subst (λ z. has names z ≡ true) (same_name x y is) among) out)

other_turned : (names : List (List ℕ)) (x y : List ℕ) → has names x ≡ false → has names y ≡ true → bytes_eq x y ≡ false
other_turned names x y out among =
    not_true (bytes_eq x y) (λ is. not_both (has names x) (subst (λ z. has names z ≡ true) (sym (same_name x y is)) among) out)

zero_apart : (n : ℕ) → 0 ≡ suc n → ⊥
zero_apart n h = omega arith

turned_apart : (n : ℕ) → suc n ≡ 0 → ⊥
turned_apart n h = omega arith

module _ (number : ℕ) (shared : List (List ℕ)) where
  pub spelled_shared : (x : List ℕ) → has shared x ≡ true → spelled number shared x ≡ 0 ∷ x
  spelled_shared x h = rw h refl

  pub spelled_own : (x : List ℕ) → has shared x ≡ false → spelled number shared x ≡ suc number ∷ x
  spelled_own x h = rw h refl

  -- a module's names stay apart
  pub spelled_apart : (x y : List ℕ) → bytes_eq (spelled number shared x) (spelled number shared y) ≡ bytes_eq x y
  spelled_apart x y = by (has shared x) (has shared y) refl refl
    where
      by : (a b : Bool) → has shared x ≡ a → has shared y ≡ b
          → bytes_eq (if a then 0 ∷ x else suc number ∷ x) (if b then 0 ∷ y else suc number ∷ y) ≡ bytes_eq x y
      by true true at_x at_y = same_front 0 x y
      by true false at_x at_y = fronts_apart 0 (suc number) x y (zero_apart number) ∙ sym (other_name shared x y at_x at_y)
      by false true at_x at_y = fronts_apart (suc number) 0 x y (turned_apart number) ∙ sym (other_turned shared x y at_x at_y)
      by false false at_x at_y = same_front (suc number) x y

  -- a name that isn't shared is spelled as no shared one
  pub never_shared : (x y : List ℕ) → has shared x ≡ false → bytes_eq (0 ∷ x) (spelled number shared y) ≡ false
  never_shared x y out = by (has shared y) refl
    where
      by : (b : Bool) → has shared y ≡ b → bytes_eq (0 ∷ x) (if b then 0 ∷ y else suc number ∷ y) ≡ false
      by true at_y = same_front 0 x y ∙ other_turned shared x y out at_y
      by false at_y = fronts_apart 0 (suc number) x y (zero_apart number)

  -- nor as a name of a module with another number
  pub never_other : (k : ℕ) (x y : List ℕ) → (k ≡ number → ⊥) → bytes_eq (suc k ∷ x) (spelled number shared y) ≡ false
  never_other k x y other = by (has shared y)
    where
      by : (b : Bool) → bytes_eq (suc k ∷ x) (if b then 0 ∷ y else suc number ∷ y) ≡ false
      by true = fronts_apart (suc k) 0 x y (turned_apart k)
      by false = fronts_apart (suc k) (suc number) x y (λ h. other (omega (arith, h)))

-- names of two modules meet only where both share one name
pub spelled_meet : (n m : ℕ) (s t : List (List ℕ)) (x y : List ℕ) → (n ≡ m → ⊥) → bytes_eq (spelled n s x) (spelled m t y) ≡ true
    → (has s x ≡ true) × (has t y ≡ true) × (x ≡ y)
spelled_meet n m s t x y other = by (has s x) (has t y)
  where
    by : (a b : Bool) → bytes_eq (if a then 0 ∷ x else suc n ∷ x) (if b then 0 ∷ y else suc m ∷ y) ≡ true → (a ≡ true) × (b ≡ true) × (x ≡ y)
    by true true h = (refl, refl, same_name x y (sym (same_front 0 x y) ∙ h))
    by true false h = not_both (bytes_eq (0 ∷ x) (suc m ∷ y)) h (fronts_apart 0 (suc m) x y (zero_apart m))
    by false true h = not_both (bytes_eq (suc n ∷ x) (0 ∷ y)) h (fronts_apart (suc n) 0 x y (turned_apart n))
    by false false h = not_both (bytes_eq (suc n ∷ x) (suc m ∷ y)) h (fronts_apart (suc n) (suc m) x y (λ e. other (omega (arith, e))))

-- ---- the names of a module in the one source

abbrev pub module_names : ℕ → List (List ℕ × Named) → Part → List (List ℕ × ℤ)
module_names number names p = map (λ e. (spelled number (shared_names p) e.0, named_value p.room.first e.1)) names

-- and those of all modules, the first of which has this number
abbrev pub all_names : ℕ → List (List (List ℕ × Named) × Part) → List (List ℕ × ℤ)
all_names number [] = []
all_names number (m ∷ ms) = module_names number m.0 m.1 ++ all_names (number + 1) ms

-- the module exports what it gives, and gives no name that it imports
pub record NamesStand (names : List (List ℕ × Named)) (p : Part) : Type 0 where
  pub exports : All (ExportStands names) p.object.exports
  pub apart : (x : List ℕ) → is_some (value_of names x) ≡ true → has p.object.imports x ≡ false

module _ (names : List (List ℕ × Named)) where
  export_if : (t : Bool) (x : List ℕ) (e : List ℕ × Named) (o : Option Named) (v : Named) → bytes_eq x e.0 ≡ t → value_of names e.0 ≡ Some e.1
      → (o ≡ Some v → value_of names x ≡ Some v) → (if t then Some e.1 else o) ≡ Some v → value_of names x ≡ Some v
  export_if true x e o v is at_e goes h = subst (λ y. value_of names y ≡ Some e.1) (sym (same_name x e.0 is)) at_e ∙ h
  export_if false x e o v is at_e goes h = goes h

  -- an export has the value that the name has in the module
  pub export_value : (es : List (List ℕ × Named)) → All (ExportStands names) es → (x : List ℕ) (v : Named) → value_of es x ≡ Some v
      → value_of names x ≡ Some v
  export_value [] all x v h = cc h
  export_value (e ∷ es) all x v h =
      export_if (bytes_eq x e.0) x e (value_of es x) v refl (All-head (ExportStands names) e es all)
      (λ h. export_value es (All-tail (ExportStands names) e es all) x v h) h

module _ (number : ℕ) (names : List (List ℕ × Named)) (p : Part) where
  abbrev rename : List ℕ → List ℕ
  rename = spelled number (shared_names p)

  -- a name of the module has its value
  pub own_value : (x : List ℕ) → value_of (module_names number names p) (rename x) ≡ option_map (named_value p.room.first) (value_of names x)
  own_value x = renamed_value (named_value p.room.first) rename (spelled_apart number (shared_names p)) names x

  -- no name of another number is here
  pub other_value : (k : ℕ) (x : List ℕ) → (k ≡ number → ⊥) → value_of (module_names number names p) (suc k ∷ x) ≡ None
  other_value k x other = nowhere (named_value p.room.first) rename names (suc k ∷ x) (λ y. never_other number (shared_names p) k x y other)

  has_shared : (x : List ℕ) → has (shared_names p) x ≡ (has (names_of p.object.exports) x || has p.object.imports x)
  has_shared x = list_any-append (bytes_eq x) (names_of p.object.exports) p.object.imports

  or_left : (a b : Bool) → (a || b) ≡ false → a ≡ false
  or_left true b h = h
  or_left false b h = refl

  or_right : (a b : Bool) → (a || b) ≡ true → a ≡ false → b ≡ true
  or_right true b h out = not_both true refl out
  or_right false b h out = h

  or_one : (a b : Bool) → b ≡ true → (a || b) ≡ true
  or_one true b h = refl
  or_one false b h = h

  or_first : (a b : Bool) → a ≡ true → (a || b) ≡ true
  or_first true b h = refl
  or_first false b h = not_both false h refl

  pub shared_import : (x : List ℕ) → has p.object.imports x ≡ true → has (shared_names p) x ≡ true
  shared_import x h = has_shared x ∙ or_one (has (names_of p.object.exports) x) (has p.object.imports x) h

  pub shared_export : (x : List ℕ) → has (names_of p.object.exports) x ≡ true → has (shared_names p) x ≡ true
  shared_export x h = has_shared x ∙ or_first (has (names_of p.object.exports) x) (has p.object.imports x) h

  module _ (stand : NamesStand names p) where
    -- a name of the module that is shared is exported
    pub shared_is_export : (x : List ℕ) → has (shared_names p) x ≡ true → is_some (value_of names x) ≡ true
        → has (names_of p.object.exports) x ≡ true
    shared_is_export x shared given = by (has (names_of p.object.exports) x) refl
      where
        by : (b : Bool) → has (names_of p.object.exports) x ≡ b → b ≡ true
        by true is = refl
        by false is =
            not_both (has p.object.imports x)
            (or_right (has (names_of p.object.exports) x) (has p.object.imports x) (sym (has_shared x) ∙ shared) is)
            (stand.apart x given)

    same_if_shared : (x : List ℕ) → has (shared_names p) x ≡ true → value_of names x ≡ value_of p.object.exports x
    same_if_shared x shared = by (value_of p.object.exports x) refl (value_of names x) refl
      where
        by : (o : Option Named) → value_of p.object.exports x ≡ o → (q : Option Named) → value_of names x ≡ q → q ≡ o
        by (Some v) at_o q at_q = sym at_q ∙ export_value names p.object.exports stand.exports x v at_o
        by None at_o None at_q = refl
        by None at_o (Some v) at_q =
            let exported = shared_is_export x shared (ap is_some at_q) in
            not_both (has (names_of p.object.exports) x) exported (has-names_of p.object.exports x ∙ ap is_some at_o)

    -- under its shared spelling a name has the value that the module exports
    pub shared_value : (x : List ℕ)
        → value_of (module_names number names p) (0 ∷ x) ≡ option_map (named_value p.room.first) (value_of p.object.exports x)
    shared_value x = by (has (shared_names p) x) refl
      where
        by : (b : Bool) → has (shared_names p) x ≡ b
            → value_of (module_names number names p) (0 ∷ x) ≡ option_map (named_value p.room.first) (value_of p.object.exports x)
        by true is =
            ap (λ y. value_of (module_names number names p) y) (sym (spelled_shared number (shared_names p) x is)) ∙ own_value x
            ∙ ap (option_map (named_value p.room.first)) (same_if_shared x is)
        by false is =
            let out : value_of p.object.exports x ≡ None =
            no_value p.object.exports x (or_left (has (names_of p.object.exports) x) (has p.object.imports x) (sym (has_shared x) ∙ is)) in
            nowhere (named_value p.room.first) rename names (0 ∷ x) (λ y. never_shared number (shared_names p) x y is) ∙ rw out refl
