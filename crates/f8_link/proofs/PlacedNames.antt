-- The names of a module and their values in the one source.
use Rattle.std.proofs.Common.{◌≡◌, ℕ, ℤ, Bool, true, false, List, [], ◌∷◌, ◌++◌, map, Option, Some, None, refl, sym, ap, ◌∙◌, append-nil}
use Rattle.std.proofs.lemmas.Slice.Eq.{bytes_eq-Decides}
use Rattle.std.specs.Prelude.{if◌then◌else◌, bytes_eq, option_map, ◌||◌}
use Rattle.asm_text.specs.declared.answers.Token.{Token}
use Rattle.f8_asm.specs.Names.{value_of, with_name}
use Rattle.f8_asm.specs.Statements.{label_of}
use Rattle.f8_link.specs.declared.values.Named.{Named}
use Rattle.f8_link.specs.Linking.{named_value}
use Rattle.f8_link.specs.OneSource.{has}
use Rattle.f8_link.proofs.ModuleLines.{seen_after, NewLabel}

-- the names of a module that begins at `first`, as the one source spells them, with their values there
abbrev pub placed_names : (List ℕ → List ℕ) → ℕ → List (List ℕ × Named) → List (List ℕ × ℤ)
placed_names rename first names = map (λ e. (rename e.0, named_value first e.1)) names

-- a spelling keeps names apart
pub record KeepsApart (rename : List ℕ → List ℕ) : Type 0 where
  pub is : (x y : List ℕ) → bytes_eq (rename x) (rename y) ≡ bytes_eq x y

-- ---- lists of names

given_by : {A : Type 0} (t : Bool) (e : List ℕ × A) (es : List (List ℕ × A)) (name : List ℕ) (v : A)
    → (value_of es name ≡ None → with_name es name v ≡ es ++ (name, v) ∷ []) → (if t then Some e.1 else value_of es name) ≡ None
    → (if t then (e.0, v) ∷ es else e ∷ with_name es name v) ≡ e ∷ (es ++ (name, v) ∷ [])
given_by true e es name v goes new = cc new
given_by false e es name v goes new = ap (λ r. e ∷ r) (goes new)

-- a new name stands behind the others
pub given : {A : Type 0} (es : List (List ℕ × A)) (name : List ℕ) (v : A) → value_of es name ≡ None → with_name es name v ≡ es ++ (name, v) ∷ []
given [] name v new = refl
given (e ∷ es) name v new = given_by (bytes_eq name e.0) e es name v (λ h. given es name v h) new

behind_by : {A : Type 0} (t : Bool) (v : A) (o p q : Option A) → (o ≡ None → p ≡ q) → (if t then Some v else o) ≡ None → (if t then Some v else p) ≡ q
behind_by true v o p q goes none = cc none
behind_by false v o p q goes none = goes none

-- a name that isn't among the first is found behind them
pub value_behind : {A : Type 0} (es fs : List (List ℕ × A)) (name : List ℕ) → value_of es name ≡ None → value_of (es ++ fs) name ≡ value_of fs name
value_behind [] fs name none = refl
value_behind (e ∷ es) fs name none =
    behind_by (bytes_eq name e.0) e.1 (value_of es name) (value_of (es ++ fs) name) (value_of fs name) (λ h. value_behind es fs name h) none

chosen_value : (t : Bool) (first : ℕ) (v : Named) (o : Option Named) (p : Option ℤ) → p ≡ option_map (named_value first) o
    → (if t then Some (named_value first v) else p) ≡ option_map (named_value first) (if t then Some v else o)
chosen_value true first v o p is = refl
chosen_value false first v o p is = is

-- the module's name has its value in the one source
pub value_placed : (rename : List ℕ → List ℕ) (first : ℕ) (names : List (List ℕ × Named)) (x : List ℕ) → KeepsApart rename
    → value_of (placed_names rename first names) (rename x) ≡ option_map (named_value first) (value_of names x)
value_placed rename first [] x apart = refl
value_placed rename first (e ∷ es) x apart =
    rw (apart.is x e.0)
    (chosen_value (bytes_eq x e.0) first e.1 (value_of es x) (value_of (placed_names rename first es) (rename x)) (value_placed rename first es x apart))

-- names of the module in two parts
pub placed_append : (rename : List ℕ → List ℕ) (first : ℕ) (es fs : List (List ℕ × Named))
    → placed_names rename first (es ++ fs) ≡ placed_names rename first es ++ placed_names rename first fs
placed_append rename first [] fs = refl
placed_append rename first (e ∷ es) fs = ap (λ r. (rename e.0, named_value first e.1) ∷ r) (placed_append rename first es fs)

-- ---- the names after a label

-- what a label adds to names
abbrev pub label_names : {A : Type 0} → Option (List ℕ) → A → List (List ℕ × A)
label_names None v = []
label_names (Some x) v = (x, v) ∷ []

-- labels are new to the names before the module
abbrev pub FreshLabel : (List ℕ → List ℕ) → List (List ℕ × ℤ) → Option (List ℕ) → Type 0
FreshLabel rename before None = Unit {0}
FreshLabel rename before (Some x) = value_of before (rename x) ≡ None

abbrev pub LabelsFresh : (List ℕ → List ℕ) → List (List ℕ × ℤ) → List (List Token) → Type 0
LabelsFresh rename before [] = Unit {0}
LabelsFresh rename before (ts ∷ tss) = FreshLabel rename before (label_of ts) × LabelsFresh rename before tss

-- the names of a module so far: they are among those seen, and none of them is named before the module
pub record NamesStand (rename : List ℕ → List ℕ) (before : List (List ℕ × ℤ)) (seen : List (List ℕ)) (names : List (List ℕ × Named)) : Type 0 where
  pub unseen : (x : List ℕ) → has seen x ≡ false → value_of names x ≡ None
  pub fresh : (x : List ℕ) (v : Named) → value_of names x ≡ Some v → value_of before (rename x) ≡ None

pub names_begin : (rename : List ℕ → List ℕ) (before : List (List ℕ × ℤ)) → NamesStand rename before [] []
names_begin rename before = record { unseen = λ x h. refl; fresh = λ x v h. cc h }

or_false : (a b : Bool) → (a || b) ≡ false → (a ≡ false) × (b ≡ false)
or_false true b h = cc h
or_false false b h = (refl, h)

-- a name that is found is among the first or is the last
last_by : {A : Type 0} (P : Type 0) (t : Bool) (v w : A) → (if t then Some v else None) ≡ Some w → (t ≡ true → P) → P
last_by P true v w h goes = goes refl
last_by P false v w h goes = cc h

found_by : {A : Type 0} (P : Type 0) (o : Option A) (es fs : List (List ℕ × A)) (x : List ℕ) (v : A) → value_of es x ≡ o → value_of (es ++ fs) x ≡ Some v
    → ((w : A) → value_of es x ≡ Some w → P) → (value_of fs x ≡ Some v → P) → P
found_by P None es fs x v is found one other = other (sym (value_behind es fs x is) ∙ found)
found_by P (Some w) es fs x v is found one other = one w is

-- the names stand so after one label more
pub names_more : {rename : List ℕ → List ℕ} {before : List (List ℕ × ℤ)} {seen : List (List ℕ)} {names : List (List ℕ × Named)}
    → NamesStand rename before seen names → (label : Option (List ℕ)) (v : Named) → FreshLabel rename before label
    → NamesStand rename before (seen_after seen label) (names ++ label_names label v)
names_more {names} stand None v fresh = rw (append-nil names) stand
names_more {rename} {before} {seen} {names} stand (Some y) v fresh = record {
  unseen = λ x h.
      let both = or_false (bytes_eq x y) (has seen x) h in
      value_behind names ((y, v) ∷ []) x (stand.unseen x both.1) ∙ rw both.0 refl;
  fresh = λ x w found.
      found_by (value_of before (rename x) ≡ None) (value_of names x) names ((y, v) ∷ []) x w refl found
      (λ u is. stand.fresh x u is)
      (λ is. last_by (value_of before (rename x) ≡ None) (bytes_eq x y) v w is
      (λ t. let same : x ≡ y = (bytes_eq-Decides x y).0 t in rw same fresh));
}

-- the names of the module, and those before it with them
pub names_go : {rename : List ℕ → List ℕ} {before : List (List ℕ × ℤ)} {seen : List (List ℕ)} {names : List (List ℕ × Named)}
    → NamesStand rename before seen names → KeepsApart rename → (first : ℕ) (x : List ℕ) (v : Named) → value_of names x ≡ Some v
    → value_of (before ++ placed_names rename first names) (rename x) ≡ Some (named_value first v)
names_go {rename} {before} {seen} {names} stand apart first x v found =
    value_behind before (placed_names rename first names) (rename x) (stand.fresh x v found)
    ∙ value_placed rename first names x apart ∙ ap (λ o. option_map (named_value first) o) found

-- a label is new to the module's names
pub label_unseen : {rename : List ℕ → List ℕ} {before : List (List ℕ × ℤ)} {seen : List (List ℕ)} {names : List (List ℕ × Named)}
    → NamesStand rename before seen names → (x : List ℕ) → NewLabel seen (Some x) → value_of names x ≡ None
label_unseen stand x new = stand.unseen x new

-- and its spelling is new to the one source's
pub label_fresh : {rename : List ℕ → List ℕ} {before : List (List ℕ × ℤ)} {seen : List (List ℕ)} {names : List (List ℕ × Named)}
    → NamesStand rename before seen names → KeepsApart rename → (first : ℕ) (x : List ℕ) → NewLabel seen (Some x) → FreshLabel rename before (Some x)
    → value_of (before ++ placed_names rename first names) (rename x) ≡ None
label_fresh {rename} {before} {seen} {names} stand apart first x new fresh =
    value_behind before (placed_names rename first names) (rename x) fresh
    ∙ value_placed rename first names x apart ∙ ap (λ o. option_map (named_value first) o) (stand.unseen x new)
