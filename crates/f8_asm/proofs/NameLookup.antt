-- Names looked up and given in a map by text, against the list that a contract sees.
use Rattle.std.proofs.Common.{◌≡◌, ℕ, Bool, true, false, cond, List, [], ◌∷◌, map, Some, refl, ap, bytes_eq}
use Rattle.std.specs.Prelude.{String, string_bytes, string_eq}
use Rattle.std.specs.Global.{Global}
use Rattle.std.specs.Map.{lookup}
use Rattle.indexmap.specs.IndexMap.{insert_entry}
use Rattle.std.proofs.Common.{arith, zero, suc, slice_get}
use Rattle.std.specs.Prelude.{IsTrue}
use Rattle.std.proofs.lemmas.Grind.{common_steps}
use Rattle.asm_text.specs.Bytes.{is_name}
use Rattle.f8_asm.specs.Names.{value_of, with_name, are_names}

-- names as a contract sees them
abbrev seen_names : {A : Type 0} → List (String Global × A) → List (List ℕ × A)
seen_names es = map (λ e. (string_bytes e.0, e.1)) es

-- a choice between equal things
either : {A : Type 0} (b : Bool) (x p y q : A) → x ≡ p → y ≡ q → cond b x y ≡ cond b p q
either true x p y q e f = e
either false x p y q e f = f

-- what is made of a choice
either_made : {A B : Type 0} (f : A → B) (b : Bool) (x y : A) (p q : B) → f x ≡ p → f y ≡ q → f (cond b x y) ≡ cond b p q
either_made f true x y p q e h = e
either_made f false x y p q e h = h

-- a name is found where its text is
pub looked_up : {A : Type 0} (name : List ℕ) (es : List (String Global × A)) →
    lookup (λ k. bytes_eq name (string_bytes k)) es ≡ value_of (map (λ e. (string_bytes e.0, e.1)) es) name
looked_up name [] = refl
looked_up name (e ∷ es) = either (bytes_eq name (string_bytes e.0)) (Some e.1) (Some e.1) _ _ refl (looked_up name es)

-- a name is given where its text is
pub inserted : {A : Type 0} (es : List (String Global × A)) (key : String Global) (v : A) →
    map (λ e. (string_bytes e.0, e.1)) (insert_entry string_eq es key v)
    ≡ with_name (map (λ e. (string_bytes e.0, e.1)) es) (string_bytes key) v
inserted [] key v = refl
inserted (e ∷ es) key v = either_made seen_names (bytes_eq (string_bytes key) (string_bytes e.0)) ((e.0, v) ∷ es)
    (e ∷ insert_entry string_eq es key v) _ _ refl (ap (λ r. (string_bytes e.0, e.1) ∷ r) (inserted es key v))

-- names stay names with one more
names_with : {A : Type 0} (b : Bool) (e : List ℕ × A) (es : List (List ℕ × A)) (more : List (List ℕ × A)) (v : A) →
    IsTrue (are_names (e ∷ es)) → IsTrue (are_names more) → IsTrue (are_names (cond b ((e.0, v) ∷ es) (e ∷ more)))
names_with true e es more v all rest = all
names_with false e es more v all rest = grind (arith, common_steps)

names_behind : {A : Type 0} (e : List ℕ × A) (es : List (List ℕ × A)) → IsTrue (are_names (e ∷ es)) → IsTrue (are_names es)
names_behind e es all = grind (arith, common_steps)

pub names_kept : {A : Type 0} (es : List (List ℕ × A)) (name : List ℕ) (v : A) → IsTrue (are_names es) → IsTrue (is_name name) →
    IsTrue (are_names (with_name es name v))
names_kept [] name v all one = grind (arith, common_steps)
names_kept (e ∷ es) name v all one = names_with (bytes_eq name e.0) e es (with_name es name v) v all (names_kept es name v (names_behind e es all) one)

-- each of some names is one
pub name_at : {A : Type 0} (es : List (List ℕ × A)) (k : ℕ) (name : List ℕ) (v : A) → IsTrue (are_names es) →
    Some (name, v) ≡ slice_get es k → IsTrue (is_name name)
name_at [] k name v all here = cc
name_at (e ∷ es) zero name v all here = grind (arith, common_steps)
name_at (e ∷ es) (suc k) name v all here = name_at es k name v (names_behind e es all) here
