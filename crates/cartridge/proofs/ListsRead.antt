-- The entries of a TOML list, one after another.
use Rattle.std.proofs.Common.{◌≡◌, ℕ, ◌+◌, ◌<◌, List, [], ◌∷◌, ◌++◌, length, drop, get_or, Option, Some, None, refl}
use Rattle.std.proofs.Common.{sym, ap, ◌∙◌, arith, append_assoc, append-nil}
use Rattle.std.specs.Prelude.{option_map}
use Rattle.std.proofs.lemmas.List.{at_drop_all}
use Rattle.toml.specs.Data.{Data, item}
use Rattle.toml.specs.View.{view, items_view}
use Rattle.toml.specs.declared.value.Value.{Value}
use Rattle.toml.proofs.Views.{items_view-drop}
use Rattle.cartridge.specs.Values.{each, count_of}

abbrev pub behind : {A : Type 0} → List A → Option (List A) → Option (List A)
behind xs rest = option_map (λ more. xs ++ more) rest

-- what the first i entries are, and behind it what the others are
abbrev pub HasRead : {A : Type 0} → (Data → Option A) → List Value → ℕ → List A → Type 0
HasRead part vs i xs = each part (items_view vs) ≡ behind xs (each part (items_view (drop i vs)))

pub behind_none : {A : Type 0} (rest : Option (List A)) → rest ≡ behind [] rest
behind_none None = refl
behind_none (Some more) = refl

pub read_none : {A : Type 0} (part : Data → Option A) (vs : List Value) → HasRead part vs 0 []
read_none part vs = behind_none (each part (items_view vs))

pub behind_nested : {A : Type 0} (xs : List A) (x : A) (rest : Option (List A))
    → behind xs (option_map (λ more. x ∷ more) rest) ≡ behind (xs ++ x ∷ []) rest
behind_nested xs x None = refl
behind_nested xs x (Some more) = ap Some (sym (append_assoc xs (x ∷ []) more))

next : {A : Type 0} (part : Data → Option A) (vs : List Value) (i : ℕ) (v : Value) → i < length vs → get_or vs i v ≡ v
    → each part (items_view (drop i vs)) ≡ each part (item (view v) (items_view (drop (i + 1) vs)))
next part vs i v within at = ap (each part) (items_view-drop vs i v within ∙ ap (λ (w : Value). item (view w) (items_view (drop (i + 1) vs))) at)

pub read_more : {A : Type 0} (part : Data → Option A) (vs : List Value) (i : ℕ) (v : Value) (x : A) (xs : List A) → i < length vs → get_or vs i v ≡ v
    → part (view v) ≡ Some x → HasRead part vs i xs → HasRead part vs (i + 1) (xs ++ x ∷ [])
read_more part vs i v x xs within at is read =
    read ∙ ap (behind xs) (next part vs i v within at ∙ rw is refl) ∙ behind_nested xs x (each part (items_view (drop (i + 1) vs)))

pub read_bad : {A : Type 0} (part : Data → Option A) (vs : List Value) (i : ℕ) (v : Value) (xs : List A) → i < length vs → get_or vs i v ≡ v
    → part (view v) ≡ None → HasRead part vs i xs → each part (items_view vs) ≡ None
read_bad part vs i v xs within at is read =
    let here : each part (items_view (drop i vs)) ≡ None = next part vs i v within at ∙ rw is refl in
    read ∙ ap (behind xs) here

pub read_all : {A : Type 0} (part : Data → Option A) (vs : List Value) (i : ℕ) (xs : List A) → i ≡ length vs →
    HasRead part vs i xs → each part (items_view vs) ≡ Some xs
read_all part vs i xs at read =
    read ∙ at_drop_all (λ (ws : List Value). behind xs (each part (items_view ws))) vs i (omega arith) ∙ ap Some (append-nil xs)

pub count_of_view : (vs : List Value) → count_of (items_view vs) ≡ length vs
count_of_view [] = refl
count_of_view (v ∷ vs) = rw (count_of_view vs) (omega arith)
