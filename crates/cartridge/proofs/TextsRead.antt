-- The texts of a TOML list, one after another.
use Rattle.std.proofs.Common.{◌≡◌, ℕ, ◌+◌, ◌<◌, List, [], ◌∷◌, ◌++◌, length, get_or, map, Some, None, Bor, sym}
use Rattle.std.proofs.lemmas.List.{map-append}
use Rattle.toml.specs.Data.{as_str}
use Rattle.toml.specs.View.{view, items_view}
use Rattle.toml.specs.declared.value.Value.{Value}
use Rattle.cartridge.specs.Plans.{str_seen}
use Rattle.cartridge.specs.Values.{each}
use Rattle.cartridge.proofs.ListsRead.{HasRead, read_none, read_more, read_bad, read_all}

abbrev pub TextRef : Type 0
TextRef = Bor (List ℕ)

abbrev pub HasTexts : List Value → ℕ → List TextRef → Type 0
HasTexts vs i ts = HasRead as_str vs i (map str_seen ts)

pub texts_none : (vs : List Value) → HasTexts vs 0 []
texts_none vs = read_none as_str vs

pub texts_more : (vs : List Value) (i : ℕ) (v : Value) (t : TextRef) (ts : List TextRef) → i < length vs → get_or vs i v ≡ v
    → as_str (view v) ≡ Some t.now → HasTexts vs i ts → HasTexts vs (i + 1) (ts ++ t ∷ [])
texts_more vs i v t ts within at is held =
    rw (map-append str_seen ts (t ∷ [])) (read_more as_str vs i v t.now (map str_seen ts) within at is held)

pub texts_bad : (vs : List Value) (i : ℕ) (v : Value) (ts : List TextRef) → i < length vs → get_or vs i v ≡ v
    → as_str (view v) ≡ None → HasTexts vs i ts → None ≡ each as_str (items_view vs)
texts_bad vs i v ts within at is held = sym (read_bad as_str vs i v (map str_seen ts) within at is held)

pub texts_all : (vs : List Value) (i : ℕ) (ts : List TextRef) → i ≡ length vs → HasTexts vs i ts → Some (map str_seen ts) ≡ each as_str (items_view vs)
texts_all vs i ts at held = sym (read_all as_str vs i (map str_seen ts) at held)
