-- The tables of a TOML list, one after another.
use Rattle.std.proofs.Common.{◌≡◌, ℕ, ◌+◌, ◌<◌, List, [], ◌∷◌, ◌++◌, length, get_or, map, Some, None, Bor, BTreeMap, String, Global, sym}
use Rattle.std.proofs.lemmas.List.{map-append}
use Rattle.toml.specs.Data.{as_table}
use Rattle.toml.specs.View.{view, items_view}
use Rattle.toml.specs.declared.value.Value.{Value}
use Rattle.cartridge.specs.Plans.{seen_table}
use Rattle.cartridge.specs.Values.{each}
use Rattle.cartridge.proofs.ListsRead.{HasRead, read_none, read_more, read_bad, read_all}

abbrev pub TableRef : Type 0
TableRef = Bor (BTreeMap (String Global) Value)

abbrev pub HasTables : List Value → ℕ → List TableRef → Type 0
HasTables vs i ts = HasRead as_table vs i (map seen_table ts)

pub tables_none : (vs : List Value) → HasTables vs 0 []
tables_none vs = read_none as_table vs

pub tables_more : (vs : List Value) (i : ℕ) (v : Value) (t : TableRef) (ts : List TableRef) → i < length vs → get_or vs i v ≡ v
    → as_table (view v) ≡ Some (seen_table t) → HasTables vs i ts → HasTables vs (i + 1) (ts ++ t ∷ [])
tables_more vs i v t ts within at is held =
    rw (map-append seen_table ts (t ∷ [])) (read_more as_table vs i v (seen_table t) (map seen_table ts) within at is held)

pub tables_bad : (vs : List Value) (i : ℕ) (v : Value) (ts : List TableRef) → i < length vs → get_or vs i v ≡ v
    → as_table (view v) ≡ None → HasTables vs i ts → None ≡ each as_table (items_view vs)
tables_bad vs i v ts within at is held = sym (read_bad as_table vs i v (map seen_table ts) within at is held)

pub tables_all : (vs : List Value) (i : ℕ) (ts : List TableRef) → i ≡ length vs → HasTables vs i ts → Some (map seen_table ts) ≡ each as_table (items_view vs)
tables_all vs i ts at held = sym (read_all as_table vs i (map seen_table ts) at held)
