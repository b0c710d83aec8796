-- No key stands twice in a map, nor in the maps among the entries of a list.
use Rattle.std.proofs.Common.{◌≡◌, ℕ, zero, suc, ◌<◌, true, List, [], ◌∷◌, length, get_or, None, String, Global, Less, string_bytes, refl}
use Rattle.std.proofs.Common.{arith}
use Rattle.std.specs.List.{AllByRecursion}
use Rattle.std.specs.List.Sorted.{IsStrictlySortedBy}
use Rattle.std.specs.Map.{keys_of}
use Rattle.std.specs.String.{string_cmp}
use Rattle.toml.specs.Data.{get_member}
use Rattle.toml.specs.View.{view, items_view, members_view}
use Rattle.toml.specs.declared.value.Value.{Value}
use Rattle.cartridge.specs.DistinctKeys.{are_distinct, entry_is_distinct, entries_are_distinct}
use Rattle.cartridge.proofs.MigratedMembers.{Entry}

absent : (k : String Global) (es : List Entry) → AllByRecursion (λ y. string_cmp k y ≡ Less) (keys_of es) → get_member (string_bytes k) (members_view es) ≡ None
absent k [] above = refl
absent k (e ∷ es) above = rw above.0 (absent k es above.1)

pub ascending_differ : (es : List Entry) → IsStrictlySortedBy string_cmp (keys_of es) → are_distinct (members_view es) ≡ true
unfolding IsStrictlySortedBy
ascending_differ [] sorted = refl
ascending_differ (e ∷ es) sorted = rw (absent e.0 es sorted.0, ascending_differ es sorted.1)

pub entries_differ : (vs : List Value) → ((k : ℕ) (d : Value) → k < length vs → entry_is_distinct (view (get_or vs k d)) ≡ true)
    → entries_are_distinct (items_view vs) ≡ true
entries_differ [] each = refl
entries_differ (v ∷ vs) each =
    rw (each zero v (omega arith), entries_differ vs (λ k d below. each (suc k) d (omega arith)))
