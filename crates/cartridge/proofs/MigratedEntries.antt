-- The entries of a list, each of them migrated in its place.
use Rattle.std.proofs.Common.{◌≡◌, ℕ, zero, suc, ◌<◌, List, [], ◌∷◌, length, get_or, refl, arith}
use Rattle.toml.specs.View.{view, items_view}
use Rattle.toml.specs.declared.value.Value.{Value}
use Rattle.cartridge.specs.Migrated.{migrated_entry, migrated_entries}

pub entries_seen : (vs ws : List Value) → length vs ≡ length ws
    → ((k : ℕ) (d : Value) → k < length vs → view (get_or vs k d) ≡ migrated_entry (view (get_or ws k d)))
    → items_view vs ≡ migrated_entries (items_view ws)
entries_seen [] [] size each = refl
entries_seen [] (w ∷ ws) size each = absurd (omega arith)
entries_seen (v ∷ vs) [] size each = absurd (omega arith)
entries_seen (v ∷ vs) (w ∷ ws) size each =
    let rest = entries_seen vs ws (omega arith) (λ k d below. each (suc k) d (omega arith)) in
    rw (each zero v (omega arith), rest)
