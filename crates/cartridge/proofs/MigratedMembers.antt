-- The map of a table beside its members, where a value is put at a key, and where some keys are taken out.
use Rattle.std.proofs.Common.{◌≡◌, ℕ, Bool, true, false, cond, List, [], ◌∷◌, Option, Some, None, Result, Ok, Err, String, Global, Ordering}
use Rattle.std.proofs.Common.{Less, Equal, Greater, string_bytes, nat_cmp, is_eq, refl, sym, ◌∙◌, ap}
use Rattle.std.specs.Prelude.{filter, not, if◌then◌else◌, option_map, OnOk}
use Rattle.std.specs.Cmp.Lexicographic.{slice_cmp}
use Rattle.std.specs.List.{AllByRecursion}
use Rattle.std.specs.List.Sorted.{IsStrictlySortedBy}
use Rattle.std.specs.Map.{keys_of, lookup, set_value}
use Rattle.std.proofs.lemmas.Cmp.{nat_list_cmp_total}
use Rattle.std.proofs.lemmas.Map.Text.{is_eq-slice_cmp}
use Rattle.std.proofs.lemmas.Slice.Eq.{bytes_eq-Decides}
use Rattle.std.specs.String.{string_cmp}
use Rattle.std.specs.Ordering.{match_ordering, ordering_reverse}
use Rattle.std.specs.BTreeMap.{insert_entry, is_at}
use Rattle.toml.specs.Data.{Data, Members, member, get_member}
use Rattle.toml.specs.View.{view, members_view}
use Rattle.toml.proofs.Views.{view-lookup}
use Rattle.toml.specs.declared.value.Value.{Value}
use Rattle.cartridge.specs.declared.keys.Key.{Key}
use Rattle.cartridge.specs.declared.keys.Key.TheVariants.{Chip}
use Rattle.cartridge.specs.Keys.{is_spelled, key_word, value_at}
use Rattle.cartridge.specs.Migrated.{with_value, without_keys, migrated_chips, with_chips}

abbrev pub Entry : Type 0
Entry = String Global × Value

members_match : (o : Ordering) (a b c : List Entry)
    → members_view (match_ordering o a b c) ≡ match_ordering o (members_view a) (members_view b) (members_view c)
members_match Less a b c = refl
members_match Equal a b c = refl
members_match Greater a b c = refl

members_put : (k : String Global) (v : Value) (es : List Entry)
    → members_view (insert_entry string_cmp es k v) ≡ with_value (string_bytes k) (view v) (members_view es)
members_put k v [] = refl
members_put k v (e ∷ es) = members_match (string_cmp k e.0) _ _ _ ∙ rw (members_put k v es)

-- a value put into the map
pub put_seen : (k : String Global) (name : List ℕ) (v : Value) (es fs : List Entry) → string_bytes k ≡ name → fs ≡ insert_entry string_cmp es k v
    → members_view fs ≡ with_value name (view v) (members_view es)
put_seen k name v es fs spelled put = rw (put, ← spelled) (members_put k v es)

-- the entry has none of the keys
abbrev pub keeps : List Key → Entry → Bool
keeps keys e = not (is_spelled keys (string_bytes e.0))

members_if : (t : Bool) (e : Entry) (es : List Entry) (ms : Members) → members_view es ≡ ms
    → members_view (if not t then e ∷ es else es) ≡ (if t then ms else member (string_bytes e.0) (view e.1) ms)
members_if true e es ms h = h
members_if false e es ms h = ap (member (string_bytes e.0) (view e.1)) h

-- the entries that have none of the keys
pub kept_seen : (keys : List Key) (es : List Entry) → members_view (filter (keeps keys) es) ≡ without_keys keys (members_view es)
kept_seen keys [] = refl
kept_seen keys (e ∷ es) = members_if (is_spelled keys (string_bytes e.0)) e (filter (keeps keys) es) _ (kept_seen keys es)

-- ---- a value written over the one at a key

abbrev pub at_text : List ℕ → String Global → Ordering
at_text k x = slice_cmp nat_cmp k (string_bytes x)

-- a key before all others isn't among them
not_behind_at : (t : Bool) (k : List ℕ) (e x : String Global) → is_eq (at_text k x) ≡ t → at_text k e ≡ Less → string_cmp e x ≡ Less → t ≡ false
not_behind_at false k e x is below above = refl
not_behind_at true k e x is below above =
    let same : k ≡ string_bytes x = (bytes_eq-Decides k (string_bytes x)).0 (sym (is_eq-slice_cmp k (string_bytes x)) ∙ is) in
    let back : slice_cmp nat_cmp k (string_bytes e) ≡ Greater =
    nat_list_cmp_total.antisymm k (string_bytes e) ∙ ap (λ (l : List ℕ). ordering_reverse (slice_cmp nat_cmp (string_bytes e) l)) same
    ∙ ap ordering_reverse above in
    let none : Less ≡ Greater = sym below ∙ back in
    cc none

not_behind : (k : List ℕ) (e : String Global) (es : List Entry) → at_text k e ≡ Less → AllByRecursion (λ x. string_cmp e x ≡ Less) (keys_of es)
    → lookup (is_at (at_text k)) es ≡ None
not_behind k e [] below above = refl
not_behind k e (x ∷ es) below above =
    rw (not_behind_at (is_eq (at_text k x.0)) k e x.0 refl below above.0, not_behind k e es below above.1)

written_at : (o : Ordering) (k : List ℕ) (e : Entry) (es : List Entry) (v w : Value) → at_text k e.0 ≡ o
    → AllByRecursion (λ x. string_cmp e.0 x ≡ Less) (keys_of es) → cond (is_eq o) (Some e.1) (lookup (is_at (at_text k)) es) ≡ Some v
    → (lookup (is_at (at_text k)) es ≡ Some v → members_view (set_value (is_at (at_text k)) es w) ≡ with_value k (view w) (members_view es))
    → members_view (cond (is_eq o) ((e.0, w) ∷ es) (e ∷ set_value (is_at (at_text k)) es w))
    ≡ match_ordering o (member k (view w) (members_view (e ∷ es))) (member (string_bytes e.0) (view w) (members_view es))
    (member (string_bytes e.0) (view e.1) (with_value k (view w) (members_view es)))
written_at Less k e es v w is above found more = let none = not_behind k e.0 es is above in cc (none, found)
written_at Equal k e es v w is above found more = refl
written_at Greater k e es v w is above found more = ap (member (string_bytes e.0) (view e.1)) (more found)

written : (k : List ℕ) (es : List Entry) (v w : Value) → IsStrictlySortedBy string_cmp (keys_of es) → lookup (is_at (at_text k)) es ≡ Some v
    → members_view (set_value (is_at (at_text k)) es w) ≡ with_value k (view w) (members_view es)
unfolding IsStrictlySortedBy
written k [] v w sorted found = cc found
written k (e ∷ es) v w sorted found =
    written_at (at_text k e.0) k e es v w refl sorted.0 found (λ there. written k es v w sorted.1 there)

-- the list of chips written over with its migrated one
pub chips_written : {A E : Type 0} (r : Result A E) (k : List ℕ) (es fs : List Entry) (v w : Value) → IsStrictlySortedBy string_cmp (keys_of es)
    → lookup (is_at (at_text k)) es ≡ Some v → fs ≡ set_value (is_at (at_text k)) es w → k ≡ key_word Chip
    → OnOk r (view w ≡ migrated_chips (view v)) → OnOk r (members_view fs ≡ with_chips (value_at Chip (members_view es)) (members_view es))
chips_written (Err e) k es fs v w sorted found put spelled changed = tt
chips_written (Ok x) k es fs v w sorted found put spelled changed =
    let there : value_at Chip (members_view es) ≡ Some (view v) =
    ap (λ (l : List ℕ). get_member l (members_view es)) (sym spelled) ∙ sym (view-lookup k es) ∙ ap (option_map view) found in
    let new : members_view fs ≡ with_value k (view w) (members_view es) = ap members_view put ∙ written k es v w sorted found in
    new ∙ ap (λ (d : Data). with_value k d (members_view es)) changed
    ∙ ap (λ (l : List ℕ). with_value l (migrated_chips (view v)) (members_view es)) spelled
    ∙ ap (λ (o : Option Data). with_chips o (members_view es)) (sym there)

-- where there is none, nothing changes
pub chips_missing : (k : List ℕ) (es : List Entry) → lookup (is_at (at_text k)) es ≡ None → k ≡ key_word Chip
    → members_view es ≡ with_chips (value_at Chip (members_view es)) (members_view es)
chips_missing k es missing spelled =
    let there : value_at Chip (members_view es) ≡ None =
    ap (λ (l : List ℕ). get_member l (members_view es)) (sym spelled) ∙ sym (view-lookup k es) ∙ ap (option_map view) missing in
    ap (λ (o : Option Data). with_chips o (members_view es)) (sym there)
