-- A table that gives a plan gives the same plan once it is migrated.
use Rattle.std.proofs.Common.{◌≡◌, ℕ, ◌+◌, true, List, [], ◌∷◌, length, map, Option, Some, None, Result, Ok, Err, refl, ap, ◌∙◌}
use Rattle.std.specs.Prelude.{IsOk, pos, nat_le, option_map}
use Rattle.std.proofs.lemmas.List.{length-map}
use Rattle.toml.specs.Data.{Data, integer, string, float, boolean, datetime, array, table, Items, no_items, item, Members, as_table}
use Rattle.chip_face.specs.declared.sizes.TheConstants.{MOST_CHIPS}
use Rattle.cartridge.specs.declared.format.CartFormat.{CartFormat}
use Rattle.cartridge.specs.declared.format.CartFormat.TheVariants.{One, Two}
use Rattle.cartridge.specs.declared.keys.Key.TheVariants.{Format, Split, Chip}
use Rattle.cartridge.specs.declared.refusal.CartCause.TheVariants.{TooMany}
use Rattle.cartridge.specs.declared.refusal.CartFault.{CartFault}
use Rattle.cartridge.specs.declared.refusal.KeyFault.{KeyFault}
use Rattle.cartridge.specs.Faults.{◌>>=◌, at_key, of_chip}
use Rattle.cartridge.specs.Keys.{value_at, key_word, are_known, known, top_keys}
use Rattle.cartridge.specs.Values.{each, optional, value_needed, usually, value_of_type, split_in, tables_in, few_tables}
use Rattle.cartridge.specs.ChipTables.{DescribedChip, chip_of}
use Rattle.cartridge.specs.Description.{Described, Top, format_in, top_of, chips_from, description_in}
use Rattle.cartridge.specs.Filling.{Planned, plan_of, plan_without_images}
use Rattle.cartridge.specs.Migrated.{with_value, migrated_chip, migrated_entries, migrated_chips, with_chips, migrated_from, migrated_table}
use Rattle.cartridge.specs.Migrated.{KeepsPlan}
use Rattle.cartridge.proofs.Answered.{bind-ok, if-ok, at_key-ok}
use Rattle.cartridge.proofs.MemberLookups.{put_found, put_other, known_put}
use Rattle.cartridge.proofs.MigratedChips.{known-ok, known-yes, chip_migrated}

-- ---- the list of chips

pub of_chip-ok : {A : Type 0} (i : Option ℕ) (r : Result A KeyFault) (x : A) → of_chip i r ≡ Ok x → r ≡ Ok x
of_chip-ok i (Ok y) x h = cc h
of_chip-ok i (Err fault) x h = cc h

chips_migrated : (i : ℕ) (tables : List Members) (chips : List DescribedChip) → chips_from One i tables ≡ Ok chips
    → chips_from Two i (map migrated_chip tables) ≡ Ok chips
unfolding chips_from
chips_migrated i [] chips h = h
chips_migrated i (chip ∷ tables) chips h =
    bind-ok (chips_from Two i (map migrated_chip (chip ∷ tables)) ≡ Ok chips) (of_chip (Some i) (chip_of One chip)) _ chips h (λ c at_chip h.
    bind-ok (chips_from Two i (map migrated_chip (chip ∷ tables)) ≡ Ok chips) (chips_from One (i + 1) tables) _ chips h (λ cs at_chips h.
    rw (chip_migrated chip c (of_chip-ok (Some i) (chip_of One chip) c at_chip), chips_migrated (i + 1) tables cs at_chips) h))

more_tables : (o new : Option (List Members)) (chip : Members) (tables : List Members) → option_map (λ ts. chip ∷ ts) o ≡ Some tables
    → ((ts : List Members) → o ≡ Some ts → new ≡ Some (map migrated_chip ts))
    → option_map (λ ts. migrated_chip chip ∷ ts) new ≡ Some (map migrated_chip tables)
more_tables None new chip tables h more = cc h
more_tables (Some ts) new chip tables h more = let same : chip ∷ ts ≡ tables = cc h in rw (more ts refl, ← same)

entry_migrated : (d : Data) (ds : Items) (tables : List Members) → each as_table (item d ds) ≡ Some tables
    → ((ts : List Members) → each as_table ds ≡ Some ts → each as_table (migrated_entries ds) ≡ Some (map migrated_chip ts))
    → each as_table (migrated_entries (item d ds)) ≡ Some (map migrated_chip tables)
entry_migrated (string s) ds tables h more = cc h
entry_migrated (integer z) ds tables h more = cc h
entry_migrated (float x) ds tables h more = cc h
entry_migrated (boolean b) ds tables h more = cc h
entry_migrated (datetime dt) ds tables h more = cc h
entry_migrated (array es) ds tables h more = cc h
entry_migrated (table chip) ds tables h more = more_tables (each as_table ds) (each as_table (migrated_entries ds)) chip tables h more

entries_migrated : (ds : Items) (tables : List Members) → each as_table ds ≡ Some tables
    → each as_table (migrated_entries ds) ≡ Some (map migrated_chip tables)
entries_migrated no_items tables h = let same : [] ≡ tables = cc h in rw (← same)
entries_migrated (item d ds) tables h = entry_migrated d ds tables h (entries_migrated ds)

pub of_type-ok : {A : Type 0} (o : Option A) (x : A) → value_of_type o ≡ Ok x → o ≡ Some x
of_type-ok None x h = cc h
of_type-ok (Some y) x h = cc h

few_migrated : (ts tables : List Members) → few_tables ts ≡ Ok tables → few_tables (map migrated_chip ts) ≡ Ok (map migrated_chip tables)
few_migrated ts tables h =
    let (few, same) = if-ok (nat_le (length ts) MOST_CHIPS) ts tables TooMany h in
    let fits : nat_le (length (map migrated_chip ts)) MOST_CHIPS ≡ true = rw length-map few in
    rw (fits, ← same)

tables_migrated : (d : Data) (tables : List Members) → tables_in d ≡ Ok tables → tables_in (migrated_chips d) ≡ Ok (map migrated_chip tables)
tables_migrated (string s) tables h = cc h
tables_migrated (integer z) tables h = cc h
tables_migrated (float x) tables h = cc h
tables_migrated (boolean b) tables h = cc h
tables_migrated (datetime dt) tables h = cc h
tables_migrated (table ms) tables h = cc h
tables_migrated (array ds) tables h =
    bind-ok (tables_in (migrated_chips (array ds)) ≡ Ok (map migrated_chip tables)) (value_of_type (each as_table ds)) few_tables tables h (λ ts at_ts h.
    rw (entries_migrated ds ts (of_type-ok (each as_table ds) ts at_ts)) (few_migrated ts tables h))

list_migrated : (o : Option Data) (tables : List Members) → at_key Chip (optional [] tables_in o) ≡ Ok tables
    → at_key Chip (optional [] tables_in (option_map migrated_chips o)) ≡ Ok (map migrated_chip tables)
list_migrated None tables h = let same : [] ≡ tables = cc h in rw (← same)
list_migrated (Some d) tables h = rw (tables_migrated d tables (at_key-ok Chip (tables_in d) tables h))

-- ---- the top

chip_there : (o : Option Data) (cart : Members) → value_at Chip cart ≡ o → value_at Chip (with_chips o cart) ≡ option_map migrated_chips o
chip_there None cart at = at
chip_there (Some d) cart at = put_found (key_word Chip) (migrated_chips d) cart

split_there : (o : Option Data) (cart : Members) → value_at Split (with_chips o cart) ≡ value_at Split cart
split_there None cart = refl
split_there (Some d) cart = put_other (key_word Split) (key_word Chip) (migrated_chips d) cart refl

known_there : (o : Option Data) (cart : Members) → are_known top_keys cart ≡ true → are_known top_keys (with_chips o cart) ≡ true
known_there None cart all = all
known_there (Some d) cart all = known_put top_keys (key_word Chip) (migrated_chips d) cart refl all

abbrev new_cart : Members → Members
new_cart cart = with_value (key_word Format) (integer (pos 2)) (with_chips (value_at Chip cart) cart)

pub record TopSays (cart : Members) (top : Top) : Type 0 where
  pub knows : are_known top_keys cart ≡ true
  pub format : value_needed Format format_in cart ≡ Ok top.format
  pub split : usually Split [] split_in cart ≡ Ok top.split
  pub tables : usually Chip [] tables_in cart ≡ Ok top.tables

pub top_says : (cart : Members) (top : Top) → top_of cart ≡ Ok top → TopSays cart top
unfolding top_of
top_says cart top h =
    bind-ok (TopSays cart top) (known top_keys cart) _ top h (λ u knows h.
    bind-ok (TopSays cart top) (value_needed Format format_in cart) _ top h (λ format at_format h.
    bind-ok (TopSays cart top) (usually Split [] split_in cart) _ top h (λ split at_split h.
    bind-ok (TopSays cart top) (usually Chip [] tables_in cart) _ top h (λ tables at_tables h.
    let same : record { format = format; split = split; tables = tables } ≡ top = cc h in
    rw (← same) (record { knows = known-ok top_keys cart u knows; format = at_format; split = at_split; tables = at_tables })))))

format_two : (cart : Members) → value_needed Format format_in (new_cart cart) ≡ Ok Two
format_two cart = rw (put_found (key_word Format) (integer (pos 2)) (with_chips (value_at Chip cart) cart))

split_same : (cart : Members) → usually Split [] split_in (new_cart cart) ≡ usually Split [] split_in cart
split_same cart =
    ap (λ (o : Option Data). at_key Split (optional [] split_in o))
    (put_other (key_word Split) (key_word Format) (integer (pos 2)) (with_chips (value_at Chip cart) cart) refl ∙ split_there (value_at Chip cart) cart)

tables_new : (cart : Members) (tables : List Members) → usually Chip [] tables_in cart ≡ Ok tables
    → usually Chip [] tables_in (new_cart cart) ≡ Ok (map migrated_chip tables)
tables_new cart tables h =
    ap (λ (o : Option Data). at_key Chip (optional [] tables_in o))
    (put_other (key_word Chip) (key_word Format) (integer (pos 2)) (with_chips (value_at Chip cart) cart) refl
    ∙ chip_there (value_at Chip cart) cart refl)
    ∙ list_migrated (value_at Chip cart) tables h

known_new : (cart : Members) → are_known top_keys cart ≡ true → known top_keys (new_cart cart) ≡ Ok tt
known_new cart all =
    known-yes top_keys (new_cart cart)
    (known_put top_keys (key_word Format) (integer (pos 2)) (with_chips (value_at Chip cart) cart) refl (known_there (value_at Chip cart) cart all))

top_new : (cart : Members) (top : Top) → TopSays cart top
    → top_of (new_cart cart) ≡ Ok (record { format = Two; split = top.split; tables = map migrated_chip top.tables })
unfolding top_of
top_new cart top says =
    rw (known_new cart says.knows, format_two cart, split_same cart, says.split, tables_new cart top.tables says.tables)

cart_new : (cart : Members) (d : Described) → value_needed Format format_in cart ≡ Ok One → description_in cart ≡ Ok d
    → description_in (new_cart cart) ≡ Ok d
unfolding description_in
cart_new cart d at_format h =
    bind-ok (description_in (new_cart cart) ≡ Ok d) (of_chip None (top_of cart)) _ d h (λ top at_top h.
    bind-ok (description_in (new_cart cart) ≡ Ok d) (chips_from top.format 0 top.tables) _ d h (λ chips at_chips h.
    let says = top_says cart top (of_chip-ok None (top_of cart) top at_top) in
    let one : top.format ≡ One = cc (says.format, at_format) in
    let told : chips_from One 0 top.tables ≡ Ok chips = rw (← one) at_chips in
    rw (top_new cart top says, chips_migrated 0 top.tables chips told) h))

cart_migrated_at : (r : Result CartFormat KeyFault) (cart : Members) (d : Described) → value_needed Format format_in cart ≡ r → description_in cart ≡ Ok d
    → description_in (migrated_from r cart) ≡ Ok d
cart_migrated_at (Ok One) cart d at_format h = cart_new cart d at_format h
cart_migrated_at (Ok Two) cart d at_format h = h
cart_migrated_at (Err fault) cart d at_format h = h

pub cart_migrated : (cart : Members) (d : Described) → description_in cart ≡ Ok d → description_in (migrated_table cart) ≡ Ok d
unfolding migrated_table
cart_migrated cart d h = cart_migrated_at (value_needed Format format_in cart) cart d refl h

pub plan_kept : (cart : Members) → KeepsPlan cart
plan_kept cart plan h =
    bind-ok (plan_of (migrated_table cart) ≡ Ok plan) (description_in cart) _ plan h (λ d at_cart h.
    rw (cart_migrated cart d at_cart) h)

accepted_at : (f : Described → Result Planned CartFault) (r : Result Described CartFault) (ms : Members) → description_in ms ≡ r → IsOk (r >>= f)
    → IsOk (description_in (migrated_table ms))
accepted_at f (Ok d) ms at accepted = rw (cart_migrated ms d at) refl
accepted_at f (Err fault) ms at accepted = cc accepted

-- a migrated table is accepted, too
pub accepted_kept : (ms new : Members) → new ≡ migrated_table ms → IsOk (plan_of ms) → IsOk (description_in new)
accepted_kept ms new same accepted = rw same (accepted_at (λ d. Ok (plan_without_images d)) (description_in ms) ms refl accepted)
