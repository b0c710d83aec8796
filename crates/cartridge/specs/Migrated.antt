-- The description of format 2 that says what a description of format 1 says. It is this project's own.
use Rattle.std.specs.Prelude.{ℕ, ◌≡◌, ◌+◌, ◌-◌, ◌==◌, pos, if◌then◌else◌, List, [], ◌∷◌, ◌++◌, Option, Some, None, Result, Ok, Err}
use Rattle.std.specs.Ordering.{nat_cmp, match_ordering}
use Rattle.std.specs.Cmp.Lexicographic.{slice_cmp}
use Rattle.hex.specs.Hex.{encode_upper}
use Rattle.toml.specs.Data.{Data, integer, string, array, table, Items, no_items, item, Members, no_members, member}
use Rattle.f8_spec.specs.declared.chips.ChipKind.{ChipKind}
use Rattle.f8_spec.specs.declared.chips.ChipKind.TheVariants.{Psu, Smi, Pio}
use Rattle.cartridge.specs.declared.format.CartFormat.{CartFormat}
use Rattle.cartridge.specs.declared.format.CartFormat.TheVariants.{One, Two}
use Rattle.cartridge.specs.declared.keys.Key.{Key}
use Rattle.cartridge.specs.declared.keys.Key.TheVariants.{Format, Chip, Kind, Pages}
use Rattle.cartridge.specs.declared.page_run.PageRun.{PageRun}
use Rattle.cartridge.specs.declared.refusal.KeyFault.{KeyFault}
use Rattle.cartridge.specs.Keys.{is_spelled, key_word, run_keys, value_at}
use Rattle.cartridge.specs.Values.{value_needed, kind_in}
use Rattle.cartridge.specs.ChipTables.{three_runs}
use Rattle.cartridge.specs.Description.{format_in}
use Rattle.cartridge.specs.Filling.{Planned, plan_of}
use Rattle.cartridge.specs.PageTexts.{blank, hyphen, sort_word}

-- ---- the text of a run of pages

-- a page as two capital digits
abbrev pub page_digits : ℕ → List ℕ
page_digits page = encode_upper (page ∷ [])

-- one page, or the first and the last one
abbrev pub range_text : ℕ → ℕ → List ℕ
range_text first last = if first == last then page_digits first else page_digits first ++ hyphen ∷ page_digits last

-- a run that has a page
abbrev pub run_text : PageRun → List ℕ
run_text run = sort_word run.sort ++ blank ∷ range_text run.first (run.first + run.count - 1)

-- those of some runs that have a page
abbrev pub run_texts : List PageRun → Items
run_texts [] = no_items
run_texts (run ∷ runs) = if run.count == 0 then run_texts runs else item (string (run_text run)) (run_texts runs)

-- ---- members

-- those with other keys
abbrev pub without_keys : List Key → Members → Members
without_keys keys no_members = no_members
without_keys keys (member name value rest) =
    if is_spelled keys name then without_keys keys rest else member name value (without_keys keys rest)

-- a value at a key, in place of the one that is there, or in its place among keys that ascend
abbrev pub with_value : List ℕ → Data → Members → Members
with_value key value no_members = member key value no_members
with_value key value (member name old rest) =
    match_ordering (slice_cmp nat_cmp key name)
    (member key value (member name old rest))
    (member name value rest)
    (member name old (with_value key value rest))

-- ---- the table of a chip

-- pages as texts in place of three runs; a table without them is left as it is
abbrev pub with_pages : Result (List PageRun) KeyFault → Members → Members
with_pages (Ok runs) chip = with_value (key_word Pages) (array (run_texts runs)) (without_keys run_keys chip)
with_pages (Err fault) chip = chip

abbrev pub migrated_of_kind : Result ChipKind KeyFault → Members → Members
migrated_of_kind (Ok Smi) chip = with_pages (three_runs chip) chip
migrated_of_kind (Ok Psu) chip = chip
migrated_of_kind (Ok Pio) chip = chip
migrated_of_kind (Err fault) chip = chip

-- a 3853 with its pages as texts; other chips stay as they are
abbrev pub migrated_chip : Members → Members
migrated_chip chip = migrated_of_kind (value_needed Kind kind_in chip) chip

-- ---- the whole description

abbrev pub migrated_entry : Data → Data
migrated_entry (table chip) = table (migrated_chip chip)
migrated_entry d = d

abbrev pub migrated_entries : Items → Items
migrated_entries no_items = no_items
migrated_entries (item d ds) = item (migrated_entry d) (migrated_entries ds)

abbrev pub migrated_chips : Data → Data
migrated_chips (array chips) = array (migrated_entries chips)
migrated_chips d = d

-- with the chips migrated, where there are any
abbrev pub with_chips : Option Data → Members → Members
with_chips None cart = cart
with_chips (Some chips) cart = with_value (key_word Chip) (migrated_chips chips) cart

abbrev pub migrated_from : Result CartFormat KeyFault → Members → Members
migrated_from (Ok One) cart = with_value (key_word Format) (integer (pos 2)) (with_chips (value_at Chip cart) cart)
migrated_from (Ok Two) cart = cart
migrated_from (Err fault) cart = cart

-- a description of format 2 stays as it is
unfoldable pub migrated_table : Members → Members
migrated_table cart = migrated_from (value_needed Format format_in cart) cart

-- a table and its migrated one give the same plan
abbrev pub KeepsPlan : Members → Type 0
KeepsPlan cart = (plan : Planned) → plan_of cart ≡ Ok plan → plan_of (migrated_table cart) ≡ Ok plan
