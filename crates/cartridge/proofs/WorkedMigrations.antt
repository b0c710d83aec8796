-- Descriptions migrated by hand, computed from the definitions. A table has its keys in the order of their bytes, as `toml` gives them.
use Rattle.std.proofs.Common.{◌≡◌, ℕ, List, [], ◌∷◌, refl}
use Rattle.std.specs.Prelude.{codes, pos}
use Rattle.hex.specs.Hex.{encode_with}
use Rattle.toml.specs.Data.{Data, Items, Members, string, integer, array, table, no_items, item, no_members, member}
use Rattle.cartridge.specs.Migrated.{migrated_table}

abbrev number : ℕ → Data
number n = integer (pos n)

abbrev at : List ℕ → ℕ → Members → Members
at key n rest = member key (number n) rest

abbrev kind : List ℕ → Members → Members
kind name rest = member (codes "kind") (string name) rest

abbrev texts : List (List ℕ) → Items
texts [] = no_items
texts (t ∷ ts) = item (string t) (texts ts)

abbrev pages : List (List ℕ) → Members → Members
pages ts rest = member (codes "pages") (array (texts ts)) rest

-- ---- three chips

-- a run of ROM pages, one of no RAM page, and one page in which nothing is
abbrev mixed_pages : Members
mixed_pages =
    kind (codes "3853") (at (codes "ram_page") 0x28 (at (codes "ram_pages") 0 (at (codes "rom_page") 0x20 (at (codes "rom_pages") 9
    (at (codes "void_pages") 1 no_members)))))

-- a 3851 whose source has a quotation mark in its name
abbrev quoted_source : Members
quoted_source =
    at (codes "base") 0 (kind (codes "3851") (at (codes "ports") 4 (member (codes "source") (string (97 ∷ 34 ∷ 98 ∷ [])) no_members)))

abbrev three : Members → Members → Members → Items
three a b c = item (table a) (item (table b) (item (table c) no_items))

abbrev cart : ℕ → Items → Members
cart format chips =
    member (codes "chip") (array chips) (at (codes "format") format (member (codes "split") (array (item (number 3) no_items)) no_members))

three_chips : migrated_table (cart 1 (three mixed_pages (kind (codes "3853") no_members) quoted_source))
    ≡ cart 2 (three (kind (codes "3853") (pages (codes "rom 20-28" ∷ codes "void 00" ∷ []) no_members)) (kind (codes "3853") (pages [] no_members))
    quoted_source)
unfolding migrated_table encode_with
three_chips = refl

-- ---- one chip

abbrev one : Members → Items
one chip = item (table chip) no_items

-- the keys of every format stay where they are
one_page : migrated_table (cart 1 (one (member (codes "interrupt") (number 1) (kind (codes "3853")
    (at (codes "ram_page") 0xFA (at (codes "ram_pages") 1 (member (codes "rom") (string (codes "")) no_members)))))))
    ≡ cart 2 (one (member (codes "interrupt") (number 1) (kind (codes "3853")
    (pages (codes "ram FA" ∷ []) (member (codes "rom") (string (codes "")) no_members)))))
unfolding migrated_table encode_with
one_page = refl

-- a run that isn't one is left as it is
no_runs : migrated_table (cart 1 (one (kind (codes "3853") (at (codes "ram_page") 0xFA (at (codes "ram_pages") 10 no_members)))))
    ≡ cart 2 (one (kind (codes "3853") (at (codes "ram_page") 0xFA (at (codes "ram_pages") 10 no_members))))
unfolding migrated_table encode_with
no_runs = refl

-- ---- what stays

-- keys that are missing stay missing
format_alone : migrated_table (at (codes "format") 1 no_members) ≡ at (codes "format") 2 no_members
unfolding migrated_table
format_alone = refl

format_two : migrated_table (cart 2 (one mixed_pages)) ≡ cart 2 (one mixed_pages)
unfolding migrated_table
format_two = refl
