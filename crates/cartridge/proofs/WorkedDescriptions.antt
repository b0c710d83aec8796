-- Descriptions worked out by hand, computed from the definitions. A table has its keys in the order of their bytes, as `toml` gives them.
use Rattle.std.proofs.Common.{◌≡◌, ℕ, zero, suc, false, List, [], ◌∷◌, replicate, Some, None, Result, Ok, Err, refl}
use Rattle.std.specs.Prelude.{codes, pos}
use Rattle.hex.specs.Hex.{decode_pairs}
use Rattle.toml.specs.Data.{Data, Items, Members, string, integer, array, table, no_items, item, no_members, member}
use Rattle.f8_spec.specs.declared.chips.PageSort.TheVariants.{Rom, Ram}
use Rattle.f8_spec.specs.Powers.{usual_power}
use Rattle.chip_face.specs.declared.specification.ChipSpec.TheVariants.{Psu, Smi, Pio}
use Rattle.cartridge.specs.declared.keys.Key.{Key}
use Rattle.cartridge.specs.declared.keys.Key.TheVariants as key
use Rattle.cartridge.specs.declared.refusal.CartCause.{CartCause}
use Rattle.cartridge.specs.declared.refusal.CartCause.TheVariants.{Missing, Unknown, WrongType, Range, Boundary, TooMany, BadHex, Both}
use Rattle.cartridge.specs.declared.refusal.CartFault.{CartFault}
use Rattle.cartridge.specs.ChipTables.{chip_of, psu_of, smi_of, smi_with, pio_of}
use Rattle.cartridge.specs.Description.{Described, chips_from, description_in, top_of}
use Rattle.cartridge.specs.Pages.{pages_of}
use Rattle.cartridge.specs.PageTexts.{run_of_text}

-- ---- tables

abbrev text : List ℕ → Data
text bytes = string bytes

abbrev number : ℕ → Data
number n = integer (pos n)

abbrev base : ℕ → Members → Members
base n rest = member (codes "base") (number n) rest

abbrev kind : List ℕ → Members → Members
kind name rest = member (codes "kind") (text name) rest

abbrev ports : ℕ → Members → Members
ports n rest = member (codes "ports") (number n) rest

abbrev rom : List ℕ → Members → Members
rom digits rest = member (codes "rom") (text digits) rest

-- a table of a 3851
abbrev psu : ℕ → ℕ → Members
psu at port = base at (kind (codes "3851") (ports port (rom (codes "712B90FE") no_members)))

abbrev tables : ℕ → Items
tables zero = no_items
tables (suc n) = item (table (psu 0 4)) (tables n)

-- a description of a format with these chips
abbrev chips_in_format : ℕ → Data → Members
chips_in_format format chips = member (codes "chip") chips (member (codes "format") (number format) no_members)

abbrev with_chips : Data → Members
with_chips chips = chips_in_format 1 chips

abbrev with_chip : Members → Members
with_chip chip = with_chips (array (item (table chip) no_items))

-- the same in format 2
abbrev in_two : Members → Members
in_two chip = chips_in_format 2 (array (item (table chip) no_items))

abbrev start : Members → Members
start rest = member (codes "start") (number 0x2222) rest

abbrev source : Members
source = member (codes "source") (text (codes "a")) no_members

abbrev texts : List (List ℕ) → Items
texts [] = no_items
texts (t ∷ ts) = item (text t) (texts ts)

-- a 3853 in format 2 with these entries at `pages`, all of whose RAM is 33 at power-on
abbrev smi : Items → Members → Members
smi pages rest = member (codes "fill") (number 0x33) (kind (codes "3853") (member (codes "pages") (array pages) rest))

-- a 3861
abbrev pio : Members → Members
pio rest = kind (codes "3861") rest

abbrev at_top : Key → CartCause → Result Described CartFault
at_top key cause = Err (record { chip = None; key = key; cause = cause })

abbrev at_chip : Key → CartCause → Result Described CartFault
at_chip key cause = Err (record { chip = Some 0; key = key; cause = cause })

-- ---- what they say

one_chip : description_in (with_chip (psu 0 4)) ≡ Ok (record {
  split = [];
  chips = record { spec = Psu 0 (0x71 ∷ 0x2B ∷ 0x90 ∷ 0xFE ∷ replicate 1020 255) 4 0 false; source = None; power = usual_power } ∷ [];
})
unfolding description_in top_of chips_from chip_of psu_of decode_pairs
one_chip = refl

started : description_in (in_two (base 0 (kind (codes "3851") (ports 4 (rom (codes "712B90FE") (start no_members)))))) ≡ Ok (record {
  split = [];
  chips = record {
    spec = Psu 0 (0x71 ∷ 0x2B ∷ 0x90 ∷ 0xFE ∷ replicate 1020 255) 4 0 false;
    source = None;
    power = record { fill = None; start = Some 0x2222 };
  } ∷ [];
})
unfolding description_in top_of chips_from chip_of psu_of decode_pairs
started = refl

-- the pages ascend, whatever the order of their texts, and the source has the addresses of both
pages_of_two_texts : description_in (in_two (smi (texts (codes "rom 21" ∷ codes "rom 20" ∷ [])) source)) ≡ Ok (record {
  split = [];
  chips = record {
    spec = Smi (record { number = 0x20; sort = Rom } ∷ record { number = 0x21; sort = Rom } ∷ []) (replicate 512 255) false;
    source = Some (record { name = codes "a"; room = record { first = 0x2000; last = 0x21FF } });
    power = record { fill = Some 0x33; start = None };
  } ∷ [];
})
unfolding description_in top_of chips_from chip_of smi_of smi_with pages_of run_of_text decode_pairs
pages_of_two_texts = refl

-- the first byte of a ROM is that of its lowest page
rom_in_two_pages : description_in (in_two (smi (texts (codes "rom 22" ∷ codes "ram 21" ∷ codes "rom 20" ∷ [])) (rom (codes "11") no_members))) ≡ Ok (record {
  split = [];
  chips = record {
    spec = Smi (record { number = 0x20; sort = Rom } ∷ record { number = 0x21; sort = Ram } ∷ record { number = 0x22; sort = Rom } ∷ [])
        (0x11 ∷ replicate 511 255) false;
    source = None;
    power = record { fill = Some 0x33; start = None };
  } ∷ [];
})
unfolding description_in top_of chips_from chip_of smi_of smi_with pages_of run_of_text decode_pairs
rom_in_two_pages = refl

parallel_ports : description_in (in_two (pio (ports 8 (member (codes "vector") (number 0x100) no_members)))) ≡ Ok (record {
  split = [];
  chips = record { spec = Pio 8 0x100 false; source = None; power = usual_power } ∷ [];
})
unfolding description_in top_of chips_from chip_of pio_of
parallel_ports = refl

-- ---- faults at the top

nothing : description_in no_members ≡ at_top key.Format Missing
unfolding description_in top_of
nothing = refl

another_format : description_in (member (codes "format") (number 3) no_members) ≡ at_top key.Format Range
unfolding description_in top_of
another_format = refl

chips_no_list : description_in (with_chips (number 5)) ≡ at_top key.Chip WrongType
unfolding description_in top_of
chips_no_list = refl

chips_no_tables : description_in (with_chips (array (item (number 1) no_items))) ≡ at_top key.Chip WrongType
unfolding description_in top_of
chips_no_tables = refl

seventeen_chips : description_in (with_chips (array (tables 17))) ≡ at_top key.Chip TooMany
unfolding description_in top_of
seventeen_chips = refl

equal_registers : description_in (member (codes "format") (number 1) (member (codes "split") (array (item (number 1) (item (number 1) no_items))) no_members))
    ≡ at_top key.Split Range
unfolding description_in top_of
equal_registers = refl

-- ---- faults of a chip

base_off_its_boundary : description_in (with_chip (psu 0x200 4)) ≡ at_chip key.Base Boundary
unfolding description_in top_of chips_from chip_of psu_of
base_off_its_boundary = refl

ports_off_their_boundary : description_in (with_chip (psu 0 6)) ≡ at_chip key.Ports Boundary
unfolding description_in top_of chips_from chip_of psu_of
ports_off_their_boundary = refl

no_ports : description_in (with_chip (base 0 (kind (codes "3851") (rom (codes "712B90FE") no_members)))) ≡ at_chip key.Ports Missing
unfolding description_in top_of chips_from chip_of psu_of
no_ports = refl

ports_as_text : description_in (with_chip (base 0 (kind (codes "3851") (member (codes "ports") (text (codes "4")) (rom (codes "712B90FE") no_members)))))
    ≡ at_chip key.Ports WrongType
unfolding description_in top_of chips_from chip_of psu_of
ports_as_text = refl

no_bytes : description_in (with_chip (base 0 (kind (codes "3851") (ports 4 no_members)))) ≡ at_chip key.Rom Missing
unfolding description_in top_of chips_from chip_of psu_of
no_bytes = refl

three_digits : description_in (with_chip (base 0 (kind (codes "3851") (ports 4 (rom (codes "712") no_members))))) ≡ at_chip key.Rom BadHex
unfolding description_in top_of chips_from chip_of psu_of
three_digits = refl

both_roms : description_in (with_chip (base 0 (kind (codes "3851") (ports 4 (rom (codes "712B90FE") (member (codes "source") (text (codes "a")) no_members))))))
    ≡ at_chip key.Source Both
unfolding description_in top_of chips_from chip_of psu_of decode_pairs
both_roms = refl

another_kind : description_in (with_chip (base 0 (kind (codes "3850") (ports 4 (rom (codes "712B90FE") no_members))))) ≡ at_chip key.Kind Range
unfolding description_in top_of chips_from chip_of
another_kind = refl

another_key : description_in (with_chip (base 0 (member (codes "colour") (number 1) (kind (codes "3851") (ports 4 (rom (codes "712B90FE") no_members))))))
    ≡ at_chip key.Other Unknown
unfolding description_in top_of chips_from chip_of
another_key = refl

pages_past_the_end : description_in (with_chip
    (kind (codes "3853") (member (codes "ram_page") (number 0xFA) (member (codes "ram_pages") (number 10) no_members))))
    ≡ at_chip key.RamPages Boundary
unfolding description_in top_of chips_from chip_of smi_of
pages_past_the_end = refl

-- ---- faults of a chip in format 2

gap_between_rom_pages : description_in (in_two (smi (texts (codes "rom 20" ∷ codes "rom 22" ∷ [])) source)) ≡ at_chip key.Source Range
unfolding description_in top_of chips_from chip_of smi_of smi_with pages_of run_of_text decode_pairs
gap_between_rom_pages = refl

no_rom_page : description_in (in_two (smi (texts (codes "ram 20" ∷ [])) source)) ≡ at_chip key.Source Range
unfolding description_in top_of chips_from chip_of smi_of smi_with pages_of run_of_text decode_pairs
no_rom_page = refl

number_among_texts : description_in (in_two (smi (item (text (codes "rom 20")) (item (number 5) no_items)) no_members)) ≡ at_chip key.Pages WrongType
unfolding description_in top_of chips_from chip_of smi_of
number_among_texts = refl

one_digit : description_in (in_two (smi (texts (codes "rom 20" ∷ codes "ram 21" ∷ codes "rom 2" ∷ [])) no_members)) ≡ at_chip key.Pages Range
unfolding description_in top_of chips_from chip_of smi_of run_of_text decode_pairs
one_digit = refl

last_below_first : description_in (in_two (smi (texts (codes "rom 28-27" ∷ [])) no_members)) ≡ at_chip key.Pages Range
unfolding description_in top_of chips_from chip_of smi_of run_of_text decode_pairs
last_below_first = refl

two_blanks : description_in (in_two (smi (texts (codes "rom  20" ∷ [])) no_members)) ≡ at_chip key.Pages Range
unfolding description_in top_of chips_from chip_of smi_of run_of_text decode_pairs
two_blanks = refl

page_twice : description_in (in_two (smi (texts (codes "ram 28" ∷ codes "rom 20-28" ∷ [])) no_members)) ≡ at_chip key.Pages Boundary
unfolding description_in top_of chips_from chip_of smi_of run_of_text decode_pairs
page_twice = refl

bad_text_behind_page_twice : description_in (in_two (smi (texts (codes "ram 28" ∷ codes "rom 2" ∷ codes "rom 28" ∷ [])) no_members))
    ≡ at_chip key.Pages Range
unfolding description_in top_of chips_from chip_of smi_of run_of_text decode_pairs
bad_text_behind_page_twice = refl

too_many_texts : description_in (in_two (smi (texts (replicate 257 (codes "rom 20"))) no_members)) ≡ at_chip key.Pages Range
unfolding description_in top_of chips_from chip_of smi_of
too_many_texts = refl

-- ---- faults of a 3861

no_ports_of_a_3861 : description_in (in_two (pio no_members)) ≡ at_chip key.Ports Missing
unfolding description_in top_of chips_from chip_of pio_of
no_ports_of_a_3861 = refl

ports_of_a_3861_off_their_boundary : description_in (in_two (pio (ports 6 (member (codes "vector") (number 65536) no_members)))) ≡ at_chip key.Ports Boundary
unfolding description_in top_of chips_from chip_of pio_of
ports_of_a_3861_off_their_boundary = refl

vector_of_a_3861_out_of_range : description_in
    (in_two (member (codes "interrupt") (number 1) (pio (ports 8 (member (codes "vector") (number 65536) no_members)))))
    ≡ at_chip key.Vector Range
unfolding description_in top_of chips_from chip_of pio_of
vector_of_a_3861_out_of_range = refl

interrupt_of_a_3861_as_a_number : description_in (in_two (member (codes "interrupt") (number 1) (pio (ports 8 no_members)))) ≡ at_chip key.Interrupt WrongType
unfolding description_in top_of chips_from chip_of pio_of
interrupt_of_a_3861_as_a_number = refl

-- ---- kinds and keys that another format or kind knows

pio_in_format_one : description_in (with_chip (member (codes "colour") (number 1) (pio (ports 8 no_members)))) ≡ at_chip key.Kind Range
unfolding description_in top_of chips_from chip_of
pio_in_format_one = refl

start_of_a_3861 : description_in (in_two (pio (ports 8 (start no_members)))) ≡ at_chip key.Other Unknown
unfolding description_in top_of chips_from chip_of
start_of_a_3861 = refl

rom_of_a_3861 : description_in (in_two (pio (ports 8 (rom (codes "71") no_members)))) ≡ at_chip key.Other Unknown
unfolding description_in top_of chips_from chip_of
rom_of_a_3861 = refl

fill_of_a_3851 : description_in (in_two (base 0 (member (codes "fill") (number 0) (kind (codes "3851") (ports 4 (rom (codes "712B90FE") no_members))))))
    ≡ at_chip key.Other Unknown
unfolding description_in top_of chips_from chip_of
fill_of_a_3851 = refl

run_in_format_two : description_in (in_two (kind (codes "3853") (member (codes "rom_page") (number 0x20) no_members))) ≡ at_chip key.Other Unknown
unfolding description_in top_of chips_from chip_of
run_in_format_two = refl

start_in_format_one : description_in (with_chip (base 0 (kind (codes "3851") (ports 4 (rom (codes "712B90FE") (start no_members))))))
    ≡ at_chip key.Other Unknown
unfolding description_in top_of chips_from chip_of
start_in_format_one = refl

pages_in_format_one : description_in (with_chip (kind (codes "3853") (member (codes "pages") (array no_items) no_members))) ≡ at_chip key.Other Unknown
unfolding description_in top_of chips_from chip_of
pages_in_format_one = refl
