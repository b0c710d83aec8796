-- The keys of a description, and which table knows which.
use Rattle.std.specs.Prelude.{ℕ, Bool, true, ◌&&◌, if◌then◌else◌, List, [], ◌∷◌, codes, bytes_eq, Option, Result, Ok, Err}
use Rattle.std.specs.List.{list_any}
use Rattle.toml.specs.Data.{Data, Members, no_members, member, get_member}
use Rattle.cartridge.specs.declared.format.CartFormat.{CartFormat}
use Rattle.cartridge.specs.declared.format.CartFormat.TheVariants.{One, Two}
use Rattle.cartridge.specs.declared.keys.Key.{Key}
use Rattle.cartridge.specs.declared.keys.Key.TheVariants.{Format, Split, Chip, Kind, Base, Ports, Vector, RomPage}
use Rattle.cartridge.specs.declared.keys.Key.TheVariants.{RomPages, RamPage, RamPages, VoidPage, VoidPages, Pages}
use Rattle.cartridge.specs.declared.keys.Key.TheVariants.{Interrupt, Fill, Start, Rom, Source, Other}
use Rattle.cartridge.specs.declared.refusal.CartCause.TheVariants as cause
use Rattle.cartridge.specs.declared.refusal.KeyFault.{KeyFault}

-- how a key is spelled; the keys that no table knows have no spelling, and print as `?`
abbrev pub key_word : Key → List ℕ
key_word Format = codes "format"
key_word Split = codes "split"
key_word Chip = codes "chip"
key_word Kind = codes "kind"
key_word Base = codes "base"
key_word Ports = codes "ports"
key_word Vector = codes "vector"
key_word RomPage = codes "rom_page"
key_word RomPages = codes "rom_pages"
key_word RamPage = codes "ram_page"
key_word RamPages = codes "ram_pages"
key_word VoidPage = codes "void_page"
key_word VoidPages = codes "void_pages"
key_word Pages = codes "pages"
key_word Interrupt = codes "interrupt"
key_word Fill = codes "fill"
key_word Start = codes "start"
key_word Rom = codes "rom"
key_word Source = codes "source"
key_word Other = codes "?"

abbrev pub top_keys : List Key
top_keys = Format ∷ Split ∷ Chip ∷ []

-- the keys that a chip with memory has in both formats, and then its own
abbrev pub chip_keys : List Key → List Key
chip_keys own = Kind ∷ Interrupt ∷ Rom ∷ Source ∷ own

abbrev pub psu_keys : CartFormat → List Key
psu_keys One = chip_keys (Base ∷ Ports ∷ Vector ∷ [])
psu_keys Two = chip_keys (Base ∷ Ports ∷ Vector ∷ Start ∷ [])

-- the keys of three runs of pages
abbrev pub run_keys : List Key
run_keys = RomPage ∷ RomPages ∷ RamPage ∷ RamPages ∷ VoidPage ∷ VoidPages ∷ []

abbrev pub smi_keys : CartFormat → List Key
smi_keys One = chip_keys run_keys
smi_keys Two = chip_keys (Pages ∷ Fill ∷ Start ∷ [])

-- format 2 alone has a 3861
abbrev pub pio_keys : List Key
pio_keys = Kind ∷ Interrupt ∷ Ports ∷ Vector ∷ []

-- the name is the spelling of one of the keys
abbrev pub is_spelled : List Key → List ℕ → Bool
is_spelled keys name = list_any (λ key. bytes_eq name (key_word key)) keys

-- every key of a table is one of these
abbrev pub are_known : List Key → Members → Bool
are_known keys no_members = true
are_known keys (member name value rest) = is_spelled keys name && are_known keys rest

-- a table with no other keys
abbrev pub known : List Key → Members → Result (Unit {0}) KeyFault
known keys table = if are_known keys table then Ok tt else Err (record { key = Other; cause = cause.Unknown })

-- the value at a key
abbrev pub value_at : Key → Members → Option Data
value_at key table = get_member (key_word key) table
