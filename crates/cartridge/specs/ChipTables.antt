-- The table of a chip: its kind first, then unknown keys, then each key in turn. The boundaries of a 3851 are those of the Mostek 3851
-- data sheet; the keys, the pages of a 3853 and the order of faults are this project's own.
use Rattle.std.specs.Prelude.{ℕ, Bool, false, if◌then◌else◌, List, [], ◌∷◌, Option, Some, None, is_some, option_map, ◌||◌, Result, Ok, Err}
use Rattle.toml.specs.Data.{Members}
use Rattle.f8_spec.specs.declared.chips.ChipKind.{ChipKind}
use Rattle.f8_spec.specs.declared.chips.ChipKind.TheVariants as kind
use Rattle.f8_spec.specs.declared.chips.Page.{Page}
use Rattle.f8_spec.specs.declared.chips.PageSort.TheVariants as sort
use Rattle.f8_spec.specs.declared.chips.PowerOn.{PowerOn}
use Rattle.f8_spec.specs.Powers.{usual_power}
use Rattle.f8_asm.specs.declared.answers.Room.{Room}
use Rattle.chip_face.specs.declared.specification.ChipSpec.{ChipSpec}
use Rattle.chip_face.specs.declared.specification.ChipSpec.TheVariants.{Psu, Smi, Pio}
use Rattle.cartridge.specs.declared.keys.Key.TheVariants.{Kind, Base, Ports, Vector, RomPage, RomPages, RamPage}
use Rattle.cartridge.specs.declared.keys.Key.TheVariants.{RamPages, VoidPage, VoidPages, Pages, Interrupt, Fill, Start, Rom, Source}
use Rattle.cartridge.specs.declared.format.CartFormat.{CartFormat}
use Rattle.cartridge.specs.declared.format.CartFormat.TheVariants.{One, Two}
use Rattle.cartridge.specs.declared.page_run.PageRun.{PageRun}
use Rattle.cartridge.specs.declared.refusal.CartCause.TheVariants.{Missing, Range}
use Rattle.cartridge.specs.declared.refusal.KeyFault.{KeyFault}
use Rattle.cartridge.specs.Faults.{◌>>=◌}
use Rattle.cartridge.specs.Keys.{known, psu_keys, smi_keys, pio_keys, value_at}
use Rattle.cartridge.specs.Pages.{run_at, pages_of, rom_size_of, rom_room}
use Rattle.cartridge.specs.PageTexts.{runs_in}
use Rattle.cartridge.specs.Rooms.{psu_room, room_size}
use Rattle.cartridge.specs.Values.{value_needed, usually, maybe_number, number_in, multiple_in, truth, kind_in, rom_in, source_in, filled}

-- where the bytes of a ROM come from: the name of an assembly file, and the addresses that its image may have
pub record DescribedSource : Type 0 where
  pub name : List ℕ
  pub room : Room

-- a chip with the bytes that its digits give, its source, where it has one, and what is said of its power-on
pub record DescribedChip : Type 0 where
  pub spec : ChipSpec
  pub source : Option DescribedSource
  pub power : PowerOn

-- ---- what every kind has

abbrev pub wired_of : Members → Result Bool KeyFault
wired_of table = usually Interrupt false truth table

abbrev pub source_of : ℕ → Members → Result (Option (List ℕ)) KeyFault
source_of room table = usually Source None (source_in room (is_some (value_at Rom table))) table

-- the bytes of a ROM, where no digits are given all FF
abbrev pub rom_of : ℕ → Members → Result (List ℕ) KeyFault
rom_of room table = usually Rom (filled room []) (rom_in room) table

-- the bytes of a ROM that has to come from digits or from a source
abbrev pub mask_of : ℕ → Members → Result (List ℕ) KeyFault
mask_of room table =
    if is_some (value_at Rom table) || is_some (value_at Source table) then rom_of room table
    else Err (record { key = Rom; cause = Missing })

-- the source with this name, whose image may have these addresses
abbrev pub named_source : Room → Option (List ℕ) → Option DescribedSource
named_source room source = option_map (λ name. record { name = name; room = room }) source

-- the source whose image may have these addresses; where there are none, a source is out of range
abbrev pub source_with : Option Room → Members → Result (Option DescribedSource) KeyFault
source_with None table = source_of 0 table >>= λ _. Ok None
source_with (Some room) table = source_of (room_size room) table >>= λ name. Ok (named_source room name)

abbrev pub start_of : Members → Result (Option ℕ) KeyFault
start_of table = maybe_number Start 65535 table

-- ---- each kind

unfoldable pub psu_of : Members → Result DescribedChip KeyFault
psu_of table =
    value_needed Base (multiple_in 0 64512 1024) table >>= λ base.
    value_needed Ports (multiple_in 4 252 4) table >>= λ ports.
    usually Vector 0 (number_in 0 65535) table >>= λ vector.
    wired_of table >>= λ wired.
    start_of table >>= λ start.
    mask_of 1024 table >>= λ rom.
    source_with (Some (psu_room base)) table >>= λ source.
    Ok (record { spec = Psu base rom ports vector wired; source = source; power = record { fill = None; start = start } })

-- three runs of pages, of which none has a page of an earlier one
abbrev pub three_runs : Members → Result (List PageRun) KeyFault
three_runs table =
    run_at sort.Rom RomPage RomPages [] table >>= λ rom.
    run_at sort.Ram RamPage RamPages (rom ∷ []) table >>= λ ram.
    run_at sort.Void VoidPage VoidPages (rom ∷ ram ∷ []) table >>= λ void.
    Ok (rom ∷ ram ∷ void ∷ [])

abbrev pub runs_of : CartFormat → Members → Result (List PageRun) KeyFault
runs_of One table = three_runs table
runs_of Two table = usually Pages [] runs_in table

-- a 3853 with these pages
unfoldable pub smi_with : List Page → Members → Result DescribedChip KeyFault
smi_with pages table =
    wired_of table >>= λ wired.
    maybe_number Fill 255 table >>= λ fill.
    start_of table >>= λ start.
    rom_of (rom_size_of pages) table >>= λ bytes.
    source_with (rom_room pages) table >>= λ source.
    Ok (record { spec = Smi pages bytes wired; source = source; power = record { fill = fill; start = start } })

unfoldable pub smi_of : CartFormat → Members → Result DescribedChip KeyFault
smi_of format table = runs_of format table >>= λ runs. smi_with (pages_of runs) table

-- a 3861, which has no memory and no counters
unfoldable pub pio_of : Members → Result DescribedChip KeyFault
pio_of table =
    value_needed Ports (multiple_in 4 252 4) table >>= λ ports.
    usually Vector 0 (number_in 0 65535) table >>= λ vector.
    wired_of table >>= λ wired.
    Ok (record { spec = Pio ports vector wired; source = None; power = usual_power })

-- format 1 has no 3861, whatever else its table says
abbrev pub known_pio : CartFormat → Members → Result (Unit {0}) KeyFault
known_pio One table = Err (record { key = Kind; cause = Range })
known_pio Two table = known pio_keys table

-- Which kinds and which keys are known goes by the format, and so do the keys of a 3853's pages. All other keys are read alike in both,
-- since a key that isn't known was refused before.
abbrev pub chip_of_kind : CartFormat → ChipKind → Members → Result DescribedChip KeyFault
chip_of_kind format kind.Psu table = known (psu_keys format) table >>= λ _. psu_of table
chip_of_kind format kind.Smi table = known (smi_keys format) table >>= λ _. smi_of format table
chip_of_kind format kind.Pio table = known_pio format table >>= λ _. pio_of table

unfoldable pub chip_of : CartFormat → Members → Result DescribedChip KeyFault
chip_of format table =
    value_needed Kind kind_in table >>= λ kind.
    chip_of_kind format kind table
