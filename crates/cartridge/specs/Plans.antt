-- What the program holds of a description, beside what the description says.
use Rattle.std.specs.Prelude.{ℕ, List, [], ◌∷◌, String, map, Option, option_map, string_bytes}
use Rattle.std.specs.Borrow.{Bor}
use Rattle.std.specs.BTreeMap.{BTreeMap}
use Rattle.std.specs.declared.alloc.Global.{Global}
use Rattle.toml.specs.Data.{Members}
use Rattle.toml.specs.View.{table_view}
use Rattle.toml.specs.declared.value.Value.{Value}
use Rattle.f8_spec.specs.declared.chips.PowerOn.{PowerOn}
use Rattle.chip_face.specs.declared.specification.ChipSpec.{ChipSpec}
use Rattle.cartridge.specs.declared.chip_table.ChipPlan.{ChipPlan}
use Rattle.cartridge.specs.declared.rom_source.ChipSource.{ChipSource}
use Rattle.cartridge.specs.declared.rom_source.SourceRom.{SourceRom}
use Rattle.cartridge.specs.declared.description.Top.{Top}
use Rattle.cartridge.specs.declared.description.Described.{Described}
use Rattle.cartridge.specs.Description.{Top as DescribedTop, Described as DescribedCart}
use Rattle.cartridge.specs.ChipTables.{DescribedChip, DescribedSource}
use Rattle.cartridge.specs.Filling.{PlannedChip, PlannedSource, Planned}

abbrev pub seen_source : ChipSource → DescribedSource
seen_source source = record { name = string_bytes source.name; room = source.room }

abbrev pub seen_chip : ChipPlan → DescribedChip
seen_chip chip = record { spec = chip.spec; source = option_map seen_source chip.source; power = chip.power }

abbrev pub seen_table : Bor (BTreeMap (String Global) Value) → Members
seen_table table = table_view table.now

abbrev pub seen_top : Top → DescribedTop
seen_top top = record { format = top.format; split = top.split; tables = map seen_table top.tables.items }

abbrev pub seen_cart : Described → DescribedCart
seen_cart cart = record { split = cart.split; chips = map seen_chip cart.chips.items }

abbrev pub str_seen : Bor (List ℕ) → List ℕ
str_seen name = name.now

abbrev pub seen_rom : SourceRom → PlannedSource
seen_rom rom = record { source = seen_source rom.source; bytes = rom.bytes.items; filled = rom.filled }

-- the chips of a plan: specifications, and beside each the bytes of its source
abbrev pub seen_chips : List ChipSpec → List (Option SourceRom) → List PlannedChip
seen_chips [] roms = []
seen_chips (spec ∷ specs) [] = []
seen_chips (spec ∷ specs) (rom ∷ roms) = record { spec = spec; source = option_map seen_rom rom } ∷ seen_chips specs roms

abbrev pub seen_plan : List ℕ → List ChipSpec → List (Option SourceRom) → List PowerOn → Planned
seen_plan split specs roms powers = record { split = split; chips = seen_chips specs roms; powers = powers }
