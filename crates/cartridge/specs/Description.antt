-- Which TOML tables describe a cartridge, what they say, and the first fault of the others. All of it is this project's own. The keys at
-- the top come first, unknown ones before the others, and then the chips in their order.
use Rattle.std.specs.Prelude.{ℕ, ◌+◌, ◌==◌, if◌then◌else◌, List, [], ◌∷◌, Some, None, Result, Ok}
use Rattle.toml.specs.Data.{Data, Members}
use Rattle.cartridge.specs.declared.format.CartFormat.{CartFormat}
use Rattle.cartridge.specs.declared.format.CartFormat.TheVariants.{One, Two}
use Rattle.cartridge.specs.declared.keys.Key.TheVariants.{Format, Split, Chip}
use Rattle.cartridge.specs.declared.refusal.CartCause.{CartCause}
use Rattle.cartridge.specs.declared.refusal.KeyFault.{KeyFault}
use Rattle.cartridge.specs.declared.refusal.CartFault.{CartFault}
use Rattle.cartridge.specs.Faults.{◌>>=◌, of_chip}
use Rattle.cartridge.specs.Keys.{top_keys, known}
use Rattle.cartridge.specs.Values.{value_needed, usually, number_in, split_in, tables_in}
use Rattle.cartridge.specs.ChipTables.{DescribedChip, chip_of}

-- the registers that the checker tracks, and the chips
pub record Described : Type 0 where
  pub split : List ℕ
  pub chips : List DescribedChip

-- of the numbers 1 and 2
abbrev pub format_numbered : ℕ → CartFormat
format_numbered n = if n == 1 then One else Two

abbrev pub format_in : Data → Result CartFormat CartCause
format_in d = number_in 1 2 d >>= λ n. Ok (format_numbered n)

-- the top of a description: its format, the registers, and the tables of the chips
pub record Top : Type 0 where
  pub format : CartFormat
  pub split : List ℕ
  pub tables : List Members

unfoldable pub top_of : Members → Result Top KeyFault
top_of table =
    known top_keys table >>= λ _.
    value_needed Format format_in table >>= λ format.
    usually Split [] split_in table >>= λ split.
    usually Chip [] tables_in table >>= λ tables.
    Ok (record { format = format; split = split; tables = tables })

-- the chips of some tables, the first of which has the number i
unfoldable pub chips_from : CartFormat → ℕ → List Members → Result (List DescribedChip) CartFault
chips_from format i [] = Ok []
chips_from format i (table ∷ tables) =
    of_chip (Some i) (chip_of format table) >>= λ chip.
    chips_from format (i + 1) tables >>= λ chips.
    Ok (chip ∷ chips)

-- what a table says, or its first fault
unfoldable pub description_in : Members → Result Described CartFault
description_in table =
    of_chip None (top_of table) >>= λ top.
    chips_from top.format 0 top.tables >>= λ chips.
    Ok (record { split = top.split; chips = chips })
