-- The cartridge of a plan. It is this project's own.
use Rattle.std.specs.Prelude.{◌≡◌, ℕ, Bool, false, not, List, length, map, position, Option, Some, None, Result, Ok, Err}
use Rattle.std.specs.Option.{option_map_or}
use Rattle.chip_face.specs.declared.specification.ChipSpec.{ChipSpec}
use Rattle.chip_face.specs.declared.specification.ChipSpec.TheVariants.{Blank, Psu, Smi, Pio}
use Rattle.cart_data.specs.declared.cart.Cart.{Cart}
use Rattle.cartridge.specs.declared.finish.Unfilled.{Unfilled}
use Rattle.cartridge.specs.Filling.{PlannedSource, PlannedChip, Planned}

-- there is an entry of power-on for each chip
pub record IsCart (cart : Cart) : Type 0 where
  pub paired : length cart.powers ≡ length cart.chips

-- a specification with other bytes in its ROM
abbrev pub with_rom : List ℕ → ChipSpec → ChipSpec
with_rom rom (Blank kind) = Blank kind
with_rom rom (Psu base old ports vector wired) = Psu base rom ports vector wired
with_rom rom (Smi pages old wired) = Smi pages rom wired
with_rom rom (Pio ports vector wired) = Pio ports vector wired

-- a chip with the bytes of its source, where it has one
abbrev pub spec_from : Option PlannedSource → ChipSpec → ChipSpec
spec_from None spec = spec
spec_from (Some s) spec = with_rom s.bytes spec

abbrev pub specification_of : PlannedChip → ChipSpec
specification_of chip = spec_from chip.source chip.spec

-- no image has been put into the chip, though it has a source
abbrev pub wants_image : PlannedChip → Bool
wants_image chip = option_map_or (λ s. not s.filled) chip.source false

abbrev pub cart_without : Option ℕ → Planned → Result Cart Unfilled
cart_without (Some chip) plan = Err (record { chip = chip })
cart_without None plan = Ok (record { split = plan.split; chips = map specification_of plan.chips; powers = plan.powers })

-- the cartridge of a plan, or the lowest chip that wants an image
abbrev pub cart_of : Planned → Result Cart Unfilled
cart_of plan = cart_without (position wants_image plan.chips) plan
