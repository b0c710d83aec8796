-- A plan: what a description says, with the bytes of its sources as they stand. They are FF until an image is put there. All of it is this
-- project's own.
use Rattle.std.specs.Prelude.{ℕ, zero, suc, ◌+◌, ◌-◌, ◌≡◌, ◌≤◌, Bool, true, false, All, List, [], ◌∷◌, length, map}
use Rattle.std.specs.Prelude.{replicate, slice_get, slice_set, Option, Some, None, option_map, option_and_then}
use Rattle.std.specs.Prelude.{IsSomeAnd, Result, Ok}
use Rattle.toml.specs.Data.{Members}
use Rattle.f8_spec.specs.declared.chips.PowerOn.{PowerOn}
use Rattle.chip_face.specs.Fitting.{IsSpec, is_blank, rom_of}
use Rattle.chip_face.specs.declared.sizes.TheConstants.{MOST_CHIPS}
use Rattle.chip_face.specs.declared.specification.ChipSpec.{ChipSpec}
use Rattle.cartridge.specs.ChipTables.{DescribedSource, DescribedChip}
use Rattle.cartridge.specs.declared.refusal.CartFault.{CartFault}
use Rattle.cartridge.specs.Faults.{◌>>=◌}
use Rattle.cartridge.specs.Description.{Described, description_in}
use Rattle.cartridge.specs.Rooms.{room_size, LiesIn}

-- a source, the bytes of its chip's ROM as they stand, and whether an image has been put there
pub record PlannedSource : Type 0 where
  pub source : DescribedSource
  pub bytes : List ℕ
  pub filled : Bool

pub record PlannedChip : Type 0 where
  pub spec : ChipSpec
  pub source : Option PlannedSource

-- the registers that the checker tracks, the chips, and what is said of each one's power-on
pub record Planned : Type 0 where
  pub split : List ℕ
  pub chips : List PlannedChip
  pub powers : List PowerOn

-- ---- the plan of a description

-- no image has been put there
abbrev pub without_image : DescribedSource → PlannedSource
without_image source = record { source = source; bytes = replicate (room_size source.room) 255; filled = false }

abbrev pub planned_chip : DescribedChip → PlannedChip
planned_chip chip = record { spec = chip.spec; source = option_map without_image chip.source }

abbrev pub power_of : DescribedChip → PowerOn
power_of chip = chip.power

abbrev pub plan_without_images : Described → Planned
plan_without_images cart = record { split = cart.split; chips = map planned_chip cart.chips; powers = map power_of cart.chips }

-- the plan of a table, or the table's first fault
abbrev pub plan_of : Members → Result Planned CartFault
plan_of table = description_in table >>= λ cart. Ok (plan_without_images cart)

-- the source of a chip, where the chip is there and has one
abbrev pub source_at : Planned → ℕ → Option DescribedSource
source_at plan chip = option_and_then (λ c. option_map (λ s. s.source) c.source) (slice_get plan.chips chip)

-- ---- an image is put into a chip

-- the chip has a source, in whose room all of these bytes lie
abbrev pub HasRoomFor : Planned → ℕ → List (ℕ × ℕ) → Type 0
HasRoomFor plan chip bytes = IsSomeAnd (source_at plan chip) (λ s. LiesIn s.room bytes)

-- bytes are put at their addresses, one after another, into a ROM that has this first address
abbrev pub rom_with : ℕ → List (ℕ × ℕ) → List ℕ → List ℕ
rom_with first [] rom = rom
rom_with first (b ∷ bs) rom = rom_with first bs (slice_set rom (b.0 - first) b.1)

abbrev pub filled_source : List (ℕ × ℕ) → PlannedSource → PlannedSource
filled_source bytes s = record { source = s.source; bytes = rom_with s.source.room.first bytes s.bytes; filled = true }

abbrev pub filled_chip : List (ℕ × ℕ) → PlannedChip → PlannedChip
filled_chip bytes chip = record { spec = chip.spec; source = option_map (filled_source bytes) chip.source }

-- a list in which the item at one place is changed
abbrev pub with_change_at : {A : Type 0} → (A → A) → ℕ → List A → List A
with_change_at change place [] = []
with_change_at change zero (x ∷ xs) = change x ∷ xs
with_change_at change (suc place) (x ∷ xs) = x ∷ with_change_at change place xs

-- the bytes of an image stand in a chip's ROM; where it has none, the byte that was there before stays
abbrev pub filled_plan : Planned → ℕ → List (ℕ × ℕ) → Planned
filled_plan plan chip bytes = record plan { chips = with_change_at (filled_chip bytes) chip plan.chips }

-- ---- what holds of every plan

-- the bytes of a source are as many as those of its chip's ROM, and one for each address of its room
pub record IsRomOf (spec : ChipSpec) (s : PlannedSource) : Type 0 where
  pub rom : length s.bytes ≡ length (rom_of spec)
  pub room : s.source.room.first + length s.bytes ≡ s.source.room.last + 1

abbrev pub HasRom : ChipSpec → Option PlannedSource → Type 0
HasRom spec None = Unit {0}
HasRom spec (Some s) = IsRomOf spec s

pub record IsPlannedChip (chip : PlannedChip) : Type 0 where
  pub specified : IsSpec chip.spec
  pub no_blank : is_blank chip.spec ≡ false
  pub has_rom : HasRom chip.spec chip.source

-- at most `MOST_CHIPS` chips, each as a specification has to be, none blank, and each source with as many bytes as there is room for
pub record IsPlan (chips : List PlannedChip) : Type 0 where
  pub few : length chips ≤ MOST_CHIPS
  pub each : All IsPlannedChip chips

-- so are the chips of a plan, and there is an entry of power-on for each of them
pub record IsWholePlan (plan : Planned) : Type 0 where
  pub chips : IsPlan plan.chips
  pub paired : length plan.powers ≡ length plan.chips
