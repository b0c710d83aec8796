-- The chips of a plan, as lists of specifications and of the bytes of sources beside them.
use Rattle.std.proofs.Common.{◌≡◌, ℕ, zero, suc, ◌+◌, ◌-◌, ◌<◌, ◌≤◌, List, [], ◌∷◌, ◌++◌, length, map, get_or, set}
use Rattle.std.proofs.Common.{Option, Some, None, refl, sym, ap, ◌∙◌, arith, subst}
use Rattle.std.specs.Prelude.{All, option_map, option_and_then, slice_get, IsSomeAnd, false}
use Rattle.std.proofs.lemmas.List.{length_push, length-set, map_push, map-id}
use Rattle.std.proofs.lemmas.List.Elements.{All-nil, All-cons, All-head, All-tail}
use Rattle.f8_spec.specs.declared.chips.PowerOn.{PowerOn}
use Rattle.chip_face.specs.Fitting.{IsSpec, IsChipList, is_blank, rom_of}
use Rattle.chip_face.specs.declared.specification.ChipSpec.{ChipSpec}
use Rattle.chip_face.specs.declared.specification.ChipSpec.TheVariants.{Blank, Psu, Smi, Pio}
use Rattle.cartridge.specs.declared.chip_table.ChipPlan.{ChipPlan}
use Rattle.cartridge.specs.declared.rom_source.SourceRom.{SourceRom}
use Rattle.cartridge.specs.ChipTables.{DescribedSource}
use Rattle.cartridge.specs.Filling.{PlannedSource, PlannedChip, IsPlannedChip, IsPlan, IsWholePlan, IsRomOf, HasRom, rom_with}
use Rattle.cartridge.specs.Filling.{filled_source, filled_chip, with_change_at, planned_chip, power_of, without_image}
use Rattle.cartridge.specs.Carts.{with_rom, spec_from, specification_of}
use Rattle.cartridge.specs.Plans.{seen_chip, seen_rom, seen_chips, seen_plan, seen_source}

abbrev pub seen_pair : ChipSpec → Option SourceRom → PlannedChip
seen_pair spec rom = record { spec = spec; source = option_map seen_rom rom }

-- ---- one chip more

pub seen_chips_push : (specs : List ChipSpec) (roms : List (Option SourceRom)) (spec : ChipSpec) (rom : Option SourceRom) → length specs ≡ length roms
    → seen_chips (specs ++ spec ∷ []) (roms ++ rom ∷ []) ≡ seen_chips specs roms ++ seen_pair spec rom ∷ []
seen_chips_push [] [] spec rom same = refl
seen_chips_push [] (r ∷ roms) spec rom same = absurd (omega arith)
seen_chips_push (s ∷ specs) [] spec rom same = absurd (omega arith)
seen_chips_push (s ∷ specs) (r ∷ roms) spec rom same =
    ap (λ (cs : List PlannedChip). seen_pair s r ∷ cs) (seen_chips_push specs roms spec rom (omega arith))

-- a chip that was read, as a plan has it
abbrev pub planned_of : ChipPlan → PlannedChip
planned_of chip = planned_chip (seen_chip chip)

-- the chips that were read so far stand in both lists
pub record PlansOf (chips : List ChipPlan) (specs : List ChipSpec) (roms : List (Option SourceRom)) : Type 0 where
  pub paired : length specs ≡ length roms
  pub is : seen_chips specs roms ≡ map planned_of chips

pub plans_more : (chips : List ChipPlan) (specs : List ChipSpec) (roms : List (Option SourceRom)) (chip : ChipPlan) (rom : Option SourceRom)
    → PlansOf chips specs roms → option_map seen_rom rom ≡ option_map without_image (option_map seen_source chip.source)
    → PlansOf (chips ++ chip ∷ []) (specs ++ chip.spec ∷ []) (roms ++ rom ∷ [])
plans_more chips specs roms chip rom so_far is =
    let paired = so_far.paired in
    let of_specs = length_push specs chip.spec in
    let of_roms = length_push roms rom in
    record {
      paired = omega (arith, of_specs, of_roms);
      is =
          seen_chips_push specs roms chip.spec rom paired
          ∙ ap (λ (cs : List PlannedChip). cs ++ seen_pair chip.spec rom ∷ []) so_far.is
          ∙ ap (λ (source : Option PlannedSource). map planned_of chips ++ record { spec = chip.spec; source = source } ∷ []) is
          ∙ sym (map_push planned_of chips chip);
    }

all-plan_without_images : (chips : List ChipPlan) → map planned_of chips ≡ map planned_chip (map seen_chip chips)
all-plan_without_images [] = refl
all-plan_without_images (c ∷ chips) = ap (λ (cs : List PlannedChip). planned_of c ∷ cs) (all-plan_without_images chips)

pub all_powers : (chips : List ChipPlan) → map (λ chip. power_of (seen_chip chip)) chips ≡ map power_of (map seen_chip chips)
all_powers [] = refl
all_powers (c ∷ chips) = ap (λ (powers : List PowerOn). c.power ∷ powers) (all_powers chips)

pub plans_all : (all chips : List ChipPlan) (specs : List ChipSpec) (roms : List (Option SourceRom)) → map (λ chip. chip) chips ≡ all
    → PlansOf chips specs roms → seen_chips specs roms ≡ map planned_chip (map seen_chip all)
plans_all all chips specs roms whole so_far =
    so_far.is ∙ ap (map planned_of) (sym (map-id chips) ∙ whole) ∙ all-plan_without_images all

pub length-seen_chips : (specs : List ChipSpec) (roms : List (Option SourceRom)) → length specs ≡ length roms → length (seen_chips specs roms) ≡ length specs
length-seen_chips [] roms same = refl
length-seen_chips (s ∷ specs) [] same = absurd (omega arith)
length-seen_chips (s ∷ specs) (r ∷ roms) same =
    let rest = length-seen_chips specs roms (omega arith) in omega (arith, rest)

-- ---- the source of a chip

abbrev source_in : Option PlannedChip → Option DescribedSource
source_in chip = option_and_then (λ (c : PlannedChip). option_map (λ (s : PlannedSource). s.source) c.source) chip

pub source_seen : (specs : List ChipSpec) (roms : List (Option SourceRom)) (i : ℕ) (rom : Option SourceRom) → length specs ≡ length roms
    → i < length roms → get_or roms i rom ≡ rom
    → source_in (slice_get (seen_chips specs roms) i) ≡ option_map (λ (r : SourceRom). seen_source r.source) rom
source_seen specs [] i rom same within at = absurd (omega arith)
source_seen [] (r ∷ roms) i rom same within at = absurd (omega arith)
source_seen (s ∷ specs) (None ∷ roms) zero rom same within at = ap (option_map (λ (r : SourceRom). seen_source r.source)) at
source_seen (s ∷ specs) (Some r ∷ roms) zero rom same within at = ap (option_map (λ (r : SourceRom). seen_source r.source)) at
source_seen (s ∷ specs) (r ∷ roms) (suc i) rom same within at = source_seen specs roms i rom (omega arith) (omega arith) at

pub no_chip : (specs : List ChipSpec) (roms : List (Option SourceRom)) (i : ℕ) → length roms ≤ i → source_in (slice_get (seen_chips specs roms) i) ≡ None
no_chip [] roms i past = refl
no_chip (s ∷ specs) [] i past = refl
no_chip (s ∷ specs) (r ∷ roms) zero past = absurd (omega arith)
no_chip (s ∷ specs) (r ∷ roms) (suc i) past = no_chip specs roms i (omega arith)

pub has_source : (specs : List ChipSpec) (roms : List (Option SourceRom)) (i : ℕ) (P : DescribedSource → Type 0)
    → IsSomeAnd (source_in (slice_get (seen_chips specs roms) i)) P → i < length roms
has_source [] roms i P h = absurd h
has_source (s ∷ specs) [] i P h = absurd h
has_source (s ∷ specs) (r ∷ roms) zero P h = omega arith
has_source (s ∷ specs) (r ∷ roms) (suc i) P h =
    let rest = has_source specs roms i P h in omega (arith, rest)

pub source_has : (specs : List ChipSpec) (roms : List (Option SourceRom)) (i : ℕ) (rom : SourceRom) (P : DescribedSource → Type 0)
    → length specs ≡ length roms → i < length roms → get_or roms i (Some rom) ≡ Some rom
    → IsSomeAnd (source_in (slice_get (seen_chips specs roms) i)) P → P (seen_source rom.source)
source_has specs roms i rom P same within at h =
    subst (λ (source : Option DescribedSource). IsSomeAnd source P) (source_seen specs roms i (Some rom) same within at) h

pub no_source : (specs : List ChipSpec) (roms : List (Option SourceRom)) (i : ℕ) (P : DescribedSource → Type 0) → length specs ≡ length roms
    → i < length roms → get_or roms i None ≡ None → IsSomeAnd (source_in (slice_get (seen_chips specs roms) i)) P → ⊥
no_source specs roms i P same within at h =
    subst (λ (source : Option DescribedSource). IsSomeAnd source P) (source_seen specs roms i None same within at) h

-- the bytes of a source are those of its room
pub rom_fits : (specs : List ChipSpec) (roms : List (Option SourceRom)) (i : ℕ) (rom : SourceRom) → All IsPlannedChip (seen_chips specs roms)
    → length specs ≡ length roms → i < length roms → get_or roms i (Some rom) ≡ Some rom
    → rom.source.room.first + length rom.bytes.items ≡ rom.source.room.last + 1
rom_fits specs [] i rom all same within at = absurd (omega arith)
rom_fits [] (r ∷ roms) i rom all same within at = absurd (omega arith)
rom_fits (s ∷ specs) (r ∷ roms) zero rom all same within at =
    let one = All-head IsPlannedChip (seen_pair s r) (seen_chips specs roms) all in
    let has : IsRomOf s (seen_rom rom) = subst (λ (o : Option SourceRom). HasRom s (option_map seen_rom o)) at one.has_rom in
    has.room
rom_fits (s ∷ specs) (r ∷ roms) (suc i) rom all same within at =
    rom_fits specs roms i rom (All-tail IsPlannedChip (seen_pair s r) (seen_chips specs roms) all) (omega arith) (omega arith) at

-- ---- bytes are put

pub length-rom_with : (first : ℕ) (bytes : List (ℕ × ℕ)) (rom : List ℕ) → length (rom_with first bytes rom) ≡ length rom
length-rom_with first [] rom = refl
length-rom_with first (b ∷ bs) rom = length-rom_with first bs (set rom (b.0 - first) b.1) ∙ length-set rom (b.0 - first) b.1

filled-plan_without_images : (bytes : List (ℕ × ℕ)) (chip : PlannedChip) → IsPlannedChip chip → IsPlannedChip (filled_chip bytes chip)
filled-plan_without_images bytes chip is = record { specified = is.specified; no_blank = is.no_blank; has_rom = kept chip.source is.has_rom }
  where
    kept : (source : Option PlannedSource) → HasRom chip.spec source → HasRom chip.spec (option_map (filled_source bytes) source)
    kept None has = tt
    kept (Some s) has =
        let size = length-rom_with s.source.room.first bytes s.bytes in
        record { rom = size ∙ has.rom; room = ap (λ (n : ℕ). s.source.room.first + n) size ∙ has.room }

changed-all : (bytes : List (ℕ × ℕ)) (i : ℕ) (chips : List PlannedChip) → All IsPlannedChip chips →
    All IsPlannedChip (with_change_at (filled_chip bytes) i chips)
changed-all bytes i [] all = all
changed-all bytes zero (c ∷ chips) all =
    All-cons IsPlannedChip (filled_chip bytes c) chips
    (filled-plan_without_images bytes c (All-head IsPlannedChip c chips all)) (All-tail IsPlannedChip c chips all)
changed-all bytes (suc i) (c ∷ chips) all =
    All-cons IsPlannedChip c (with_change_at (filled_chip bytes) i chips) (All-head IsPlannedChip c chips all)
    (changed-all bytes i chips (All-tail IsPlannedChip c chips all))

length-changed : {A : Type 0} (change : A → A) (i : ℕ) (xs : List A) → length (with_change_at change i xs) ≡ length xs
length-changed change i [] = refl
length-changed change zero (x ∷ xs) = refl
length-changed change (suc i) (x ∷ xs) = ap suc (length-changed change i xs)

filled-plan : (bytes : List (ℕ × ℕ)) (i : ℕ) (chips : List PlannedChip) → IsPlan chips → IsPlan (with_change_at (filled_chip bytes) i chips)
filled-plan bytes i chips is =
    let size = length-changed (filled_chip bytes) i chips in
    let few = is.few in
    record { few = omega (arith, size, few); each = changed-all bytes i chips is.each }

pub seen-filled : (bytes : List (ℕ × ℕ)) (specs : List ChipSpec) (roms : List (Option SourceRom)) (i : ℕ) (old new : SourceRom) → length specs ≡ length roms
    → i < length roms → get_or roms i (Some old) ≡ Some old → seen_rom new ≡ filled_source bytes (seen_rom old)
    → seen_chips specs (set roms i (Some new)) ≡ with_change_at (filled_chip bytes) i (seen_chips specs roms)
seen-filled bytes specs [] i old new same within at is = absurd (omega arith)
seen-filled bytes [] (r ∷ roms) i old new same within at is = absurd (omega arith)
seen-filled bytes (s ∷ specs) (r ∷ roms) zero old new same within at is =
    ap (λ (source : Option PlannedSource). record { spec = s; source = source } ∷ seen_chips specs roms)
    (ap Some is ∙ ap (λ (rom : Option SourceRom). option_map (filled_source bytes) (option_map seen_rom rom)) (sym at))
seen-filled bytes (s ∷ specs) (r ∷ roms) (suc i) old new same within at is =
    ap (λ (cs : List PlannedChip). seen_pair s r ∷ cs) (seen-filled bytes specs roms i old new (omega arith) (omega arith) at is)

pub still_whole : (split : List ℕ) (powers : List PowerOn) (bytes : List (ℕ × ℕ)) (specs : List ChipSpec) (roms : List (Option SourceRom)) (i : ℕ)
    (old new : SourceRom) → length specs ≡ length roms → i < length roms → get_or roms i (Some old) ≡ Some old
    → seen_rom new ≡ filled_source bytes (seen_rom old) → IsWholePlan (seen_plan split specs roms powers)
    → (length specs ≡ length (set roms i (Some new))) × IsWholePlan (seen_plan split specs (set roms i (Some new)) powers)
still_whole split powers bytes specs roms i old new same within at is plan =
    let size : length (seen_chips specs (set roms i (Some new))) ≡ length (seen_chips specs roms) =
    ap length (seen-filled bytes specs roms i old new same within at is) ∙ length-changed (filled_chip bytes) i (seen_chips specs roms) in (
      same ∙ sym (length-set roms i (Some new)),
      record {
        chips = rw (seen-filled bytes specs roms i old new same within at is) (filled-plan bytes i (seen_chips specs roms) plan.chips);
        paired = plan.paired ∙ sym size;
      },
    )

-- ---- the chips of a plan can be fitted, with the bytes of their sources too

with_rom-spec : (rom : List ℕ) (spec : ChipSpec) → length rom ≡ length (rom_of spec) → IsSpec spec → IsSpec (with_rom rom spec)
with_rom-spec rom (Blank kind) same is = tt
with_rom-spec rom (Psu base old ports vector wired) same is =
    record { bytes = same ∙ is.bytes; boundary = is.boundary; four_ports = is.four_ports }
with_rom-spec rom (Smi pages old wired) same is = record { ascending = is.ascending; bytes = same ∙ is.bytes }
with_rom-spec rom (Pio ports vector wired) same is = is

with_rom-blank : (rom : List ℕ) (spec : ChipSpec) → is_blank (with_rom rom spec) ≡ is_blank spec
with_rom-blank rom (Blank kind) = refl
with_rom-blank rom (Psu base old ports vector wired) = refl
with_rom-blank rom (Smi pages old wired) = refl
with_rom-blank rom (Pio ports vector wired) = refl

from-spec : (source : Option PlannedSource) (spec : ChipSpec) → HasRom spec source → IsSpec spec → IsSpec (spec_from source spec)
from-spec None spec has is = is
from-spec (Some s) spec has is = with_rom-spec s.bytes spec has.rom is

from-blank : (source : Option PlannedSource) (spec : ChipSpec) → is_blank (spec_from source spec) ≡ is_blank spec
from-blank None spec = refl
from-blank (Some s) spec = with_rom-blank s.bytes spec

record AreFit (count : ℕ) (specs : List ChipSpec) : Type 0 where
  size : length specs ≡ count
  specified : All IsSpec specs
  none_blank : All (λ s. is_blank s ≡ false) specs

are-fit : (chips : List PlannedChip) → All IsPlannedChip chips → AreFit (length chips) (map specification_of chips)
are-fit [] all = record { size = refl; specified = All-nil IsSpec; none_blank = All-nil (λ s. is_blank s ≡ false) }
are-fit (c ∷ chips) all =
    let one = All-head IsPlannedChip c chips all in
    let rest = are-fit chips (All-tail IsPlannedChip c chips all) in record {
      size = ap suc rest.size;
      specified = All-cons IsSpec (specification_of c) (map specification_of chips) (from-spec c.source c.spec one.has_rom one.specified) rest.specified;
      none_blank = All-cons (λ s. is_blank s ≡ false) (specification_of c) (map specification_of chips)
          (from-blank c.source c.spec ∙ one.no_blank) rest.none_blank;
    }

pub finished_fit : (chips : List PlannedChip) → IsPlan chips → IsChipList (map specification_of chips)
finished_fit chips is =
    let fit = are-fit chips is.each in
    let size = fit.size in
    let few = is.few in
    record { few = omega (arith, size, few); specified = fit.specified; none_blank = fit.none_blank }
