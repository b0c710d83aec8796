-- A table that describes a chip describes the same chip once it is migrated.
use Rattle.std.proofs.Common.{◌≡◌, ℕ, Bool, true, false, ◌||◌, List, [], ◌∷◌, Option, Some, None, Ok, is_eq, refl, ◌∙◌}
use Rattle.std.specs.Prelude.{bytes_eq}
use Rattle.toml.specs.Data.{array, Members}
use Rattle.f8_spec.specs.declared.chips.ChipKind.{ChipKind}
use Rattle.f8_spec.specs.declared.chips.ChipKind.TheVariants as kind
use Rattle.f8_spec.specs.declared.chips.Page.{Page}
use Rattle.f8_asm.specs.declared.answers.Room.{Room}
use Rattle.cartridge.specs.declared.format.CartFormat.TheVariants.{One, Two}
use Rattle.cartridge.specs.declared.keys.Key.{Key}
use Rattle.cartridge.specs.declared.keys.Key.TheVariants.{Kind, Base, Ports, Vector, Pages, Interrupt, Fill, Start, Rom, Source, Other}
use Rattle.cartridge.specs.declared.page_run.PageRun.{PageRun}
use Rattle.cartridge.specs.declared.refusal.CartCause.TheVariants.{Unknown}
use Rattle.cartridge.specs.Keys.{value_at, key_word, is_spelled, are_known, known, psu_keys, smi_keys, run_keys}
use Rattle.cartridge.specs.Values.{value_needed, kind_in}
use Rattle.cartridge.specs.ChipTables.{DescribedChip, three_runs, source_with, smi_with, smi_of, chip_of_kind, chip_of}
use Rattle.cartridge.specs.Pages.{pages_of, rom_room}
use Rattle.cartridge.specs.Migrated.{run_texts, with_value, without_keys, with_pages, migrated_chip}
use Rattle.cartridge.proofs.Answered.{bind-ok, if-ok}
use Rattle.cartridge.proofs.MemberLookups.{compared, put_found, put_other, left_other, known_put, known_left, known_more}
use Rattle.cartridge.proofs.MigratedRuns.{texts_read, pages_of_kept, three_runs-apart}

pub known-ok : (keys : List Key) (chip : Members) (u : Unit {0}) → known keys chip ≡ Ok u → are_known keys chip ≡ true
known-ok keys chip u h = (if-ok (are_known keys chip) tt u (record { key = Other; cause = Unknown }) h).0

pub known-yes : (keys : List Key) (chip : Members) → are_known keys chip ≡ true → known keys chip ≡ Ok tt
known-yes keys chip h = rw h

abbrev word_is : List ℕ → Key → Bool
word_is name key = bytes_eq name (key_word key)

-- ---- a 3851

or-more : (a b c d e f g h : Bool) → (a || (b || (c || (d || (e || (f || (g || false))))))) ≡ true
    → (a || (b || (c || (d || (e || (f || (g || (h || false)))))))) ≡ true
or-more true b c d e f g h is = refl
or-more false true c d e f g h is = refl
or-more false false true d e f g h is = refl
or-more false false false true e f g h is = refl
or-more false false false false true f g h is = refl
or-more false false false false false true g h is = refl
or-more false false false false false false true h is = refl
or-more false false false false false false false h is = cc is

-- a 3851 has the keys of format 1 in format 2, too
psu_spelled : (name : List ℕ) → is_spelled (psu_keys One) name ≡ true → is_spelled (psu_keys Two) name ≡ true
psu_spelled name is =
    or-more (word_is name Kind) (word_is name Interrupt) (word_is name Rom) (word_is name Source) (word_is name Base) (word_is name Ports) (word_is name Vector)
    (word_is name Start) is

psu_migrated : (chip : Members) (c : DescribedChip) → value_needed Kind kind_in chip ≡ Ok kind.Psu → chip_of_kind One kind.Psu chip ≡ Ok c
    → chip_of Two chip ≡ Ok c
unfolding chip_of
psu_migrated chip c at_kind h =
    bind-ok (chip_of Two chip ≡ Ok c) (known (psu_keys One) chip) _ c h (λ u knows h.
    rw (at_kind, known-yes (psu_keys Two) chip (known_more (psu_keys One) (psu_keys Two) chip psu_spelled (known-ok (psu_keys One) chip u knows))) h)

-- ---- a 3853

or-fewer : (a b c d e : Bool) (more : Bool) → (a || (b || (c || (d || e)))) ≡ true → e ≡ false → (a || (b || (c || (d || more)))) ≡ true
or-fewer true b c d e more is gone = refl
or-fewer false true c d e more is gone = refl
or-fewer false false true d e more is gone = refl
or-fewer false false false true e more is gone = refl
or-fewer false false false false e more is gone = cc (is, gone)

-- a 3853 without the keys of three runs has keys of format 2 alone
smi_spelled : (name : List ℕ) → is_spelled (smi_keys One) name ≡ true → is_spelled run_keys name ≡ false → is_spelled (smi_keys Two) name ≡ true
smi_spelled name is gone =
    or-fewer (word_is name Kind) (word_is name Interrupt) (word_is name Rom) (word_is name Source) (is_spelled run_keys name)
    (is_spelled (Pages ∷ Fill ∷ Start ∷ []) name) is gone

abbrev page_chip : List PageRun → Members → Members
page_chip runs chip = with_value (key_word Pages) (array (run_texts runs)) (without_keys run_keys chip)

-- a key that is neither that of pages nor one of three runs has what it had
stays : (runs : List PageRun) (chip : Members) (key : Key) → is_eq (compared (key_word key) (key_word Pages)) ≡ false
    → is_spelled run_keys (key_word key) ≡ false → value_at key (page_chip runs chip) ≡ value_at key chip
stays runs chip key other left =
    put_other (key_word key) (key_word Pages) (array (run_texts runs)) (without_keys run_keys chip) other ∙ left_other run_keys (key_word key) chip left

source_same : (room : Option Room) (new old : Members) → value_at Rom new ≡ value_at Rom old → value_at Source new ≡ value_at Source old
    → source_with room new ≡ source_with room old
source_same None new old rom source = rw (rom, source)
source_same (Some room) new old rom source = rw (rom, source)

-- what is said of a 3853 with some pages goes by five keys
same_values : (pages : List Page) (new old : Members) → value_at Interrupt new ≡ value_at Interrupt old → value_at Fill new ≡ value_at Fill old
    → value_at Start new ≡ value_at Start old → value_at Rom new ≡ value_at Rom old → value_at Source new ≡ value_at Source old
    → smi_with pages new ≡ smi_with pages old
unfolding smi_with
same_values pages new old interrupt fill start rom source =
    rw (source_same (rom_room pages) new old rom source, interrupt, fill, start, rom)

pages_chip : (runs : List PageRun) (chip : Members) (c : DescribedChip) → three_runs chip ≡ Ok runs → smi_with (pages_of runs) chip ≡ Ok c
    → smi_of Two (page_chip runs chip) ≡ Ok c
unfolding smi_of
pages_chip runs chip c at_runs h =
    let there = put_found (key_word Pages) (array (run_texts runs)) (without_keys run_keys chip) in
    rw (there, texts_read runs (three_runs-apart chip runs at_runs), pages_of_kept runs)
    (same_values (pages_of runs) (page_chip runs chip) chip (stays runs chip Interrupt refl refl) (stays runs chip Fill refl refl)
    (stays runs chip Start refl refl) (stays runs chip Rom refl refl) (stays runs chip Source refl refl) ∙ h)

page_chip_known : (runs : List PageRun) (chip : Members) → are_known (smi_keys One) chip ≡ true → are_known (smi_keys Two) (page_chip runs chip) ≡ true
page_chip_known runs chip all =
    known_put (smi_keys Two) (key_word Pages) (array (run_texts runs)) (without_keys run_keys chip) refl
    (known_left (smi_keys One) run_keys (smi_keys Two) chip smi_spelled all)

page_chip_read : (runs : List PageRun) (chip : Members) (c : DescribedChip) → value_needed Kind kind_in chip ≡ Ok kind.Smi
    → are_known (smi_keys One) chip ≡ true → three_runs chip ≡ Ok runs → smi_with (pages_of runs) chip ≡ Ok c
    → chip_of Two (page_chip runs chip) ≡ Ok c
unfolding chip_of
page_chip_read runs chip c at_kind all at_runs h =
    rw (stays runs chip Kind refl refl, at_kind, known-yes (smi_keys Two) (page_chip runs chip) (page_chip_known runs chip all))
    (pages_chip runs chip c at_runs h)

smi_migrated : (chip : Members) (c : DescribedChip) → value_needed Kind kind_in chip ≡ Ok kind.Smi → chip_of_kind One kind.Smi chip ≡ Ok c
    → chip_of Two (with_pages (three_runs chip) chip) ≡ Ok c
unfolding smi_of
smi_migrated chip c at_kind h =
    bind-ok (chip_of Two (with_pages (three_runs chip) chip) ≡ Ok c) (known (smi_keys One) chip) _ c h (λ u knows h.
    bind-ok (chip_of Two (with_pages (three_runs chip) chip) ≡ Ok c) (three_runs chip) _ c h (λ runs at_runs h.
    rw at_runs (page_chip_read runs chip c at_kind (known-ok (smi_keys One) chip u knows) at_runs h)))

-- ---- a chip

either_migrated : (k : ChipKind) (chip : Members) (c : DescribedChip) → value_needed Kind kind_in chip ≡ Ok k → chip_of_kind One k chip ≡ Ok c
    → chip_of Two (migrated_chip chip) ≡ Ok c
either_migrated kind.Psu chip c at_kind h = rw at_kind (psu_migrated chip c at_kind h)
either_migrated kind.Smi chip c at_kind h = rw at_kind (smi_migrated chip c at_kind h)
either_migrated kind.Pio chip c at_kind h = cc h

pub chip_migrated : (chip : Members) (c : DescribedChip) → chip_of One chip ≡ Ok c → chip_of Two (migrated_chip chip) ≡ Ok c
unfolding chip_of
chip_migrated chip c h =
    bind-ok (chip_of Two (migrated_chip chip) ≡ Ok c) (value_needed Kind kind_in chip) _ c h (λ k at_kind h. either_migrated k chip c at_kind h)
