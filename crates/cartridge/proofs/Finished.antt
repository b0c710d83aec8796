-- The chips of a plan are finished, one after another.
use Rattle.std.proofs.Common.{◌≡◌, ℕ, ◌+◌, ◌<◌, ◌≤◌, true, false, cond, List, [], ◌∷◌, ◌++◌, length, map, get_or, set}
use Rattle.std.proofs.Common.{take, drop, Option, Some, None, refl, sym, ap, ◌∙◌, arith, subst, length-set}
use Rattle.std.specs.Prelude.{position, nat_lt, not}
use Rattle.std.specs.List.{position_or_len}
use Rattle.std.proofs.lemmas.Bool.Decides.{nat_tests}
use Rattle.std.proofs.lemmas.List.{drop_more, drop-set-lt, take_more_set, map_more, take_all, set-get_or, get_or_default}
use Rattle.std.proofs.lemmas.List.Sums.{position_or_len_is}
use borrow.Author.Count.{below_more}
use Rattle.f8_spec.specs.declared.chips.ChipKind.TheVariants.{Psu}
use Rattle.chip_face.specs.declared.specification.ChipSpec.{ChipSpec}
use Rattle.chip_face.specs.declared.specification.ChipSpec.TheVariants.{Blank}
use Rattle.cartridge.specs.declared.rom_source.SourceRom.{SourceRom}
use Rattle.cartridge.specs.Filling.{PlannedChip}
use Rattle.cartridge.specs.Carts.{specification_of, wants_image}
use Rattle.cartridge.specs.Plans.{seen_chips}
use Rattle.cartridge.proofs.PlannedChips.{seen_pair, length-seen_chips}

-- where a list has no chip
abbrev no_spec : ChipSpec
no_spec = Blank Psu

-- the chips below i are finished, and the others are as they were
pub record FinishedBelow (all : List PlannedChip) (i : ℕ) (specs : List ChipSpec) (roms : List (Option SourceRom)) : Type 0 where
  pub size : length specs ≡ length all
  pub paired : length roms ≡ length all
  pub done : take i specs ≡ map specification_of (take i all)
  pub rest : seen_chips (drop i specs) (drop i roms) ≡ drop i all
  pub filled : (d : PlannedChip) (k : ℕ) → k < i → wants_image (get_or all k d) ≡ false

pub none_finished : (specs : List ChipSpec) (roms : List (Option SourceRom)) → length specs ≡ length roms → FinishedBelow (seen_chips specs roms) 0 specs roms
none_finished specs roms same =
    let size = length-seen_chips specs roms same in record {
      size = sym size;
      paired = omega (arith, size);
      done = refl;
      rest = refl;
      filled = λ d k h. absurd (omega arith);
    }

record Here (all : List PlannedChip) (i : ℕ) (specs : List ChipSpec) (roms : List (Option SourceRom)) (spec : ChipSpec) (rom : Option SourceRom) : Type 0 where
  chip : (d : PlannedChip) → get_or all i d ≡ seen_pair spec rom
  behind : seen_chips (drop (i + 1) specs) (drop (i + 1) roms) ≡ drop (i + 1) all

heads : {A : Type 0} (x y : A) (xs ys : List A) → x ∷ xs ≡ y ∷ ys → (x ≡ y) × (xs ≡ ys)
heads x y xs ys e = (cc, cc)

here : (all : List PlannedChip) (i : ℕ) (specs : List ChipSpec) (roms : List (Option SourceRom)) (spec : ChipSpec) (rom : Option SourceRom)
    → FinishedBelow all i specs roms → i < length all → get_or specs i spec ≡ spec → get_or roms i rom ≡ rom → Here all i specs roms spec rom
here all i specs roms spec rom so_far within at_spec at_rom =
    let size = so_far.size in
    let paired = so_far.paired in
    let of_specs : drop i specs ≡ spec ∷ drop (i + 1) specs =
    drop_more specs i spec (omega (arith, size)) ∙ ap (λ (s : ChipSpec). s ∷ drop (i + 1) specs) at_spec in
    let of_roms : drop i roms ≡ rom ∷ drop (i + 1) roms =
    drop_more roms i rom (omega (arith, paired)) ∙ ap (λ (r : Option SourceRom). r ∷ drop (i + 1) roms) at_rom in
    let both : seen_pair spec rom ∷ seen_chips (drop (i + 1) specs) (drop (i + 1) roms) ≡ drop i all = rw (of_specs, of_roms) at so_far.rest in
    record {
      chip = λ d. sym (heads _ _ _ _ (both ∙ drop_more all i d within)).0;
      behind = (heads _ _ _ _ (both ∙ drop_more all i (seen_pair spec rom) within)).1;
    }

pub one_finished : (all : List PlannedChip) (i : ℕ) (specs : List ChipSpec) (roms : List (Option SourceRom)) (spec : ChipSpec) (rom : Option SourceRom)
    → FinishedBelow all i specs roms → i < length all → get_or specs i spec ≡ spec → get_or roms i rom ≡ rom → wants_image (seen_pair spec rom) ≡ false
    → FinishedBelow all (i + 1) (set specs i (specification_of (seen_pair spec rom))) (set roms i None)
one_finished all i specs roms spec rom so_far within at_spec at_rom full =
    let pair : PlannedChip = seen_pair spec rom in
    let at = here all i specs roms spec rom so_far within at_spec at_rom in
    let size = so_far.size in
    let below : i < length specs = omega (arith, size) in
    let next : i < i + 1 = omega arith in
    record {
      size = length-set specs i (specification_of pair) ∙ size;
      paired = length-set roms i None ∙ so_far.paired;
      done =
          take_more_set specs i (specification_of pair) below
          ∙ ap (λ (front : List ChipSpec). front ++ specification_of pair ∷ []) so_far.done
          ∙ ap (λ (c : PlannedChip). map specification_of (take i all) ++ specification_of c ∷ []) (sym (at.chip pair))
          ∙ sym (map_more specification_of all i pair within);
      rest =
          ap (λ (ss : List ChipSpec). seen_chips ss (drop (i + 1) (set roms i None))) (drop-set-lt (i + 1) specs i (specification_of pair) next)
          ∙ ap (λ (rs : List (Option SourceRom)). seen_chips (drop (i + 1) specs) rs) (drop-set-lt (i + 1) roms i None next)
          ∙ at.behind;
      filled = λ d. below_more (λ (k : ℕ). wants_image (get_or all k d) ≡ false) i (so_far.filled d) (ap wants_image (at.chip d) ∙ full);
    }

-- a chip that has no source stays as it is
pub none_to_finish : (all : List PlannedChip) (i : ℕ) (specs : List ChipSpec) (roms : List (Option SourceRom)) → FinishedBelow all i specs roms
    → i < length all → get_or roms i None ≡ None → FinishedBelow all (i + 1) specs (set roms i None)
none_to_finish all i specs roms so_far within at_rom =
    let size = so_far.size in
    subst (λ (ss : List ChipSpec). FinishedBelow all (i + 1) ss (set roms i None)) (set-get_or specs i no_spec)
    (one_finished all i specs roms (get_or specs i no_spec) None so_far within (get_or_default specs i _ no_spec (omega (arith, size))) at_rom refl)

chosen-below : (n size : ℕ) → n < size → cond (nat_lt n size) (Some n) None ≡ Some n
chosen-below n size below = grind (arith, nat_tests)

chosen-past : (n size : ℕ) → size ≤ n → cond (nat_lt n size) (Some n) None ≡ None
chosen-past n size past = grind (arith, nat_tests)

-- the first chip that wants an image
pub first_unfilled : (all : List PlannedChip) (i : ℕ) (specs : List ChipSpec) (roms : List (Option SourceRom)) (rom : SourceRom)
    → FinishedBelow all i specs roms → i < length all → get_or roms i (Some rom) ≡ Some rom → not rom.filled ≡ true
    → position wants_image all ≡ Some i
first_unfilled all i specs roms rom so_far within at_rom wants =
    let size = so_far.size in
    let spec : ChipSpec = get_or specs i no_spec in
    let at_spec = get_or_default specs i spec no_spec (omega (arith, size)) in
    let pair : PlannedChip = seen_pair spec (Some rom) in
    let at = here all i specs roms spec (Some rom) so_far within at_spec at_rom in
    let place : position_or_len wants_image all ≡ i =
    position_or_len_is wants_image all i pair (omega arith) (so_far.filled pair) (λ h. ap wants_image (at.chip pair) ∙ wants) in
    subst (λ (n : ℕ). cond (nat_lt n (length all)) (Some n) None ≡ Some i) (sym place) (chosen-below i (length all) within)

-- ---- all of them

pub none_unfilled : (all : List PlannedChip) (i : ℕ) (specs : List ChipSpec) (roms : List (Option SourceRom)) → FinishedBelow all i specs roms → i ≡ length all
    → position wants_image all ≡ None
none_unfilled [] i specs roms so_far end = refl
none_unfilled (c ∷ all) i specs roms so_far end =
    let place : position_or_len wants_image (c ∷ all) ≡ i =
    position_or_len_is wants_image (c ∷ all) i c (omega arith) (so_far.filled c) (λ h. absurd (omega arith)) in
    subst (λ (n : ℕ). cond (nat_lt n (length (c ∷ all))) (Some n) None ≡ None) (sym place) (chosen-past i (length (c ∷ all)) (omega arith))

pub all_finished : (all : List PlannedChip) (i : ℕ) (specs : List ChipSpec) (roms : List (Option SourceRom)) → FinishedBelow all i specs roms → i ≡ length all
    → specs ≡ map specification_of all
all_finished all i specs roms so_far end =
    let size = so_far.size in
    sym (take_all i specs (omega (arith, size))) ∙ so_far.done ∙ ap (map specification_of) (take_all i all (omega arith))
