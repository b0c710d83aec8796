-- What the chips that hold a page say of an address in it, and a map that is made page by page.
use Rattle.std.proofs.Common.{◌≡◌, ℕ, suc, ◌+◌, ◌*◌, ◌/◌, ◌%◌, ◌<◌, List, [], ◌∷◌, ◌++◌, length, map, refl, sym, ap}
use Rattle.std.proofs.Common.{subst, Bool, false, ◌∙◌, arith, length-append, get_or-set_other, get_or-set_same, inl, inr, ◌-◌}
use Rattle.std.specs.Prelude.{◌↔◌, IsTrue, All, filter_map, is_some, if◌then◌else◌, slice_index, slice_index_or, slice_set, Option, Some}
use Rattle.std.specs.Prelude.{None, option_map}
use Rattle.std.specs.List.{enumerate_from, cons_option, list_any, list_all}
use Rattle.std.proofs.lemmas.List.{get_or-replicate, length-replicate, get_or_append_left, get_or-append_right, length-set}
use Rattle.std.proofs.lemmas.Bool.{cases_lt, cases_eq}
use Rattle.f8_spec.specs.ChipState.{sort_at, held_byte}
use Rattle.f8_spec.specs.declared.chips.ChipKind.{ChipKind}
use Rattle.f8_spec.specs.declared.chips.ChipKind.TheVariants.{Psu, Smi, Pio}
use Rattle.f8_spec.specs.declared.chips.PageSort.{PageSort}
use Rattle.f8_spec.specs.declared.chips.PageSort.TheVariants.{Rom, Ram, Void}
use Rattle.console_spec.specs.FlatMemory.{sort_among, only_of, holding, fixed_byte_by}
use Rattle.console_spec.specs.declared.Sort.TheVariants.{Shared as ManyChips}
use Rattle.chip_face.specs.Fitting.{IsSpec, fitted, rom_size}
use Rattle.chip_face.specs.declared.specification.ChipSpec.{ChipSpec}
use Rattle.memory_map.specs.ChipPages.{PageView, chip_page}
use Rattle.memory_map.specs.Holders.{OwnedPage, Empty, followed_by, holders_from, holder_of, owned_page}
use Rattle.memory_map.specs.MapEntries.{entry_of, bytes_by, page_bytes, is_held_once, is_shared}
use Rattle.memory_map.specs.MapKinds.{kind_holds, kind_has_pages, IsCovered, Overlap, is_written, told_vector}
use Rattle.memory_map.specs.KindTables.{AreKindPages}
use Rattle.memory_map.specs.MapOf.{MapTable, Tells, IsMapOf, mapped_sort, mapped_owner, mapped_byte, mapped_readers}
use Rattle.memory_map.specs.MapOf.{kind_pages, mapped_held, mapped_any, mapped_covered, mapped_overlaps, mapped_wired, mapped_vectors}
use Rattle.memory_map.specs.MapOf.{mapped_written}
use Rattle.memory_map.specs.MapOf.{mapped_takers, page_sort, sort_by, owner_by, seats_of, views_of}
use Rattle.memory_map.specs.MapPorts.{AreReaders, AreTakers}
use Rattle.memory_map.specs.declared.entry.Entry.{Entry}
use Rattle.memory_map.specs.declared.entry.Entry.TheVariants.{Nothing}
use Rattle.memory_map.proofs.Held.{PageTells-from_IsSpec, fitted_byte, whole-chip_page}
use Rattle.memory_map.proofs.Summary.{SortsBy, covered_by, overlap_by, any-views, told-views}

-- ---- all holders of a page

rest_of : (chip : ChipSpec) (chips : List ChipSpec) → All IsSpec (chip ∷ chips) → All IsSpec chips
rest_of chip chips specs = λ k d below. specs (suc k) d (omega arith)

first_of : (chip : ChipSpec) (chips : List ChipSpec) → All IsSpec (chip ∷ chips) → IsSpec chip
first_of chip chips specs = specs 0 chip (omega arith)

-- the sorts of an address in the chips that hold it
sorts_held : (at place : ℕ) (chips : List ChipSpec) → All IsSpec chips →
    filter_map (λ s. sort_at s.pages at) (seats_of chips) ≡ map (λ x. x.1.sort) (holders_from (at / 256) place chips)
unfolding holders_from
sorts_held at place [] specs = refl
sorts_held at place (chip ∷ chips) specs =
    let tells = PageTells-from_IsSpec chip at (first_of chip chips specs) in
    rw tells.sort (step (chip_page (at / 256) chip) (sorts_held at (place + 1) chips (rest_of chip chips specs)))
  where
    step : (page : Option PageView) →
        filter_map (λ s. sort_at s.pages at) (seats_of chips) ≡ map (λ x. x.1.sort) (filter_map (owned_page (at / 256)) (enumerate_from (place + 1) chips)) →
        cons_option (option_map (λ p. p.sort) page) (filter_map (λ s. sort_at s.pages at) (seats_of chips))
        ≡ map (λ x. x.1.sort) (cons_option (option_map (λ p. (place, p)) page) (filter_map (owned_page (at / 256)) (enumerate_from (place + 1) chips)))
    step None later = later
    step (Some p) later = ap (λ l. p.sort ∷ l) later

-- their places
owners_held : (at place : ℕ) (chips : List ChipSpec) → All IsSpec chips →
    filter_map (holding at) (enumerate_from place (seats_of chips)) ≡ map (λ x. x.0) (holders_from (at / 256) place chips)
unfolding holders_from
owners_held at place [] specs = refl
owners_held at place (chip ∷ chips) specs =
    let tells = PageTells-from_IsSpec chip at (first_of chip chips specs) in
    rw tells.held (step (chip_page (at / 256) chip) (owners_held at (place + 1) chips (rest_of chip chips specs)))
  where
    step : (page : Option PageView) →
        filter_map (holding at) (enumerate_from (place + 1) (seats_of chips))
        ≡ map (λ x. x.0) (filter_map (owned_page (at / 256)) (enumerate_from (place + 1) chips)) →
        cons_option (if is_some page then Some place else None) (filter_map (holding at) (enumerate_from (place + 1) (seats_of chips)))
        ≡ map (λ x. x.0) (cons_option (option_map (λ p. (place, p)) page) (filter_map (owned_page (at / 256)) (enumerate_from (place + 1) chips)))
    step None later = later
    step (Some p) later = ap (λ l. place ∷ l) later

-- the bytes there
bytes_held : (at place : ℕ) (chips : List ChipSpec) → All IsSpec chips →
    filter_map (λ v. held_byte v at) (views_of chips) ≡ map (λ x. fitted_byte x.1.sort x.1.rom (at % 256)) (holders_from (at / 256) place chips)
unfolding holders_from
bytes_held at place [] specs = refl
bytes_held at place (chip ∷ chips) specs =
    let tells = PageTells-from_IsSpec chip at (first_of chip chips specs) in
    rw tells.byte (step (chip_page (at / 256) chip) (bytes_held at (place + 1) chips (rest_of chip chips specs)))
  where
    step : (page : Option PageView) →
        filter_map (λ v. held_byte v at) (views_of chips)
        ≡ map (λ x. fitted_byte x.1.sort x.1.rom (at % 256)) (filter_map (owned_page (at / 256)) (enumerate_from (place + 1) chips)) →
        cons_option (option_map (λ p. fitted_byte p.sort p.rom (at % 256)) page) (filter_map (λ v. held_byte v at) (views_of chips))
        ≡ map (λ x. fitted_byte x.1.sort x.1.rom (at % 256))
        (cons_option (option_map (λ p. (place, p)) page)
        (filter_map (owned_page (at / 256)) (enumerate_from (place + 1) chips)))
    step None later = later
    step (Some p) later = ap (λ l. fitted_byte p.sort p.rom (at % 256) ∷ l) later

-- ---- the page by its holders

one_sort : (sort : PageSort) → sort_among (sort ∷ []) ≡ page_sort sort
one_sort Rom = refl
one_sort Ram = refl
one_sort Void = refl

many_sorts : (s t : PageSort) (ss : List PageSort) → sort_among (s ∷ (t ∷ ss)) ≡ ManyChips
many_sorts Rom t ss = refl
many_sorts Ram t ss = refl
many_sorts Void t ss = refl

sort_by-entry_of : (held : List OwnedPage) → sort_among (map (λ x. x.1.sort) held) ≡ sort_by (entry_of (followed_by Empty held))
sort_by-entry_of [] = refl
sort_by-entry_of (x ∷ []) = one_sort x.1.sort
sort_by-entry_of (x ∷ (y ∷ later)) = many_sorts x.1.sort y.1.sort (map (λ z. z.1.sort) later)

owner_by-entry_of : (held : List OwnedPage) → only_of (map (λ x. x.0) held) ≡ owner_by (entry_of (followed_by Empty held))
owner_by-entry_of [] = refl
owner_by-entry_of (x ∷ []) = refl
owner_by-entry_of (x ∷ (y ∷ later)) = refl

one_byte : (sort : PageSort) (rom : List ℕ) (offset : ℕ) → offset < 256 →
    fixed_byte_by (page_sort sort) (Some (fitted_byte sort rom offset)) ≡ fixed_byte_by (page_sort sort) (Some (slice_index (bytes_by sort rom) offset))
one_byte Rom rom offset within = refl
one_byte Ram rom offset within = refl
one_byte Void rom offset within = ap Some (sym (get_or-replicate 256 offset 255 0 within))

byte_by-page_bytes : (held : List OwnedPage) (offset : ℕ) → offset < 256 →
    fixed_byte_by (sort_by (entry_of (followed_by Empty held))) (only_of (map (λ x. fitted_byte x.1.sort x.1.rom offset) held))
    ≡ fixed_byte_by (sort_by (entry_of (followed_by Empty held))) (Some (slice_index (page_bytes (followed_by Empty held)) offset))
byte_by-page_bytes [] offset within = refl
byte_by-page_bytes (x ∷ []) offset within = one_byte x.1.sort x.1.rom offset within
byte_by-page_bytes (x ∷ (y ∷ later)) offset within = refl

-- ---- the size of a page

-- each page has all of its ROM bytes
abbrev AllWhole : List OwnedPage → Type 0
AllWhole [] = Unit {0}
AllWhole (x ∷ xs) = (length x.1.rom ≡ rom_size x.1.sort) × AllWhole xs

whole_holders : (number place : ℕ) (chips : List ChipSpec) → All IsSpec chips → AllWhole (holders_from number place chips)
unfolding holders_from
whole_holders number place [] specs = tt
whole_holders number place (chip ∷ chips) specs =
    step (chip_page number chip) (λ q found. whole-chip_page chip number q (first_of chip chips specs) found)
    (whole_holders number (place + 1) chips (rest_of chip chips specs))
  where
    step : (page : Option PageView) → ((q : PageView) → page ≡ Some q → length q.rom ≡ rom_size q.sort) →
        AllWhole (filter_map (owned_page number) (enumerate_from (place + 1) chips)) →
        AllWhole (cons_option (option_map (λ p. (place, p)) page) (filter_map (owned_page number) (enumerate_from (place + 1) chips)))
    step None whole later = later
    step (Some p) whole later = (whole p refl, later)

length-bytes_by : (sort : PageSort) (rom : List ℕ) → length rom ≡ rom_size sort → length (bytes_by sort rom) ≡ 256
length-bytes_by Rom rom whole = whole
length-bytes_by Ram rom whole = length-replicate {A = ℕ} 256 255
length-bytes_by Void rom whole = length-replicate {A = ℕ} 256 255

length-page_bytes-of : (held : List OwnedPage) → AllWhole held → length (page_bytes (followed_by Empty held)) ≡ 256
length-page_bytes-of [] whole = length-replicate {A = ℕ} 256 255
length-page_bytes-of (x ∷ []) whole = length-bytes_by x.1.sort x.1.rom whole.0
length-page_bytes-of (x ∷ (y ∷ later)) whole = length-replicate {A = ℕ} 256 255

pub length-page_bytes : (number : ℕ) (chips : List ChipSpec) → All IsSpec chips → length (page_bytes (holder_of number chips)) ≡ 256
length-page_bytes number chips specs = length-page_bytes-of (holders_from number 0 chips) (whole_holders number 0 chips specs)

-- ---- the map, page by page

-- so many pages are mapped
pub record Mapped (chips : List ChipSpec) (pages : List Entry) (bytes : List ℕ) (count : ℕ) : Type 0 where
  pub pages_size : length pages ≡ 256
  pub bytes_size : length bytes ≡ count * 256
  pub entries : (number : ℕ) → number < count → slice_index_or pages number Nothing ≡ entry_of (holder_of number chips)
  pub stays : (at : ℕ) → at < count * 256 → slice_index bytes at ≡ slice_index (page_bytes (holder_of (at / 256) chips)) (at % 256)

pub Mapped-more : (chips : List ChipSpec) (pages : List Entry) (bytes : List ℕ) (count : ℕ) → All IsSpec chips → count < 256 → Mapped chips pages bytes count →
    Mapped chips (slice_set pages count (entry_of (holder_of count chips))) (bytes ++ page_bytes (holder_of count chips)) (count + 1)
Mapped-more chips pages bytes count specs within before = record {
  pages_size = length-set pages count (entry_of (holder_of count chips)) ∙ before.pages_size;
  bytes_size =
      let sizes = before.bytes_size in
      omega (arith, length-append bytes (page_bytes (holder_of count chips)), length-page_bytes count chips specs);
  entries = entry_more;
  stays = byte_more;
}
  where
    in_table : count < length pages
    in_table = let size = before.pages_size in omega arith

    entry_more : (number : ℕ) → number < count + 1 →
        slice_index_or (slice_set pages count (entry_of (holder_of count chips))) number Nothing ≡ entry_of (holder_of number chips)
    entry_more number below = elim (cases_eq number count) [
      | inl same ↦ rw (same, get_or-set_same pages count (entry_of (holder_of count chips)) Nothing in_table) refl
      | inr other ↦ rw (get_or-set_other pages count number (entry_of (holder_of count chips)) Nothing other) (before.entries number (omega arith))
    ]

    byte_more : (at : ℕ) → at < (count + 1) * 256 →
        slice_index (bytes ++ page_bytes (holder_of count chips)) at ≡ slice_index (page_bytes (holder_of (at / 256) chips)) (at % 256)
    byte_more at below = elim (cases_lt at (count * 256)) [
      | inl earlier ↦
          let size = before.bytes_size in
          rw (get_or_append_left bytes (page_bytes (holder_of count chips)) 0 at (omega arith)) (before.stays at earlier)
      | inr here ↦
          let page : at / 256 ≡ count = omega arith in
          let offset : at % 256 ≡ at - count * 256 = omega arith in
          rw (page, offset) (get_or-append_right bytes (page_bytes (holder_of count chips)) (count * 256) at 0 before.bytes_size here)
    ]

-- the rest of the map: ports and kinds by the chips, and what holds of all pages by the pages
pub record Summed (m : MapTable) (chips : List ChipSpec) : Type 0 where
  pub readers : AreReaders chips m.readers
  pub takers : AreTakers chips m.takers
  pub psu : AreKindPages Psu chips m.psu
  pub smi : AreKindPages Smi chips m.smi
  pub pio : AreKindPages Pio chips m.pio
  pub covered : m.covered ≡ list_all is_held_once m.pages
  pub overlaps : m.overlaps ≡ list_any is_shared m.pages
  pub wired : m.wired ≡ list_any (λ chip. (fitted None chip).wired) chips
  pub vectors : m.vectors ≡ filter_map (λ chip. told_vector (fitted None chip)) chips
  pub written : m.written ≡ list_any (λ chip. is_written (fitted None chip)) chips

-- all pages are mapped
pub IsMapOf-all : (chips : List ChipSpec) (m : MapTable) → All IsSpec chips → Mapped chips m.pages m.bytes 256 → Summed m chips → IsMapOf m chips
unfolding mapped_sort mapped_owner mapped_byte mapped_readers mapped_takers mapped_held mapped_any mapped_covered mapped_overlaps mapped_wired
    mapped_vectors mapped_written
IsMapOf-all chips m specs all summed = record {
  tells = tells;
  ports = λ port below. record { readers = summed.readers.count port below; takers = summed.takers.count port below };
  all = record {
    any = any;
    covered = subst (λ (b : Bool). IsTrue b ↔ IsCovered (seats_of chips)) (sym summed.covered) (covered_by (seats_of chips) m.pages sorted);
    overlaps = subst (λ (b : Bool). IsTrue b ↔ Overlap (seats_of chips)) (sym summed.overlaps) (overlap_by (seats_of chips) m.pages sorted);
    wired = summed.wired ∙ any-views (λ v. v.wired) chips;
    vectors = summed.vectors ∙ told-views told_vector chips;
    written = summed.written ∙ any-views is_written chips;
  };
}
  where
    of_kind : (kind : ChipKind) (at : ℕ) → at < 65536 → slice_index_or (kind_pages kind m).held (at / 256) false ≡ kind_holds kind (seats_of chips) at
    of_kind Psu at below = summed.psu.held (at / 256) (omega arith)
    of_kind Smi at below = summed.smi.held (at / 256) (omega arith)
    of_kind Pio at below = summed.pio.held (at / 256) (omega arith)

    any : (kind : ChipKind) → (kind_pages kind m).any ≡ kind_has_pages kind (seats_of chips)
    any Psu = summed.psu.any
    any Smi = summed.smi.any
    any Pio = summed.pio.any

    tells : (at : ℕ) → at < 65536 → Tells m chips at
    tells at below =
        let entry = all.entries (at / 256) (omega arith) in
        let byte = all.stays at (omega arith) in
        let offset : at % 256 < 256 = omega arith in
        let sorts = sorts_held at 0 chips specs in
        record {
          sort = rw (entry, sorts) (sym (sort_by-entry_of (holders_from (at / 256) 0 chips)));
          owner = rw (entry, owners_held at 0 chips specs) (sym (owner_by-entry_of (holders_from (at / 256) 0 chips)));
          byte =
              rw (entry, byte, sorts, sort_by-entry_of (holders_from (at / 256) 0 chips), bytes_held at 0 chips specs)
              (sym (byte_by-page_bytes (holders_from (at / 256) 0 chips) (at % 256) offset));
          held = λ kind. of_kind kind at below;
        }

    sorted : SortsBy (seats_of chips) m.pages
    sorted = record { size = all.pages_size; sort = λ at below. sym (tells at below).sort }
